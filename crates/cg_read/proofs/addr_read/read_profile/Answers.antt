use Rattle.cg_read.specs.AddressReading.{history}
use Rattle.cg_read.proofs.AddressLemmas.{at_end}
use Rattle.cg_read.proofs.addr_read.read_profile.Goals as goal

pub finish-requires : goal.finish-requires
finish-requires c = (history c.args.bytes.now, c.in_ok-last.ensures.knows, c.in_ok-last.ensures.last)

pub returns : goal.returns
returns c =
    at_end c.finish.result c.args.bytes.now c.in_ok-last.ensures.sound
    (c.finish.ensures (history c.args.bytes.now) c.in_ok-last.ensures.knows c.in_ok-last.ensures.last)
