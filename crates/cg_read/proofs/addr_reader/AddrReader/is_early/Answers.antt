use Rattle.std.proofs.Common.{refl}
use Rattle.cg_read.specs.Addresses.{without_addresses}
use Rattle.cg_read.proofs.addr_reader.AddrReader.is_early.Goals as goal

pub returns : goal.returns
returns c = λ before k.
    rw (
      c.is_between.ensures,
      c.is_some.ensures,
      c.has_events-has_events.ensures (without_addresses before) k.lines,
      k.positions,
    ) refl
