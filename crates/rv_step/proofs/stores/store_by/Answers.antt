use Rattle.rv_step.proofs.AccessLemmas.{stores-from}
use Rattle.rv_step.specs.inner.Widths.{bytes_stored}
use Rattle.rv_step.specs.Forms.{hart_state}
use Rattle.rv_step.proofs.stores.store_by.Goals as goal

pub returns : goal.returns
returns c h =
    let s = hart_state c.args.regs.now c.args.mem.now h in
    let stored = c.put-stored in
    stores-from c.args.instr s
    (bytes_stored c.args.store) c.bytes.result c.address-address.result c.read.result stored.result c.finish.result
    c.finish.new.regs stored.new.mem
    c.bytes.ensures c.address-address.ensures c.read.ensures stored.ensures.allowed stored.ensures.after
    stored.ensures.refused
    c.finish.ensures.answer c.finish.ensures.after
