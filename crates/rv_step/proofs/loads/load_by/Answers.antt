use Rattle.std.proofs.Common.{ap, ◌∙◌}
use Rattle.rv_step.proofs.AccessLemmas.{loads-from}
use Rattle.rv_step.specs.inner.Widths.{bytes_loaded, view_of}
use Rattle.rv_step.specs.Forms.{hart_state, reads}
use Rattle.std.specs.Result.{result_ok}
use Rattle.rv_step.proofs.loads.load_by.Goals as goal

pub returns : goal.returns
returns c h =
    let s = hart_state c.args.regs.now c.args.mem.now h in
    c.finish.ensures c.args.mem.now h
    ∙ ap (λ n. reads c.args.instr s h c.address-address.result n (result_ok c.number.result)) c.bytes.ensures
    ∙ loads-from c.args.instr s (bytes_loaded c.args.load)
    (view_of c.args.load) c.address-address.result _ c.address-address.ensures c.number.ensures
