use Rattle.std.proofs.Common.{ap, sym, subst, ◌∙◌}
use Rattle.std.specs.Prelude.{IfOk}
use Rattle.guest_sys.specs.CallRow.{call_row}
use Rattle.guest_sys.specs.Reaching.{IsWithin, bytes_from}
use Rattle.guest_sys.specs.Kernel.{kernel_of}
use Rattle.guest_sys.specs.Table.{row_at}
use Rattle.guest_sys.specs.declared.reach.Reach.{Reach}
use Rattle.guest_sys.proofs.ReachLemmas.{reaches_call, reaches_nowhere}
use Rattle.guest_sys.proofs.kernel.reach_in.Goals as goal

pub returns-in-Some : goal.returns-in-Some
returns-in-Some c = λ waits.
    let s = kernel_of c.args.guest.now waits in
    let found = c.live_caller-caller.ensures in
    subst (λ (r : Reach). IfOk (call_row s c.args.thread) (λ done. IsWithin r s.guest.mem done.1.guest.mem))
    (sym c.reach_of.ensures)
    (reaches_call c.in-Some.row s c.args.thread c.live_caller-caller.result found.lawful found.found
    (ap row_at (sym c.number.ensures) ∙ sym c.row_of.ensures ∙ c.in-Some.is))

pub returns-in-None : goal.returns-in-None
returns-in-None c = λ waits.
    reaches_nowhere (bytes_from 0 0) (kernel_of c.args.guest.now waits) c.args.thread c.live_caller-caller.result
    c.live_caller-caller.ensures.found (ap row_at (sym c.number.ensures) ∙ sym c.row_of.ensures ∙ c.in-None.is)
