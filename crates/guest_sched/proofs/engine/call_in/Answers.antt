use Rattle.guest_sys.specs.CallRow.{call_row}
use Rattle.guest_sched.proofs.CodeLemmas.{code-called}
use Rattle.guest_sched.proofs.engine.call_in.Goals as goal

pub returns-clause-code : goal.returns-clause-code
returns-clause-code c =
    code-called c.args.code.now c.forget_within.new.self c.reach-within.result (call_row c.args.kernel.now c.args.thread)
    c.args.kernel.now c.call.result c.call.new.self c.call.ensures.row c.call.ensures.refused c.reach-within.ensures
    c.forget_within.ensures.fewer c.forget_within.ensures.apart c.requires.code
