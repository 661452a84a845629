use Rattle.std.proofs.Common.{ap, sym, ◌∙◌}
use Rattle.std.specs.Result.{result_ok}
use Rattle.rv_step.specs.Forms.{hart_state}
use Rattle.rv_step.proofs.StoreLemmas.{kept-on, kept-still, step-found, step-unknown}
use Rattle.rv_step.proofs.execution.execute_kept.Goals as goal

pub returns-in-Ok-clause-outcome : goal.returns-in-Ok-clause-outcome
returns-in-Ok-clause-outcome c =
    sym (step-unknown (hart_state c.args.regs.now c.args.mem.now c.args.held.now) c.in-Ok.word
    (sym c.instruction_at.ensures.instruction ∙ c.in_default.is)
    (sym c.word_at.ensures ∙ ap result_ok c.in-Ok.is))

pub returns-then-may_store-clause-outcome : goal.returns-then-may_store-clause-outcome
returns-then-may_store-clause-outcome c =
    c.execute-stepped.ensures
    ∙ sym (step-found (hart_state c.args.regs.now c.args.mem.now c.args.held.now) c.in-Some.instr
    (sym c.instruction_at.ensures.instruction ∙ c.in-Some.is))

pub returns-then-may_store-clause-code : goal.returns-then-may_store-clause-code
returns-then-may_store-clause-code c =
    kept-on c.instruction_at.new.code c.forget_stored.new.code c.in-Some.instr
    (hart_state c.args.regs.now c.args.mem.now c.args.held.now) _ c.execute-stepped.ensures c.instruction_at.ensures.code
    c.forget_stored.ensures.fewer c.forget_stored.ensures.stored

pub returns-else-may_store-clause-outcome : goal.returns-else-may_store-clause-outcome
returns-else-may_store-clause-outcome c =
    c.execute-stepped.ensures
    ∙ sym (step-found (hart_state c.args.regs.now c.args.mem.now c.args.held.now) c.in-Some.instr
    (sym c.instruction_at.ensures.instruction ∙ c.in-Some.is))

pub returns-else-may_store-clause-code : goal.returns-else-may_store-clause-code
returns-else-may_store-clause-code c =
    kept-still c.instruction_at.new.code c.in-Some.instr (hart_state c.args.regs.now c.args.mem.now c.args.held.now) _
    c.execute-stepped.ensures (sym c.may_store.ensures ∙ c.if-may_store.false) c.instruction_at.ensures.code
