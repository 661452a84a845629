use Rattle.std.proofs.Common.{Ok, sym, subst, ◌∙◌}
use Rattle.guest_sched.specs.declared.turns.Turn.{Turn}
use Rattle.guest_sched.specs.Machine.{IsTurn, next}
use Rattle.guest_sched.proofs.MachineLemmas.{next_ended}
use Rattle.guest_sched.proofs.machine.Machine.next.Goals as goal

pub returns-in-Some : goal.returns-in-Some
returns-in-Some c =
    let m = c.args.self.now in
    subst (λ (t : Turn). IsTurn (next m) m (Ok t) c.give.new.self) (sym c.give.ensures.end)
    (next_ended m c.in-Some.end (sym c.ended.ensures ∙ c.in-Some.is), c.give.ensures.given)

pub try_instruction-requires-clause-runs : goal.try_instruction-requires-clause-runs
try_instruction-requires-clause-runs c = sym c.ended.ensures ∙ c.in_default.is
