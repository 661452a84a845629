use Rattle.std.proofs.Common.{Option, None, ℕ, sym, ap, ◌∙◌}
use Rattle.std.specs.List.{slice_get}
use Rattle.guest_sched.specs.Machine.{ended, known_end}
use Rattle.guest_sched.specs.inner.View.{machine_of}
use Rattle.guest_sched.proofs.MachineLemmas.{ended_given, ended_over, first_none, first_some}
use Rattle.guest_sched.proofs.machine.Machine.ended.Goals as goal

pub returns-in-Some : goal.returns-in-Some
returns-in-Some c = sym (ap ended (sym c.self.view_is) ∙ ended_given (machine_of c.self.inside) c.in-Some.end c.in-Some.is)

pub returns-in-Some-exit : goal.returns-in-Some-exit
returns-in-Some-exit c =
    let m = machine_of c.self.inside in
    sym (ap ended (sym c.self.view_is) ∙ ended_over m c.in_default.is
    ∙ ap (λ (o : Option ℕ). known_end o (slice_get m.engine.run_queue.ready 0)) c.in-Some-exit.is)

pub returns-then-is_empty : goal.returns-then-is_empty
returns-then-is_empty c =
    let m = machine_of c.self.inside in
    let none = first_none m.engine.run_queue.ready (sym c.is_empty.ensures.first ∙ c.if-is_empty.true) in
    sym (ap ended (sym c.self.view_is) ∙ ended_over m c.in_default.is
    ∙ ap (λ (o : Option ℕ). known_end o (slice_get m.engine.run_queue.ready 0)) c.in_default-exit.is ∙ ap (known_end None) none)

pub returns : goal.returns
returns c =
    let m = machine_of c.self.inside in
    let first = first_some m.engine.run_queue.ready (sym c.is_empty.ensures.first ∙ c.if-is_empty.false) in
    sym (ap ended (sym c.self.view_is) ∙ ended_over m c.in_default.is
    ∙ ap (λ (o : Option ℕ). known_end o (slice_get m.engine.run_queue.ready 0)) c.in_default-exit.is ∙ ap (known_end None) first.1)
