use Rattle.std.proofs.Common.{◌≡◌, None, sym, ap, ◌∙◌}
use Rattle.guest_sched.specs.Machine.{ended, running}
use Rattle.guest_sched.specs.inner.View.{machine_of}
use Rattle.guest_sched.proofs.MachineLemmas.{none_is, runner_found, running_is, running_over, runs_is}
use Rattle.guest_sched.proofs.machine.Machine.running.Goals as goal

pub returns-then-is_some-clause-thread : goal.returns-then-is_some-clause-thread
returns-then-is_some-clause-thread c =
    running_over c.args.self.now c.ended.result (sym c.ended.ensures) (sym c.is_some.ensures ∙ c.if-is_some.true)

pub running-live-requires-clause-runs : goal.running-live-requires-clause-runs
running-live-requires-clause-runs c =
    (runs_is (machine_of c.self.inside)
    (ap ended c.self.view_is ∙ sym c.ended.ensures
    ∙ none_is c.ended.result (sym c.is_some.ensures ∙ c.if-is_some.false))).turn

pub returns-clause-thread : goal.returns-clause-thread
returns-clause-thread c =
    let m = machine_of c.self.inside in
    let over : ended m ≡ None = ap ended c.self.view_is ∙ sym c.ended.ensures
    ∙ none_is c.ended.result (sym c.is_some.ensures ∙ c.if-is_some.false) in
    let found = runner_found c.self.inside.engine c.self.invariant.0 (runs_is m over).turn in
    running_is m found.0 c.running-live.result.now over found.1 (c.running-live.ensures.thread found.0 found.1)
    ∙ ap running c.self.view_is
