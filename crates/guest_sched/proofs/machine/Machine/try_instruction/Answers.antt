use Rattle.std.proofs.Common.{◌≡◌, ◌+◌, sym, ap, ◌∙◌, arith}
use Rattle.event_costs.specs.declared.event.Done.{Done}
use Rattle.rv_step.specs.declared.stepped.Stepped.TheVariants as stepped
use Rattle.guest_load.specs.declared.thread.Thread.{Thread}
use Rattle.guest_sched.specs.Engine.{Engine}
use Rattle.guest_sched.specs.Machine.{Machine, ended, halt_of, next}
use Rattle.guest_sched.specs.inner.Sound.{engine_of}
use Rattle.guest_sched.specs.inner.View.{machine_of}
use Rattle.guest_sched.proofs.GoingLemmas.{one_less, runs_on}
use Rattle.guest_sched.proofs.MachineLemmas.{halts, left_by, runner_found, runs_is, seen_with, turn_retired}
use Rattle.guest_sched.proofs.machine.Machine.try_instruction.Goals as goal

pub running-live-requires-clause-runs : goal.running-live-requires-clause-runs
running-live-requires-clause-runs c = (runs_is (machine_of c.self.inside) (ap ended c.self.view_is ∙ c.requires.runs)).turn

pub advance-requires-clause-runs : goal.advance-requires-clause-runs
advance-requires-clause-runs c = (runs_is (machine_of c.self.inside) (ap ended c.self.view_is ∙ c.requires.runs)).turn

pub returns-in-Retired-clause-retired : goal.returns-in-Retired-clause-retired
returns-in-Retired-clause-retired c =
    let m = machine_of c.self.inside in
    let runs = runs_is m (ap ended c.self.view_is ∙ c.requires.runs) in
    let found = runner_found c.self.inside.engine c.self.invariant.0 runs.turn in
    let thread = ap (λ (t : Thread). t.no) (c.running-live.ensures.thread found.0 found.1) in
    ap next (sym c.self.view_is)
    ∙ turn_retired m found.0 c.advance.result c.copied.result
    (engine_of c.advance.new.self) c.forget.new.self c.running-live.result.now.no runs found.1
    (c.advance.ensures.step found.0 found.1)
    (c.in-Retired.is ∙ ap (λ (d : Done). stepped.Retired d) (sym c.copied.ensures)) thread c.forget.ensures

pub returns-in-Retired-clause-turn : goal.returns-in-Retired-clause-turn
returns-in-Retired-clause-turn c = λ more.
    let m = machine_of c.self.inside in
    let runs = runs_is m (ap ended c.self.view_is ∙ c.requires.runs) in
    let found = runner_found c.self.inside.engine c.self.invariant.0 runs.turn in
    let left = ap (λ (s : Machine). s.engine.run_queue.steps_left) c.self.view_is in
    ap (λ (s : Machine). s.engine.run_queue.steps_left + 1) c.forget.ensures
    ∙ one_less m found.0 c.advance.result c.in-Retired.done (engine_of c.advance.new.self) runs
    c.running-live.ensures.lawful c.self.invariant.0.lively found.1 (c.advance.ensures.step found.0 found.1)
    c.in-Retired.is (omega (arith, left, more)) ∙ left

pub returns-in-Retired-clause-runs_on : goal.returns-in-Retired-clause-runs_on
returns-in-Retired-clause-runs_on c = λ more.
    let m = machine_of c.self.inside in
    let runs = runs_is m (ap ended c.self.view_is ∙ c.requires.runs) in
    let found = runner_found c.self.inside.engine c.self.invariant.0 runs.turn in
    let thread = ap (λ (t : Thread). t.no) (c.running-live.ensures.thread found.0 found.1) in
    let left = ap (λ (s : Machine). s.engine.run_queue.steps_left) c.self.view_is in
    runs_on m found.0 c.advance.result c.copied.result (engine_of c.advance.new.self) runs
    c.running-live.ensures.lawful c.self.invariant.0.lively found.1 (c.advance.ensures.step found.0 found.1)
    (c.in-Retired.is ∙ ap (λ (d : Done). stepped.Retired d) (sym c.copied.ensures)) (omega (arith, left, more))
    c.forget.new.self c.running-live.result.now.no thread c.forget.ensures

pub returns-in-Call-clause-halted : goal.returns-in-Call-clause-halted
returns-in-Call-clause-halted c =
    let m = machine_of c.self.inside in
    let runs = runs_is m (ap ended c.self.view_is ∙ c.requires.runs) in
    let found = runner_found c.self.inside.engine c.self.invariant.0 runs.turn in
    ap halt_of (sym c.self.view_is)
    ∙ halts m found.0 c.advance.result stepped.Call (engine_of c.advance.new.self) found.1
    (c.advance.ensures.step found.0 found.1) c.in-Call.is

pub returns-in-Call-clause-unchanged : goal.returns-in-Call-clause-unchanged
returns-in-Call-clause-unchanged c =
    let m = machine_of c.self.inside in
    let runs = runs_is m (ap ended c.self.view_is ∙ c.requires.runs) in
    let found = runner_found c.self.inside.engine c.self.invariant.0 runs.turn in
    let same : engine_of c.advance.new.self ≡ m.engine =
    left_by m.engine found.0 c.advance.result stepped.Call (engine_of c.advance.new.self)
    (c.advance.ensures.step found.0 found.1) c.in-Call.is in
    ap (λ (w : Engine). seen_with w m.given m.wait m.woken) same ∙ c.self.view_is

pub returns-in-Trap-clause-halted : goal.returns-in-Trap-clause-halted
returns-in-Trap-clause-halted c =
    let m = machine_of c.self.inside in
    let runs = runs_is m (ap ended c.self.view_is ∙ c.requires.runs) in
    let found = runner_found c.self.inside.engine c.self.invariant.0 runs.turn in
    ap halt_of (sym c.self.view_is)
    ∙ halts m found.0 c.advance.result (stepped.Trap c.in-Trap.signal) (engine_of c.advance.new.self) found.1
    (c.advance.ensures.step found.0 found.1) c.in-Trap.is

pub returns-in-Trap-clause-unchanged : goal.returns-in-Trap-clause-unchanged
returns-in-Trap-clause-unchanged c =
    let m = machine_of c.self.inside in
    let runs = runs_is m (ap ended c.self.view_is ∙ c.requires.runs) in
    let found = runner_found c.self.inside.engine c.self.invariant.0 runs.turn in
    let same : engine_of c.advance.new.self ≡ m.engine =
    left_by m.engine found.0 c.advance.result (stepped.Trap c.in-Trap.signal) (engine_of c.advance.new.self)
    (c.advance.ensures.step found.0 found.1) c.in-Trap.is in
    ap (λ (w : Engine). seen_with w m.given m.wait m.woken) same ∙ c.self.view_is

pub returns-in-Unknown-clause-halted : goal.returns-in-Unknown-clause-halted
returns-in-Unknown-clause-halted c =
    let m = machine_of c.self.inside in
    let runs = runs_is m (ap ended c.self.view_is ∙ c.requires.runs) in
    let found = runner_found c.self.inside.engine c.self.invariant.0 runs.turn in
    ap halt_of (sym c.self.view_is)
    ∙ halts m found.0 c.advance.result (stepped.Unknown c.in-Unknown.word) (engine_of c.advance.new.self) found.1
    (c.advance.ensures.step found.0 found.1) c.in-Unknown.is

pub returns-in-Unknown-clause-unchanged : goal.returns-in-Unknown-clause-unchanged
returns-in-Unknown-clause-unchanged c =
    let m = machine_of c.self.inside in
    let runs = runs_is m (ap ended c.self.view_is ∙ c.requires.runs) in
    let found = runner_found c.self.inside.engine c.self.invariant.0 runs.turn in
    let same : engine_of c.advance.new.self ≡ m.engine =
    left_by m.engine found.0 c.advance.result (stepped.Unknown c.in-Unknown.word) (engine_of c.advance.new.self)
    (c.advance.ensures.step found.0 found.1) c.in-Unknown.is in
    ap (λ (w : Engine). seen_with w m.given m.wait m.woken) same ∙ c.self.view_is
