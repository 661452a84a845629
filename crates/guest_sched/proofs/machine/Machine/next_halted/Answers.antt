use Rattle.std.proofs.Common.{◌≡◌, Some, Ok, Err, refl, sym, subst, ap, ◌∙◌}
use Rattle.event_costs.specs.declared.outcome.End.TheVariants.{Killed, UnsupportedInstr}
use Rattle.rv_step.specs.declared.stepped.Stepped.TheVariants as stepped
use Rattle.guest_load.specs.declared.thread.Thread.{Thread}
use Rattle.guest_sys.specs.declared.caller.Caller.{Caller}
use Rattle.guest_sched.specs.declared.turns.Halt.{Halt}
use Rattle.guest_sched.specs.declared.turns.Halt.TheVariants as halt
use Rattle.guest_sched.specs.declared.turns.Turn.{Turn}
use Rattle.guest_sched.specs.Engine.{runner}
use Rattle.guest_sched.specs.Step.{call_step}
use Rattle.guest_sched.specs.Machine.{IsTurn, Machine, ended, halt_of, with_machine, next}
use Rattle.guest_sched.specs.inner.View.{machine_of}
use Rattle.guest_sched.proofs.MachineLemmas.{runner_found, runs_is, stays, turn_call, turn_trap, turn_unknown}
use Rattle.guest_sched.proofs.machine.Machine.next_halted.Goals as goal

pub running-live-requires-clause-runs : goal.running-live-requires-clause-runs
running-live-requires-clause-runs c = (runs_is (machine_of c.self.inside) (ap ended c.self.view_is ∙ c.requires.runs)).turn

pub returns-in-Ecall : goal.returns-in-Ecall
returns-in-Ecall c =
    let m = machine_of c.self.inside in
    let runs = runs_is m (ap ended c.self.view_is ∙ c.requires.runs) in
    let found = runner_found c.self.inside.engine c.self.invariant.0 runs.turn in
    let halted = ap halt_of c.self.view_is ∙ c.requires.halted ∙ ap (λ (h : Halt). Some h) c.in-Ecall.is in
    let called =
    subst (λ (s : Machine). (d : Caller) → runner s.engine ≡ Some d
    → IsTurn (with_machine (call_step s.engine d)) s c.call.result c.call.new.self) (sym c.self.view_is) c.call.ensures in
    subst (λ (s : Machine). IsTurn (next s) s c.call.result c.call.new.self) c.self.view_is
    (subst (λ r. IsTurn r m c.call.result c.call.new.self)
    (sym (turn_call m found.0 stepped.Call m.engine runs found.1 (stays m found.0 halt.Ecall found.1 halted) refl))
    (called found.0 found.1))

pub returns-in-Trap : goal.returns-in-Trap
returns-in-Trap c =
    let m = machine_of c.self.inside in
    let runs = runs_is m (ap ended c.self.view_is ∙ c.requires.runs) in
    let found = runner_found c.self.inside.engine c.self.invariant.0 runs.turn in
    let at = ap (λ (t : Thread). t.regs.pc) (c.running-live.ensures.thread found.0 found.1) in
    let halted = ap halt_of c.self.view_is ∙ c.requires.halted ∙ ap (λ (h : Halt). Some h) c.in-Trap.is in
    let advanced = stays m found.0 (halt.Trap c.in-Trap.signal) found.1 halted in
    let stops : next c.args.self.now ≡ Err (Killed c.in-Trap.signal c.running-live.result.now.regs.pc) =
    ap next (sym c.self.view_is)
    ∙ turn_trap m found.0 (stepped.Trap c.in-Trap.signal) c.in-Trap.signal m.engine _ runs found.1 advanced refl at in
    subst (λ (t : Turn). IsTurn (next c.args.self.now) c.args.self.now (Ok t) c.give.new.self) (sym c.give.ensures.end)
    (stops, c.give.ensures.given)

pub returns-in-Unknown : goal.returns-in-Unknown
returns-in-Unknown c =
    let m = machine_of c.self.inside in
    let runs = runs_is m (ap ended c.self.view_is ∙ c.requires.runs) in
    let found = runner_found c.self.inside.engine c.self.invariant.0 runs.turn in
    let at = ap (λ (t : Thread). t.regs.pc) (c.running-live.ensures.thread found.0 found.1) in
    let halted = ap halt_of c.self.view_is ∙ c.requires.halted ∙ ap (λ (h : Halt). Some h) c.in-Unknown.is in
    let advanced = stays m found.0 (halt.Unknown c.in-Unknown.word) found.1 halted in
    let stops : next c.args.self.now ≡ Err (UnsupportedInstr c.running-live.result.now.regs.pc c.in-Unknown.word) =
    ap next (sym c.self.view_is)
    ∙ turn_unknown m found.0 (stepped.Unknown c.in-Unknown.word) c.in-Unknown.word m.engine _ runs found.1
    advanced refl at in
    subst (λ (t : Turn). IsTurn (next c.args.self.now) c.args.self.now (Ok t) c.give-in-Unknown.new.self)
    (sym c.give-in-Unknown.ensures.end)
    (stops, c.give-in-Unknown.ensures.given)
