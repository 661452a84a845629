use Rattle.std.proofs.Common.{◌≡◌, Some, None, Ok, sym, subst, ap, ◌∙◌}
use Rattle.guest_sys.specs.declared.caller.Caller.{Caller}
use Rattle.guest_sched.specs.declared.engine.CallOutcome.{CallOutcome}
use Rattle.guest_sched.specs.declared.turns.Turn.{Turn}
use Rattle.guest_sched.specs.Engine.{Engine, runner}
use Rattle.guest_sched.specs.Step.{call_step}
use Rattle.guest_sched.specs.Machine.{IsTurn, Machine, ended, with_machine, machine_step, with_given}
use Rattle.guest_sched.specs.inner.Sound.{engine_of}
use Rattle.guest_sched.specs.inner.Stages.{IsCallOutcome}
use Rattle.guest_sched.specs.inner.View.{machine_of}
use Rattle.guest_sched.proofs.MachineLemmas.{runs_is, seen_with, turn_called}
use Rattle.guest_sched.proofs.machine.Machine.call.Goals as goal

pub call-called-requires-clause-runs : goal.call-called-requires-clause-runs
call-called-requires-clause-runs c = (runs_is (machine_of c.self.inside) (ap ended c.self.view_is ∙ c.requires.runs)).turn

pub returns-in-Refused : goal.returns-in-Refused
returns-in-Refused c =
    let m = machine_of c.self.inside in
    subst (λ (s : Machine). (d : Caller) → runner s.engine ≡ Some d
    → IsTurn (with_machine (call_step s.engine d)) s (Ok c.give.result) c.give.new.self) c.self.view_is
    (λ d is.
    let called =
    subst (λ (x : CallOutcome). IsCallOutcome (call_step m.engine d) m.engine (Ok x) (engine_of c.call-called.new.self))
    c.in-Refused.is
    (c.in_ok-event.ensures.step d is) in
    subst (λ (t : Turn). IsTurn (with_machine (call_step m.engine d)) m (Ok t) c.give.new.self) (sym c.give.ensures.end) (
      ap with_machine called.0,
      c.give.ensures.given
          ∙ ap (λ (w : Engine). with_given c.in-Refused.end (seen_with w m.given m.wait m.woken)) called.1,
    ))

pub returns-in-Some : goal.returns-in-Some
returns-in-Some c =
    let m = machine_of c.self.inside in
    let event = c.in-Retired.event in
    let effect = c.in-Retired.effect in
    let new = seen_with (engine_of c.call-called.new.self) m.given c.wait_of-self-inside.result effect.woken in
    let none = (runs_is m (ap ended c.self.view_is ∙ c.requires.runs)).given in
    let output = sym c.output.ensures ∙ c.in-Some.is in
    subst (λ (s : Machine). (d : Caller) → runner s.engine ≡ Some d → with_machine (call_step s.engine d)
    ≡ Ok (machine_step event (Some (c.in-Some.descriptor, c.in-Some.bytes)) new, new)) c.self.view_is
    (λ d is.
    let called =
    subst (λ (x : CallOutcome). IsCallOutcome (call_step m.engine d) m.engine (Ok x) (engine_of c.call-called.new.self))
    c.in-Retired.is
    (c.in_ok-event.ensures.step d is) in
    ap with_machine called
    ∙ turn_called event _ _ _ _ effect.woken (engine_of c.call-called.new.self) m.given output
    (sym c.wait_of-self-inside.ensures) none)

pub returns : goal.returns
returns c =
    let m = machine_of c.self.inside in
    let event = c.in-Retired.event in
    let effect = c.in-Retired.effect in
    let new = seen_with (engine_of c.call-called.new.self) m.given c.wait_of-self-inside.result effect.woken in
    let none = (runs_is m (ap ended c.self.view_is ∙ c.requires.runs)).given in
    let output = sym c.output.ensures ∙ c.in_default.is in
    subst (λ (s : Machine). (d : Caller) → runner s.engine ≡ Some d
    → with_machine (call_step s.engine d) ≡ Ok (machine_step event None new, new)) c.self.view_is
    (λ d is.
    let called =
    subst (λ (x : CallOutcome). IsCallOutcome (call_step m.engine d) m.engine (Ok x) (engine_of c.call-called.new.self))
    c.in-Retired.is
    (c.in_ok-event.ensures.step d is) in
    ap with_machine called
    ∙ turn_called event _ _ _ _ effect.woken (engine_of c.call-called.new.self) m.given output
    (sym c.wait_of-self-inside.ensures) none)
