use Rattle.std.proofs.Common.{◌≡◌, ◌++◌, Option, Ok, Err, ℕ, sym, subst, ap, ◌∙◌}
use Rattle.event_costs.specs.declared.event.Done.{Done}
use Rattle.event_costs.specs.declared.outcome.End.TheVariants.{Killed, UnsupportedCall}
use Rattle.guest_load.specs.declared.thread.Thread.{Thread}
use Rattle.guest_sys.specs.Kernel.{Kernel}
use Rattle.guest_sys.specs.CallRow.{call_row}
use Rattle.guest_sys.specs.Taking.{CallTakes}
use Rattle.guest_sched.specs.declared.engine.Engine.{Engine as EngineFields}
use Rattle.guest_sched.specs.Step.{call_done, fate_of, output_of, tells, unless_killed, wait_of, with_call}
use Rattle.guest_sys.specs.Laws.{spawned_by}
use Rattle.guest_sched.specs.inner.Sound.{IsSound, engine_of}
use Rattle.guest_sched.proofs.CallLemmas.{called_ok, called_unsupported, first_idle, killed_same, lively_called}
use Rattle.guest_sched.proofs.CallLemmas.{runner_first}
use Rattle.guest_sched.proofs.CodeLemmas.{code-turned}
use Rattle.guest_sched.proofs.TurnLemmas.{live_first}
use Rattle.guest_sched.proofs.engine.Engine.call.Goals as goal

abbrev with_sys : EngineFields → Kernel → EngineFields
with_sys e s = record e { kernel = s }

pub call_in-requires-clause-live : goal.call_in-requires-clause-live
call_in-requires-clause-live c =
    live_first c.args.self.now.run_queue.ready c.args.self.now.kernel c.running-live.result.now.no
    c.requires.sound.lively c.running-live.ensures.first

pub call_in-requires-clause-runs : goal.call_in-requires-clause-runs
call_in-requires-clause-runs c =
    first_idle c.args.self.now.run_queue.ready c.args.self.now.kernel c.running-live.result.now.no
    c.requires.sound.lively c.running-live.ensures.lawful.rising c.running-live.ensures.first

pub returns-in-Some-clause-step : goal.returns-in-Some-clause-step
returns-in-Some-clause-step c =
    let e = c.args.self.now in
    let effect = c.in-Ok.effect in
    let new = c.call_in.new.kernel in
    λ d is.
    let same : c.running-live.result.now ≡ d.thread = c.running-live.ensures.thread d is in
    let row : call_row e.kernel d.thread.no ≡ Ok (effect, new) = ap (λ (t : Thread). call_row e.kernel t.no) (sym same)
    ∙ c.in-Ok.ensures.row in
    let pc : d.thread.regs.pc ≡ c.call_done-done.result.pc = ap (λ (t : Thread). t.regs.pc) (sym same)
    ∙ ap (λ (done : Done). done.pc) (sym c.call_done-done.ensures) in (
      called_ok e d effect new row
          ∙ ap (λ (o : Option ℕ). unless_killed o (engine_of e) d effect new) (sym c.signal_of.ensures ∙ c.in-Some.is)
          ∙ (λ i. Err (Killed c.in-Some.signal (pc i))),
      ap (λ (s : Kernel). engine_of (with_sys e s))
          (killed_same effect c.in-Some.signal e.kernel new
          (sym c.signal_of.ensures ∙ c.in-Some.is) c.in-Ok.ensures.killed),
    )

pub returns-in-Some-clause-sound : goal.returns-in-Some-clause-sound
returns-in-Some-clause-sound c =
    let e = c.args.self.now in
    subst (λ (s : Kernel). IsSound (with_sys e s))
    (sym (killed_same c.in-Ok.effect c.in-Some.signal e.kernel c.call_in.new.kernel
    (sym c.signal_of.ensures ∙ c.in-Some.is) c.in-Ok.ensures.killed)) c.requires.sound

pub settle-requires-clause-lively : goal.settle-requires-clause-lively
settle-requires-clause-lively c =
    let e = c.args.self.now in
    lively_called c.running-live.result.now.no e.run_queue e.kernel c.in-Ok.effect c.call_in.new.kernel
    (sym c.signal_of.ensures ∙ c.in_default.is)
    c.running-live.ensures.first c.requires.sound.lively c.in-Ok.ensures.balance

pub returns-in_default-clause-step : goal.returns-in_default-clause-step
returns-in_default-clause-step c =
    let e = c.args.self.now in
    let effect = c.in-Ok.effect in
    let new = c.call_in.new.kernel in
    λ d is.
    let same : c.running-live.result.now ≡ d.thread = c.running-live.ensures.thread d is in
    let row : call_row e.kernel d.thread.no ≡ Ok (effect, new) = ap (λ (t : Thread). call_row e.kernel t.no) (sym same)
    ∙ c.in-Ok.ensures.row in
    let done : c.call_done-done.result ≡ call_done d.thread.regs = c.call_done-done.ensures
    ∙ ap (λ (t : Thread). call_done t.regs) same in
    called_ok e d effect new row
    ∙ ap (λ (o : Option ℕ). unless_killed o (engine_of e) d effect new) (sym c.signal_of.ensures ∙ c.in_default.is)
    ∙ sym (λ i. tells (record { thread = (same i).no; done = done i; ends = c.ends_thread-ends.ensures i })
    (output_of effect.act) (wait_of effect.act) effect.woken (c.settle.ensures.turn i))

pub returns-in_default-clause-code : goal.returns-in_default-clause-code
returns-in_default-clause-code c =
    let e = c.args.self.now in
    let effect = c.in-Ok.effect in
    let new = c.call_in.new.kernel in
    code-turned c.call_in.new.code (fate_of effect.act) (effect.woken ++ spawned_by effect.act)
    (with_call (engine_of e) effect.act new) (engine_of c.settle.new.self) c.settle.ensures.turn c.in-Ok.ensures.code

pub returns-in-Err-Unsupported-clause-step : goal.returns-in-Err-Unsupported-clause-step
returns-in-Err-Unsupported-clause-step c =
    let e = c.args.self.now in
    let refusal = rw c.in-Err-Unsupported.field-0-is at c.in-Err-Unsupported.ensures.row in
    λ d is.
    let same : c.running-live.result.now ≡ d.thread = c.running-live.ensures.thread d is in
    let row : call_row e.kernel d.thread.no ≡ Err c.in-Err-Unsupported.number
    = ap (λ (t : Thread). call_row e.kernel t.no) (sym same) ∙ refusal.0 in
    let pc : d.thread.regs.pc ≡ c.call_done-done.result.pc = ap (λ (t : Thread). t.regs.pc) (sym same)
    ∙ ap (λ (done : Done). done.pc) (sym c.call_done-done.ensures) in
    let number = sym c.in-Err-Unsupported.number-is in (
      called_unsupported e d c.in-Err-Unsupported.number row ∙ (λ i. Err (UnsupportedCall (pc i) (number i))),
      ap (λ (s : Kernel). engine_of (with_sys e s)) refusal.1,
    )

pub returns-in-Err-Unsupported-clause-sound : goal.returns-in-Err-Unsupported-clause-sound
returns-in-Err-Unsupported-clause-sound c =
    subst (λ (s : Kernel). IsSound (with_sys c.args.self.now s))
    (sym c.in-Err-Unsupported.ensures.refused) c.requires.sound

pub returns-in-Err-OutOfMemory-clause-step : goal.returns-in-Err-OutOfMemory-clause-step
returns-in-Err-OutOfMemory-clause-step c =
    let e = c.args.self.now in
    let takes = rw c.in-Err-OutOfMemory.field-0-is at c.in-Err-OutOfMemory.ensures.memory in
    λ d is. (
      ap (λ (s : Kernel). engine_of (with_sys e s)) c.in-Err-OutOfMemory.ensures.refused,
      subst (CallTakes e.kernel)
          (sym (runner_first (engine_of e) c.running-live.result.now.no c.running-live.ensures.first)) takes,
    )

pub returns-in-Err-OutOfMemory-clause-sound : goal.returns-in-Err-OutOfMemory-clause-sound
returns-in-Err-OutOfMemory-clause-sound c =
    subst (λ (s : Kernel). IsSound (with_sys c.args.self.now s))
    (sym c.in-Err-OutOfMemory.ensures.refused) c.requires.sound
