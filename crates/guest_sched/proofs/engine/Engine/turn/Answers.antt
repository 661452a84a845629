use Rattle.std.proofs.Common.{◌≡◌, ◌++◌, Some, None, sym, subst, ap, ◌∙◌, arith}
use Rattle.std.specs.List.{slice_get}
use Rattle.std.specs.Option.{option_map, option_to_list}
use Rattle.event_costs.specs.declared.numbers.ThreadNo.{ThreadNo}
use Rattle.guest_sched.specs.declared.engine.Engine.{Engine as EngineFields}
use Rattle.guest_sched.specs.declared.run_queue.Ready.{Ready}
use Rattle.guest_sched.specs.RunQueue.{RunQueue, after_step}
use Rattle.guest_sched.specs.Engine.{Engine, next_turn}
use Rattle.guest_sched.specs.inner.Sound.{IsLively, IsSound, number_at, engine_of}
use Rattle.guest_sched.proofs.CallLemmas.{few_ready}
use Rattle.guest_sched.proofs.EngineLemmas.{placed_first, sound_passed, turned_ends, turned_goes_on, with_line}
use Rattle.guest_sched.proofs.engine.Engine.turn.Goals as goal

pub pass_call-requires-clause-room : goal.pass_call-requires-clause-room
pass_call-requires-clause-room c =
    omega (
      arith,
      few_ready
          (after_step c.args.fate (c.args.woken.now ++ option_to_list c.args.made) c.args.self.now.run_queue).ready
          c.args.self.now.kernel c.requires.lively,
      c.requires.few,
    )

pub begin_turn-requires-clause-lively : goal.begin_turn-requires-clause-lively
begin_turn-requires-clause-lively c =
    subst (λ (l : RunQueue). IsLively l.ready c.args.self.now.kernel) (sym c.pass_call.ensures.passed) c.requires.lively

pub returns-then-pass_call-clause-turn : goal.returns-then-pass_call-clause-turn
returns-then-pass_call-clause-turn c =
    let old = engine_of c.args.self.now in
    let threads = c.args.woken.now ++ option_to_list c.args.made in
    c.begin_turn.ensures.turn
    ∙ ap (λ (l : RunQueue). next_turn (record old { run_queue = l; held = None })) c.pass_call.ensures.passed
    ∙ sym (turned_ends c.args.fate threads old (sym c.pass_call.ensures.ended ∙ c.if-pass_call.true))

pub find_place-requires-clause-lively : goal.find_place-requires-clause-lively
find_place-requires-clause-lively c =
    subst (λ (l : RunQueue). IsLively l.ready c.args.self.now.kernel) (sym c.pass_call.ensures.passed) c.requires.lively

pub returns-in-Some-clause-turn : goal.returns-in-Some-clause-turn
returns-in-Some-clause-turn c =
    let old = engine_of c.args.self.now in
    let threads = c.args.woken.now ++ option_to_list c.args.made in
    ap engine_of c.find_place.ensures.same
    ∙ ap (λ (l : RunQueue). let w : Engine = record old { run_queue = l } in w) c.pass_call.ensures.passed
    ∙ sym (turned_goes_on c.args.fate threads old (sym c.pass_call.ensures.ended ∙ c.if-pass_call.false))

pub returns-in-Some-clause-sound : goal.returns-in-Some-clause-sound
returns-in-Some-clause-sound c =
    let old = c.args.self.now in
    let threads = c.args.woken.now ++ option_to_list c.args.made in
    let line = after_step c.args.fate threads old.run_queue in
    let place = c.find_place.new.self.place in
    let same : c.find_place.new.self ≡ with_line old line place = c.find_place.ensures.same
    ∙ ap (λ (l : RunQueue). with_line old l place) c.pass_call.ensures.passed in
    let first : slice_get line.ready 0 ≡ Some c.in-Some.thread =
    ap (λ (l : RunQueue). slice_get l.ready 0) (sym c.pass_call.ensures.passed) ∙ sym c.first.ensures
    ∙ ap (option_map (λ (r : Ready). r.thread)) c.in-Some.is ∙ ap (λ (t : ThreadNo). Some t) c.in-Some.thread-is in
    let there : number_at old.kernel.guest.threads place ≡ Some c.in-Some.thread.0 =
    ap (λ (e : EngineFields). number_at e.kernel.guest.threads place) (sym same) ∙ c.find_place.ensures.placed
    ∙ ap (λ (t : ThreadNo). Some t.0) c.in-Some.thread-is in
    subst IsSound (sym same)
    (sound_passed old c.args.fate threads place
    (sym c.pass_call.ensures.ended ∙ c.if-pass_call.false) c.requires.lively c.requires.quantum c.requires.left
    (placed_first old.exit line.ready c.in-Some.thread _ first there))

pub returns-in_default-clause-turn : goal.returns-in_default-clause-turn
returns-in_default-clause-turn c =
    let old = engine_of c.args.self.now in
    let threads = c.args.woken.now ++ option_to_list c.args.made in
    ap (λ (l : RunQueue). let w : Engine = record old { run_queue = l } in w) c.pass_call.ensures.passed
    ∙ sym (turned_goes_on c.args.fate threads old (sym c.pass_call.ensures.ended ∙ c.if-pass_call.false))
