use Rattle.std.proofs.Common.{◌≡◌, Some, None, refl, sym, subst, ap, ◌∙◌}
use Rattle.std.specs.List.{slice_get}
use Rattle.std.specs.Option.{option_map}
use Rattle.guest_sys.specs.Kernel.{Kernel}
use Rattle.guest_sched.specs.declared.engine.Engine.{Engine as EngineFields}
use Rattle.guest_sched.specs.declared.run_queue.Ready.{Ready}
use Rattle.guest_sched.specs.Engine.{begins}
use Rattle.guest_sched.specs.inner.Sound.{IsLively, number_at}
use Rattle.guest_sched.proofs.EngineLemmas.{placed_first, placed_none, sound_begun, sound_same, with_line}
use Rattle.guest_sched.proofs.TurnLemmas.{lively_begins}
use Rattle.guest_sched.proofs.engine.Engine.begin_turn.Goals as goal

pub find_place-requires-clause-lively : goal.find_place-requires-clause-lively
find_place-requires-clause-lively c =
    let old = c.args.self.now in
    subst (λ (e : EngineFields). IsLively e.run_queue.ready e.kernel) (sym c.begin.ensures)
    (lively_begins old.exit old.run_queue.ready old.run_queue old.kernel c.requires.lively)

pub returns-in-Some-clause-sound : goal.returns-in-Some-clause-sound
returns-in-Some-clause-sound c =
    let old = c.args.self.now in
    let line = begins old.exit old.run_queue.ready old.run_queue in
    let place = c.find_place.new.self.place in
    let kernel : c.find_place.new.self.kernel ≡ old.kernel =
    ap (λ (e : EngineFields). e.kernel) c.find_place.ensures.same ∙ ap (λ (e : EngineFields). e.kernel) c.begin.ensures in
    let run_queue : c.find_place.new.self.run_queue ≡ line =
    ap (λ (e : EngineFields). e.run_queue) c.find_place.ensures.same ∙ ap (λ (e : EngineFields). e.run_queue) c.begin.ensures in
    let exit : c.find_place.new.self.exit ≡ old.exit =
    ap (λ (e : EngineFields). e.exit) c.find_place.ensures.same ∙ ap (λ (e : EngineFields). e.exit) c.begin.ensures in
    let first : slice_get line.ready 0 ≡ Some c.in-Some.ready.thread =
    ap (λ (e : EngineFields). slice_get e.run_queue.ready 0) (sym c.begin.ensures) ∙ sym c.first.ensures
    ∙ ap (option_map (λ (r : Ready). r.thread)) c.in-Some.is in
    let there : number_at old.kernel.guest.threads place ≡ Some c.in-Some.ready.thread.0 =
    ap (λ (s : Kernel). number_at s.guest.threads place) (sym kernel) ∙ c.find_place.ensures.placed in
    sound_same (with_line old line place) c.find_place.new.self kernel run_queue refl exit
    (sound_begun old place c.requires.lively c.requires.quantum
    (placed_first old.exit line.ready c.in-Some.ready.thread _ first there))

pub returns-in_default-clause-sound : goal.returns-in_default-clause-sound
returns-in_default-clause-sound c =
    let old = c.args.self.now in
    let line = begins old.exit old.run_queue.ready old.run_queue in
    let none : slice_get line.ready 0 ≡ None =
    ap (λ (e : EngineFields). slice_get e.run_queue.ready 0) (sym c.begin.ensures) ∙ sym c.first.ensures
    ∙ ap (option_map (λ (r : Ready). r.thread)) c.in_default.is in
    sound_same (with_line old line old.place) c.begin.new.self
    (ap (λ (e : EngineFields). e.kernel) c.begin.ensures) (ap (λ (e : EngineFields). e.run_queue) c.begin.ensures)
    (ap (λ (e : EngineFields). e.place) c.begin.ensures) (ap (λ (e : EngineFields). e.exit) c.begin.ensures)
    (sound_begun old old.place c.requires.lively c.requires.quantum (placed_none old.exit line.ready _ none))
