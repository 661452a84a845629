use Rattle.std.proofs.Common.{◌≡◌, ◌==◌, [], None, false, sym, subst, ap, ◌∙◌, arith}
use Rattle.guest_sys.specs.Laws.{times_in}
use Rattle.guest_sched.specs.declared.turns.Fate.TheVariants as fate
use Rattle.guest_sched.specs.RunQueue.{RunQueue}
use Rattle.guest_sched.specs.Engine.{Engine, next_turn}
use Rattle.guest_sched.specs.inner.Sound.{IsSound, engine_of}
use Rattle.guest_sched.proofs.EngineLemmas.{ran_goes_on, sound_goes_on, turned_ends, turned_goes_on}
use Rattle.guest_sched.proofs.TurnLemmas.{passed_none, ran_times}
use Rattle.guest_sched.proofs.engine.Engine.pass.Goals as goal

pub begin_turn-requires-clause-lively : goal.begin_turn-requires-clause-lively
begin_turn-requires-clause-lively c =
    λ t. omega (
      arith,
      c.requires.sound.lively t,
      ran_times t c.args.self.now.run_queue,
      ap (λ (l : RunQueue). times_in t l.ready) c.pass.ensures.ran,
    )

pub returns-then-pass-clause-turn : goal.returns-then-pass-clause-turn
returns-then-pass-clause-turn c =
    let old = engine_of c.args.self.now in
    c.begin_turn.ensures.turn
    ∙ ap (λ (l : RunQueue). next_turn (record old { run_queue = l; held = None }))
    (c.pass.ensures.ran ∙ sym (passed_none c.args.self.now.run_queue))
    ∙ sym (turned_ends fate.Runs [] old (sym c.pass.ensures.ended ∙ c.if-pass.true))

pub returns-else-pass-clause-turn : goal.returns-else-pass-clause-turn
returns-else-pass-clause-turn c =
    let old = engine_of c.args.self.now in
    ap (λ (l : RunQueue). let w : Engine = record old { run_queue = l } in w)
    (c.pass.ensures.ran ∙ sym (passed_none c.args.self.now.run_queue))
    ∙ sym (turned_goes_on fate.Runs [] old (sym c.pass.ensures.ended ∙ c.if-pass.false))

pub returns-else-pass-clause-sound : goal.returns-else-pass-clause-sound
returns-else-pass-clause-sound c =
    let old = c.args.self.now in
    let more : (old.run_queue.steps_left == 1) ≡ false = sym c.pass.ensures.ended ∙ c.if-pass.false in
    subst (λ (l : RunQueue). IsSound (record old { run_queue = l }))
    (sym (c.pass.ensures.ran ∙ ran_goes_on old.run_queue more))
    (sound_goes_on old c.requires.sound more)
