-- Each step of a machine that goes on: which it is, and what it leads to.
use Rattle.std.proofs.Common.{◌≡◌, ◌≢◌, ℕ, zero, suc, ◌+◌, ◌*◌, ◌<◌, ◌≤◌, ◌⊎◌, List, [], ◌∷◌, ◌++◌, length, get_or}
use Rattle.std.specs.List.{slice_get}
use Rattle.std.proofs.Common.{refl, sym, ap, ◌∙◌, arith, subst}
use Rattle.std.proofs.Common.{Option, Some, None, inl, inr}
use Rattle.std.specs.Prelude.{slice_set, ◌==◌}
use Rattle.std.proofs.lemmas.Bool.{cases_Bool, eqb-true, eqb-false}
use Rattle.std.proofs.lemmas.Option.{slice_get_within}
use Rattle.event_costs.specs.declared.numbers.ThreadNo.{ThreadNo}
use Rattle.guest_load.specs.declared.thread.Thread.{Thread}
use Rattle.guest_futex.specs.declared.queue.Wait.{Wait}
use Rattle.guest_futex.specs.Waits.{enqueue, without_woken, woken_at}
use Rattle.guest_sys.specs.Laws.{times_in}
use Rattle.guest_sys.specs.declared.caller.Caller.{Caller}
use Rattle.guest_sched.specs.declared.turns.Fate.{Fate}
use Rattle.guest_sched.specs.declared.turns.Fate.TheVariants as fate
use Rattle.guest_sched.specs.RunQueue.{after_step}
use Rattle.guest_sched.specs.Engine.{Engine, runner}
use Rattle.demo_run.proofs.Others.{moved, run_is, runner_there}
use Rattle.demo_run.proofs.Places.{word_of}
use Rattle.demo_run.proofs.WayLemmas.{each}
use Rattle.demo_run.proofs.Left.{all_left, left_on}
use Rattle.demo_run.proofs.Ways.{IsRunning, LeadsTo, Stop, number_at_stop, stop_behind, way_behind}
use Rattle.demo_run.proofs.Lives.{AreGone, Finishes, GoesOn, IsLively, Leads, Lives, Main, Suits, life, main_no}
use Rattle.demo_run.proofs.Lives.{main_times}
use Rattle.demo_run.proofs.Lives.{most_fails, queue_of, stop_of, ways_from, ways_of, words_from}
use Rattle.demo_run.proofs.LivesLemmas as lived
use Rattle.demo_run.proofs.LivesLemmas.{IsPlaced, placed}
use Rattle.demo_run.proofs.ReadyLemmas.{first_there, leaves_main, main_waits, nobody_woken, someone, times_leaves}
use Rattle.demo_run.proofs.ReadyLemmas.{times_other, times_runs, times_same, wakes_main}
use Rattle.demo_run.proofs.StepLemmas.{on_way, under_way}
use Rattle.demo_run.proofs.CaseLemmas.{finished, found_ended, found_other, waited}
use Rattle.demo_run.proofs.CloneLemmas.{made_thread}
use Rattle.demo_run.proofs.ThreadCases.{ended, same_length}
use Rattle.demo_run.proofs.LeftLemmas as count

-- a thread that runs is found among the live ones
is_running : (w : Engine) (c : Caller) → IsLively w.run_queue.ready w.kernel → runner w ≡ Some c → IsRunning w c
is_running w c lively runs =
    let run = run_is w c lively runs in
    record { runs = runs; there = run.caller; found = run.found }

-- ---- where main goes

abbrev behind_make : ℕ → Main
behind_make zero = Main.makes 1
behind_make (suc zero) = Main.makes 2
behind_make (suc (suc t)) = Main.looks 0

abbrev behind_look : ℕ → Main
behind_look zero = Main.looks 1
behind_look (suc zero) = Main.looks 2
behind_look (suc (suc t)) = Main.finishes

made_way : (size t : ℕ) → way_behind size t ≡ (stop_of (behind_make t), (way_behind size t).1)
made_way size zero = refl
made_way size (suc zero) = refl
made_way size (suc (suc t)) = refl

looked_stop : (t : ℕ) → stop_behind t ≡ stop_of (behind_look t)
looked_stop zero = refl
looked_stop (suc zero) = refl
looked_stop (suc (suc t)) = refl

main_number : (main : Main) → number_at_stop (stop_of main) ≡ 1
main_number Main.finishes = refl
main_number main = refl

made_suits : (t : ℕ) (lives : Lives) → t < 3 → length lives ≡ t + 1 → Suits lives (behind_make t)
made_suits zero lives lt long = (omega arith, omega arith)
made_suits (suc zero) lives lt long = (omega arith, omega arith)
made_suits (suc (suc zero)) lives lt long = (omega arith, long, λ k lt. absurd (omega arith))
made_suits (suc (suc (suc t))) lives lt long = absurd (omega arith)

looked_suits : (t : ℕ) (lives : Lives) → t < 3 → length lives ≡ 3 → AreGone (t + 1) lives → Suits lives (behind_look t)
looked_suits zero lives lt long gone = (omega arith, long, gone)
looked_suits (suc zero) lives lt long gone = (omega arith, long, gone)
looked_suits (suc (suc zero)) lives lt long gone = (gone, long)
looked_suits (suc (suc (suc t))) lives lt long gone = absurd (omega arith)

-- what main is once the thread k has ended
record Ending (lives : Lives) (k : ℕ) (main main_then : Main) : Type 0 where
  same_stop : stop_of main_then ≡ stop_of main
  same_most : most_fails main_then ≡ most_fails main
  queue : without_woken (word_of (k + 1)) 1 (queue_of main) ≡ queue_of main_then
  times : main_times main + times_in main_no (woken_at (word_of (k + 1)) 1 (queue_of main) ++ []) ≡ main_times main_then
  suits : Suits (slice_set lives k None) main_then

module _ (lives : Lives) (k n : ℕ) (there : life lives k ≡ Some n) (lt : k < 3) where
  -- it doesn't wait
  awake : (main : Main) → queue_of main ≡ [] → Suits (slice_set lives k None) main → Ending lives k main main
  awake main none suits = record {
    same_stop = refl;
    same_most = refl;
    queue = ap (without_woken (word_of (k + 1)) 1) none ∙ nobody_woken k ∙ sym none;
    times = let nobody = ap (λ queue. times_in main_no (woken_at (word_of (k + 1)) 1 queue ++ [])) none in omega arith;
    suits = suits;
  }

  asleep : (t : ℕ) → t < 3 → length lives ≡ 3 → AreGone t lives → life lives t ≢ None
      → (becomes : Main) × Ending lives k (Main.sleeps t) becomes
  asleep t below long gone lives_yet = elim (cases_Bool (k == t)) [
    | inl same ↦ (let e = eqb-true k t same in
        let wakes = subst (λ u. (woken_at (word_of (u + 1)) 1 (queue_of (Main.sleeps t)) ≡ main_no ∷ [])
        × (without_woken (word_of (u + 1)) 1 (queue_of (Main.sleeps t)) ≡ [])) (sym e) (wakes_main t below) in (
          Main.again t,
          record {
            same_stop = refl;
            same_most = refl;
            queue = wakes.1;
            times = let one = ap (λ us. times_in main_no (us ++ [])) wakes.0 in omega (arith, times_same main_no);
            suits = (
              below,
              lived.length-changed lives k n None there ∙ long,
              lived.still_gone lives k n None there t gone,
              subst (λ j. life (slice_set lives k None) j ≡ None) e (lived.new_life lives k n None there),
            );
          },
        ))
    | inr other ↦ (let leaves = leaves_main t k below lt (eqb-false k t other) in (
      Main.sleeps t,
      record {
        same_stop = refl;
        same_most = refl;
        queue = leaves.1;
        times = let nobody = ap (λ us. times_in main_no (us ++ [])) leaves.0 in omega arith;
        suits = (
          below,
          lived.length-changed lives k n None there ∙ long,
          lived.still_gone lives k n None there t gone,
          λ ends. lives_yet (sym (lived.other_life lives k n None there t (λ same. eqb-false k t other (sym same)))
              ∙ ends),
        );
      },
    ))
  ]

  ending : (main : Main) → Suits lives main → (becomes : Main) × Ending lives k main becomes
  ending (Main.sleeps t) suits = asleep t suits.0 suits.1 suits.2 suits.3
  ending main suits = (main, awake main refl (lived.still_suits lives k n None there main (λ u e. cc) suits))

-- a thread by its number
numbered : (t u : ThreadNo) → t.0 ≡ u.0 → t ≡ u
numbered t u same = ap (λ n. let v : ThreadNo = record { 0 = n } in v) same

module _ (size fails left : ℕ) (main : Main) (lives : Lives) (w : Engine)
    (is : GoesOn size fails main left lives w) where
  abbrev words : List ℕ
  words = words_from 0 lives

  abbrev ways : List (Stop × ℕ)
  ways = ways_of main left lives

  -- main is at this stop
  abbrev IsThere : Stop → Type 0
  IsThere stop = get_or ways 0 (stop, 0) ≡ (stop, 0)

  abbrev Steps : Type 0
  Steps = Leads size fails main left lives w ⊎ Finishes size main left lives w

  -- ---- who runs

  first_ready : (now : Main) → Suits lives now → times_in main_no w.run_queue.ready ≡ main_times now
      → (u : ThreadNo) × (slice_get w.run_queue.ready 0 ≡ Some u)
  first_ready (Main.sleeps t) suits times =
      someone (record { 0 = t + 2 }) w.run_queue.ready (is.others_ready t suits.3)
  first_ready now suits times = someone main_no w.run_queue.ready (omega arith)

  pub someone_runs : (c : Caller) × IsRunning w c
  someone_runs =
      let first = first_ready main is.suits is.main_ready in
      let found = runner_there w first.0 is.lively first.1 in
      (found.0, is_running w found.0 is.lively found.1)

  runs_first : (c : Caller) → IsRunning w c → slice_get w.run_queue.ready 0 ≡ Some c.thread.no
  runs_first c running = (run_is w c is.lively running.runs).first

  -- ---- what a step leads to

  leads : (f : Fate) (entered : List ThreadNo) (queue : List Wait) (fails_then : ℕ) (main_then : Main) (left_then : ℕ)
      (lives_then : Lives)
      → LeadsTo size (ways_of main_then left_then lives_then) (words_from 0 lives_then) f entered queue w
      → Suits lives_then main_then → fails_then ≤ most_fails main_then → queue ≡ queue_of main_then
      → times_in main_no (after_step f entered w.run_queue).ready ≡ main_times main_then
      → ((t : ℕ) → life lives_then t ≢ None → 1 ≤ times_in (record { 0 = t + 2 })
      (after_step f entered w.run_queue).ready)
      → all_left size (ways_of main_then left_then lives_then) + 1 + 9 * fails ≡ all_left size ways + 9 * fails_then
      → Leads size fails main left lives w
  leads f entered queue fails_then main_then left_then lives_then to suits few queue_is main_ready others_ready less =
      let move = moved w to.told to.after is.lawful is.lively to.is in record {
        told = to.told;
        after = to.after;
        is = to.is;
        fails_then = fails_then;
        main_then = main_then;
        left_then = left_then;
        lives_then = lives_then;
        goes_on = record {
          under_way = to.under_way;
          suits = suits;
          few = few;
          lawful = (move.after to.under_way.goes_on).lawful;
          lively = move.lively;
          queue_is = to.waits_are ∙ queue_is;
          main_ready = to.ready_are main_no ∙ main_ready;
          others_ready = λ t lives_yet.
              subst (λ n. 1 ≤ n) (sym (to.ready_are (record { 0 = t + 2 }))) (others_ready t lives_yet);
        };
        less = less;
      }

  -- ---- steps of main

  module _ (thread : Thread) (running : IsRunning w (record { place = zero; thread = thread })) where
    abbrev c : Caller
    c = record { place = zero; thread = thread }

    is_main : thread.no ≡ main_no
    is_main = numbered thread.no main_no
        ((on_way size left ways words w c (stop_of main) is.under_way running (stop_of main, left)).number
        ∙ main_number main)

    first_main : slice_get w.run_queue.ready 0 ≡ Some main_no
    first_main = runs_first c running ∙ ap (λ (t : ThreadNo). Some t) is_main

    -- the same threads live
    on : (fails_then : ℕ) (main_then : Main) (left_then : ℕ)
        → LeadsTo size (ways_of main_then left_then lives) words fate.Runs [] w.kernel.waits w
        → Suits lives main_then → fails_then ≤ most_fails main_then → queue_of main ≡ queue_of main_then
        → main_times main ≡ main_times main_then
        → left_on size (stop_of main_then, left_then) + 1 + 9 * fails
        ≡ left_on size (stop_of main, left) + 9 * fails_then
        → Leads size fails main left lives w
    on fails_then main_then left_then to suits few queue times less =
        leads fate.Runs [] w.kernel.waits fails_then main_then left_then lives to suits few (is.queue_is ∙ queue)
        (omega (arith, times_runs main_no [] w.run_queue))
        (λ t lives_yet. let now = is.others_ready t lives_yet in
        omega (arith, times_runs (record { 0 = t + 2 }) [] w.run_queue))
        (omega arith)

    instruction : (n : ℕ) → left ≡ suc n → Leads size fails main left lives w
    instruction n more =
        on fails main n
        (under_way size n ways words w c (stop_of main) is.under_way running (ap (λ k. (stop_of main, k)) more))
        is.suits is.few refl refl (omega arith)

    -- main looks: the thread has ended, or not
    module _ (t : ℕ) (lt : t < 3) (here : stop_of main ≡ Stop.looks t) (none : left ≡ 0) (long : length lives ≡ 3)
        (gone : AreGone t lives) (plain : queue_of main ≡ []) (once : main_times main ≡ 1) where
      long_words : t < length words
      long_words = omega (arith, lived.length-words_from 0 lives)

      there : IsThere (Stop.looks t)
      there = λ i. (here i, none i)

      looks_behind : life lives t ≡ None → fails ≤ t + 1 → Leads size fails main left lives w
      looks_behind ends few =
          on fails (behind_look t) 3
          (subst (λ s. LeadsTo size ((s, 3) ∷ ways_from 0 lives) words fate.Runs [] w.kernel.waits w) (looked_stop t)
          (found_ended size ways words w c is.under_way running t lt long_words there
          (lived.word_ended 0 t lives ends)))
          (looked_suits t lives lt long (lived.gone_more t lives gone ends))
          (each (λ t. fails ≤ t + 1 → fails ≤ most_fails (behind_look t)) (λ few. few) (λ few. few)
          (λ few. few) t lt few)
          (plain ∙ each (λ t. [] ≡ queue_of (behind_look t)) refl refl refl t lt)
          (once ∙ each (λ t. 1 ≡ main_times (behind_look t)) refl refl refl t lt)
          (omega (
            arith,
            count.found_ended size t lt,
            ap (left_on size) there,
            ap (λ s. left_on size (s, 3)) (looked_stop t),
          ))

      looks_in_vain : (n : ℕ) → life lives t ≡ Some n → fails ≤ t → Leads size fails main left lives w
      looks_in_vain n lives_yet few =
          let word : get_or words t 0 ≡ t + 2 = lived.word_lives 0 t n lives lives_yet ∙ omega arith in
          on (fails + 1) (Main.waits t) 4
          (found_other size ways words w c is.under_way running t lt long_words there (λ none. omega arith) word)
          (lt, long, gone) (omega arith) plain once
          (omega (arith, count.found_other size t lt, ap (left_on size) there))

      main_looks : (o : Option ℕ) → life lives t ≡ o → fails ≤ t → Leads size fails main left lives w
      main_looks None ends few = looks_behind ends (omega arith)
      main_looks (Some n) lives_yet few = looks_in_vain n lives_yet few

    -- main waits
    module _ (t : ℕ) (lt : t < 3) (here : IsThere (Stop.waits t)) (long : length lives ≡ 3)
        (gone : AreGone t lives) (few : fails ≤ t + 1) (plain : queue_of main ≡ []) (once : main_times main ≡ 1) where
      word_number : (o : Option ℕ) → life lives t ≡ o → get_or words t 0 ≢ 0 → get_or words t 0 ≡ t + 2
      word_number None ends some = absurd (some (lived.word_ended 0 t lives ends))
      word_number (Some n) lives_yet some = lived.word_lives 0 t n lives lives_yet ∙ omega arith

      word_zero : (o : Option ℕ) → life lives t ≡ o → get_or words t 0 ≡ 0 → life lives t ≡ None
      word_zero None ends none = ends
      word_zero (Some n) lives_yet none =
          let word = lived.word_lives 0 t n lives lives_yet in absurd (omega arith)

      main_waits_there : Leads size fails main left lives w
      main_waits_there =
          elim (waited size ways words w c is.under_way running t lt long_words here
          (word_number (life lives t) refl)) [
            | inl sleeping ↦ leads fate.Leaves [] _ fails (Main.sleeps t) 3 lives sleeping.1
                (lt, long, gone, λ ends. sleeping.0 (lived.word_ended 0 t lives ends)) few queue
                (let now = is.main_ready in
                omega (arith, times_leaves main_no main_no [] w.run_queue first_main, times_same main_no))
                (λ u lives_yet. let now = is.others_ready u lives_yet in omega (
                  arith,
                  times_leaves (record { 0 = u + 2 }) main_no [] w.run_queue first_main,
                  times_other (record { 0 = u + 2 }) main_no (omega arith),
                ))
                (omega (arith, count.waited size t lt, ap (left_on size) here))
            | inr woken ↦ on fails (Main.again t) 3 woken.1 (lt, long, gone, word_zero (life lives t) refl woken.0)
                few
                plain once
                (omega (arith, count.waited size t lt, ap (left_on size) here))
          ]
        where
          long_words : t < length words
          long_words = omega (arith, lived.length-words_from 0 lives)

          queue : enqueue thread.no (word_of (t + 1)) w.kernel.waits ≡ queue_of (Main.sleeps t)
          queue =
              ap (λ (u : ThreadNo). enqueue u (word_of (t + 1)) w.kernel.waits) is_main
              ∙ ap (enqueue main_no (word_of (t + 1))) (is.queue_is ∙ plain) ∙ main_waits t

    -- main makes a thread
    module _ (t : ℕ) (lt : t < 3) (here : IsThere (Stop.makes t)) (next : t ≡ length lives)
        (none : fails ≡ 0) (some : 1 ≤ size) (most : size ≤ 100000) (plain : queue_of main ≡ [])
        (once : main_times main ≡ 1) where
      abbrev lives_then : Lives
      lives_then = lives ++ Some (947 * size + 5) ∷ []

      abbrev new : ThreadNo
      new = record { 0 = w.kernel.guest.made + 1 }

      number : w.kernel.guest.made + 1 ≡ t + 2
      number = omega (arith, lived.length-words_from 0 lives)

      ways_then : way_behind size t ∷ (ways_from 0 lives ++ (Stop.ends t, 947 * size + 5) ∷ [])
          ≡ ways_of (behind_make t) (way_behind size t).1 lives_then
      ways_then =
          let at : t ≡ 0 + length lives = omega arith in
          ap (λ v. v ∷ (ways_from 0 lives ++ (Stop.ends t, 947 * size + 5) ∷ [])) (made_way size t)
          ∙ ap (λ vs. (stop_of (behind_make t), (way_behind size t).1) ∷ vs)
          (ap (λ k. ways_from 0 lives ++ (Stop.ends k, 947 * size + 5) ∷ []) at
          ∙ sym (lived.ways_more 0 (947 * size + 5) lives))

      to : LeadsTo size (ways_of (behind_make t) (way_behind size t).1 lives_then) (words_from 0 lives_then) fate.Runs
          (new ∷ []) w.kernel.waits w
      to =
          subst (λ vs. LeadsTo size (ways_of (behind_make t) (way_behind size t).1 lives_then) vs fate.Runs
          (new ∷ []) w.kernel.waits w)
          (sym (lived.words_more 0 (947 * size + 5) (w.kernel.guest.made + 1) lives (let e = number in omega arith)))
          (subst (λ vs. LeadsTo size vs (words ++ (w.kernel.guest.made + 1) ∷ []) fate.Runs (new ∷ []) w.kernel.waits
          w) ways_then
          (made_thread size ways words w c is.under_way running t lt
          (omega (arith, lived.length-words_from 0 lives)) some most
          (omega (arith, lived.length-ways_from 0 lives)) here))

      others : (u : ℕ) → life lives_then u ≢ None
          → 1 ≤ times_in (record { 0 = u + 2 }) (after_step fate.Runs (new ∷ []) w.run_queue).ready
      others u lives_yet =
          let times = times_runs (record { 0 = u + 2 }) (new ∷ []) w.run_queue in
          elim (cases_Bool (u == t)) [
            | inl same ↦ (let one : times_in (record { 0 = u + 2 }) (new ∷ []) ≡ 1
                = ap (λ (v : ThreadNo). times_in (record { 0 = u + 2 }) (v ∷ []))
                (numbered new (record { 0 = u + 2 }) (number ∙ ap (λ k. k + 2) (sym (eqb-true u t same))))
                ∙ times_same (record { 0 = u + 2 }) in omega arith)
            | inr other ↦ (let old = is.others_ready u (λ ends. lives_yet (lived.life_more u (947 * size + 5) lives
                (λ e. eqb-false u t other (e ∙ sym next)) ∙ ends)) in omega arith)
          ]

      main_makes : Leads size fails main left lives w
      main_makes =
          leads fate.Runs (new ∷ []) w.kernel.waits fails (behind_make t) (way_behind size t).1 lives_then to
          (made_suits t lives_then lt (omega (arith, lived.length-lives_more (947 * size + 5) lives))) (omega arith)
          (is.queue_is ∙ plain ∙ each (λ t. [] ≡ queue_of (behind_make t)) refl refl refl t lt)
          (let now = is.main_ready in
          let one = each (λ t. 1 ≡ main_times (behind_make t)) refl refl refl t lt in
          omega (
            arith,
            times_runs main_no (new ∷ []) w.run_queue,
            times_other main_no new
                (let e = number in omega arith),
          ))
          others
          (omega (arith, count.begun size t 0 ways lt (omega arith) here, ap (all_left size) ways_then))

  -- what main does, with so many steps to its stop
  main_at_stop : (now : Main) (thread : Thread) → IsRunning w (record { place = zero; thread = thread }) → main ≡ now
      → left ≡ 0 → Suits lives now → fails ≤ most_fails now → times_in main_no w.run_queue.ready ≡ main_times now
      → 1 ≤ size → size ≤ 100000 → Steps
  main_at_stop (Main.makes t) thread running same none suits few times some most =
      inl (main_makes thread running t suits.0 (λ i. (stop_of (same i), none i)) suits.1 (omega arith) some most
      (ap queue_of same) (ap main_times same))
  main_at_stop (Main.looks t) thread running same none suits few times some most =
      inl (main_looks thread running t suits.0 (ap stop_of same) none suits.1 suits.2 (ap queue_of same)
      (ap main_times same)
      (life lives t) refl few)
  main_at_stop (Main.waits t) thread running same none suits few times some most =
      inl (main_waits_there thread running t suits.0 (λ i. (stop_of (same i), none i)) suits.1 suits.2 few
      (ap queue_of same) (ap main_times same))
  main_at_stop (Main.sleeps t) thread running same none suits few times some most =
      let ready = first_there main_no w.run_queue.ready (first_main thread running) in absurd (omega arith)
  main_at_stop (Main.again t) thread running same none suits few times some most =
      inl (looks_behind thread running t suits.0 (ap stop_of same) none suits.1 suits.2 (ap queue_of same)
      (ap main_times same)
      suits.3 few)
  main_at_stop Main.finishes thread running same none suits few times some most =
      let here : IsThere Stop.finishes = (λ i. (stop_of (same i), none i)) in
      let end = finished size ways words w (record { place = zero; thread = thread }) is.under_way running here in
      let nobody = lived.none_left 0 lives (λ k lt. suits.0 k (let long = suits.1 in omega arith)) in
      inr (record {
        told = end.0;
        after = end.1;
        is = end.2;
        exits = end.3;
        last = ap (all_left size) (λ i. here i ∷ nobody i);
      })

  main_steps : (n : ℕ) (thread : Thread) → IsRunning w (record { place = zero; thread = thread }) → left ≡ n
      → 1 ≤ size → size ≤ 100000 → Steps
  main_steps zero thread running none some most =
      main_at_stop main thread running refl none is.suits is.few is.main_ready some most
  main_steps (suc n) thread running more some most = inl (instruction thread running n more)

  -- ---- steps of another thread

  module _ (place : ℕ) (thread : Thread) (running : IsRunning w (record { place = suc place; thread = thread }))
      (k n : ℕ) (placed_at : IsPlaced 0 lives place k k n) where
    abbrev other : Caller
    other = record { place = suc place; thread = thread }

    number_is : thread.no.0 ≡ k + 2
    number_is =
        subst (λ (v : Stop × ℕ). thread.no.0 ≡ number_at_stop v.0) (placed_at.way (Stop.finishes, 0))
        (on_way size left ways words w other (stop_of main) is.under_way running (Stop.finishes, 0)).number
        ∙ omega arith

    below : k < length lives
    below = lived.lives_below k n lives placed_at.there

    few_words : length lives ≤ 3
    few_words = omega (arith, lived.length-words_from 0 lives)

    within : suc place < length ways
    within =
        omega (
          arith,
          slice_get_within w.kernel.guest.threads (suc place) thread running.there,
          same_length size w.kernel.guest.mem ways w.kernel.guest.threads is.under_way.threads,
        )

    -- it goes on
    goes : (m : ℕ) → n ≡ suc m → Leads size fails main left lives w
    goes m more =
        let here : (d : Stop × ℕ) → get_or ways (suc place) d ≡ (Stop.ends k, suc m)
        = λ d. placed_at.way d ∙ ap (λ n. (Stop.ends k, n)) more in
        let to : LeadsTo size (ways_of main left (slice_set lives k (Some m)))
        (words_from 0 (slice_set lives k (Some m)))
        fate.Runs [] w.kernel.waits w
        = subst (λ vs. LeadsTo size (ways_of main left (slice_set lives k (Some m))) vs fate.Runs [] w.kernel.waits w)
        (placed_at.same_words m)
        (subst (λ vs. LeadsTo size ((stop_of main, left) ∷ vs) words fate.Runs [] w.kernel.waits w)
        (placed_at.goes_on m)
        (under_way size m ways words w other (Stop.ends k) is.under_way running (here (Stop.ends k, 0)))) in
        leads fate.Runs [] w.kernel.waits fails main left (slice_set lives k (Some m)) to
        (lived.still_suits lives k n (Some m) placed_at.there main (λ t e same none. nothing m none) is.suits) is.few
        is.queue_is
        (omega (arith, times_runs main_no [] w.run_queue))
        (λ t lives_yet.
        let now = is.others_ready t (λ ends. lives_yet (lived.still_ended lives k n (Some m) placed_at.there t ends))
        in
        omega (arith, times_runs (record { 0 = t + 2 }) [] w.run_queue))
        (omega (
          arith,
          count.changed size (suc place) ways (Stop.ends k, suc m) (Stop.ends k, m) 1 0 within
              (here (Stop.ends k, suc m)) (omega arith),
          ap (λ vs. all_left size ((stop_of main, left) ∷ vs)) (placed_at.goes_on m),
        ))
      where
        nothing : (m : ℕ) → Some m ≡ None → ⊥
        nothing m e = cc

    -- it ends
    ends : n ≡ 0 → Leads size fails main left lives w
    ends none =
        let here : (d : Stop × ℕ) → get_or ways (suc place) d ≡ (Stop.ends k, 0)
        = λ d. placed_at.way d ∙ ap (λ n. (Stop.ends k, n)) none in
        let lt : k < 3 = let long = few_words in let in_it = below in omega arith in
        let becomes = ending lives k n placed_at.there lt main is.suits in
        let b = becomes.1 in
        let to = subst (λ vs. LeadsTo size (ways_of main left (slice_set lives k None)) vs fate.Leaves
        (woken_at (word_of (k + 1)) 1 w.kernel.waits ++ []) (without_woken (word_of (k + 1)) 1 w.kernel.waits) w)
        placed_at.word_cleared
        (subst (λ vs. LeadsTo size ((stop_of main, left) ∷ vs) (slice_set words k 0) fate.Leaves
        (woken_at (word_of (k + 1)) 1 w.kernel.waits ++ []) (without_woken (word_of (k + 1)) 1 w.kernel.waits) w)
        placed_at.ended
        (ended size ways words w other is.under_way running k
        (let in_it = below in omega (arith, lived.length-words_from 0 lives))
        (let i = within in omega arith) (here (Stop.ends k, 0)))) in
        let first = runs_first other running in
        leads fate.Leaves (woken_at (word_of (k + 1)) 1 w.kernel.waits ++ [])
        (without_woken (word_of (k + 1)) 1 w.kernel.waits)
        fails becomes.0 left (slice_set lives k None)
        (subst (λ stop. LeadsTo size ((stop, left) ∷ ways_from 0 (slice_set lives k None))
        (words_from 0 (slice_set lives k None))
        fate.Leaves (woken_at (word_of (k + 1)) 1 w.kernel.waits ++ [])
        (without_woken (word_of (k + 1)) 1 w.kernel.waits) w)
        (sym b.same_stop) to)
        b.suits (let few = is.few in let more = b.same_most in omega arith)
        (ap (without_woken (word_of (k + 1)) 1) is.queue_is ∙ b.queue)
        (let now = is.main_ready in let e = number_is in omega (
          arith,
          times_leaves main_no thread.no (woken_at (word_of (k + 1)) 1 w.kernel.waits ++ []) w.run_queue first,
          times_other main_no thread.no (omega arith),
          ap (λ queue. times_in main_no (woken_at (word_of (k + 1)) 1 queue ++ [])) is.queue_is,
          b.times,
        ))
        (λ t lives_yet.
        let apart : t ≢ k
        = λ same. lives_yet (subst (λ j. life (slice_set lives k None) j ≡ None) (sym same)
        (lived.new_life lives k n None placed_at.there)) in
        let now = is.others_ready t (λ ends. lives_yet (lived.still_ended lives k n None placed_at.there t ends)) in
        let e = number_is in
        omega (
          arith,
          times_leaves (record { 0 = t + 2 }) thread.no (woken_at (word_of (k + 1)) 1 w.kernel.waits ++ [])
              w.run_queue
              first,
          times_other (record { 0 = t + 2 }) thread.no (λ same. apart (omega arith)),
        ))
        (omega (
          arith,
          count.ended size k (suc place) ways within (here (Stop.ends k, 0)),
          ap (λ vs. all_left size ((stop_of main, left) ∷ vs)) placed_at.ended,
          ap (λ stop. all_left size ((stop, left) ∷ ways_from 0 (slice_set lives k None))) b.same_stop,
        ))

    other_steps : (m : ℕ) → n ≡ m → Leads size fails main left lives w
    other_steps zero none = ends none
    other_steps (suc m) more = goes m more

  -- ---- a step

  steps_by : (place : ℕ) (thread : Thread) → IsRunning w (record { place = place; thread = thread })
      → 1 ≤ size → size ≤ 100000 → Steps
  steps_by zero thread running some most = main_steps left thread running refl some most
  steps_by (suc place) thread running some most =
      let at = placed lives place (omega (
        arith,
        slice_get_within w.kernel.guest.threads (suc place) thread running.there,
        same_length size w.kernel.guest.mem ways w.kernel.guest.threads is.under_way.threads,
      )) in
      inl (other_steps place thread running at.0 at.1 at.2 at.1 refl)

  pub steps : 1 ≤ size → size ≤ 100000 → Steps
  steps = let runs = someone_runs in steps_by runs.0.place runs.0.thread runs.1
