-- A step of a thread that isn't at its stop.
use Rattle.std.proofs.Common.{◌≡◌, ◌≢◌, ℕ, zero, suc, ◌+◌, ◌≤◌, List, [], ◌∷◌, get_or, length, refl, sym, ap, ◌∙◌}
use Rattle.std.proofs.Common.{arith, subst}
use Rattle.std.proofs.Common.{Bool, true, false, cond, Some, None}
use Rattle.std.specs.Prelude.{Ok, slice_get, slice_set}
use Rattle.guest_mem.specs.Memory.{Memory, load_at}
use Rattle.rv_step.specs.Effects.{step_of}
use Rattle.rv_step.specs.Forms.{HartState}
use Rattle.rv_step.specs.Promises.{UnlessRetired}
use Rattle.rv_step.specs.declared.stepped.Stepped.{Stepped}
use Rattle.rv_step.specs.declared.stepped.Stepped.TheVariants as stepped
use Rattle.guest_load.specs.declared.thread.Thread.{Thread}
use Rattle.guest_sys.specs.Kernel.{Kernel}
use Rattle.guest_sys.specs.declared.caller.Caller.{Caller}
use Rattle.event_costs.specs.declared.numbers.ThreadNo.{ThreadNo}
use Rattle.guest_sys.specs.Laws.{times_in}
use Rattle.guest_sched.specs.declared.turns.Fate.{Fate}
use Rattle.guest_sched.specs.declared.turns.Fate.TheVariants as fate
use Rattle.guest_sched.specs.RunQueue.{RunQueue, after_step, ends_turn}
use Rattle.demo_run.proofs.Others.{begins_times, turned_exit, turned_sys}
use Rattle.guest_sched.specs.Engine.{Engine, engine_after_step, next_turn, runner}
use Rattle.guest_sched.specs.Step.{MachineStep, by_answer, hart_of, step, with_instruction, step_at}
use Rattle.guest_sched.specs.Step.{with_regs}
use Rattle.demo_run.proofs.Amid.{IsHeld, IsNext, Keeps, Slot, Will}
use Rattle.demo_run.proofs.Ways.{AreGiven, AreOnWays, AreOthers, IsAtStop, IsOnWay, IsRunning, IsUnderWay, LeadsTo}
use Rattle.demo_run.proofs.Ways.{Stop, clear_of, number_at_stop, own_base, own_len}
use Rattle.demo_run.proofs.Places.{word_of}
use Rattle.demo_run.proofs.StackLemmas.{apart, word_kept}

-- ---- other threads

-- with what it holds in another memory
pub still_on : (size : ℕ) (m after : Memory) (way : Stop × ℕ) (t : Thread) (is : IsOnWay size m way t)
    → IsHeld size (own_base t.no.0) (own_len t.no.0) is.slots after → IsOnWay size after way t
still_on size m after way t is held = record {
  number = is.number;
  some = is.some;
  few = is.few;
  clears = is.clears;
  slots = is.slots;
  held = held;
  will = is.will;
}

way_kept : (size no : ℕ) (m after : Memory) (way : Stop × ℕ) (t : Thread) → no ≤ 4 → t.no.0 ≢ no
    → Keeps size (own_base no) (own_len no) m after → IsOnWay size m way t → IsOnWay size after way t
way_kept size who m after way t few other keeps is =
    still_on size m after way t is
    (keeps (own_base t.no.0) (own_len t.no.0) is.slots (apart who t.no.0 few is.few (λ e. other (sym e))) is.held)

ways_kept : (size no : ℕ) (m after : Memory) (ways : List (Stop × ℕ)) (ts : List Thread) → no ≤ 4 → AreOthers no ts
    → Keeps size (own_base no) (own_len no) m after → AreOnWays size m ways ts → AreOnWays size after ways ts
ways_kept size who m after [] [] few others keeps all = tt
ways_kept size who m after [] (t ∷ ts) few others keeps all = all
ways_kept size who m after (way ∷ ways) [] few others keeps all = all
ways_kept size who m after (way ∷ ways) (t ∷ ts) few others keeps all = (
  way_kept size who m after way t few others.0 keeps all.0,
  all.1,
  ways_kept size who m after ways ts few others.1 keeps all.2,
)

other_at : (n place : ℕ) (ts : List Thread) (t : Thread) → AreOthers n ts → slice_get ts place ≡ Some t → t.no.0 ≢ n
other_at n place [] t others is = cc
other_at n zero (u ∷ ts) t others is = subst (λ (v : Thread). v.no.0 ≢ n) (same u t is) others.0
  where
    same : (x y : Thread) → Some x ≡ Some y → x ≡ y
    same x y e = cc
other_at n (suc place) (u ∷ ts) t others is = other_at n place ts t others.1 is

others_set : (n place : ℕ) (ts : List Thread) (t : Thread) → t.no.0 ≢ n → AreOthers n ts
    → AreOthers n (slice_set ts place t)
others_set n place [] t other others = tt
others_set n zero (u ∷ ts) t other others = (other, others.1)
others_set n (suc place) (u ∷ ts) t other others = (others.0, others_set n place ts t other others.1)

pub given_set : (made place : ℕ) (ts : List Thread) (t : Thread) → t.no.0 ≤ made → AreGiven made ts
    → AreGiven made (slice_set ts place t)
given_set made place [] t few given = tt
given_set made zero (u ∷ ts) t few given = (few, given.1)
given_set made (suc place) (u ∷ ts) t few given = (given.0, given_set made place ts t few given.1)

pub given_at : (made place : ℕ) (ts : List Thread) (t : Thread) → slice_get ts place ≡ Some t → AreGiven made ts
    → t.no.0 ≤ made
given_at made place [] t is given = cc
given_at made zero (u ∷ ts) t is given = subst (λ (v : Thread). v.no.0 ≤ made) (same u t is) given.0
  where
    same : (x y : Thread) → Some x ≡ Some y → x ≡ y
    same x y e = cc
given_at made (suc place) (u ∷ ts) t is given = given_at made place ts t is given.1

-- one goes on, and leaves to the others what they hold
pub all_moved : (size : ℕ) (m after : Memory) (ways : List (Stop × ℕ)) (ts : List Thread) (place : ℕ) (t new : Thread)
    (way : Stop × ℕ)
    → slice_get ts place ≡ Some t → new.no.0 ≡ t.no.0 → t.no.0 ≤ 4 → IsOnWay size after way new
    → Keeps size (own_base t.no.0) (own_len t.no.0) m after → AreOnWays size m ways ts
    → AreOnWays size after (slice_set ways place way) (slice_set ts place new)
all_moved size m after [] [] place t new way is same few goes keeps all = tt
all_moved size m after [] (u ∷ ts) place t new way is same few goes keeps all = absurd all
all_moved size m after (v ∷ ways) [] place t new way is same few goes keeps all = absurd all
all_moved size m after (v ∷ ways) (u ∷ ts) zero t new way is same few goes keeps all =
    let number : u.no.0 ≡ t.no.0 = first u t is in (
      goes,
      subst (λ n. AreOthers n ts) (number ∙ sym same) all.1,
      ways_kept size t.no.0 m after ways ts few (subst (λ n. AreOthers n ts) number all.1) keeps all.2,
    )
  where
    first : (x y : Thread) → Some x ≡ Some y → x.no.0 ≡ y.no.0
    first x y e = cc
all_moved size m after (v ∷ ways) (u ∷ ts) (suc place) t new way is same few goes keeps all =
    let other = other_at u.no.0 place ts t all.1 is in (
      way_kept size t.no.0 m after v u few (λ e. other (sym e)) keeps all.0,
      others_set u.no.0 place ts new (λ e. other (sym same ∙ e)) all.1,
      all_moved size m after ways ts place t new way is same few goes keeps all.2,
    )

way_at : (size : ℕ) (m : Memory) (ways : List (Stop × ℕ)) (ts : List Thread) (place : ℕ) (t : Thread) (d : Stop × ℕ)
    → AreOnWays size m ways ts → slice_get ts place ≡ Some t → IsOnWay size m (get_or ways place d) t
way_at size m [] [] place t d all is = cc
way_at size m [] (u ∷ ts) place t d all is = absurd all
way_at size m (v ∷ ways) [] place t d all is = absurd all
way_at size m (v ∷ ways) (u ∷ ts) zero t d all is = subst (IsOnWay size m v) (same u t is) all.0
  where
    same : (x y : Thread) → Some x ≡ Some y → x ≡ y
    same x y e = cc
way_at size m (v ∷ ways) (u ∷ ts) (suc place) t d all is = way_at size m ways ts place t d all.2 is

-- ---- the step

-- who is ready, whichever turn is next
pub turned_ready : (t : ThreadNo) (f : Fate) (ts : List ThreadNo) (w : Engine)
    → times_in t (engine_after_step f ts w).run_queue.ready ≡ times_in t (after_step f ts w.run_queue).ready
unfolding engine_after_step
turned_ready t f ts w = by (ends_turn f w.run_queue)
  where
    line : RunQueue
    line = after_step f ts w.run_queue

    by : (b : Bool)
        → times_in t (cond b (next_turn (record w { run_queue = line; held = None }))
        (record w { run_queue = line })).run_queue.ready
        ≡ times_in t line.ready
    by true = begins_times t w.exit line.ready line
    by false = refl

by_retired : (w : Engine) (c : Caller) (answer : Stepped) (after : HartState) → UnlessRetired answer ⊥
    → (x : MachineStep) × (by_answer w c answer after
    ≡ Ok (x, engine_after_step fate.Runs [] (with_instruction w c after)))
by_retired w c (stepped.Retired done) after is = (_, refl)
by_retired w c stepped.Call after is = absurd is
by_retired w c (stepped.Trap signal) after is = absurd is
by_retired w c (stepped.Unknown word) after is = absurd is

module _ (size n : ℕ) (ways : List (Stop × ℕ)) (words : List ℕ) (w : Engine) (c : Caller) (stop : Stop)
    (is : IsUnderWay size ways words w) (running : IsRunning w c) where
  abbrev m : Memory
  m = w.kernel.guest.mem

  pub on_way : (d : Stop × ℕ) → IsOnWay size m (get_or ways c.place d) c.thread
  on_way d = way_at size m ways w.kernel.guest.threads c.place c.thread d is.threads running.there

  -- the step leads one nearer to this stop
  pub next_under_way : (slots : List Slot) → c.thread.no.0 ≡ number_at_stop stop → 1 ≤ c.thread.no.0
      → c.thread.no.0 ≤ 4 → c.thread.clear ≡ clear_of c.thread.no.0
      → IsHeld size (own_base c.thread.no.0) (own_len c.thread.no.0) slots m
      → IsNext size (own_base c.thread.no.0) (own_len c.thread.no.0) m (step_of (hart_of w c))
      (λ pc x slots. Will size (own_base c.thread.no.0) (own_len c.thread.no.0) n pc x slots (IsAtStop stop))
      → LeadsTo size (slice_set ways c.place (stop, n)) words fate.Runs [] w.kernel.waits w
  unfolding step
  next_under_way slots number some few clears h next =
      let base = own_base c.thread.no.0 in
      let len = own_len c.thread.no.0 in
      let after : HartState = (step_of (hart_of w c)).after in
      let ended = engine_after_step fate.Runs [] (with_instruction w c after) in
      let answer = by_retired w c (step_of (hart_of w c)).stepped after next.retires in
      let kernel = turned_sys fate.Runs [] (with_instruction w c after) in
      let new : Thread = with_regs c.thread after.regs in
      let goes : IsOnWay size after.memory (stop, n) new = record {
        number = number;
        some = some;
        few = few;
        clears = clears;
        slots = next.slots;
        held = next.held;
        will = subst (λ pc. Will size base len n pc after.regs.x next.slots (IsAtStop stop)) (sym next.pc_is)
            (subst (λ x. Will size base len n next.pc x next.slots (IsAtStop stop)) (sym next.x_is) next.rest);
      } in
      record {
        told = answer.0;
        after = ended;
        is = ap (λ o. step_at w o (runner w)) is.goes_on ∙ ap (step_at w None) running.runs ∙ answer.1;
        under_way = record {
          goes_on = turned_exit fate.Runs [] (with_instruction w c after) ∙ is.goes_on;
          threads = subst (λ (k : Kernel). AreOnWays size k.guest.mem (slice_set ways c.place (stop, n))
              k.guest.threads) (sym kernel)
              (all_moved size m after.memory ways w.kernel.guest.threads c.place c.thread new (stop, n) running.there
              refl
              few goes next.keeps is.threads);
          made = ap (λ (k : Kernel). k.guest.made) kernel ∙ is.made;
          given = subst (λ (k : Kernel). AreGiven (length words + 1) k.guest.threads) (sym kernel)
              (given_set (length words + 1) c.place w.kernel.guest.threads new
              (given_at (length words + 1) c.place w.kernel.guest.threads c.thread running.there is.given) is.given);
          few = is.few;
          words_are = λ k lt. subst (λ (s : Kernel). load_at s.guest.mem 1 (word_of (k + 1)) 4
              ≡ Some (get_or words k 0)) (sym kernel)
              (word_kept size c.thread.no.0 k (get_or words k 0) slots m after.memory
              (omega arith) some few h
              next.keeps (is.words_are k lt));
        };
        waits_are = ap (λ (k : Kernel). k.waits) kernel;
        ready_are = λ t. turned_ready t fate.Runs [] (with_instruction w c after);
      }

  pub under_way : get_or ways c.place (stop, 0) ≡ (stop, suc n)
      → LeadsTo size (slice_set ways c.place (stop, n)) words fate.Runs [] w.kernel.waits w
  under_way way =
      let on : IsOnWay size m (stop, suc n) c.thread = subst (λ v. IsOnWay size m v c.thread) way (on_way (stop, 0)) in
      next_under_way on.slots on.number on.some on.few on.clears on.held (on.will m w.held on.held)
