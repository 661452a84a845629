-- Who is ready, as turns go on, end and begin.
use Rattle.std.proofs.Common.{◌≡◌, ℕ, zero, suc, ◌+◌, ◌<◌, ◌≤◌, ◌==◌, Bool, true, false, cond, List, [], ◌∷◌, ◌++◌}
use Rattle.std.proofs.Common.{length, map, take, drop, Option, Some, None, refl, sym, ◌∙◌, ap, subst, arith}
use Rattle.std.proofs.lemmas.Bool.{cond-true, eq-eqb}
use Rattle.std.proofs.lemmas.List.{append-nil, length-append, take-append-drop}
use Rattle.std.specs.List.{remove, slice_get}
use Rattle.std.specs.Option.{option_map_or}
use Rattle.rand_pcg.specs.Lcg.{Lcg}
use Rattle.rand_pcg.specs.Pcg.{pcg32}
use Rattle.event_costs.specs.declared.numbers.ThreadNo.{ThreadNo}
use Rattle.guest_load.specs.declared.thread.Thread.{Thread}
use Rattle.guest_sys.specs.Kernel.{Kernel, times_live}
use Rattle.guest_sys.specs.Laws.{times_in}
use Rattle.guest_sys.proofs.BalanceLemmas.{times_live-cons}
use Rattle.guest_sched.specs.declared.turns.Fate.{Fate}
use Rattle.guest_sched.specs.declared.turns.Fate.TheVariants as fate
use Rattle.guest_sched.specs.RunQueue.{RunQueue, generator_of, with_drawn_turn, with_new_turn, with_threads, goes_on, without_turn, after_step, after_own_step, to_front}
use Rattle.guest_sched.specs.Engine.{begins}
use Rattle.guest_sched.specs.inner.Sound.{IsLively, number_at, on_turn}
use Rattle.guest_sched.proofs.PlaceLemmas.{thread_number}
use Rattle.guest_futex.proofs.WaitLaws.{times_in-cons, times_in-append}

-- ---- how often a thread stands in a list

times_in-cut : (t : ThreadNo) (k : ℕ) (us : List ThreadNo)
    → times_in t (take k us) + times_in t (drop k us) ≡ times_in t us
times_in-cut t k us = sym (times_in-append t (take k us) (drop k us)) ∙ ap (times_in t) (take-append-drop k us)

drop_more : {X : Type 0} (k : ℕ) (xs : List X) → drop (suc k) xs ≡ drop 1 (drop k xs)
drop_more zero xs = refl
drop_more (suc k) [] = refl
drop_more (suc k) (x ∷ xs) = drop_more k xs

pub times_in-to_front : (t : ThreadNo) (k : ℕ) (us : List ThreadNo) → times_in t (to_front k us) ≡ times_in t us
times_in-to_front t k us =
    let whole : times_in t (take k us) + times_in t (drop k us) ≡ times_in t us = times_in-cut t k us in
    let parts : times_in t (take 1 (drop k us)) + times_in t (drop 1 (drop k us)) ≡ times_in t (drop k us)
    = times_in-cut t 1 (drop k us) in
    let rest : times_in t (drop (suc k) us) ≡ times_in t (drop 1 (drop k us)) = ap (times_in t) (drop_more k us) in
    let front = times_in-append t (take 1 (drop k us)) (remove us k) in
    let back = times_in-append t (take k us) (drop (suc k) us) in
    omega (arith, whole, parts, rest, front, back)

pub times_in-rotated : (t : ThreadNo) (us : List ThreadNo) → times_in t (drop 1 us ++ take 1 us) ≡ times_in t us
times_in-rotated t us = omega (arith, times_in-append t (drop 1 us) (take 1 us), times_in-cut t 1 us)

-- ---- a turn begins

-- what a machine begins with
abbrev pub first_queue : List Thread → ℕ → Option ℕ → RunQueue
first_queue threads quantum seed = record {
  ready = map (λ t. t.no) threads;
  steps_left = 0;
  quantum = quantum;
  generator = generator_of seed;
}

abbrev with_turn_by : Option Lcg → RunQueue → RunQueue
with_turn_by drawn queue =
    option_map_or (λ g.
    record (with_drawn_turn (pcg32 g).0 (pcg32 (pcg32 g).1).0 queue) { generator = Some (pcg32 (pcg32 g).1).1 })
    drawn (record queue { steps_left = queue.quantum })

begun_times : (t : ThreadNo) (g : Option Lcg) (line : RunQueue) → times_in t (with_turn_by g line).ready ≡ times_in t line.ready
begun_times t None line = refl
begun_times t (Some g) line = times_in-to_front t _ line.ready

pub begins_times : (t : ThreadNo) (exit : Option ℕ) (ready : List ThreadNo) (line : RunQueue)
    → times_in t (begins exit ready line).ready ≡ times_in t line.ready
unfolding with_new_turn
begins_times t (Some code) ready line = refl
begins_times t None [] line = refl
begins_times t None (u ∷ us) line = begun_times t line.generator line

pub lively_begins : (exit : Option ℕ) (ready : List ThreadNo) (line : RunQueue) (s : Kernel) → IsLively line.ready s
    → IsLively (begins exit ready line).ready s
lively_begins exit ready line s lively t = omega (arith, lively t, begins_times t exit ready line)

begun_quantum : (g : Option Lcg) (line : RunQueue) → (with_turn_by g line).quantum ≡ line.quantum
begun_quantum None line = refl
begun_quantum (Some g) line = refl

pub begins_quantum : (exit : Option ℕ) (ready : List ThreadNo) (line : RunQueue)
    → (begins exit ready line).quantum ≡ line.quantum
unfolding with_new_turn
begins_quantum (Some code) ready line = refl
begins_quantum None [] line = refl
begins_quantum None (u ∷ us) line = begun_quantum line.generator line

begun_left : (g : Option Lcg) (line : RunQueue) → 1 ≤ line.quantum → 1 ≤ (with_turn_by g line).steps_left
begun_left None line h = h
begun_left (Some g) line h = omega arith

pub begins_left : (exit : Option ℕ) (ready : List ThreadNo) (line : RunQueue) → ready ≡ line.ready → 1 ≤ line.quantum
    → (t : ThreadNo) → on_turn exit (begins exit ready line).ready ≡ Some t → 1 ≤ (begins exit ready line).steps_left
unfolding with_new_turn
begins_left (Some code) ready line same h t is = cc
begins_left None [] line same h t is = absurd (nobody (ap (λ (us : List ThreadNo). slice_get us 0) same ∙ is))
  where
    nobody : None ≡ Some t → ⊥
    nobody e = cc
begins_left None (u ∷ us) line same h t is = begun_left line.generator line h

-- ---- who runs is live

pub live_first : (ready : List ThreadNo) (s : Kernel) (t : ThreadNo) → IsLively ready s → slice_get ready 0 ≡ Some t
    → 1 ≤ times_live t s.guest.threads
live_first [] s t lively is = cc
live_first (u ∷ us) s t lively is =
    let same : u ≡ t = same_some u t is in
    let here : ◌≡◌ {A = ℕ} (cond {A = ℕ} (u.0 == t.0) 1 0) 1
    = ap {B = ℕ} (λ (v : ThreadNo). cond (u.0 == v.0) 1 0) (sym same) ∙ self_test u.0 in
    omega (arith, lively t, times_in-cons t u us, here)
  where
    same_some : (x y : ThreadNo) → Some x ≡ Some y → x ≡ y
    same_some x y e = cc

    self_test : (n : ℕ) → ◌≡◌ {A = ℕ} (cond {A = ℕ} (n == n) 1 0) 1
    self_test n = cond-true {A = ℕ} (n == n) 1 0 (eq-eqb n n refl)

-- the first thread is the one whose turn it is
pub on_turn_first : (exit : Option ℕ) (ready : List ThreadNo) (t : ThreadNo) → on_turn exit ready ≡ Some t
    → slice_get ready 0 ≡ Some t
on_turn_first None ready t is = is
on_turn_first (Some code) ready t is = cc

-- ---- threads by their numbers

pub times_live-numbers : (t : ThreadNo) (ts us : List Thread) → map thread_number ts ≡ map thread_number us
    → times_live t ts ≡ times_live t us
times_live-numbers t [] [] same = refl
times_live-numbers t [] (u ∷ us) same = cc
times_live-numbers t (x ∷ ts) [] same = cc
times_live-numbers t (x ∷ ts) (u ∷ us) same =
    let head : x.no.0 ≡ u.no.0 = cc in
    let rest : map thread_number ts ≡ map thread_number us = cc in
    omega (
      arith,
      times_live-cons t x ts,
      times_live-cons t u us,
      times_live-numbers t ts us rest,
      ap {B = ℕ} (λ n. cond (n == t.0) 1 0) head,
    )

number_at-map : (ts : List Thread) (i : ℕ) → number_at ts i ≡ slice_get (map thread_number ts) i
number_at-map [] i = refl
number_at-map (t ∷ ts) zero = refl
number_at-map (t ∷ ts) (suc i) = number_at-map ts i

pub number_at-numbers : (i : ℕ) (ts us : List Thread) → map thread_number ts ≡ map thread_number us
    → number_at ts i ≡ number_at us i
number_at-numbers i ts us same = number_at-map ts i ∙ ap (λ ns. slice_get ns i) same ∙ sym (number_at-map us i)

pub place_within : (ts : List Thread) (i n : ℕ) → number_at ts i ≡ Some n → i < length ts
place_within [] i n is = cc
place_within (t ∷ ts) zero n is = omega arith
place_within (t ∷ ts) (suc i) n is = omega (arith, place_within ts i n is)

-- ---- a step passes

ran_by : (b : Bool) (x y : RunQueue) (t : ThreadNo) (n : ℕ) → times_in t x.ready ≡ n → times_in t y.ready ≡ n
    → times_in t (cond b x y).ready ≡ n
ran_by true x y t n p q = p
ran_by false x y t n p q = q

-- a thread whose turn ends by its length stays ready
pub ran_times : (t : ThreadNo) (line : RunQueue) → times_in t (after_own_step fate.Runs line).ready ≡ times_in t line.ready
ran_times t line = ran_by (line.steps_left == 1) (without_turn fate.Runs line) (goes_on line) t (times_in t line.ready)
    (times_in-rotated t line.ready) refl

pub entered_none : (line : RunQueue) → with_threads [] line ≡ line
entered_none line = ap (λ ts. let l : RunQueue = record line { ready = ts } in l) (append-nil line.ready)

pub passed_none : (line : RunQueue) → after_step fate.Runs [] line ≡ after_own_step fate.Runs line
passed_none line = ap (after_own_step fate.Runs) (entered_none line)

length_rotated : (us : List ThreadNo) → length (drop 1 us ++ take 1 us) ≡ length us
length_rotated [] = refl
length_rotated (u ∷ us) = length-append us (u ∷ []) ∙ omega arith

length_by : (b : Bool) (x y : RunQueue) (n : ℕ) → length x.ready ≡ n → length y.ready ≡ n → length (cond b x y).ready ≡ n
length_by true x y n p q = p
length_by false x y n p q = q

pub length_ran : (line : RunQueue) → length (after_own_step fate.Runs line).ready ≡ length line.ready
length_ran line =
    length_by (line.steps_left == 1) (without_turn fate.Runs line) (goes_on line) (length line.ready) (length_rotated line.ready) refl

-- room for all that are ready after a step is room for those that enter
pub room_runs : (f : Fate) (ts : List ThreadNo) (line : RunQueue) → f ≡ fate.Runs → length (after_step f ts line).ready ≤ 1024
    → length line.ready + length ts ≤ 1024
room_runs f ts line is room =
    let there : length (after_step fate.Runs ts line).ready ≤ 1024
    = subst (λ (g : Fate). length (after_step g ts line).ready ≤ 1024) is room in
    omega (arith, there, length_ran (with_threads ts line), length-append line.ready ts)

pub room_yields : (f : Fate) (ts : List ThreadNo) (line : RunQueue) → f ≡ fate.Yields
    → length (after_step f ts line).ready ≤ 1024 → length line.ready + length ts ≤ 1024
room_yields f ts line is room =
    let there : length (after_step fate.Yields ts line).ready ≤ 1024
    = subst (λ (g : Fate). length (after_step g ts line).ready ≤ 1024) is room in
    omega (arith, there, length_rotated (line.ready ++ ts), length-append line.ready ts)
