-- What is kept of a thread, by its place.
use Rattle.std.proofs.Common.{◌≡◌, ◌≢◌, ℕ, zero, suc, ◌+◌, ◌<◌, ◌≤◌, ◌==◌, Bool, true, false, ◌||◌, cond, not, List, []}
use Rattle.std.proofs.Common.{◌∷◌, ◌++◌, length, map, set, get_or, Option, Some, None, position, refl, sym, ap, subst}
use Rattle.std.proofs.Common.{◌∙◌, ◌⊎◌, inl, inr, arith, nat_lt, if◌then◌else◌}
use Rattle.std.proofs.Common.{slice_get, sum_by}
use Rattle.std.specs.List.{AllByRecursion, IsDistinct, list_any, position_or_len, prefix_len}
use Rattle.std.proofs.lemmas.Cmp.{nat_eq_equiv}
use Rattle.std.proofs.lemmas.Map.Keys.{IsDistinct-head, IsDistinct-tail}
use Rattle.std.proofs.lemmas.Option.{none-some, same_Some, slice_get_within}
use Rattle.std.proofs.lemmas.Bool.{eq-eqb, lt-ltb, or_parts}
use Rattle.std.proofs.lemmas.Bool.Decides.{eqb_tells, nat_tests}
use Rattle.std.proofs.lemmas.List.{length-map, length-set}
use Rattle.std.proofs.lemmas.List.Folds.{list_any-append, position_or_len-set}
use Rattle.std.proofs.lemmas.List.Quantifiers.{position-Some}
use Rattle.std.proofs.lemmas.List.Sums.{sum_by-set}
use Rattle.event_costs.specs.declared.numbers.ThreadNo.{ThreadNo}
use Rattle.recorder.specs.Accounts.{IsReady, is_ledger_of, ledger, ledger_in, Ledger, knows, live, live_in, nobody, Recording}
use Rattle.recorder.specs.inner.Places.{IsAt, ledger_at}

pub same_thread : (a b : ThreadNo) → a.0 ≡ b.0 → a ≡ b
same_thread a b is = λ i. record { 0 = is i }

first_in : (t : ThreadNo) (ks : List Ledger) (i : ℕ) → i < length ks → is_ledger_of t (get_or ks i (nobody t)) ≡ true
    → ((k : ℕ) → k < i → is_ledger_of t (get_or ks k (nobody t)) ≡ false) → ledger_in t ks ≡ get_or ks i (nobody t)
first_in t [] i less here before = absurd (omega (arith, less))
first_in t (k ∷ ks) zero less here before = ap (λ b. cond b k (ledger_in t ks)) here
first_in t (k ∷ ks) (suc i) less here before =
    ap (λ b. cond b k (ledger_in t ks)) (before 0 (omega arith))
    ∙ first_in t ks i (omega (arith, less)) here (λ j lt. before (suc j) (omega (arith, lt)))

first_after : (t : ThreadNo) (ks : List Ledger) (i : ℕ) (new : Ledger) → i < length ks → is_ledger_of t new ≡ true
    → ((k : ℕ) → k < i → is_ledger_of t (get_or ks k (nobody t)) ≡ false) → ledger_in t (set ks i new) ≡ new
first_after t [] i new less here before = absurd (omega (arith, less))
first_after t (k ∷ ks) zero new less here before = ap (λ b. cond b new (ledger_in t ks)) here
first_after t (k ∷ ks) (suc i) new less here before =
    ap (λ b. cond b k (ledger_in t (set ks i new))) (before 0 (omega arith))
    ∙ first_after t ks i new (omega (arith, less)) here (λ j lt. before (suc j) (omega (arith, lt)))

-- what is kept of the thread at a place
pub ledger_there : (r : Recording) (t : ThreadNo) (i : ℕ) → IsAt r t i → ledger r t ≡ ledger_at r i t
ledger_there r t i at = let found = position-Some (is_ledger_of t) r.threads i (nobody t) at in
    first_in t r.threads i found.0 found.1 found.2

pub place_within : (r : Recording) (t : ThreadNo) (i : ℕ) → IsAt r t i → i < length r.threads
place_within r t i at = (position-Some (is_ledger_of t) r.threads i (nobody t) at).0

pub thread_there : (r : Recording) (t : ThreadNo) (i : ℕ) → IsAt r t i → (ledger_at r i t).account.thread ≡ t
thread_there r t i at =
    let found = position-Some (is_ledger_of t) r.threads i (nobody t) at in
    same_thread (ledger_at r i t).account.thread t (let is = found.1 in grind (arith, nat_tests))

-- one thread's account is replaced
pub ledger_now : (r s : Recording) (t : ThreadNo) (i : ℕ) (new : Ledger) → IsAt r t i → new.account.thread ≡ t
    → s.threads ≡ set r.threads i new → ledger s t ≡ new
ledger_now r s t i new at is same =
    let found = position-Some (is_ledger_of t) r.threads i (nobody t) at in
    ap (ledger_in t) same
    ∙ first_after t r.threads i new found.0 (ap (λ (u : ThreadNo). t.0 == u.0) is ∙ eq-eqb t.0 t.0 refl) found.2

other_after : (o : ThreadNo) (ks : List Ledger) (i : ℕ) (new d : Ledger) → i < length ks → is_ledger_of o (get_or ks i d) ≡ false
    → is_ledger_of o new ≡ false → ledger_in o (set ks i new) ≡ ledger_in o ks
other_after o [] i new d less was now = absurd (omega (arith, less))
other_after o (k ∷ ks) zero new d less was now = ap (λ b. cond b new (ledger_in o ks)) now
    ∙ sym (ap (λ b. cond b k (ledger_in o ks)) was)
other_after o (k ∷ ks) (suc i) new d less was now =
    ap (λ (m : Ledger). cond (is_ledger_of o k) k m) (other_after o ks i new d (omega (arith, less)) was now)

differs : (o t u : ThreadNo) → u ≡ t → o.0 ≢ t.0 → o.0 == u.0 ≡ false
differs o t u is other = by (eqb_tells o.0 u.0)
  where
    by : ((o.0 == u.0 ≡ true) × (o.0 ≡ u.0)) ⊎ ((o.0 == u.0 ≡ false) × (o.0 ≢ u.0)) → o.0 == u.0 ≡ false
    by (inl same) = absurd (other (same.1 ∙ ap (λ (v : ThreadNo). v.0) is))
    by (inr apart) = apart.0

pub ledger_others : (r s : Recording) (t : ThreadNo) (i : ℕ) (new : Ledger) → IsAt r t i → new.account.thread ≡ t
    → s.threads ≡ set r.threads i new
    → (o : ThreadNo) → o.0 ≢ t.0 → ledger s o ≡ ledger r o
ledger_others r s t i new at is same o other =
    ap (ledger_in o) same
    ∙ other_after o r.threads i new (nobody t) (place_within r t i at)
    (differs o t (ledger_at r i t).account.thread (thread_there r t i at) other)
    (differs o t new.account.thread is other)

any_set : {X : Type 0} (p : X → Bool) (xs : List X) (i : ℕ) (y d : X) → i < length xs → p y ≡ p (get_or xs i d)
    → list_any p (set xs i y) ≡ list_any p xs
any_set p [] i y d less same = absurd (omega (arith, less))
any_set p (x ∷ xs) zero y d less same = ap (λ b. b || list_any p xs) same
any_set p (x ∷ xs) (suc i) y d less same = ap (λ b. p x || b) (any_set p xs i y d (omega (arith, less)) same)

pub knows_same : (r s : Recording) (t : ThreadNo) (i : ℕ) (new : Ledger) → IsAt r t i → new.account.thread ≡ t
    → s.threads ≡ set r.threads i new → (o : ThreadNo) → knows s o ≡ knows r o
knows_same r s t i new at is same o =
    ap (list_any (is_ledger_of o)) same
    ∙ any_set (is_ledger_of o) r.threads i new (nobody t) (place_within r t i at)
    (ap (λ (u : ThreadNo). o.0 == u.0) (is ∙ sym (thread_there r t i at)))

abbrev place_from : ℕ → ℕ → Option ℕ
place_from n len = cond (nat_lt n len) (Some n) None

places_same : (r s : Recording) (t : ThreadNo) (i : ℕ) (new : Ledger) → IsAt r t i → new.account.thread ≡ t
    → s.threads ≡ set r.threads i new → (o : ThreadNo) → position (is_ledger_of o) s.threads ≡ position (is_ledger_of o) r.threads
places_same r s t i new at is same o =
    let first = position_or_len-set (is_ledger_of o) r.threads i new (nobody t)
    (ap (λ (u : ThreadNo). o.0 == u.0) (is ∙ sym (thread_there r t i at))) in
    ap (λ (ks : List Ledger). position (is_ledger_of o) ks) same
    ∙ (λ j. place_from (first j) (length-set r.threads i new j))

nobody_in : (t : ThreadNo) (ks : List Ledger) → list_any (is_ledger_of t) ks ≡ false → ledger_in t ks ≡ nobody t
nobody_in t [] none = refl
nobody_in t (k ∷ ks) none =
    let both = or_parts (is_ledger_of t k) (list_any (is_ledger_of t) ks) none in
    ap (λ b. cond b k (ledger_in t ks)) both.0 ∙ nobody_in t ks both.1

pub ledger_unknown : (r : Recording) (t : ThreadNo) → knows r t ≡ false → ledger r t ≡ nobody t
ledger_unknown r t none = nobody_in t r.threads none

-- a thread more
newest_in : (t : ThreadNo) (ks : List Ledger) (new : Ledger) → list_any (is_ledger_of t) ks ≡ false → is_ledger_of t new ≡ true
    → ledger_in t (ks ++ new ∷ []) ≡ new
newest_in t [] new none is = ap (λ b. cond b new (nobody t)) is
newest_in t (k ∷ ks) new none is =
    let both = or_parts (is_ledger_of t k) (list_any (is_ledger_of t) ks) none in
    ap (λ b. cond b k (ledger_in t (ks ++ new ∷ []))) both.0 ∙ newest_in t ks new both.1 is

other_in : (o : ThreadNo) (ks : List Ledger) (new : Ledger) → is_ledger_of o new ≡ false
    → ledger_in o (ks ++ new ∷ []) ≡ ledger_in o ks
other_in o [] new is = ap (λ b. cond b new (nobody o)) is
other_in o (k ∷ ks) new is = ap (λ (m : Ledger). cond (is_ledger_of o k) k m) (other_in o ks new is)

pub ledger_newest : (r s : Recording) (t : ThreadNo) (new : Ledger) → knows r t ≡ false → new.account.thread ≡ t
    → s.threads ≡ r.threads ++ new ∷ [] → ledger s t ≡ new
ledger_newest r s t new none is same = ap (ledger_in t) same
    ∙ newest_in t r.threads new none (ap (λ (u : ThreadNo). t.0 == u.0) is ∙ eq-eqb t.0 t.0 refl)

pub ledger_older : (r s : Recording) (t : ThreadNo) (new : Ledger) → new.account.thread ≡ t
    → s.threads ≡ r.threads ++ new ∷ [] → (o : ThreadNo) → o.0 ≢ t.0 → ledger s o ≡ ledger r o
ledger_older r s t new is same o other = ap (ledger_in o) same
    ∙ other_in o r.threads new (differs o t new.account.thread is other)

or_false_last : (b : Bool) → b || false ≡ b
or_false_last true = refl
or_false_last false = refl

pub knows_newest : (r s : Recording) (t : ThreadNo) (new : Ledger) → new.account.thread ≡ t
    → s.threads ≡ r.threads ++ new ∷ [] → (o : ThreadNo) → knows s o ≡ knows r o || o.0 == t.0
knows_newest r s t new is same o =
    ap (list_any (is_ledger_of o)) same ∙ list_any-append (is_ledger_of o) r.threads (new ∷ [])
    ∙ ap (λ b. list_any (is_ledger_of o) r.threads || b) (or_false_last (is_ledger_of o new) ∙ ap (λ (u : ThreadNo). o.0 == u.0) is)

-- places of mapped lists
prefix_map : {X Y : Type 0} (p : Y → Bool) (f : X → Y) (xs : List X)
    → prefix_len p (map f xs) ≡ prefix_len (λ x. p (f x)) xs
prefix_map p f [] = refl
prefix_map p f (x ∷ xs) = ap (λ n. cond (p (f x)) (1 + n) 0) (prefix_map p f xs)

pub position-map : {X Y : Type 0} (p : Y → Bool) (f : X → Y) (xs : List X)
    → position p (map f xs) ≡ position (λ x. p (f x)) xs
position-map p f xs = λ i. place_from (prefix_map (λ y. not (p y)) f xs i) (length-map xs f i)

pub any-map : {X Y : Type 0} (p : Y → Bool) (f : X → Y) (xs : List X)
    → list_any p (map f xs) ≡ list_any (λ x. p (f x)) xs
any-map p f [] = refl
any-map p f (x ∷ xs) = ap (λ b. p (f x) || b) (any-map p f xs)

-- One thread's account is replaced, at its place.
pub record IsUpdated (r s : Recording) (t : ThreadNo) (i : ℕ) (new : Ledger) : Type 0 where
  pub at : IsAt r t i
  pub thread : new.account.thread ≡ t
  pub threads : s.threads ≡ set r.threads i new

module _ (r s : Recording) (t : ThreadNo) (i : ℕ) (new : Ledger) (updated : IsUpdated r s t i new) where
  pub ledger_is_new : ledger s t ≡ new
  ledger_is_new = ledger_now r s t i new updated.at updated.thread updated.threads

  pub others_kept : (o : ThreadNo) → o.0 ≢ t.0 → ledger s o ≡ ledger r o
  others_kept = ledger_others r s t i new updated.at updated.thread updated.threads

  pub knows_kept : (o : ThreadNo) → knows s o ≡ knows r o
  knows_kept = knows_same r s t i new updated.at updated.thread updated.threads

  pub places_kept : (o : ThreadNo) → position (is_ledger_of o) s.threads ≡ position (is_ledger_of o) r.threads
  places_kept = places_same r s t i new updated.at updated.thread updated.threads

  abbrev Tells : ThreadNo → Type 0
  Tells o = ((o.0 == t.0 ≡ true) × (o.0 ≡ t.0)) ⊎ ((o.0 == t.0 ≡ false) × (o.0 ≢ t.0))

  pub accounts_kept : new.account ≡ (ledger r t).account → (o : ThreadNo) → (ledger s o).account ≡ (ledger r o).account
  accounts_kept same o = by (eqb_tells o.0 t.0)
    where
      by : Tells o → (ledger s o).account ≡ (ledger r o).account
      by (inl is) = subst (λ (u : ThreadNo). (ledger s u).account ≡ (ledger r u).account) (sym (same_thread o t is.1))
          (ap (λ (k : Ledger). k.account) ledger_is_new ∙ same)
      by (inr differs_) = ap (λ (k : Ledger). k.account) (others_kept o differs_.1)

  pub ready_kept : r.spare ≤ s.spare → (ledger r t).line_room ≤ new.line_room → (ledger r t).arc_room ≤ new.arc_room
      → (o : ThreadNo) → IsReady r o → IsReady s o
  ready_kept frames_ lines arcs o was = by (eqb_tells o.0 t.0)
    where
      own_ready : IsReady r t → IsReady s t
      own_ready was_ = record {
        frames = omega (arith, frames_, was_.frames);
        lines = omega (arith, lines, was_.lines, ap (λ (k : Ledger). k.line_room) ledger_is_new);
        arcs = omega (arith, arcs, was_.arcs, ap (λ (k : Ledger). k.arc_room) ledger_is_new);
      }

      by : Tells o → IsReady s o
      by (inl is) = subst (λ (u : ThreadNo). IsReady s u) (sym (same_thread o t is.1))
          (own_ready (subst (λ (u : ThreadNo). IsReady r u) (same_thread o t is.1) was))
      by (inr differs_) =
          let same = others_kept o differs_.1 in
          record {
            frames = omega (arith, frames_, was.frames);
            lines = omega (arith, was.lines, ap (λ (k : Ledger). k.line_room) same);
            arcs = omega (arith, was.arcs, ap (λ (k : Ledger). k.arc_room) same);
          }

  -- the live frames change by those of the thread
  pub live_kept : live s + live_in (ledger r t).account.frames ≡ live r + live_in (ledger s t).account.frames
  live_kept =
      let within = place_within r t i updated.at in
      let all = sum_by-set (λ (k : Ledger). live_in k.account.frames) r.threads i new (nobody t) within in
      let now = ap (sum_by (λ (k : Ledger). live_in k.account.frames)) updated.threads in
      let here = ap (λ (k : Ledger). live_in k.account.frames) (ledger_there r t i updated.at) in
      let there = ap (λ (k : Ledger). live_in k.account.frames) ledger_is_new in
      omega (arith, all, now, here, there)

-- a key that is there needs no room
pub known_room : (b : Bool) (now was : ℕ) → b ≡ true → now + (if b then 0 else 1) ≡ was → was ≤ now
known_room true now was there is = omega (arith, is)
known_room false now was there is = absurd (cc)

-- a thread that stands at a place of a list of different ones has that place
module _ (t : ThreadNo) where
  pub stands_there : (ts : List ThreadNo) (i : ℕ) → i < length ts → get_or ts i t ≡ t → slice_get ts i ≡ Some t
  stands_there [] i less is = absurd (omega (arith, less))
  stands_there (u ∷ ts) zero less is = ap Some is
  stands_there (u ∷ ts) (suc i) less is = stands_there ts i (omega (arith, less)) is

  apart_later : (u : ThreadNo) (ts : List ThreadNo) (i : ℕ) → slice_get ts i ≡ Some t
      → AllByRecursion (λ v. u.0 == v.0 ≡ false) ts → u.0 == t.0 ≡ false
  apart_later u [] i at all = absurd (none-some t at)
  apart_later u (v ∷ ts) zero at all = ap (λ (w : ThreadNo). u.0 == w.0) (sym (same_Some v t at)) ∙ all.0
  apart_later u (v ∷ ts) (suc i) at all = apart_later u ts i at all.1

  own_front : (ts : List ThreadNo) (i : ℕ) → slice_get ts i ≡ Some t → IsDistinct (λ u v. u.0 == v.0) ts
      → position_or_len (λ u. t.0 == u.0) ts ≡ i
  own_front [] i at apart = absurd (none-some t at)
  own_front (u ∷ ts) zero at apart =
      ap (λ b. cond (not b) (1 + position_or_len (λ u. t.0 == u.0) ts) 0)
      (ap (λ (v : ThreadNo). t.0 == v.0) (same_Some u t at) ∙ eq-eqb t.0 t.0 refl)
  own_front (u ∷ ts) (suc i) at apart =
      let head = IsDistinct-head (λ (v w : ThreadNo). v.0 == w.0) u ts apart in
      let tail = IsDistinct-tail (λ (v w : ThreadNo). v.0 == w.0) u ts apart in
      ap (λ b. cond (not b) (1 + position_or_len (λ u. t.0 == u.0) ts) 0)
      (nat_eq_equiv.symm t.0 u.0 ∙ apart_later u ts i at head)
      ∙ ap (λ n. 1 + n) (own_front ts i at tail) ∙ omega arith

  pub own_place : (ts : List ThreadNo) (i : ℕ) → slice_get ts i ≡ Some t → IsDistinct (λ u v. u.0 == v.0) ts
      → position (λ u. t.0 == u.0) ts ≡ Some i
  own_place ts i at apart =
      ap (λ n. place_from n (length ts)) (own_front ts i at apart)
      ∙ ap (λ b. cond b (Some i) None) (lt-ltb i (length ts) (slice_get_within ts i t at))

  pub own_there : (ts : List ThreadNo) (i : ℕ) → slice_get ts i ≡ Some t → list_any (λ u. t.0 == u.0) ts ≡ true
  own_there [] i at = absurd (none-some t at)
  own_there (u ∷ ts) zero at =
      ap (λ b. b || list_any (λ u. t.0 == u.0) ts)
      (ap (λ (v : ThreadNo). t.0 == v.0) (same_Some u t at) ∙ eq-eqb t.0 t.0 refl)
  own_there (u ∷ ts) (suc i) at = or_true (t.0 == u.0) (list_any (λ u. t.0 == u.0) ts) (own_there ts i at)
    where
      or_true : (a b : Bool) → b ≡ true → a || b ≡ true
      or_true true b is = refl
      or_true false b is = is
