-- What one more step makes of the waits of a trace.
use Rattle.std.proofs.Common.{◌≡◌, ℕ, ◌+◌, ◌≤◌, ◌==◌, ◌&&◌, Bool, true, false, not, cond, List, [], ◌∷◌, ◌++◌}
use Rattle.std.proofs.Common.{if◌then◌else◌, refl, sym, ap, ◌∙◌, arith, Option}
use Rattle.std.proofs.Common.{Some, None, is_some, count_by, sum_by, map}
use Rattle.std.proofs.Common.{length, find, option_map, slice_index}
use Rattle.std.specs.Option.{option_map_or}
use Rattle.std.proofs.lemmas.List.Sums.{sum_by-append, sum_by-cons}
use Rattle.event_costs.specs.declared.numbers.ThreadNo.{ThreadNo}
use Rattle.part_dump.specs.Steps.{Step, thread_of}
use Rattle.part_dump.specs.Watched.{is_woken, waits_after}
use Rattle.wait_report.specs.Rows.{cost_at, ended_at, is_at, open_at, waits_at}
use Rattle.wait_report.specs.Waits.{Wait, begun_wait, cost_of, is_ended_by, is_open, span, wait_of, waits_in, waker}
use Rattle.wait_report.specs.declared.books.Spot.{Spot}
use Rattle.wait_report.specs.inner.Lookups.{both, same_number}

-- ---- one more step of a wait

abbrev pub on_span : Bool → List Step → Step → List Step
on_span none xs x = if none then xs ++ x ∷ [] else xs

abbrev pub on_waker : Bool → ℕ → Option ℕ → Step → Option ℕ
on_waker none thread w x = if none then (if is_woken thread x then Some (thread_of x) else None) else w

abbrev pub on : Step → Wait → Wait
on x w = record {
  thread = w.thread;
  word = w.word;
  span = on_span (is_open w) w.span x;
  waker = on_waker (is_open w) w.thread w.waker x;
}

span_more : (thread : ℕ) (xs : List Step) (x : Step)
    → span thread (xs ++ x ∷ []) ≡ on_span (not (is_some (waker thread xs))) (span thread xs) x
span_more thread [] x = by (is_woken thread x)
  where
    by : (b : Bool) → (x ∷ (if b then [] else [])) ≡ x ∷ []
    by true = refl
    by false = refl
span_more thread (y ∷ ys) x = by (is_woken thread y) (span_more thread ys x)
  where
    by : (b : Bool) → span thread (ys ++ x ∷ []) ≡ on_span (not (is_some (waker thread ys))) (span thread ys) x
        → (y ∷ (if b then [] else span thread (ys ++ x ∷ [])))
        ≡ on_span (not (is_some (option_map thread_of (if b then Some y else find (is_woken thread) ys))))
        (y ∷ (if b then [] else span thread ys)) x
    by true rest = refl
    by false rest = ap (λ zs. y ∷ zs) rest ∙ under (not (is_some (waker thread ys)))
      where
        under : (none : Bool) → (y ∷ on_span none (span thread ys) x) ≡ on_span none (y ∷ span thread ys) x
        under true = refl
        under false = refl

waker_more : (thread : ℕ) (xs : List Step) (x : Step)
    → waker thread (xs ++ x ∷ []) ≡ on_waker (not (is_some (waker thread xs))) thread (waker thread xs) x
waker_more thread [] x = by (is_woken thread x)
  where
    by : (b : Bool) → option_map thread_of (if b then Some x else None) ≡ (if b then Some (thread_of x) else None)
    by true = refl
    by false = refl
waker_more thread (y ∷ ys) x = by (is_woken thread y) (waker_more thread ys x)
  where
    by : (b : Bool)
        → waker thread (ys ++ x ∷ []) ≡ on_waker (not (is_some (waker thread ys))) thread (waker thread ys) x
        → option_map thread_of (if b then Some y else find (is_woken thread) (ys ++ x ∷ []))
        ≡ on_waker (not (is_some (option_map thread_of (if b then Some y else find (is_woken thread) ys)))) thread
        (option_map thread_of (if b then Some y else find (is_woken thread) ys)) x
    by true rest = refl
    by false rest = rest

wait : ℕ → ℕ → List Step → Option ℕ → Wait
wait thread word span_ waker_ = record { thread = thread; word = word; span = span_; waker = waker_ }

begun_more : (word : Option ℕ) (thread : ℕ) (ys : List Step) (x : Step)
    → begun_wait word thread (ys ++ x ∷ []) ≡ map (on x) (begun_wait word thread ys)
unfolding wait
begun_more None thread ys x = refl
begun_more (Some word) thread ys x =
    λ i. wait thread word (span_more thread ys x i) (waker_more thread ys x i) ∷ []

map_both : {A B : Type 0} (f : A → B) (xs ys : List A) → map f (xs ++ ys) ≡ map f xs ++ map f ys
map_both f [] ys = refl
map_both f (x ∷ xs) ys = ap (λ zs. f x ∷ zs) (map_both f xs ys)

append_three : {A : Type 0} (xs ys zs : List A) → (xs ++ ys) ++ zs ≡ xs ++ (ys ++ zs)
append_three [] ys zs = refl
append_three (x ∷ xs) ys zs = ap (λ r. x ∷ r) (append_three xs ys zs)

append_none : {A : Type 0} (xs : List A) → xs ++ [] ≡ xs
append_none [] = refl
append_none (x ∷ xs) = ap (λ r. x ∷ r) (append_none xs)

-- the waits, once a step more is there: each open wait goes on with it, and one may begin
pub waits_more : (xs : List Step) (x : Step)
    → waits_in (xs ++ x ∷ []) ≡ map (on x) (waits_in xs) ++ begun_wait x.wait (thread_of x) []
waits_more [] x = append_none (begun_wait x.wait (thread_of x) [])
waits_more (y ∷ ys) x =
    (λ i. begun_more y.wait (thread_of y) ys x i ++ waits_more ys x i)
    ∙ sym (append_three (map (on x) (begun_wait y.wait (thread_of y) ys)) (map (on x) (waits_in ys))
    (begun_wait x.wait (thread_of x) []))
    ∙ ap (λ zs. zs ++ begun_wait x.wait (thread_of x) [])
    (sym (map_both (on x) (begun_wait y.wait (thread_of y) ys) (waits_in ys)))

-- ---- sums over waits

sum_map : {A B : Type 0} (g : B → ℕ) (f : A → B) (xs : List A) → sum_by g (map f xs) ≡ sum_by (λ x. g (f x)) xs
sum_map g f [] = refl
sum_map g f (x ∷ xs) =
    sum_by-cons g (f x) (map f xs) ∙ ap (λ n. g (f x) + n) (sum_map g f xs)
    ∙ sym (sum_by-cons (λ y. g (f y)) x xs)

pub sum_plus : {A : Type 0} (f g : A → ℕ) (xs : List A) → sum_by (λ x. f x + g x) xs ≡ sum_by f xs + sum_by g xs
sum_plus f g [] = omega arith
sum_plus f g (x ∷ xs) =
    omega (arith, sum_by-cons f x xs, sum_by-cons g x xs, sum_by-cons (λ y. f y + g y) x xs, sum_plus f g xs)

pub sum_none : {A : Type 0} (xs : List A) → sum_by (λ x. 0) xs ≡ 0
sum_none [] = refl
sum_none (x ∷ xs) = omega (arith, sum_by-cons (λ y. 0) x xs, sum_none xs)

sum_if : {A : Type 0} (b : Bool) (f : A → ℕ) (xs : List A)
    → sum_by (λ x. if b then f x else 0) xs ≡ (if b then sum_by f xs else 0)
sum_if true f xs = refl
sum_if false f xs = sum_none xs

-- a number of each of the waits after one more step
number_more : (g : Wait → ℕ) (xs : List Step) (x : Step)
    → sum_by g (waits_in (xs ++ x ∷ []))
    ≡ sum_by (λ w. g (on x w)) (waits_in xs) + sum_by g (begun_wait x.wait (thread_of x) [])
number_more g xs x =
    ap (sum_by g) (waits_more xs x) ∙ sum_by-append g (map (on x) (waits_in xs)) (begun_wait x.wait (thread_of x) [])
    ∙ ap (λ n. n + sum_by g (begun_wait x.wait (thread_of x) [])) (sum_map g (on x) (waits_in xs))

abbrev pub one : Bool → ℕ
one b = cond b 1 0

pub waits_at_more : (s : Spot) (xs : List Step) (x : Step)
    → waits_at s (xs ++ x ∷ []) ≡ waits_at s xs + waits_at s (x ∷ [])
waits_at_more s xs x =
    number_more (λ w. one (is_at s w)) xs x
    ∙ ap (λ n. waits_at s xs + n) (ap (λ ws. count_by (is_at s) ws) (sym (append_none (begun_wait x.wait (thread_of x) []))))

-- which thread a wait at a spot is of
at_thread : (s : Spot) (w : Wait) → is_at s w ≡ true → s.thread.0 ≡ w.thread
at_thread s w e = same_number s.thread.0 w.thread (both (s.thread.0 == w.thread) (s.word == w.word) e).0

open_share : (s : Spot) (x : Step) (w : Wait)
    → one (is_at s w && is_open (on x w))
    ≡ (if not (is_woken s.thread.0 x) then one (is_at s w && is_open w) else 0)
open_share s x w = by (is_at s w) refl (is_some w.waker) refl
  where
    woken : is_at s w ≡ true → is_woken w.thread x ≡ is_woken s.thread.0 x
    woken e = ap (λ t. is_woken t x) (sym (at_thread s w e))

    flip : (b : Bool) → one (not (is_some (if b then Some (thread_of x) else None))) ≡ (if not b then 1 else 0)
    flip true = refl
    flip false = refl

    none : (b : Bool) → one false ≡ (if not b then one false else 0)
    none true = refl
    none false = refl

    by : (a : Bool) → is_at s w ≡ a → (c : Bool) → is_some w.waker ≡ c
        → one (a && not (is_some (on_waker (not c) w.thread w.waker x)))
        ≡ (if not (is_woken s.thread.0 x) then one (a && not c) else 0)
    by true e false f = flip (is_woken w.thread x) ∙ ap (λ b. if not b then 1 else 0) (woken e)
    by true e true f = ap (λ b. one (not b)) f ∙ none (is_woken s.thread.0 x)
    by false e c f = none (is_woken s.thread.0 x)

pub open_at_more : (s : Spot) (xs : List Step) (x : Step)
    → open_at s (xs ++ x ∷ [])
    ≡ (if not (is_woken s.thread.0 x) then open_at s xs else 0) + open_at s (x ∷ [])
open_at_more s xs x =
    let q : Wait → ℕ = λ w. one (is_at s w && is_open w) in
    let last = sym (append_none (begun_wait x.wait (thread_of x) [])) in
    number_more q xs x
    ∙ (λ i. sum_by (λ w. open_share s x w i) (waits_in xs) + sum_by q (last i))
    ∙ ap (λ n. n + open_at s (x ∷ [])) (sum_if (not (is_woken s.thread.0 x)) q (waits_in xs))

ended_share : (s : Spot) (u : ThreadNo) (x : Step) (w : Wait)
    → one (is_at s w && is_ended_by u.0 (on x w))
    ≡ one (is_at s w && is_ended_by u.0 w)
    + (if is_woken s.thread.0 x && thread_of x == u.0 then one (is_at s w && is_open w) else 0)
ended_share s u x w = by (is_at s w) refl w.waker refl
  where
    woken : is_at s w ≡ true → is_woken w.thread x ≡ is_woken s.thread.0 x
    woken e = ap (λ t. is_woken t x) (sym (at_thread s w e))

    first : (b : Bool)
        → one (option_map_or (λ t. t == u.0) (if b then Some (thread_of x) else None) false)
        ≡ 0 + (if b && thread_of x == u.0 then 1 else 0)
    first false = refl
    first true = same (thread_of x == u.0)
      where
        same : (c : Bool) → one c ≡ 0 + (if c then 1 else 0)
        same true = refl
        same false = refl

    none : (n : ℕ) (b : Bool) → n ≡ n + (if b then 0 else 0)
    none n true = omega arith
    none n false = omega arith

    by : (a : Bool) → is_at s w ≡ a → (k : Option ℕ) → w.waker ≡ k
        → one (a && option_map_or (λ t. t == u.0) (on_waker (not (is_some k)) w.thread k x) false)
        ≡ one (a && option_map_or (λ t. t == u.0) k false)
        + (if is_woken s.thread.0 x && thread_of x == u.0 then one (a && not (is_some k)) else 0)
    by true e None f =
        first (is_woken w.thread x) ∙ ap (λ b. 0 + (if b && thread_of x == u.0 then 1 else 0)) (woken e)
    by true e (Some t) f = none (one (t == u.0)) (is_woken s.thread.0 x && thread_of x == u.0)
    by false e k f = none 0 (is_woken s.thread.0 x && thread_of x == u.0)

none_ended : (s : Spot) (u : ThreadNo) (word : Option ℕ) (thread : ℕ)
    → count_by (λ w. is_at s w && is_ended_by u.0 w) (begun_wait word thread []) ≡ 0
none_ended s u None thread = refl
none_ended s u (Some word) thread = by (is_at s (wait_of thread [] word))
  where
    by : (b : Bool) → 0 + one (b && false) ≡ 0
    by true = refl
    by false = refl

pub ended_at_more : (s : Spot) (u : ThreadNo) (xs : List Step) (x : Step)
    → ended_at s u (xs ++ x ∷ [])
    ≡ ended_at s u xs + (if is_woken s.thread.0 x && thread_of x == u.0 then open_at s xs else 0)
ended_at_more s u xs x =
    let c = is_woken s.thread.0 x && thread_of x == u.0 in
    let p : Wait → ℕ = λ w. one (is_at s w && is_ended_by u.0 w) in
    let q : Wait → ℕ = λ w. one (is_at s w && is_open w) in
    let more = number_more p xs x in
    let shares : sum_by (λ w. p (on x w)) (waits_in xs) ≡ sum_by (λ w. p w + (if c then q w else 0)) (waits_in xs) =
    λ i. sum_by (λ w. ended_share s u x w i) (waits_in xs) in
    let split = sum_plus p (λ w. if c then q w else 0) (waits_in xs) in
    let rest = sum_if c q (waits_in xs) in
    let none = none_ended s u x.wait (thread_of x) in
    more ∙ (λ i. shares i + none i) ∙ plus_none (sum_by (λ w. p w + (if c then q w else 0)) (waits_in xs))
    ∙ split ∙ ap (λ n. sum_by p (waits_in xs) + n) rest
  where
    plus_none : (n : ℕ) → n + 0 ≡ n
    plus_none n = omega arith

-- ---- costs

pub cost_of_more : (kind : ℕ) (xs : List Step) (x : Step)
    → cost_of kind (xs ++ x ∷ []) ≡ cost_of kind xs + cost_of kind (x ∷ [])
cost_of_more kind xs x = sum_by-append (λ (y : Step). slice_index y.on_stack.cost kind) xs (x ∷ [])

cost_share : (kind : ℕ) (s : Spot) (x : Step) (w : Wait)
    → (if is_at s w then cost_of kind (on_span (is_open w) w.span x) else 0)
    ≡ (if is_at s w then cost_of kind w.span else 0)
    + (if is_at s w && is_open w then cost_of kind (x ∷ []) else 0)
cost_share kind s x w = by (is_at s w) (is_open w)
  where
    same : (n : ℕ) → n ≡ n + 0
    same n = omega arith

    by : (a o : Bool)
        → (if a then cost_of kind (on_span o w.span x) else 0)
        ≡ (if a then cost_of kind w.span else 0) + (if a && o then cost_of kind (x ∷ []) else 0)
    by true true = cost_of_more kind w.span x
    by true false = same (cost_of kind w.span)
    by false o = refl

none_cost : (kind : ℕ) (s : Spot) (word : Option ℕ) (thread : ℕ)
    → sum_by (λ w. if is_at s w then cost_of kind w.span else 0) (begun_wait word thread []) ≡ 0
none_cost kind s None thread = refl
none_cost kind s (Some word) thread = by (is_at s (wait_of thread [] word))
  where
    by : (b : Bool) → 0 + (if b then 0 else 0) ≡ 0
    by true = refl
    by false = refl

-- the cost of a step for each open wait
share_none : {A : Type 0} (p : A → Bool) (c : ℕ) (xs : List A) → count_by p xs ≡ 0
    → sum_by (λ x. if p x then c else 0) xs ≡ 0
share_none p c [] e = refl
share_none p c (x ∷ xs) e = by (p x) refl (λ none. share_none p c xs none)
  where
    first : count_by p (x ∷ xs) ≡ one (p x) + count_by p xs
    first = sum_by-cons (λ y. one (p y)) x xs

    all : sum_by (λ y. if p y then c else 0) (x ∷ xs)
        ≡ (if p x then c else 0) + sum_by (λ y. if p y then c else 0) xs
    all = sum_by-cons (λ y. if p y then c else 0) x xs

    by : (b : Bool) → p x ≡ b
        → (count_by p xs ≡ 0 → sum_by (λ y. if p y then c else 0) xs ≡ 0)
        → sum_by (λ y. if p y then c else 0) (x ∷ xs) ≡ 0
    by true f rest = absurd (omega (arith, first, ap one f, e))
    by false f rest =
        omega (arith, all, ap (λ b. if b then c else 0) f, rest (omega (arith, first, ap one f, e)))

share_one : {A : Type 0} (p : A → Bool) (c : ℕ) (xs : List A) → count_by p xs ≡ 1
    → sum_by (λ x. if p x then c else 0) xs ≡ c
share_one p c [] e = absurd (omega (arith, e))
share_one p c (x ∷ xs) e = by (p x) refl (λ is. share_one p c xs is)
  where
    first : count_by p (x ∷ xs) ≡ one (p x) + count_by p xs
    first = sum_by-cons (λ y. one (p y)) x xs

    all : sum_by (λ y. if p y then c else 0) (x ∷ xs)
        ≡ (if p x then c else 0) + sum_by (λ y. if p y then c else 0) xs
    all = sum_by-cons (λ y. if p y then c else 0) x xs

    by : (b : Bool) → p x ≡ b
        → (count_by p xs ≡ 1 → sum_by (λ y. if p y then c else 0) xs ≡ c)
        → sum_by (λ y. if p y then c else 0) (x ∷ xs) ≡ c
    by true f rest =
        omega (
          arith,
          all,
          ap (λ b. if b then c else 0) f,
          share_none p c xs (omega (arith, first, ap one f, e)),
        )
    by false f rest =
        omega (arith, all, ap (λ b. if b then c else 0) f, rest (omega (arith, first, ap one f, e)))

pub cost_at_any : (kind : ℕ) (s : Spot) (xs : List Step) (x : Step)
    → cost_at kind s (xs ++ x ∷ [])
    ≡ cost_at kind s xs
    + sum_by (λ w. if is_at s w && is_open w then cost_of kind (x ∷ []) else 0) (waits_in xs)
cost_at_any kind s xs x =
    let g : Wait → ℕ = λ w. if is_at s w then cost_of kind w.span else 0 in
    let h : Wait → ℕ = λ w. if is_at s w && is_open w then cost_of kind (x ∷ []) else 0 in
    let more = number_more g xs x in
    let shares : sum_by (λ w. g (on x w)) (waits_in xs) ≡ sum_by (λ w. g w + h w) (waits_in xs) =
    λ i. sum_by (λ w. cost_share kind s x w i) (waits_in xs) in
    let split = sum_plus g h (waits_in xs) in
    let none = none_cost kind s x.wait (thread_of x) in
    omega (arith, more, shares, split, none)

pub cost_at_none : (kind : ℕ) (s : Spot) (xs : List Step) (x : Step) → open_at s xs ≡ 0
    → cost_at kind s (xs ++ x ∷ []) ≡ cost_at kind s xs
cost_at_none kind s xs x e =
    omega (
      arith,
      cost_at_any kind s xs x,
      share_none (λ w. is_at s w && is_open w) (cost_of kind (x ∷ [])) (waits_in xs) e,
    )

pub cost_at_one : (kind : ℕ) (s : Spot) (xs : List Step) (x : Step) → open_at s xs ≡ 1
    → cost_at kind s (xs ++ x ∷ []) ≡ cost_at kind s xs + cost_of kind (x ∷ [])
cost_at_one kind s xs x e =
    omega (
      arith,
      cost_at_any kind s xs x,
      share_one (λ w. is_at s w && is_open w) (cost_of kind (x ∷ [])) (waits_in xs) e,
    )

-- ---- bounds

count_below : {A : Type 0} (p q : A → Bool) (xs : List A) → count_by (λ x. p x && q x) xs ≤ count_by p xs
count_below p q [] = omega arith
count_below p q (x ∷ xs) =
    let here = by (p x) (q x) in
    omega (
      arith,
      sum_by-cons (λ y. one (p y && q y)) x xs,
      sum_by-cons (λ y. one (p y)) x xs,
      here,
      count_below p q xs,
    )
  where
    by : (a b : Bool) → one (a && b) ≤ one a
    by true true = omega arith
    by true false = omega arith
    by false b = omega arith

pub open_below : (s : Spot) (xs : List Step) → open_at s xs ≤ waits_at s xs
open_below s xs = count_below (is_at s) is_open (waits_in xs)

pub ended_below : (s : Spot) (u : ThreadNo) (xs : List Step) → ended_at s u xs ≤ waits_at s xs
ended_below s u xs = count_below (is_at s) (is_ended_by u.0) (waits_in xs)

begun_below : (s : Spot) (word : Option ℕ) (thread : ℕ) (later : List Step)
    → count_by (is_at s) (begun_wait word thread later) ≤ 1
begun_below s None thread later = omega arith
begun_below s (Some word) thread later = by (is_at s (wait_of thread later word))
  where
    by : (b : Bool) → 0 + one b ≤ 1
    by true = omega arith
    by false = omega arith

pub waits_below : (s : Spot) (xs : List Step) → waits_at s xs ≤ length xs
waits_below s [] = omega arith
waits_below s (x ∷ xs) =
    omega (
      arith,
      sum_by-append (λ w. one (is_at s w)) (begun_wait x.wait (thread_of x) xs) (waits_in xs),
      begun_below s x.wait (thread_of x) xs,
      waits_below s xs,
    )

-- ---- who waits

pub waits_after_more : (thread : ℕ) (before : Bool) (xs : List Step) (x : Step)
    → waits_after thread before (xs ++ x ∷ [])
    ≡ (if thread_of x == thread then is_some x.wait
    else (waits_after thread before xs && not (is_woken thread x)))
waits_after_more thread before [] x = refl
waits_after_more thread before (y ∷ ys) x =
    waits_after_more thread
    (if thread_of y == thread then is_some y.wait else (before && not (is_woken thread y))) ys x
