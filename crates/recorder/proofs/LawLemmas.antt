-- Sums over segments and threads, and what one thread's events decide.
use Rattle.std.proofs.Common.{◌≡◌, ◌≢◌, ◌⊎◌, inl, inr, ℕ, zero, suc, ◌+◌, ◌==◌, Bool, true, false, cond, List, [], ◌∷◌}
use Rattle.std.proofs.Common.{◌++◌, take, drop, map, sum_by, refl, sym, ap, subst, ◌∙◌, arith}
use Rattle.std.proofs.lemmas.Bool.{eq-eqb}
use Rattle.std.proofs.lemmas.Bool.Decides.{eqb_tells, nat_tests}
use Rattle.std.proofs.lemmas.List.{append-nil, take-append-drop}
use Rattle.std.proofs.lemmas.List.Elements.{filter-append}
use Rattle.std.proofs.lemmas.List.Sums.{sum_by-append, sum_by-cons}
use Rattle.event_costs.specs.declared.event.Event.{Event}
use Rattle.event_costs.specs.declared.numbers.ThreadNo.{ThreadNo}
use Rattle.sym_map.specs.SymbolMap.{SymbolMap}
use Rattle.shadow_stack.specs.Traces.{CountedEvent, is_by, events_by, EventOnStack, events_on_stacks, event_on_stack_after, events_on_stacks_from, stack_of}
use Rattle.recorder.specs.Laws.{AreApart, AreOf, IsIn, sum_over_all, counted_events_by, pieces}
use Rattle.recorder.specs.Sums.{of_thread}
use Rattle.recorder.proofs.RecordingLemmas.{same_thread}

-- a number that counts for one thread alone
abbrev share : EventOnStack → ℕ → ThreadNo → ℕ
share x n t = cond (x.event.thread.0 == t.0) n 0

share_of : (x : EventOnStack) (n : ℕ) (t : ThreadNo) → t.0 ≡ x.event.thread.0 → share x n t ≡ n
share_of x n t is = ap (λ b. cond b n 0) (eq-eqb x.event.thread.0 t.0 (sym is))

share_none : (x : EventOnStack) (n : ℕ) (t : ThreadNo) → t.0 ≢ x.event.thread.0 → share x n t ≡ 0
share_none x n t differs = by (eqb_tells x.event.thread.0 t.0)
  where
    by : ((x.event.thread.0 == t.0 ≡ true) × (x.event.thread.0 ≡ t.0))
        ⊎ ((x.event.thread.0 == t.0 ≡ false) × (x.event.thread.0 ≢ t.0)) → share x n t ≡ 0
    by (inl same) = absurd (differs (sym same.1))
    by (inr apart) = ap (λ b. cond b n 0) apart.0

none_shared : (x : EventOnStack) (n : ℕ) (ts : List ThreadNo) → ((t : ThreadNo) → IsIn ts t → t.0 ≢ x.event.thread.0)
    → sum_by (share x n) ts ≡ 0
none_shared x n [] apart = refl
none_shared x n (t ∷ ts) apart =
    let all = sum_by-cons (share x n) t ts in
    let here = share_none x n t (apart t (inl refl)) in
    let rest = none_shared x n ts (λ other inside. apart other (inr inside)) in
    omega (arith, all, here, rest)

shared_once : (x : EventOnStack) (n : ℕ) (ts : List ThreadNo) → AreApart ts → (t : ThreadNo) → IsIn ts t
    → t.0 ≡ x.event.thread.0 → sum_by (share x n) ts ≡ n
shared_once x n [] apart t inside is = absurd inside
shared_once x n (u ∷ ts) apart t (inl same) is =
    let all = sum_by-cons (share x n) u ts in
    let own_thread : u.0 ≡ x.event.thread.0 = ap (λ (v : ThreadNo). v.0) same ∙ is in
    let here = share_of x n u own_thread in
    let rest = none_shared x n ts (λ other inside_ equal. apart.0 other inside_ (own_thread ∙ sym equal)) in
    omega (arith, all, here, rest)
shared_once x n (u ∷ ts) apart t (inr inside) is =
    let all = sum_by-cons (share x n) u ts in
    let here = share_none x n u (λ equal. apart.0 t inside (equal ∙ sym is)) in
    let rest = shared_once x n ts apart.1 t inside is in
    omega (arith, all, here, rest)

module _ (f : EventOnStack → ℕ) where
  abbrev of_one : List EventOnStack → ThreadNo → ℕ
  of_one xs t = sum_by f (of_thread t xs)

  one_kept : (b : Bool) (x : EventOnStack) (ys : List EventOnStack) → sum_by f (cond b (x ∷ ys) ys) ≡ cond b (f x) 0 + sum_by f ys
  one_kept true x ys = sum_by-cons f x ys
  one_kept false x ys = omega arith

  each_thread : (x : EventOnStack) (xs : List EventOnStack) (ts : List ThreadNo)
      → sum_by (of_one (x ∷ xs)) ts ≡ sum_by (share x (f x)) ts + sum_by (of_one xs) ts
  each_thread x xs [] = refl
  each_thread x xs (t ∷ ts) =
      let all = sum_by-cons (of_one (x ∷ xs)) t ts in
      let shares = sum_by-cons (share x (f x)) t ts in
      let rests = sum_by-cons (of_one xs) t ts in
      let here = one_kept (x.event.thread.0 == t.0) x (of_thread t xs) in
      let rest = each_thread x xs ts in
      omega (arith, all, shares, rests, here, rest)

  no_events : (ts : List ThreadNo) → sum_by (of_one []) ts ≡ 0
  no_events [] = refl
  no_events (t ∷ ts) = let all = sum_by-cons (of_one []) t ts in let rest = no_events ts in omega (arith, all, rest)

  pub over_threads : (ts : List ThreadNo) (xs : List EventOnStack) → AreApart ts → AreOf ts xs
      → sum_by (of_one xs) ts ≡ sum_by f xs
  over_threads ts [] apart inside = no_events ts
  over_threads ts (x ∷ xs) apart inside =
      let parts = each_thread x xs ts in
      let here = shared_once x (f x) ts apart inside.0.0 inside.0.1 inside.0.2 in
      let rest = over_threads ts xs apart inside.1 in
      let all = sum_by-cons f x xs in
      omega (arith, parts, here, rest, all)

  of_front : (ts : List ThreadNo) (n : ℕ) (xs : List EventOnStack) → AreOf ts xs → AreOf ts (take n xs) × AreOf ts (drop n xs)
  of_front ts zero xs inside = (tt, inside)
  of_front ts (suc n) [] inside = (tt, tt)
  of_front ts (suc n) (x ∷ xs) inside = let rest = of_front ts n xs inside.1 in ((inside.0, rest.0), rest.1)

  -- over all segments and threads
  pub over_everything : (ts : List ThreadNo) (cuts : List ℕ) (xs : List EventOnStack) → AreApart ts → AreOf ts xs
      → sum_over_all (sum_by f) ts (pieces cuts xs) ≡ sum_by f xs
  over_everything ts [] xs apart inside = let all = sum_by-cons (λ segment. sum_by (of_one segment) ts) xs [] in
      let here = over_threads ts xs apart inside in omega (arith, all, here)
  over_everything ts (n ∷ cuts) xs apart inside =
      let all = sum_by-cons (λ segment. sum_by (of_one segment) ts) (take n xs) (pieces cuts (drop n xs)) in
      let parts = of_front ts n xs inside in
      let here = over_threads ts (take n xs) apart parts.0 in
      let rest = over_everything ts cuts (drop n xs) apart parts.1 in
      let both : sum_by f (take n xs) + sum_by f (drop n xs) ≡ sum_by f xs
      = sym (sum_by-append f (take n xs) (drop n xs)) ∙ ap (sum_by f) (take-append-drop n xs) in
      omega (arith, all, here, rest, both)

-- One thread's events, each with its stack, from its own events alone.
abbrev pub events_in : List CountedEvent → List Event
events_in xs = map (λ x. x.event) xs

abbrev pub seen_alone : SymbolMap → List CountedEvent → List CountedEvent → List EventOnStack
seen_alone syms earlier [] = []
seen_alone syms earlier (x ∷ xs) = record {
  event = x.event;
  cost = x.cost;
  stack = stack_of syms (events_in earlier) x.event.done.pc;
} ∷ seen_alone syms (earlier ++ x ∷ []) xs

one_more_own : (t : ThreadNo) (earlier : List CountedEvent) (x : CountedEvent) (b : Bool) → is_by t x ≡ b
    → counted_events_by t (earlier ++ x ∷ []) ≡ counted_events_by t earlier ++ cond b (x ∷ []) []
one_more_own t earlier x b is = filter-append (is_by t) earlier (x ∷ [])
    ∙ ap (λ c. counted_events_by t earlier ++ cond c (x ∷ []) []) is

alone_from : (syms : SymbolMap) (t : ThreadNo) (earlier xs : List CountedEvent)
    → of_thread t (events_on_stacks_from syms earlier xs) ≡ seen_alone syms (counted_events_by t earlier) (counted_events_by t xs)
alone_from syms t earlier [] = refl
alone_from syms t earlier (x ∷ xs) = by (is_by t x) refl (alone_from syms t (earlier ++ x ∷ []) xs)
  where
    Goal : Bool → Type 0
    Goal b = cond b (event_on_stack_after syms earlier x ∷ of_thread t (events_on_stacks_from syms (earlier ++ x ∷ []) xs))
        (of_thread t (events_on_stacks_from syms (earlier ++ x ∷ []) xs))
        ≡ seen_alone syms (counted_events_by t earlier) (cond b (x ∷ counted_events_by t xs) (counted_events_by t xs))

    mine : is_by t x ≡ true → x.event.thread ≡ t
    mine is = same_thread x.event.thread t (grind (arith, nat_tests))

    by : (b : Bool) → is_by t x ≡ b → of_thread t (events_on_stacks_from syms (earlier ++ x ∷ []) xs)
        ≡ seen_alone syms (counted_events_by t (earlier ++ x ∷ [])) (counted_events_by t xs)
        → cond (is_by t x) (event_on_stack_after syms earlier x ∷ of_thread t (events_on_stacks_from syms (earlier ++ x ∷ []) xs))
        (of_thread t (events_on_stacks_from syms (earlier ++ x ∷ []) xs))
        ≡ seen_alone syms (counted_events_by t earlier) (cond (is_by t x) (x ∷ counted_events_by t xs) (counted_events_by t xs))
    by true is rest =
        subst Goal (sym is)
        (ap (λ (ys : List EventOnStack). event_on_stack_after syms earlier x ∷ ys)
        (rest ∙ ap (λ (es : List CountedEvent). seen_alone syms es (counted_events_by t xs)) (one_more_own t earlier x true is))
        ∙ ap (λ (u : ThreadNo). record {
          event = x.event;
          cost = x.cost;
          stack = stack_of syms (events_by u earlier) x.event.done.pc;
        } ∷ seen_alone syms (counted_events_by t earlier ++ x ∷ []) (counted_events_by t xs)) (mine is))
    by false is rest =
        subst Goal (sym is)
        (rest ∙ ap (λ (es : List CountedEvent). seen_alone syms es (counted_events_by t xs))
        (one_more_own t earlier x false is ∙ append-nil (counted_events_by t earlier)))

pub alone : (syms : SymbolMap) (t : ThreadNo) (xs : List CountedEvent)
    → of_thread t (events_on_stacks syms xs) ≡ seen_alone syms [] (counted_events_by t xs)
alone syms t xs = alone_from syms t [] xs

pub same_alone : (syms : SymbolMap) (t : ThreadNo) (xs ys : List CountedEvent) → counted_events_by t xs ≡ counted_events_by t ys
    → of_thread t (events_on_stacks syms xs) ≡ of_thread t (events_on_stacks syms ys)
same_alone syms t xs ys same = alone syms t xs ∙ ap (seen_alone syms []) same ∙ sym (alone syms t ys)
