-- What holds of a pass when a function is taken from the list of work, entered or joined.
use Rattle.std.proofs.Common.{◌≡◌, ◌≢◌, ◌⊎◌, ◌↔◌, ℕ, zero, suc, ◌+◌, ◌-◌, ◌<◌, ◌≤◌, List, [], ◌∷◌, ◌++◌, length, get_or}
use Rattle.std.proofs.Common.{set, replicate, Option, None, Some, Contains, refl, sym, ap, subst, ◌∙◌, inl, inr, arith}
use Rattle.std.proofs.lemmas.List.{get_or_append_left, get_or-append_right, get_or_push, length_push, length-append}
use Rattle.std.proofs.lemmas.List.{length-set, length-replicate, get_or-replicate}
use Rattle.std.proofs.lemmas.List.Elements.{Contains-get_or}
use Rattle.std.proofs.lemmas.Bool.{cases_lt}
use Rattle.call_graph.specs.Reach.{Reach, one, SameGroup}
use Rattle.call_graph.specs.inner.Pass.{unmet_weight, mark, start, height, IsStart, Waits, IsTaken, Leads, IsMark, IsPass}
use Rattle.call_graph.specs.declared.visit_state.Mark.{Mark}
use Rattle.call_graph.proofs.RankLemmas.{write_cases, unmet_weight-set_new}
use Rattle.call_graph.proofs.ReachLemmas.{leads_after, reach_from, leads_at, reach_at}

abbrev pub at : List ℕ → ℕ → ℕ
at xs k = get_or xs k 0

module _ {n : ℕ} {Step : ℕ → ℕ → Type 0} {taken : Option ℕ} {rank path work : List ℕ} {marks : List Mark} {count : ℕ}
    (pass : IsPass n Step taken rank path work marks count) where
  pub rising_le : (j k : ℕ) → j ≤ k → k < length marks
      → (start marks j ≤ start marks k) × (height marks j ≤ height marks k)
  rising_le j k le lt = elim (cases_lt j k) [
    | inl less ↦ (omega (arith, (pass.rising j k less lt).0), (pass.rising j k less lt).1)
    | inr more ↦ let e : j ≡ k = omega arith in
        subst (λ i. (start marks i ≤ start marks k) × (height marks i ≤ height marks k)) (sym e)
        (omega arith, omega arith)
  ]

  -- from the last mark on each function leads to the mark's first
  chain : (d q : ℕ) → q ≡ start marks (length marks - 1) + d → 0 < length marks → q < length path
      → Leads Step (at path q) (at path (start marks (length marks - 1)))
  chain zero q e some lt = inl (ap (at path) (omega arith))
  chain (suc d) q e some lt = by_back (pass.back q lt)
      (λ before. chain d (q - 1) (omega arith) some (omega arith))
    where
      by_back : IsStart marks q ⊎ ((0 < q) × Leads Step (at path q) (at path (q - 1)))
          → ((0 < q) → Leads Step (at path (q - 1)) (at path (start marks (length marks - 1))))
          → Leads Step (at path q) (at path (start marks (length marks - 1)))
      by_back (inl (k, kt, is)) then =
          absurd (omega (arith, is, (rising_le k (length marks - 1) (omega arith) (omega arith)).0))
      by_back (inr (before, leads)) then = leads_after leads (then before)

  pub to_start : (q : ℕ) → 0 < length marks → start marks (length marks - 1) ≤ q → q < length path
      → Leads Step (at path q) (at path (start marks (length marks - 1)))
  to_start q some le lt = chain (q - start marks (length marks - 1)) q (omega arith) some lt

-- A function is taken from the list of work.
module _ {n : ℕ} {Step : ℕ → ℕ → Type 0} {rank path : List ℕ} {marks : List Mark} {count : ℕ} (rest : List ℕ) (f : ℕ)
    (pass : IsPass n Step None rank path (rest ++ f ∷ []) marks count) (some : 0 < length marks)
    (high : height marks (length marks - 1) ≤ length rest) where
  still : {h s g : ℕ} → (s < at rank g) ⊎ (Waits (rest ++ f ∷ []) h g ⊎ IsTaken None g)
      → (s < at rank g) ⊎ (Waits rest h g ⊎ IsTaken (Some f) g)
  still (inl up) = inl up
  still {h = h} {g = g} (inr (inl (j, le, lt, is))) = elim (cases_lt j (length rest)) [
    | inl less ↦ inr (inl (j, le, less, sym (get_or_append_left rest (f ∷ []) 0 j less) ∙ is))
    | inr past ↦ let e : length rest ≡ j = omega (arith, length_push rest f) in
        inr (inr (sym is ∙ get_or_push rest f 0 j e))
  ]
  still (inr (inr none)) = absurd none

  pub pass_after_pop : IsPass n Step (Some f) rank path rest marks count
  pass_after_pop = record {
    size = pass.size;
    room = pass.room;
    placed = pass.placed;
    found = pass.found;
    forth = pass.forth;
    back = pass.back;
    marked = λ k lt. record {
      start_in = (pass.marked k lt).start_in;
      height_in = omega (arith, high, (rising_le pass k (length marks - 1) (omega arith) (omega arith)).1);
      gone = λ p g le within step. still ((pass.marked k lt).gone p g le within step);
      waits = λ j le within. reach_at refl (get_or_append_left rest (f ∷ []) 0 j within)
          ((pass.marked k lt).waits j le (omega (arith, length_push rest f)));
    };
    rising = pass.rising;
    closed = pass.closed;
    same = pass.same;
    below = pass.below;
    used = pass.used;
  }

  popped_reach : Reach Step (at path (start marks (length marks - 1))) f
  popped_reach =
      reach_at refl (get_or_push rest f 0 (length rest) refl)
      ((pass.marked (length marks - 1) (omega arith)).waits (length rest) high (omega (arith, length_push rest f)))

  -- and every function of the path reaches it
  pub popped_reached : (q : ℕ) → q < length path → Reach Step (at path q) f
  popped_reached q lt = elim (cases_lt q (start marks (length marks - 1))) [
    | inl less ↦ reach_from
        (pass.forth q (start marks (length marks - 1)) (omega arith)
        (pass.marked (length marks - 1) (omega arith)).start_in) popped_reach
    | inr past ↦ reach_from (to_start pass q some past lt) popped_reach
  ]

-- A function that wasn't met is entered.
module _ {n : ℕ} {Step : ℕ → ℕ → Type 0} {taken : Option ℕ} {rank path work : List ℕ} {marks : List Mark} {count : ℕ}
    (f : ℕ) (row : List ℕ) (pass : IsPass n Step taken rank path work marks count)
    (only : (g : ℕ) → IsTaken taken g → g ≡ f)
    (within : f < n) (fresh : at rank f ≡ 0) (leads : (q : ℕ) → q < length path → Leads Step (at path q) f)
    (calls : (g : ℕ) → Contains row g ↔ Step f g) where
  abbrev rank' : List ℕ
  rank' = set rank f (length path + 1)

  abbrev path' : List ℕ
  path' = path ++ f ∷ []

  abbrev marks' : List Mark
  marks' = marks ++ mark (length path) (length work) ∷ []

  rank_cases : (g : ℕ) → ((g ≡ f) × (at rank' g ≡ length path + 1)) ⊎ ((g ≢ f) × (at rank' g ≡ at rank g))
  rank_cases g = write_cases rank f (length path + 1) g (omega (arith, pass.size))

  grown : (g : ℕ) → at rank g ≤ at rank' g
  grown g = elim (rank_cases g) [
    | inl here ↦ omega (arith, here.1, fresh, ap (at rank) here.0)
    | inr other ↦ omega (arith, other.1)
  ]

  at_other : (g : ℕ) → 0 < at rank g → at rank' g ≡ at rank g
  at_other g lt = elim (rank_cases g) [
    | inl here ↦ absurd (omega (arith, fresh, ap (at rank) here.0))
    | inr other ↦ other.1
  ]

  at_f : at rank' f ≡ length path + 1
  at_f = elim (rank_cases f) [
    | inl here ↦ here.1
    | inr other ↦ absurd (other.0 refl)
  ]

  weights : length {A = ℕ} (replicate n 1) ≡ length rank
  weights = length-replicate n 1 ∙ sym pass.size

  free : unmet_weight (replicate n 1) rank' + 1 ≡ unmet_weight (replicate n 1) rank
  free =
      omega (
        arith,
        unmet_weight-set_new (replicate n 1) rank f (length path + 1) weights (omega (arith, pass.size)) fresh
            (omega arith),
        get_or-replicate {A = ℕ} n f 1 0 within,
      )

  short : count + length path + 1 ≤ n
  short = omega (arith, free, pass.room)

  old_place : (p : ℕ) → p < length path → at path' p ≡ at path p
  old_place p lt = get_or_append_left path (f ∷ []) 0 p lt

  new_place : (p : ℕ) → p ≡ length path → at path' p ≡ f
  new_place p e = get_or_push path f 0 p (sym e)

  longer : length path' ≡ length path + 1
  longer = length_push path f

  old_start : (k : ℕ) → k < length marks → start marks' k ≡ start marks k
  old_start k lt = ap (λ m. m.start) (get_or_append_left marks (mark (length path) (length work) ∷ []) (mark 0 0) k lt)

  old_height : (k : ℕ) → k < length marks → height marks' k ≡ height marks k
  old_height k lt =
      ap (λ m. m.height) (get_or_append_left marks (mark (length path) (length work) ∷ []) (mark 0 0) k lt)

  new_start : (k : ℕ) → k ≡ length marks → start marks' k ≡ length path
  new_start k e = ap (λ m. m.start) (get_or_push marks (mark (length path) (length work)) (mark 0 0) k (sym e))

  new_height : (k : ℕ) → k ≡ length marks → height marks' k ≡ length work
  new_height k e = ap (λ m. m.height) (get_or_push marks (mark (length path) (length work)) (mark 0 0) k (sym e))

  more_marks : length marks' ≡ length marks + 1
  more_marks = length_push marks (mark (length path) (length work))

  placed : (p : ℕ) → p < length path' → at rank' (at path' p) ≡ p + 1
  placed p lt = elim (cases_lt p (length path)) [
    | inl less ↦ ap (at rank') (old_place p less) ∙ at_other (at path p) (omega (arith, pass.placed p less))
        ∙ pass.placed p less
    | inr past ↦ let e : p ≡ length path = omega (arith, longer) in ap (at rank') (new_place p e) ∙ at_f
        ∙ ap (λ k. k + 1) (sym e)
  ]

  found : (g : ℕ) → 0 < at rank' g → at rank' g ≤ n → (at rank' g ≤ length path') × (at path' (at rank' g - 1) ≡ g)
  found g met low = elim (rank_cases g) [
    | inl here ↦ (omega (arith, here.1, longer), new_place (at rank' g - 1) (omega (arith, here.1)) ∙ sym here.0)
    | inr other ↦
        let before = pass.found g (omega (arith, other.1)) (omega (arith, other.1)) in (
          omega (arith, before.0, other.1, longer),
          ap (λ k. at path' (k - 1)) other.1 ∙ old_place (at rank g - 1) (omega (arith, before.0, other.1)) ∙ before.1,
        )
  ]

  forth : (p q : ℕ) → p ≤ q → q < length path' → Leads Step (at path' p) (at path' q)
  forth p q le lt = elim (cases_lt q (length path)) [
    | inl less ↦ leads_at (sym (old_place p (omega arith))) (sym (old_place q less)) (pass.forth p q le less)
    | inr past ↦ elim (cases_lt p (length path)) [
      | inl near ↦ leads_at (sym (old_place p near)) (sym (new_place q (omega (arith, longer)))) (leads p near)
      | inr far ↦ inl (new_place p (omega (arith, longer)) ∙ sym (new_place q (omega (arith, longer))))
    ]
  ]

  back : (q : ℕ) → q < length path' → IsStart marks' q ⊎ ((0 < q) × Leads Step (at path' q) (at path' (q - 1)))
  back q lt = elim (cases_lt q (length path)) [
    | inl less ↦ old_back less (pass.back q less)
    | inr past ↦ inl (length marks, omega (arith, more_marks), new_start (length marks) refl ∙ omega (arith, longer))
  ]
    where
      old_back : q < length path → IsStart marks q ⊎ ((0 < q) × Leads Step (at path q) (at path (q - 1)))
          → IsStart marks' q ⊎ ((0 < q) × Leads Step (at path' q) (at path' (q - 1)))
      old_back less (inl (k, kt, is)) = inl (k, omega (arith, more_marks), old_start k kt ∙ is)
      old_back less (inr (some, leads)) =
          inr (some, leads_at (sym (old_place q less)) (sym (old_place (q - 1) (omega arith))) leads)

  now_gone : {s h g : ℕ} → s < length path → (s < at rank g) ⊎ (Waits work h g ⊎ IsTaken taken g)
      → (s < at rank' g) ⊎ (Waits (work ++ row) h g ⊎ IsTaken None g)
  now_gone {g = g} lt (inl up) = inl (omega (arith, up, grown g))
  now_gone lt (inr (inl (j, le, jt, is))) =
      inr (inl (j, le, omega (arith, length-append work row), get_or_append_left work row 0 j jt ∙ is))
  now_gone {g = g} lt (inr (inr is)) = inl (omega (arith, lt, ap (at rank') (only g is), at_f))

  waiting : {h g : ℕ} → h ≤ length work → Contains row g → Waits (work ++ row) h g
  waiting {g = g} le (k, kt, is) = (
    length work + k,
    omega arith,
    omega (arith, length-append work row),
    get_or-append_right work row (length work) (length work + k) 0 refl (omega arith) ∙ ap (at row) (omega arith)
        ∙ get_or_zero row k g kt ∙ is,
  )
    where
      get_or_zero : (xs : List ℕ) (i d : ℕ) → i < length xs → get_or xs i 0 ≡ get_or xs i d
      get_or_zero [] i d lt = absurd (omega arith)
      get_or_zero (x ∷ xs) zero d lt = refl
      get_or_zero (x ∷ xs) (suc i) d lt = get_or_zero xs i d (omega arith)

  row_reached : {g : ℕ} → Leads Step g f → (j : ℕ) → length work ≤ j → j < length (work ++ row)
      → Reach Step g (at (work ++ row) j)
  row_reached lead j le lt =
      reach_from lead
      (one (subst (Step f) (sym (get_or-append_right work row (length work) j 0 refl le))
      ((calls (at row (j - length work))).0
      (Contains-get_or row (j - length work) 0 (omega (arith, length-append work row))))))

  old_mark : (k : ℕ) → k < length marks → IsMark Step None rank' path' (work ++ row) (start marks k) (height marks k)
  old_mark k kt =
      let m = pass.marked k kt in
      record {
        start_in = omega (arith, m.start_in, longer);
        height_in = omega (arith, m.height_in, length-append work row);
        gone = λ p g le lt step. elim (cases_lt p (length path)) [
          | inl less ↦ now_gone m.start_in (m.gone p g le less (subst (λ x. Step x g) (old_place p less) step))
          | inr past ↦ inr
              (inl (waiting m.height_in
              ((calls g).1 (subst (λ x. Step x g) (new_place p (omega (arith, longer))) step))))
        ];
        waits = λ j le lt. elim (cases_lt j (length work)) [
          | inl less ↦ reach_at (sym (old_place (start marks k) m.start_in))
              (sym (get_or_append_left work row 0 j less)) (m.waits j le less)
          | inr past ↦ row_reached
              (leads_at (sym (old_place (start marks k) m.start_in)) refl (leads (start marks k) m.start_in)) j past lt
        ];
      }

  new_mark : IsMark Step None rank' path' (work ++ row) (length path) (length work)
  new_mark = record {
    start_in = omega (arith, longer);
    height_in = omega (arith, length-append work row);
    gone =
        λ p g le lt step. inr
        (inl (waiting (omega arith) ((calls g).1 (subst (λ x. Step x g) (new_place p (omega (arith, longer))) step))));
    waits = λ j le lt. row_reached (inl (new_place (length path) refl)) j le lt;
  }

  marked : (k : ℕ) → k < length marks' → IsMark Step None rank' path' (work ++ row) (start marks' k) (height marks' k)
  marked k lt = elim (cases_lt k (length marks)) [
    | inl less ↦ subst (λ s. IsMark Step None rank' path' (work ++ row) s (height marks' k)) (sym (old_start k less))
        (subst (λ h. IsMark Step None rank' path' (work ++ row) (start marks k) h) (sym (old_height k less))
        (old_mark k less))
    | inr past ↦ let e : k ≡ length marks = omega (arith, more_marks) in
        subst (λ s. IsMark Step None rank' path' (work ++ row) s (height marks' k)) (sym (new_start k e))
        (subst (λ h. IsMark Step None rank' path' (work ++ row) (length path) h) (sym (new_height k e)) new_mark)
  ]

  rising : (j k : ℕ) → j < k → k < length marks'
      → (start marks' j < start marks' k) × (height marks' j ≤ height marks' k)
  rising j k less lt = elim (cases_lt k (length marks)) [
    | inl near ↦ (
      omega (arith, old_start j (omega arith), old_start k near, (pass.rising j k less near).0),
      omega (arith, old_height j (omega arith), old_height k near, (pass.rising j k less near).1),
    )
    | inr past ↦
        let e : k ≡ length marks = omega (arith, more_marks) in
        let jt : j < length marks = omega arith in (
          omega (arith, old_start j jt, new_start k e, (pass.marked j jt).start_in),
          omega (arith, old_height j jt, new_height k e, (pass.marked j jt).height_in),
        )
  ]

  was_closed : (g : ℕ) → n < at rank' g → at rank' g ≡ at rank g
  was_closed g lt = elim (rank_cases g) [
    | inl here ↦ absurd (omega (arith, here.1, short))
    | inr other ↦ other.1
  ]

  closed : (g h : ℕ) → n < at rank' g → Step g h → n < at rank' h
  closed g h lt step =
      let past = pass.closed g h (omega (arith, was_closed g lt)) step in
      omega (arith, past, at_other h (omega arith))

  same : (g h : ℕ) → n < at rank' g → n < at rank' h → (at rank' g ≡ at rank' h) ↔ SameGroup Step g h
  same g h gt ht =
      let ge = was_closed g gt in
      let he = was_closed h ht in
      let before = pass.same g h (omega (arith, ge)) (omega (arith, he)) in
      (λ e. before.0 (sym ge ∙ e ∙ he), λ s. ge ∙ before.1 s ∙ sym he)

  below : (g : ℕ) → at rank' g ≤ n + count
  below g = elim (rank_cases g) [
    | inl here ↦ omega (arith, here.1, short)
    | inr other ↦ omega (arith, other.1, pass.below g)
  ]

  used : (c : ℕ) → c < count → (g : ℕ) × (at rank' g ≡ n + 1 + c)
  used c lt =
      let before = pass.used c lt in
      (before.0, at_other before.0 (omega (arith, before.1)) ∙ before.1)

  pub pass_after_enter : IsPass n Step None rank' path' (work ++ row) marks' count
  pass_after_enter = record {
    size = length-set rank f (length path + 1) ∙ pass.size;
    room = omega (arith, free, longer, pass.room);
    placed = placed;
    found = found;
    forth = forth;
    back = back;
    marked = marked;
    rising = rising;
    closed = closed;
    same = same;
    below = below;
    used = used;
  }
