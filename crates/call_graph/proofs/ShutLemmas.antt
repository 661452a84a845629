-- What holds of a pass when its last group is finished, and at the end.
use Rattle.std.proofs.Common.{◌≡◌, ◌≢◌, ◌⊎◌, ◌↔◌, ℕ, ◌+◌, ◌-◌, ◌<◌, ◌≤◌, List, length, take, drop, replicate, None}
use Rattle.std.proofs.Common.{refl, sym, ap, subst, ◌∙◌, inl, inr, arith}
use Rattle.std.proofs.lemmas.List.{get_or-take, get_or-drop, length-take-le, length-drop}
use Rattle.std.proofs.lemmas.Bool.{cases_lt}
use Rattle.call_graph.specs.Reach.{Reach, SameGroup}
use Rattle.call_graph.specs.inner.Pass.{mark, start, height, IsStart, Waits, IsTaken, Leads, IsMark, IsPass, IsRanked}
use Rattle.call_graph.specs.declared.visit_state.Mark.{Mark}
use Rattle.call_graph.proofs.PassLemmas.{at, to_start}
use Rattle.call_graph.proofs.ReachLemmas.{leads_after, leads_at, leads_from_same, same_back, same_from_leads}
use Rattle.call_graph.proofs.ReachLemmas.{along_leads}

module _ {n : ℕ} {Step : ℕ → ℕ → Type 0} {rank path work : List ℕ} {marks : List Mark} {count : ℕ}
    (pass : IsPass n Step None rank path work marks count) (some : 0 < length marks) (rank' : List ℕ)
    (ranked : IsRanked rank (drop (start marks (length marks - 1)) path) (n + 1 + count) rank') where
  abbrev from : ℕ
  from = start marks (length marks - 1)

  last : IsMark Step None rank path work from (height marks (length marks - 1))
  last = pass.marked (length marks - 1) (omega arith)

  -- a function of the last group, by its place
  abbrev IsInLast : ℕ → Type 0
  IsInLast g = (p : ℕ) × (from ≤ p) × (p < length path) × (at path p ≡ g)

  not_in_last : (g : ℕ) → (at rank g ≤ from) ⊎ (n < at rank g) → (p : ℕ) → p < length (drop from path)
      → at (drop from path) p ≢ g
  not_in_last g out p lt is =
      let within : from + p < length path = omega (arith, length-drop from path) in
      let there : at rank g ≡ from + p + 1 = ap (at rank) (sym is ∙ get_or-drop from path p 0)
      ∙ pass.placed (from + p) within in
      elim out [
        | inl low ↦ omega arith
        | inr high ↦ omega (arith, pass.room)
      ]

  shut_cases : (g : ℕ) → ((at rank' g ≡ n + 1 + count) × IsInLast g)
      ⊎ ((at rank' g ≡ at rank g) × ((at rank g ≤ from) ⊎ (n < at rank g)))
  shut_cases g = elim (cases_lt from (at rank g)) [
    | inr low ↦ inr (ranked.others g (not_in_last g (inl low)), inl low)
    | inl up ↦ elim (cases_lt n (at rank g)) [
      | inl high ↦ inr (ranked.others g (not_in_last g (inr high)), inr high)
      | inr open_still ↦
          let there = pass.found g (omega arith) open_still in
          let place : from + (at rank g - 1 - from) ≡ at rank g - 1 = omega arith in
          let here : at (drop from path) (at rank g - 1 - from) ≡ g = get_or-drop from path (at rank g - 1 - from) 0
          ∙ ap (at path) place ∙ there.1 in
          inl (
            ap (at rank') (sym here)
                ∙ ranked.have_rank (at rank g - 1 - from)
                (omega (arith, length-drop from path, there.0)),
            (
              at rank g - 1,
              omega arith,
              omega (arith, there.0),
              there.1,
            ),
          )
    ]
  ]

  pub shut_met : (g : ℕ) → 0 < at rank g → 0 < at rank' g
  shut_met g lt = elim (shut_cases g) [
    | inl given ↦ omega (arith, given.0)
    | inr kept ↦ omega (arith, kept.0)
  ]

  open_rank : (g : ℕ) → IsInLast g → (from < at rank g) × (at rank g ≤ n)
  open_rank g (p, le, lt, is) =
      let there : at rank g ≡ p + 1 = ap (at rank) (sym is) ∙ pass.placed p lt in
      (omega arith, omega (arith, pass.room))

  size : length (take from path) ≡ from
  size = length-take-le from path (omega (arith, last.start_in))

  few : length (take (length marks - 1) marks) ≡ length marks - 1
  few = length-take-le (length marks - 1) marks (omega arith)

  place_kept : (p : ℕ) → p < from → at (take from path) p ≡ at path p
  place_kept p lt = get_or-take from path p 0 lt

  start_kept : (k : ℕ) → k < length marks - 1 → start (take (length marks - 1) marks) k ≡ start marks k
  start_kept k lt = ap (λ x. x.start) (get_or-take (length marks - 1) marks k (mark 0 0) lt)

  height_kept : (k : ℕ) → k < length marks - 1 → height (take (length marks - 1) marks) k ≡ height marks k
  height_kept k lt = ap (λ x. x.height) (get_or-take (length marks - 1) marks k (mark 0 0) lt)

  low_start : (k : ℕ) → k < length marks - 1 → start marks k < from
  low_start k lt = (pass.rising k (length marks - 1) lt (omega arith)).0

  placed : (p : ℕ) → p < length (take from path) → at rank' (at (take from path) p) ≡ p + 1
  placed p lt =
      let less : p < from = omega (arith, size) in
      let before : at rank (at path p) ≡ p + 1 = pass.placed p (omega (arith, last.start_in)) in
      ap (at rank') (place_kept p less) ∙ elim (shut_cases (at path p)) [
        | inl given ↦ absurd (omega (arith, before, (open_rank (at path p) given.1).0))
        | inr kept ↦ kept.0 ∙ before
      ]

  found : (g : ℕ) → 0 < at rank' g → at rank' g ≤ n
      → (at rank' g ≤ length (take from path)) × (at (take from path) (at rank' g - 1) ≡ g)
  found g met low = elim (shut_cases g) [
    | inl given ↦ absurd (omega (arith, given.0))
    | inr kept ↦
        let before = pass.found g (omega (arith, kept.0)) (omega (arith, kept.0)) in
        let le : at rank g ≤ from = elim kept.1 [ inl le ↦ le | inr high ↦ absurd (omega (arith, kept.0)) ] in (
          omega (arith, kept.0, size),
          ap (λ k. at (take from path) (k - 1)) kept.0
              ∙ place_kept (at rank g - 1) (omega (arith, kept.0)) ∙ before.1,
        )
  ]

  back : (q : ℕ) → q < from → IsStart marks q ⊎ ((0 < q) × Leads Step (at path q) (at path (q - 1)))
      → IsStart (take (length marks - 1) marks) q
      ⊎ ((0 < q) × Leads Step (at (take from path) q) (at (take from path) (q - 1)))
  back q lt (inl (k, kt, is)) = elim (cases_lt k (length marks - 1)) [
    | inl less ↦ inl (k, omega (arith, few), start_kept k less ∙ is)
    | inr past ↦ let e : k ≡ length marks - 1 = omega arith in absurd (omega (arith, is, ap (start marks) e))
  ]
  back q lt (inr (more, leads)) =
      inr (more, leads_at (sym (place_kept q lt)) (sym (place_kept (q - 1) (omega arith))) leads)

  now_gone : {s h g : ℕ} → s < from → (s < at rank g) ⊎ (Waits work h g ⊎ IsTaken None g)
      → (s < at rank' g) ⊎ (Waits work h g ⊎ IsTaken None g)
  now_gone {g = g} lt (inl up) = inl (elim (shut_cases g) [
    | inl given ↦ omega (arith, given.0, last.start_in, pass.room)
    | inr kept ↦ omega (arith, kept.0, up)
  ])
  now_gone lt (inr other) = inr other

  marked : (k : ℕ) → k < length marks - 1
      → IsMark Step None rank' (take from path) work (start marks k) (height marks k)
  marked k lt =
      let before = pass.marked k (omega arith) in
      record {
        start_in = omega (arith, low_start k lt, size);
        height_in = before.height_in;
        gone = λ p g le within step. now_gone (low_start k lt)
            (before.gone p g le (omega (arith, size, last.start_in))
            (subst (λ x. Step x g) (place_kept p (omega (arith, size))) step));
        waits = λ j le within. subst (λ x. Reach Step x (at work j)) (sym (place_kept (start marks k) (low_start k lt)))
            (before.waits j le within);
      }

  module _ (done : length work ≤ height marks (length marks - 1)) where
    -- what a function of the last group calls is in it or in a group that is finished
    calls : (g h : ℕ) → IsInLast g → Step g h → from < at rank h
    calls g h (p, le, lt, is) step = elim (last.gone p h le lt (subst (λ x. Step x h) (sym is) step)) [
      | inl up ↦ up
      | inr other ↦ elim other [
        | inl waits ↦ absurd (omega (arith, waits.1, waits.2))
        | inr none ↦ absurd none
      ]
    ]

    closed : (g h : ℕ) → n < at rank' g → Step g h → n < at rank' h
    closed g h lt step = elim (shut_cases g) [
      | inl given ↦ raised (calls g h given.1 step)
      | inr kept ↦ finished (pass.closed g h (omega (arith, kept.0)) step)
    ]
      where
        raised : from < at rank h → n < at rank' h
        raised up = elim (shut_cases h) [
          | inl given ↦ omega (arith, given.0)
          | inr kept ↦ elim kept.1 [ inl low ↦ absurd (omega arith) | inr high ↦ omega (arith, kept.0) ]
        ]

        finished : n < at rank h → n < at rank' h
        finished high = elim (shut_cases h) [
          | inl given ↦ omega (arith, given.0)
          | inr kept ↦ omega (arith, kept.0)
        ]

    one_group : (g h : ℕ) → IsInLast g → IsInLast h → Leads Step g h
    one_group g h (p, le, lt, is) (q, qe, qt, es) =
        leads_at is es (leads_after (to_start pass p some le lt) (pass.forth from q qe qt))

    -- none leads from a finished group into the last one
    apart : (g h : ℕ) → n < at rank g → IsInLast h → Leads Step g h → ⊥
    apart g h high inside leads =
        let reached : n < at rank h
        = along_leads (λ x. n < at rank x) (λ x y lt step. pass.closed x y lt step) leads high in
        omega (arith, reached, (open_rank h inside).1)

    same : (g h : ℕ) → n < at rank' g → n < at rank' h → (at rank' g ≡ at rank' h) ↔ SameGroup Step g h
    same g h gt ht = elim (shut_cases g) [
      | inl gg ↦ elim (shut_cases h) [
        | inl hg ↦ (λ e. same_from_leads (one_group g h gg.1 hg.1) (one_group h g hg.1 gg.1), λ s. gg.0 ∙ sym hg.0)
        | inr hk ↦ (
          λ e. absurd (omega (arith, gg.0, hk.0, pass.below h)),
          λ s. absurd (apart h g (omega (arith, hk.0)) gg.1 (leads_from_same (same_back s))),
        )
      ]
      | inr gk ↦ elim (shut_cases h) [
        | inl hg ↦ (
          λ e. absurd (omega (arith, hg.0, gk.0, pass.below g)),
          λ s. absurd (apart g h (omega (arith, gk.0)) hg.1 (leads_from_same s)),
        )
        | inr hk ↦
            let before = pass.same g h (omega (arith, gk.0)) (omega (arith, hk.0)) in
            (λ e. before.0 (sym gk.0 ∙ e ∙ hk.0), λ s. gk.0 ∙ before.1 s ∙ sym hk.0)
      ]
    ]

    below : (g : ℕ) → at rank' g ≤ n + (count + 1)
    below g = elim (shut_cases g) [
      | inl given ↦ omega (arith, given.0)
      | inr kept ↦ omega (arith, kept.0, pass.below g)
    ]

    used : (c : ℕ) → c < count + 1 → (g : ℕ) × (at rank' g ≡ n + 1 + c)
    used c lt = elim (cases_lt c count) [
      | inl less ↦
          let before = pass.used c less in (
            before.0,
            elim (shut_cases before.0) [
              | inl given ↦ absurd (omega (arith, before.1, (open_rank before.0 given.1).1))
              | inr kept ↦ kept.0 ∙ before.1
            ],
          )
      | inr past ↦
          let here : IsInLast (at path from) = (from, omega arith, last.start_in, refl) in (
            at path from,
            elim (shut_cases (at path from)) [
              | inl given ↦ given.0 ∙ omega arith
              | inr kept ↦ elim kept.1 [
                | inl low ↦ absurd (omega (arith, low, (open_rank (at path from) here).0))
                | inr high ↦ absurd (omega (arith, high, (open_rank (at path from) here).1))
              ]
            ],
          )
    ]

    pub pass_after_close : IsPass n Step None rank' (take from path) work (take (length marks - 1) marks) (count + 1)
    pass_after_close = record {
      size = ranked.size ∙ pass.size;
      room = omega (arith, size, last.start_in, ranked.weights (replicate n 1), pass.room);
      placed = placed;
      found = found;
      forth = λ p q le lt. let less : q < from = omega (arith, size) in
          leads_at (sym (place_kept p (omega arith))) (sym (place_kept q less))
          (pass.forth p q le (omega (arith, last.start_in)));
      back = λ q lt. let less : q < from = omega (arith, size) in
          back q less (pass.back q (omega (arith, last.start_in)));
      marked = λ k lt. let less : k < length marks - 1 = omega (arith, few) in
          subst (λ s. IsMark Step None rank' (take from path) work s (height (take (length marks - 1) marks) k))
          (sym (start_kept k less))
          (subst (λ h. IsMark Step None rank' (take from path) work (start marks k) h) (sym (height_kept k less))
          (marked k less));
      rising = λ j k less lt. let kt : k < length marks - 1 = omega (arith, few) in let jt : j < length marks - 1
          = omega arith in (
            omega (arith, start_kept j jt, start_kept k kt, (pass.rising j k less (omega arith)).0),
            omega (arith, height_kept j jt, height_kept k kt, (pass.rising j k less (omega arith)).1),
          );
      closed = closed;
      same = same;
      below = below;
      used = used;
    }
