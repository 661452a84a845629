-- What holds of a pass when the groups from a place of the path on are joined.
use Rattle.std.proofs.Common.{◌≡◌, ◌⊎◌, ℕ, ◌-◌, ◌<◌, ◌≤◌, List, length, take, None, Some, refl, sym, ap, subst, ◌∙◌}
use Rattle.std.proofs.Common.{inl, inr, arith}
use Rattle.std.proofs.lemmas.List.{get_or-take, length-take-le}
use Rattle.std.proofs.lemmas.Bool.{cases_lt}
use Rattle.call_graph.specs.inner.Pass.{mark, start, height, IsStart, Waits, IsTaken, Leads, IsMark, IsPass}
use Rattle.call_graph.specs.declared.visit_state.Mark.{Mark}
use Rattle.call_graph.proofs.PassLemmas.{at, rising_le}
use Rattle.call_graph.proofs.ReachLemmas.{leads_after, leads_at}

module _ {n : ℕ} {Step : ℕ → ℕ → Type 0} {rank path work : List ℕ} {marks : List Mark} {count f : ℕ}
    (pass : IsPass n Step (Some f) rank path work marks count) (met : 0 < at rank f)
    (leads : (q : ℕ) → q < length path → Leads Step (at path q) f)
    (m : ℕ) (few : m ≤ length marks) (dropped : (k : ℕ) → m ≤ k → k < length marks → at rank f ≤ start marks k)
    (last : 0 < m → start marks (m - 1) < at rank f) where
  size : length (take m marks) ≡ m
  size = length-take-le m marks few

  start_kept : (k : ℕ) → k < m → start (take m marks) k ≡ start marks k
  start_kept k lt = ap (λ x. x.start) (get_or-take m marks k (mark 0 0) lt)

  height_kept : (k : ℕ) → k < m → height (take m marks) k ≡ height marks k
  height_kept k lt = ap (λ x. x.height) (get_or-take m marks k (mark 0 0) lt)

  back : (q : ℕ) → q < length path → IsStart marks q ⊎ ((0 < q) × Leads Step (at path q) (at path (q - 1)))
      → IsStart (take m marks) q ⊎ ((0 < q) × Leads Step (at path q) (at path (q - 1)))
  back q lt (inr before) = inr before
  back q lt (inl (k, kt, is)) = elim (cases_lt k m) [
    | inl less ↦ inl (k, omega (arith, size), start_kept k less ∙ is)
    | inr past ↦
        let low : at rank f ≤ q = omega (arith, dropped k past kt, is) in
        let open_at = pass.found f met (omega (arith, low, pass.room)) in
        inr (
          omega arith,
          leads_after (leads q lt)
              (leads_at open_at.1 refl (pass.forth (at rank f - 1) (q - 1) (omega arith) (omega arith))),
        )
  ]

  now_gone : {s h g : ℕ} → s < at rank f → (s < at rank g) ⊎ (Waits work h g ⊎ IsTaken (Some f) g)
      → (s < at rank g) ⊎ (Waits work h g ⊎ IsTaken None g)
  now_gone lt (inl up) = inl up
  now_gone lt (inr (inl waits)) = inr (inl waits)
  now_gone lt (inr (inr is)) = inl (omega (arith, lt, ap (at rank) is))

  marked : (k : ℕ) → k < m → IsMark Step None rank path work (start marks k) (height marks k)
  marked k lt =
      let before = pass.marked k (omega arith) in
      let low : start marks k < at rank f
      = omega (arith, (rising_le pass k (m - 1) (omega arith) (omega arith)).0, last (omega arith)) in
      record {
        start_in = before.start_in;
        height_in = before.height_in;
        gone = λ p g le within step. now_gone low (before.gone p g le within step);
        waits = before.waits;
      }

  pub pass_after_join : IsPass n Step None rank path work (take m marks) count
  pass_after_join = record {
    size = pass.size;
    room = pass.room;
    placed = pass.placed;
    found = pass.found;
    forth = pass.forth;
    back = λ q lt. back q lt (pass.back q lt);
    marked = λ k lt. let less : k < m = omega (arith, size) in
        subst (λ s. IsMark Step None rank path work s (height (take m marks) k)) (sym (start_kept k less))
        (subst (λ h. IsMark Step None rank path work (start marks k) h) (sym (height_kept k less)) (marked k less));
    rising = λ j k less lt. let kt : k < m = omega (arith, size) in let jt : j < m = omega arith in (
      omega (arith, start_kept j jt, start_kept k kt, (pass.rising j k less (omega arith)).0),
      omega (arith, height_kept j jt, height_kept k kt, (pass.rising j k less (omega arith)).1),
    );
    closed = pass.closed;
    same = pass.same;
    below = pass.below;
    used = pass.used;
  }
