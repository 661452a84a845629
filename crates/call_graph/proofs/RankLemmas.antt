-- Ranks in a list, and the weights of the functions that weren't met.
use Rattle.std.proofs.Common.{◌≡◌, ◌≢◌, ◌⊎◌, ℕ, zero, suc, ◌+◌, ◌<◌, ◌==◌, true, false, cond, List, [], ◌∷◌}
use Rattle.std.proofs.Common.{length, get_or, set, map, refl, sym, ap, ◌∙◌, inl, inr, arith, get_or-set_same}
use Rattle.std.proofs.Common.{get_or-set_other}
use Rattle.std.proofs.lemmas.List.{length-map, map-set, length-set, get_or-map}
use Rattle.std.proofs.lemmas.Bool.{cases_eq}
use Rattle.std.proofs.lemmas.Bool.Decides.{nat_tests}
use Rattle.call_graph.specs.inner.Pass.{unmet_weight, rank_of, ranks}
use Rattle.call_graph.specs.declared.visit_state.VisitState.{VisitState}

-- a rank above 0 is one of the list
pub inside : (rank : List ℕ) (g : ℕ) → 0 < get_or rank g 0 → g < length rank
inside [] g lt = absurd (omega arith)
inside (r ∷ rs) zero lt = omega arith
inside (r ∷ rs) (suc g) lt = omega (arith, inside rs g lt)

-- after a write at f
pub write_cases : (rank : List ℕ) (f r g : ℕ) → f < length rank
    → ((g ≡ f) × (get_or (set rank f r) g 0 ≡ r)) ⊎ ((g ≢ f) × (get_or (set rank f r) g 0 ≡ get_or rank g 0))
write_cases rank f r g lt = elim (cases_eq g f) [
  | inl e ↦ inl (e, ap (λ k. get_or (set rank f r) k 0) e ∙ get_or-set_same rank f r 0 lt)
  | inr ne ↦ inr (ne, get_or-set_other rank f g r 0 ne)
]

new_weight : (w : ℕ) (r : ℕ) → r ≡ 0 → cond (r == 0) w 0 ≡ w
new_weight w r e = let fresh : (r == 0) ≡ true = grind (arith, nat_tests) in ap (λ b. cond b w 0) fresh

old_weight : (w : ℕ) (r : ℕ) → 0 < r → cond (r == 0) w 0 ≡ 0
old_weight w r lt = let met : (r == 0) ≡ false = grind (arith, nat_tests) in ap (λ b. cond b w 0) met

-- a function that is met takes its weight away
pub unmet_weight-set_new : (ws rank : List ℕ) (f r : ℕ) → length ws ≡ length rank → f < length rank
    → get_or rank f 0 ≡ 0 → 0 < r
    → unmet_weight ws (set rank f r) + get_or ws f 0 ≡ unmet_weight ws rank
unmet_weight-set_new [] [] f r same lt fresh some = absurd (omega arith)
unmet_weight-set_new [] (x ∷ rank) f r same lt fresh some = absurd (omega arith)
unmet_weight-set_new (w ∷ ws) [] f r same lt fresh some = absurd (omega arith)
unmet_weight-set_new (w ∷ ws) (x ∷ rank) zero r same lt fresh some =
    omega (arith, new_weight w x fresh, old_weight w r some)
unmet_weight-set_new (w ∷ ws) (x ∷ rank) (suc f) r same lt fresh some =
    omega (arith, unmet_weight-set_new ws rank f r (omega arith) (omega arith) fresh some)

-- one that was met before has none
pub unmet_weight-set_old : (ws rank : List ℕ) (f r : ℕ) → 0 < get_or rank f 0 → 0 < r → unmet_weight ws (set rank f r) ≡ unmet_weight ws rank
unmet_weight-set_old [] rank f r met some = refl
unmet_weight-set_old (w ∷ ws) [] f r met some = refl
unmet_weight-set_old (w ∷ ws) (x ∷ rank) zero r met some =
    omega (arith, old_weight w x met, old_weight w r some)
unmet_weight-set_old (w ∷ ws) (x ∷ rank) (suc f) r met some =
    ap (λ k. cond (x == 0) w 0 + k) (unmet_weight-set_old ws rank f r met some)

-- the ranks of states
pub length-ranks : (states : List VisitState) → length (ranks states) ≡ length states
length-ranks states = length-map states (rank_of (length states))

pub ranks-set : (states : List VisitState) (f : ℕ) (s : VisitState)
    → ranks (set states f s) ≡ set (ranks states) f (rank_of (length states) s)
ranks-set states f s =
    ap (λ n. map (rank_of n) (set states f s)) (length-set states f s) ∙ map-set (rank_of (length states)) states f s

pub rank_at : (states : List VisitState) (f : ℕ) (s : VisitState) → f < length states → s ≡ get_or states f s
    → get_or (ranks states) f 0 ≡ rank_of (length states) s
rank_at states f s lt is = get_or-map (rank_of (length states)) states f s 0 lt ∙ ap (rank_of (length states)) (sym is)
