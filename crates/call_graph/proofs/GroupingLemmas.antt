-- The groups over rows of callees are those over arcs.
use Rattle.std.proofs.Common.{◌≡◌, ◌↔◌, ℕ, ◌<◌, List, length, map, All, sym, subst}
use Rattle.std.proofs.lemmas.List.Elements.{All-contains}
use Rattle.call_graph.specs.Groups.{IsNumbering, IsWithin}
use Rattle.call_graph.specs.Reach.{Steps}
use Rattle.call_graph.specs.inner.Rows.{IsRows, StayWithin}
use Rattle.call_graph.specs.inner.Pass.{IsFinished, group_in}
use Rattle.call_graph.specs.declared.arc.CallArc.{CallArc}
use Rattle.call_graph.specs.declared.pass.Pass.{Pass}
use Rattle.call_graph.proofs.ReachLemmas.{same_by}
use Rattle.call_graph.proofs.RowLemmas.{arc_from}

pub numbering_by : {n : ℕ} {S T : ℕ → ℕ → Type 0} {number : List ℕ} {count : ℕ} → ((f g : ℕ) → S f g ↔ T f g)
    → IsNumbering n S number count → IsNumbering n T number count
numbering_by agree numbered = record {
  size = numbered.size;
  same = λ f g ft gt. let before = numbered.same f g ft gt in
      (λ e. same_by (λ x y. (agree x y).0) (before.0 e), λ s. before.1 (same_by (λ x y. (agree x y).1) s));
  below = numbered.below;
  used = numbered.used;
}

module _ {n : ℕ} {arcs : List CallArc} {rows : List (List ℕ)} (said : IsRows n arcs rows) where
  pub stay_within : All (IsWithin n) arcs → StayWithin rows
  stay_within within f g calls =
      subst (λ k. g < k) (sym said.size)
      (All-contains (IsWithin n) arcs (arc_from f g) within ((said.exact f g).0 calls)).callee

  -- the numbers that a pass over the rows gives are those of the groups
  pub numbered_by_pass : (pass : Pass) (number : List ℕ) → IsFinished rows pass
      → number ≡ map group_in pass.states.items → IsNumbering n (Steps arcs) number pass.count
  numbered_by_pass pass number finished is =
      subst (λ k. IsNumbering k (Steps arcs) number pass.count) said.size
      (subst (λ l. IsNumbering (length rows) (Steps arcs) l pass.count) (sym is)
      (numbering_by said.exact finished.numbered))

-- of as many functions as have a number
pub of_all : {n : ℕ} {Step : ℕ → ℕ → Type 0} {number : List ℕ} {count : ℕ} → IsNumbering n Step number count
    → IsNumbering (length number) Step number count
of_all {Step = Step} {number = number} {count = count} numbered =
    subst (λ k. IsNumbering k Step number count) (sym numbered.size) numbered
