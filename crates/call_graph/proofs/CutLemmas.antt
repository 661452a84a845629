-- Marks that are dropped from the end.
use Rattle.std.proofs.Common.{◌≡◌, ℕ, ◌<◌, ◌≤◌, List, length, take}
use Rattle.call_graph.specs.inner.Pass.{start}
use Rattle.call_graph.specs.declared.visit_state.Mark.{Mark}

pub record IsCutSoFar (old : List Mark) (rank : ℕ) (new : List Mark) : Type 0 where
  pub few : length new ≤ length old
  pub front : new ≡ take (length new) old
  pub dropped : (k : ℕ) → length new ≤ k → k < length old → rank ≤ start old k
