use Rattle.std.proofs.Common.{◌≡◌, ◌<◌, ℕ, length, get_or, None}
use Rattle.call_graph.specs.inner.Rows.{lists}
use Rattle.call_graph.specs.inner.Pass.{Stands, ranks}
use Rattle.call_graph.proofs.pass.pass_over.Given as goal

abbrev pub invariant-roots : goal.invariant-roots
invariant-roots l = record {
  stands : Stands (lists l.rows) None l.pass;
  finished : length l.pass.marks.items ≡ 0;
  met : (g : ℕ) → g < l.root → 0 < get_or (ranks l.pass.states.items) g 0;
}
