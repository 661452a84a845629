use Rattle.std.proofs.Common.{ℕ, ◌*◌, ◌≤◌, ◌<◌}
use Rattle.std.specs.Prelude.{is_some}
use Rattle.guest_mem.specs.inner.Table.{AreFree}
use Rattle.guest_mem.specs.inner.Directory.{page_at}
use Rattle.guest_mem.proofs.directory.Directory.past_gaps.Given as goal

abbrev pub invariant-tables : goal.invariant-tables
invariant-tables l = record {
  low : l.from ≤ l.start;
  border : l.start ≤ l.high * 1024;
  high : l.start ≤ l.end;
  none : (p : ℕ) → l.from ≤ p → p < l.start → AreFree (λ q. is_some (page_at l.self q)) p l.pages l.end → ⊥;
}
