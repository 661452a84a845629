use Rattle.std.proofs.Common.{◌≡◌, ℕ, ◌-◌, ◌≤◌, ◌<◌, not}
use Rattle.std.specs.Prelude.{is_some}
use Rattle.guest_mem.specs.inner.Directory.{page_at}
use Rattle.guest_mem.proofs.directory.Directory.first.Given as goal

abbrev pub invariant-tables : goal.invariant-tables
invariant-tables l = record {
  low : l.from ≤ l.at;
  high : l.at ≤ l.end;
  passed : (p : ℕ) → l.from ≤ p → p < l.at → is_some (page_at l.self p) ≡ not l.wanted;
}

abbrev pub decreases-tables : goal.decreases-tables
decreases-tables l = l.end - l.at
