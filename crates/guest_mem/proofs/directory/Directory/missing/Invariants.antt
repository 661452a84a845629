use Rattle.std.proofs.Common.{◌≡◌, ◌≤◌}
use Rattle.guest_mem.specs.inner.Directory.{page_at, missing_from}
use Rattle.guest_mem.proofs.directory.Directory.missing.Given as goal

abbrev pub invariant-loop-step : goal.invariant-loop-step
invariant-loop-step l = record {
  value : l.missing ≡ missing_from (page_at l.self) l.first l.step;
  bound : l.missing ≤ l.step;
}
