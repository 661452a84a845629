use Rattle.std.proofs.Common.{◌≡◌, ◌+◌, ◌-◌, ◌≤◌}
use Rattle.std.specs.Prelude.{None}
use Rattle.guest_mem.specs.inner.Table.{AltersRange}
use Rattle.guest_mem.specs.inner.Directory.{page_at, page_total}
use Rattle.guest_mem.proofs.directory.Directory.clear.Given as goal

abbrev pub invariant-there : goal.invariant-there
invariant-there l = record {
  low : l.first ≤ l.at;
  high : l.at ≤ l.end;
  after : AltersRange (page_at l.initial.self) (page_at l.self) l.first (l.at - l.first) (λ _. None);
  taken : l.taken + page_total l.self ≡ page_total l.initial.self;
  bound : l.taken ≤ l.at - l.first;
}

abbrev pub decreases-there : goal.decreases-there
decreases-there l = l.end - l.at
