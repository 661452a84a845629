use Rattle.std.proofs.Common.{◌≡◌, ◌+◌, ◌-◌, ◌≤◌, ◌^◌, ℕ, length, take}
use Rattle.sym_map.specs.inner.Ranges.{cover_at}
use Rattle.sym_map.specs.inner.Rising.{Rise}
use Rattle.sym_map.specs.inner.Spans.{IsPassed, or_below, reach}
use Rattle.sym_map.proofs.merge.merge.Given as goal

abbrev pub invariant-ranges-2 : goal.invariant-ranges-2
invariant-ranges-2 l = record {
  rise : Rise l.merged.items;
  within : reach l.merged.items ≤ 2 ^ 32;
  above : IsPassed l.above l.top.next l.top.cover (reach l.merged.items);
  below : IsPassed l.below l.bottom.next l.bottom.cover (reach l.merged.items);
  same : (address : ℕ) → cover_at l.merged.items address
      ≡ or_below (cover_at (take l.top.next l.above) address) (cover_at (take l.bottom.next l.below) address);
}

abbrev pub decreases-ranges-2 : goal.decreases-ranges-2
decreases-ranges-2 l = (length l.above - l.top.next) + (length l.below - l.bottom.next)
