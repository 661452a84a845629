use Rattle.std.proofs.Common.{◌≡◌, ℕ, ◌<◌, ◌^◌, length, take, None}
use Rattle.std.specs.Prelude.{All, slice_index_or}
use Rattle.sym_map.specs.declared.range.Range.{Range}
use Rattle.sym_map.specs.inner.Entries.{start_of_first}
use Rattle.sym_map.proofs.entries.entries.Given as goal

abbrev pub invariant-every : goal.invariant-every
invariant-every l = record {
  as_many : length l.entries.items ≡ l.count;
  each : (func : ℕ) → func < l.count
      → slice_index_or l.entries.items func None ≡ start_of_first func (take l.range-index l.ranges);
  starts : All (λ (range : Range). range.start < 2 ^ 32) (take l.range-index l.ranges);
}
