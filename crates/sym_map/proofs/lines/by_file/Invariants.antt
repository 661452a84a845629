use Rattle.std.proofs.Common.{◌≡◌, ℕ, ◌<◌, length}
use Rattle.std.specs.Prelude.{slice_index}
use Rattle.sym_map.proofs.lines.by_file.Given as goal

abbrev pub invariant-files : goal.invariant-files
invariant-files l = record {
  as_many : length l.placed.items ≡ l.count;
  each : (k : ℕ) → k < l.i → slice_index l.placed.items (slice_index l.files k) ≡ slice_index l.ids k;
}
