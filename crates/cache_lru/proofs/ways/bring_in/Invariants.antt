use Rattle.std.proofs.Common.{◌≡◌, drop, length, false}
use Rattle.std.specs.Prelude.{◌==◌}
use Rattle.std.specs.List.{list_any}
use Rattle.cache_lru.specs.inner.Layout.{to_front}
use Rattle.cache_lru.proofs.LineLemmas.{to_come}
use Rattle.cache_lru.proofs.ways.bring_in.Given as goal

-- what is still to come makes the lines what they are to be
abbrev pub invariant-lines : goal.invariant-lines
invariant-lines l = record {
  moved : to_come l.block l.carried l.place l.lines ≡ to_front l.block l.fn.lines;
  absent : list_any (λ kept. kept == l.block) (drop l.place l.lines) ≡ false;
  same_length : length l.lines ≡ length l.fn.lines;
}
