use Rattle.std.proofs.Common.{◌≡◌, ◌||◌, drop}
use Rattle.std.specs.Prelude.{◌==◌}
use Rattle.std.specs.List.{list_any}
use Rattle.cache_lru.proofs.ways.holds.Given as goal

-- what was found and what the lines to come hold
abbrev pub invariant-lines : goal.invariant-lines
invariant-lines l = record {
  sought : (l.found || list_any (λ kept. kept == l.block) (drop l.place l.fn.lines))
      ≡ list_any (λ kept. kept == l.block) l.fn.lines;
}
