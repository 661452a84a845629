use Rattle.std.proofs.Common.{◌||◌, sym, ap, ◌∙◌, arith}
use Rattle.std.specs.Prelude.{◌==◌}
use Rattle.std.specs.List.{list_any}
use Rattle.std.proofs.Math.Bool.{or_assoc}
use Rattle.std.proofs.lemmas.List.{drop_more}
use Rattle.cache_lru.proofs.ways.holds.Goals as goal

pub lines-preserved : goal.lines-preserved
lines-preserved c = record {
  sought =
      or_assoc c.lines.found _ _
      ∙ ap (λ b. c.lines.found || b)
      (sym (ap (list_any (λ kept. kept == c.args.block)) (drop_more c.args.lines.now c.lines.place 0 (omega arith))))
      ∙ c.lines.invariant.sought;
}
