use Rattle.std.proofs.Common.{sym, ◌∙◌, arith}
use Rattle.std.proofs.lemmas.List.{length-set}
use Rattle.cache_lru.proofs.LineLemmas.{to_come-found, to_come-more, list_any-more}
use Rattle.cache_lru.proofs.ways.touch.Goals as goal

pub returns-then-kept-block-clause-moved : goal.returns-then-kept-block-clause-moved
returns-then-kept-block-clause-moved c =
    sym (to_come-found c.args.block c.lines.carried c.lines.place c.lines.lines (omega arith) c.if-kept-block.true)
    ∙ c.lines.invariant.moved

pub lines-preserved : goal.lines-preserved
lines-preserved c = record {
  moved =
      sym (to_come-more c.args.block c.lines.carried c.lines.place c.lines.lines
      (omega arith) c.if-kept-block.false)
      ∙ c.lines.invariant.moved;
  sought =
      list_any-more c.args.block c.lines.carried c.lines.place c.lines.lines (omega arith) c.if-kept-block.false
      ∙ c.lines.invariant.sought;
  same_length = length-set c.lines.lines c.lines.place c.lines.carried ∙ c.lines.invariant.same_length;
}
