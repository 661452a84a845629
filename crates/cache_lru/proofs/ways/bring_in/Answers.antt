use Rattle.std.proofs.Common.{◌≡◌, get_or, sym, ◌∙◌, arith}
use Rattle.std.proofs.lemmas.Bool.{false≢true}
use Rattle.std.proofs.lemmas.List.{length-set}
use Rattle.cache_lru.proofs.LineLemmas.{to_come-more, list_any-here, list_any-more}
use Rattle.cache_lru.proofs.ways.bring_in.Goals as goal

pub lines-preserved : goal.lines-preserved
lines-preserved c =
    let differs : get_or c.lines.lines c.lines.place 0 ≡ c.args.block → ⊥ =
    λ is. false≢true (sym c.lines.invariant.absent
    ∙ list_any-here c.args.block c.lines.carried c.lines.place c.lines.lines (omega arith) is) in
    record {
      moved =
          sym (to_come-more c.args.block c.lines.carried c.lines.place c.lines.lines (omega arith) differs)
          ∙ c.lines.invariant.moved;
      absent =
          list_any-more c.args.block c.lines.carried c.lines.place c.lines.lines (omega arith) differs
          ∙ c.lines.invariant.absent;
      same_length = length-set c.lines.lines c.lines.place c.lines.carried ∙ c.lines.invariant.same_length;
    }
