use Rattle.std.proofs.Common.{map, take}
use Rattle.sorted_words.proofs.BuilderLemmas.{IsLeaf}
use Rattle.sorted_words.proofs.builder.command.Given as goal

abbrev pub invariant-loop-name : goal.invariant-loop-name
invariant-loop-name l =
    IsLeaf
    (record {
      name = l.syntax.name.now;
      options = map (λ name. name.now) (take l.name-index l.name-items);
    }) l.command
