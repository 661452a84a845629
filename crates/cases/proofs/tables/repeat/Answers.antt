use Rattle.std.proofs.Common.{◌+◌, ◌*◌, ◌^◌, arith}
use Rattle.cases.proofs.WithinLemmas.{known_needs_none, more_within}
use Rattle.cases.proofs.tables.repeat.Goals as goal

pub add-requires-clause-within : goal.add-requires-clause-within
add-requires-clause-within c =
    more_within (2 ^ 60 + c.additions.turn * 2 ^ 32) (2 ^ 62) c.additions.tables.lines c.additions.tables.arcs
    (omega (arith, c.requires.count, c.additions-test.true)) (c.additions.invariant.within (2 ^ 60) c.requires.within)

pub additions-preserved : goal.additions-preserved
additions-preserved c = record {
  line = known_needs_none c.add.ensures.line;
  arc = known_needs_none c.add.ensures.arc;
  within = λ limit within.
      more_within (limit + c.additions.turn * 2 ^ 32 + 2 ^ 32)
      (limit + (c.additions.turn + 1) * 2 ^ 32) c.add.new.tables.lines c.add.new.tables.arcs
      (omega arith)
      (c.add.ensures.within (limit + c.additions.turn * 2 ^ 32) (c.additions.invariant.within limit within));
}

pub returns : goal.returns
returns c = record {
  within = λ limit within.
      more_within (limit + c.additions.turn * 2 ^ 32) (limit + 2 ^ 52) c.additions.tables.lines c.additions.tables.arcs
      (omega (arith, c.requires.count, c.additions.auto.turn-end)) (c.additions.invariant.within limit within);
}
