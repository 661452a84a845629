use Rattle.std.proofs.Common.{rules, ◌+◌, ◌*◌, ◌^◌, arith}
use Rattle.cases.proofs.WithinLemmas.{more_within, within_same}
use Rattle.cases.proofs.refused.fill.Goals as goal

pub add-requires-clause-within : goal.add-requires-clause-within
add-requires-clause-within c =
    more_within (2 ^ 60 + c.turns.turn * 2 ^ 32) (2 ^ 62) c.turns.tables.lines c.turns.tables.arcs
    (omega (arith, c.requires.turns.1, c.turns-test.true)) (c.turns.invariant.within (2 ^ 60) c.requires.within)

pub add-requires-then-is_err-clause-within : goal.add-requires-then-is_err-clause-within
add-requires-then-is_err-clause-within c =
    within_same
    (2 ^ 62) c.add.new.tables.lines c.reserve.new.self.lines c.add.new.tables.arcs c.reserve.new.self.arcs
    c.reserve.ensures.lines c.reserve.ensures.arcs
    (more_within (2 ^ 60 + c.turns.turn * 2 ^ 32 + 2 ^ 32) (2 ^ 62) c.add.new.tables.lines c.add.new.tables.arcs
    (omega (arith, c.requires.turns.1, c.turns-test.true))
    (c.add.ensures.within (2 ^ 60 + c.turns.turn * 2 ^ 32) (c.turns.invariant.within (2 ^ 60) c.requires.within)))

pub returns-then-is_err-clause-within : goal.returns-then-is_err-clause-within
returns-then-is_err-clause-within c =
    λ limit within.
    let put_back =
    within_same
    (limit + c.turns.turn * 2 ^ 32 + 2 ^ 32) c.add.new.tables.lines c.reserve.new.self.lines c.add.new.tables.arcs
    c.reserve.new.self.arcs c.reserve.ensures.lines c.reserve.ensures.arcs
    (c.add.ensures.within (limit + c.turns.turn * 2 ^ 32) (c.turns.invariant.within limit within)) in
    more_within (limit + c.turns.turn * 2 ^ 32 + 2 ^ 32 + 2 ^ 32)
    (limit + 2 ^ 54) c.add-then-is_err.new.tables.lines c.add-then-is_err.new.tables.arcs
    (omega (arith, c.requires.turns.1, c.turns-test.true))
    (c.add-then-is_err.ensures.within (limit + c.turns.turn * 2 ^ 32 + 2 ^ 32) put_back)

pub turns-preserved : goal.turns-preserved
turns-preserved c = record {
  within = λ limit within.
      let kept =
      within_same
      (limit + c.turns.turn * 2 ^ 32 + 2 ^ 32) c.add.new.tables.lines c.reserve.new.self.lines c.add.new.tables.arcs
      c.reserve.new.self.arcs c.reserve.ensures.lines c.reserve.ensures.arcs
      (c.add.ensures.within (limit + c.turns.turn * 2 ^ 32) (c.turns.invariant.within limit within)) in
      more_within (limit + c.turns.turn * 2 ^ 32 + 2 ^ 32)
      (limit + (c.turns.turn + 1) * 2 ^ 32) c.reserve.new.self.lines c.reserve.new.self.arcs (omega arith) kept;
  line_room = search rules;
  arc_room = search rules;
}

pub returns-clause-within : goal.returns-clause-within
returns-clause-within c =
    λ limit within. more_within (limit + c.turns.turn * 2 ^ 32)
    (limit + 2 ^ 54) c.turns.tables.lines c.turns.tables.arcs
    (omega (arith, c.requires.turns.0, c.requires.turns.1, c.turns.auto.turn-end))
    (c.turns.invariant.within limit within)
