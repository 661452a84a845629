use Rattle.std.proofs.Common.{◌+◌, ◌^◌, [], arith}
use Rattle.cases.proofs.WithinLemmas.{more_within, nothing_within, within_same}
use Rattle.cases.proofs.refused.fill_past_want.Goals as goal

pub fill_in_want-requires-clause-within : goal.fill_in_want-requires-clause-within
fill_in_want-requires-clause-within c =
    let empty =
    within_same 0 [] c.args.tables.now.lines [] c.args.tables.now.arcs c.requires.lines
    c.requires.arcs nothing_within in
    more_within (0 + 2 ^ 54) (2 ^ 60) c.fill-early.new.tables.lines c.fill-early.new.tables.arcs (omega arith)
    (c.fill-early.ensures.within 0 empty)

pub fill-late-requires-clause-within : goal.fill-late-requires-clause-within
fill-late-requires-clause-within c =
    let empty =
    within_same 0 [] c.args.tables.now.lines [] c.args.tables.now.arcs c.requires.lines
    c.requires.arcs nothing_within in
    let filled = c.fill_in_want.ensures.within (0 + 2 ^ 54) (c.fill-early.ensures.within 0 empty) in
    within_same
    (2 ^ 60) c.fill_in_want.new.tables.lines c.reserve.new.self.lines c.fill_in_want.new.tables.arcs
    c.reserve.new.self.arcs c.reserve.ensures.lines c.reserve.ensures.arcs
    (more_within (0 + 2 ^ 54 + 2 ^ 54) (2 ^ 60) c.fill_in_want.new.tables.lines c.fill_in_want.new.tables.arcs
    (omega arith) filled)
