use Rattle.std.proofs.Common.{◌+◌, ◌^◌, [], arith}
use Rattle.cases.proofs.WithinLemmas.{more_within, nothing_within, within_same}
use Rattle.cases.proofs.tables.repeated.Goals as goal

pub repeat-requires-clause-within : goal.repeat-requires-clause-within
repeat-requires-clause-within c =
    within_same
    (2 ^ 60) [] c.new-tables.result.lines [] c.new-tables.result.arcs c.new-tables.ensures.lines
    c.new-tables.ensures.arcs
    (more_within 0 (2 ^ 60) [] [] (omega arith) nothing_within)

pub repeat-requires-2-clause-within : goal.repeat-requires-2-clause-within
repeat-requires-2-clause-within c =
    let empty =
    within_same 0 [] c.new-tables.result.lines [] c.new-tables.result.arcs c.new-tables.ensures.lines
    c.new-tables.ensures.arcs nothing_within in
    within_same
    (2 ^ 60) c.repeat.new.tables.lines c.reserve.new.self.lines c.repeat.new.tables.arcs c.reserve.new.self.arcs
    c.reserve.ensures.lines c.reserve.ensures.arcs
    (more_within (0 + 2 ^ 52) (2 ^ 60) c.repeat.new.tables.lines c.repeat.new.tables.arcs (omega arith)
    (c.repeat.ensures.within 0 empty))
