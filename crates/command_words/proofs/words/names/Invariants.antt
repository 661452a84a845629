use Rattle.std.proofs.Common.{◌≡◌, map, take}
use Rattle.std.specs.Prelude.{filter}
use Rattle.command_words.specs.Rows.{command_of, takers_of}
use Rattle.command_words.specs.Table.{includes}
use Rattle.command_words.proofs.words.names.Given as goal

abbrev pub invariant-loop-row : goal.invariant-loop-row
invariant-loop-row l =
    map (λ name. name.now) l.names.items
    ≡ map (λ row. row.name.now)
    (filter (λ row. includes (takers_of row.takers) (command_of l.command)) (take l.row-index l.rows))
