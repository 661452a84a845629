-- What a word means: the row that it matches, with its fields.
use Rattle.std.specs.Prelude.{ℕ, Option}
use Rattle.std.specs.List.{find}
use Rattle.std.specs.Option.{option_map}
use Rattle.rv_decode.specs.Layout.{instr_of}
use Rattle.rv_decode.specs.Matching.{matches}
use Rattle.rv_decode.specs.Table.{listed_rows}
use Rattle.rv_decode.specs.declared.instr.Instr.{Instr}
use Rattle.rv_decode.specs.declared.row.Row.{Row}

-- the row that a word matches, if there is one
unfoldable pub matching_row : ℕ → Option Row
matching_row word = find (matches word) listed_rows

-- that row's instruction with its fields
unfoldable pub decode : ℕ → Option Instr
decode word = option_map (λ row. instr_of row.shape row.op word) (matching_row word)
