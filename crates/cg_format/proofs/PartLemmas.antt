-- The whole text of a part.
use Rattle.std.proofs.Common.{◌≡◌, ℕ, List, [], ◌∷◌, fold, length, map, reverse, ap, ◌∙◌}
use Rattle.arc_costs.specs.Contents.{Listed}
use Rattle.sym_map.specs.SymbolMap.{SymbolMap}
use Rattle.cg_format.specs.Heading.{heading, totals}
use Rattle.cg_format.specs.Marks.{Mark, Plain, text_of}
use Rattle.cg_format.specs.Part.{after_row, part_text}
use Rattle.cg_format.specs.Rows.{all_rows, by_function}
use Rattle.cg_format.specs.Sums.{sum_of_lines}
use Rattle.cg_format.specs.declared.head.PartHead.{PartHead}
use Rattle.cg_format.specs.declared.row.Row.{Row}

-- the lines where the line rows have this sum and these are the rows in their order
abbrev lines_with : PartHead → SymbolMap → List ℕ → List Row → List Mark
lines_with head m sum rows =
    Plain (totals head sum) ∷ Plain [] ∷ fold (after_row head m) (reverse (map Plain (heading head sum))) rows

pub whole_part : (head : PartHead) (rows : Listed) (m : SymbolMap) (sum : List ℕ) (sorted : List Row) (text : List ℕ)
    → text ≡ text_of m (lines_with head m sum sorted) → sum ≡ sum_of_lines rows.lines
    → sorted ≡ by_function (length m.functions) (all_rows rows) → text ≡ part_text head rows m
unfolding part_text
whole_part head rows m sum sorted text is summed ordered =
    is ∙ ap (λ s. text_of m (lines_with head m s sorted)) summed
    ∙ ap (λ xs. text_of m (lines_with head m (sum_of_lines rows.lines) xs)) ordered
