-- The whole text of a part.
use Rattle.std.proofs.Common.{◌≡◌, ℕ, List, [], ◌∷◌, fold, length, map, reverse, ap, ◌∙◌}
use Rattle.sym_map.specs.SymbolMap.{SymbolMap}
use Rattle.cg_format.specs.Heading.{totals}
use Rattle.cg_format.specs.Marks.{Mark, Plain, text_of}
use Rattle.cg_format.specs.Sums.{sum_of_lines}
use Rattle.cg_format.specs.declared.head.PartHead.{PartHead}
use Rattle.addr_rows.specs.Plain.{plain}
use Rattle.addr_rows.specs.Rows.{AddrListed}
use Rattle.addr_rows.specs.Texts.{addr_text, after_row, all_rows, by_function, heading}
use Rattle.addr_rows.specs.declared.row.AddrRow.{AddrRow}

-- the lines where the line rows have this sum and these are the rows in their order
abbrev lines_with : PartHead → SymbolMap → List ℕ → List AddrRow → List Mark
lines_with head m sum rows =
    Plain (totals head sum) ∷ Plain [] ∷ fold (after_row head m) (reverse (map Plain (heading head sum))) rows

pub whole_part : (head : PartHead) (rows : AddrListed) (m : SymbolMap) (sum : List ℕ) (sorted : List AddrRow)
    (text : List ℕ)
    → text ≡ text_of m (lines_with head m sum sorted) → sum ≡ sum_of_lines (plain rows).lines
    → sorted ≡ by_function (length m.functions) (all_rows rows) → text ≡ addr_text head rows m
unfolding addr_text
whole_part head rows m sum sorted text is summed ordered =
    is ∙ ap (λ s. text_of m (lines_with head m s sorted)) summed
    ∙ ap (λ xs. text_of m (lines_with head m (sum_of_lines (plain rows).lines) xs)) ordered
