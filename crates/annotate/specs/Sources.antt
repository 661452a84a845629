-- What a report says of source texts.
use Rattle.std.specs.Prelude.{ℕ, ◌+◌, Bool, not, ◌&&◌, ◌||◌, ◌==◌, nat_le, if◌then◌else◌, List, [], ◌∷◌, ◌++◌, length}
use Rattle.std.specs.Prelude.{map, filter, flat_map, fold, max, sum_by, slice_index, slice_index_or, codes, decimal}
use Rattle.std.specs.List.{list_any, slice_split}
use Rattle.byte_text.specs.Names.{clean_name, is_printable}
use Rattle.cg_read.specs.Profiles.{Contents}
use Rattle.cg_read.specs.declared.rows.SelfRow.{SelfRow}
use Rattle.annotate.specs.Names.{costs_text}
use Rattle.report_rows.specs.Lists.{each_event}
use Rattle.report_rows.specs.Orders.{numbers}
use Rattle.annotate.specs.Files.{is_in_file}
use Rattle.annotate.specs.declared.source.Source.{Source}
use Rattle.annotate.specs.declared.source.Source.TheVariants.{Found, Missing, TooLong}

-- The lines of a text

-- without an empty piece at the end
abbrev pub without_last_empty : List (List ℕ) → List (List ℕ)
without_last_empty [] = []
without_last_empty ([] ∷ []) = []
without_last_empty (piece ∷ pieces) = piece ∷ without_last_empty pieces

-- the pieces between line feeds; where the text ends with one, nothing stands after it
abbrev pub text_lines : List ℕ → List (List ℕ)
text_lines text = without_last_empty (slice_split (λ byte. byte == 0x0a) text)

-- printable characters and tabs stay as they are
abbrev pub shown_byte : ℕ → ℕ
shown_byte byte = if is_printable byte || byte == 0x09 then byte else 0x3f

-- Costs of lines

abbrev pub is_at : Contents → List ℕ → ℕ → SelfRow → Bool
is_at p name line row = is_in_file p name row && row.line == line

-- the line of the file has a self row
abbrev pub has_cost : Contents → List ℕ → ℕ → Bool
has_cost p name line = list_any (is_at p name line) p.self_rows

-- what was counted there
abbrev pub line_cost : Contents → List ℕ → ℕ → ℕ → ℕ
line_cost p name line event =
    sum_by (λ row. if is_at p name line row then slice_index row.cost event else 0) p.self_rows

abbrev pub line_costs_text : Contents → List ℕ → ℕ → List ℕ
line_costs_text p name line = costs_text (each_event p (line_cost p name line))

-- a line of the text
abbrev pub text_line : Contents → List ℕ → ℕ → List ℕ → List ℕ
text_line p name line text =
    (if has_cost p name line then line_costs_text p name line else codes ".")
    ++ codes " | " ++ map shown_byte text ++ codes "\n"

-- the text's lines, which are numbered from 1
abbrev pub lines_text : Contents → List ℕ → List (List ℕ) → List ℕ
lines_text p name lines = flat_map (λ i. text_line p name (i + 1) (slice_index_or lines i [])) (numbers (length lines))

-- above the numbers of all lines
abbrev pub lines_end : Contents → ℕ
lines_end p = fold (λ end row. max end (row.line + 1)) 0 p.self_rows

-- the lines that a text of so many lines doesn't have, rising
abbrev pub others_text : Contents → List ℕ → ℕ → List ℕ
others_text p name count =
    flat_map (λ line. line_costs_text p name line ++ codes " | <line " ++ decimal line ++ codes ">\n")
    (filter (λ line. has_cost p name line && not (nat_le 1 line && nat_le line count)) (numbers (lines_end p)))

-- Files

-- a file, and what is known of its text
abbrev pub source_text : Contents → List ℕ → Source → List ℕ
source_text p name (Found text) =
    codes "\n-- source " ++ clean_name name ++ codes "\n"
    ++ (lines_text p name (text_lines text) ++ others_text p name (length (text_lines text)))
source_text p name Missing = codes "\n-- no source " ++ clean_name name ++ codes "\n"
source_text p name (TooLong len) = codes "\n-- source too long " ++ clean_name name ++ codes "\n"
