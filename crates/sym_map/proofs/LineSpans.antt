-- Spans that show the lines of rows.
use Rattle.std.proofs.Common.{ℕ, Bool, true, false, cond, List, [], ◌∷◌, Option, Some, option_map}
use Rattle.std.specs.List.{AllByRecursion}
use Rattle.dwarf_line.specs.declared.row.Row.{Row}
use Rattle.dwarf_line.specs.Rows.{with_text}
use Rattle.sym_map.specs.declared.range.Cover.{Cover}
use Rattle.sym_map.specs.declared.range.Cover.TheVariants as what
use Rattle.sym_map.specs.inner.Lines.{IsLineOf, ShowsLine}
use Rattle.sym_map.specs.inner.Rows.{RowSpan, covers_row, line_here, line_spans, row_seen}
use Rattle.sym_map.specs.inner.Spans.{or_below, cover}

-- a row's line is that of its text
abbrev pub IsLined : List (List ℕ) → List (List ℕ) → List ℕ → Row → Type 0
IsLined names files ids row = IsLineOf names (line_here ids row) (with_text files row)

-- what is seen of the spans is the line of the row on top
pub shows_lines : (names files : List (List ℕ)) (ids : List ℕ) (spans : List RowSpan)
    → AllByRecursion (λ (s : RowSpan). IsLined names files ids s.row) spans → (a : ℕ)
    → ShowsLine names (cover (line_spans ids spans) a) (option_map (with_text files) (row_seen spans a))
shows_lines names files ids [] all a = tt
shows_lines names files ids (s ∷ spans) all a =
    one (covers_row a s) (cover (line_spans ids spans) a) (row_seen spans a) (shows_lines names files ids spans all.1 a)
  where
    one : (b : Bool) (below : Cover) (row : Option Row) → ShowsLine names below (option_map (with_text files) row)
        → ShowsLine names (or_below (cond b (what.Line (line_here ids s.row)) what.Nothing) below)
        (option_map (with_text files) (cond b (Some s.row) row))
    one true below row shows = all.0
    one false below row shows = shows
