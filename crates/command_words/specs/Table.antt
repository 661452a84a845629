-- The commands, and the options that each takes.
use Rattle.std.specs.Prelude.{ℕ, ◌-◌, ◌^◌, Bool, true, false, List, [], ◌∷◌, Option, Some, None, codes, filter, map}
use Rattle.sorted_words.specs.Sorting.{Syntax, Text}

pub data Command : Type 0 where
  Run : Command
  Report : Command
  Annotate : Command
  Demo : Command

-- which commands take an option
pub data Takers : Type 0 where
  RunAlone : Takers
  RunAndReport : Takers
  ReportAndAnnotate : Takers

-- what the VALUE of an option may be
pub data Kind : Type 0 where
  -- any text
  AnyText : Kind
  -- a text of so many bytes at least, and at most where there is a limit
  Sized : ℕ → Option ℕ → Kind
  -- a number from the first to the second
  Number : ℕ → ℕ → Kind
  -- SIZE,ASSOC,LINE of a cache
  Cache : Kind
  -- one of these words
  OneOf : List Text → Kind

pub record Row : Type 0 where
  pub name : Text
  pub takers : Takers
  pub kind : Kind

abbrev pub yes_or_no : Kind
yes_or_no = OneOf (codes "yes" ∷ codes "no" ∷ [])

abbrev row : Text → Takers → Kind → Row
row name takers kind = record { name = name; takers = takers; kind = kind }

abbrev pub table : List Row
table =
    row (codes "base") RunAndReport (Sized 1 (Some 200))
    ∷ row (codes "input") RunAndReport (Sized 1 None)
    ∷ row (codes "budget") RunAndReport (Number 1 (10 ^ 12))
    ∷ row (codes "quantum") RunAndReport (Number 1 1000000)
    ∷ row (codes "turns") RunAndReport (Number 0 (2 ^ 64 - 1))
    ∷ row (codes "I1") RunAndReport Cache
    ∷ row (codes "D1") RunAndReport Cache
    ∷ row (codes "LL") RunAndReport Cache
    ∷ row (codes "dump-every") RunAndReport (Number 1 (10 ^ 12))
    ∷ row (codes "dump-before") RunAndReport AnyText
    ∷ row (codes "dump-after") RunAndReport AnyText
    ∷ row (codes "branch-sim") RunAndReport yes_or_no
    ∷ row (codes "sort") ReportAndAnnotate AnyText
    ∷ row (codes "threshold") ReportAndAnnotate (Number 0 100)
    ∷ row (codes "tree") ReportAndAnnotate (OneOf (codes "none" ∷ codes "caller" ∷ codes "calling" ∷ codes "both" ∷ []))
    ∷ row (codes "auto") ReportAndAnnotate yes_or_no
    ∷ row (codes "waits") RunAlone yes_or_no
    ∷ row (codes "separate-callers") RunAlone (Number 1 16)
    ∷ row (codes "dump-instr") RunAndReport yes_or_no
    ∷ []

abbrev pub includes : Takers → Command → Bool
includes RunAlone Run = true
includes RunAndReport Run = true
includes RunAndReport Report = true
includes ReportAndAnnotate Report = true
includes ReportAndAnnotate Annotate = true
includes _ _ = false

abbrev pub rows_of : Command → List Row
rows_of command = filter (λ row. includes row.takers command) table

abbrev pub name_of : Command → Text
name_of Run = codes "run"
name_of Report = codes "report"
name_of Annotate = codes "annotate"
name_of Demo = codes "demo"

abbrev pub commands : List Command
commands = Run ∷ Report ∷ Annotate ∷ Demo ∷ []

-- the command with the names of its options
abbrev pub syntax_of : Command → Syntax
syntax_of command = record { name = name_of command; options = map (λ row. row.name) (rows_of command) }
