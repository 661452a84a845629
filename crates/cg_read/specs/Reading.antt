-- What a whole file says: the profile that it reads as, or its first bad line.
use Rattle.std.specs.Prelude.{◌≡◌, ℕ, ◌+◌, List, [], ◌∷◌, length, map, reverse, Option, None, Some, is_some, option_map}
use Rattle.std.specs.Prelude.{if◌then◌else◌}
use Rattle.cg_lines.specs.Lines.{lines}
use Rattle.cg_lines.specs.Shapes.{line_of}
use Rattle.cg_read.specs.Meaning as meaning
use Rattle.cg_read.specs.Meaning.{events, open_call, fault, or_else}
use Rattle.cg_lines.specs.Shapes.{is_blank_line}
use Rattle.cg_read.specs.Faults.{error_at}
use Rattle.cg_read.specs.Profiles.{Contents, IsProfile, named_self_rows, named_call_rows, has_function, has_text}
use Rattle.cg_read.specs.Profiles.{functions_of, files_of}
use Rattle.cg_read.specs.declared.rows.FuncKey.{FuncKey}
use Rattle.cg_lines.specs.declared.fault.Fault.{Fault}
use Rattle.cg_lines.specs.declared.line.Line.{Line}
use Rattle.cg_read.specs.declared.error.FormatError.{FormatError}
use Rattle.cg_read.specs.declared.error.FormatError.TheVariants.{BadLine, NoEvents}

-- the history that lines leave: what each says, the newest first
abbrev pub history_of : List (List ℕ) → List Line
history_of texts = reverse (map line_of texts)

-- the history of a whole file
abbrev pub history : List ℕ → List Line
history bytes = history_of (lines bytes)

-- the first line of a history with a fault, by its number, where this says the fault of a line after those before it
abbrev pub first_fault : {L : Type 0} → (List L → L → Option Fault) → List L → Option FormatError
first_fault fault [] = None
first_fault fault (line ∷ before) =
    or_else (first_fault fault before) (option_map (error_at (length before + 1)) (fault before line))

abbrev pub bad_line : List Line → Option FormatError
bad_line before = first_fault fault before

-- the number of the last line that carries something
abbrev pub last_line : List Line → ℕ
last_line [] = 0
last_line (line ∷ before) = if is_blank_line line then last_line before else length before + 1

-- what is missing at the file's end: the cost line of a call, or the events
abbrev pub end_fault : List Line → Option FormatError
end_fault before =
    if is_some (open_call before) then Some (BadLine (last_line before))
    else if is_some (events before) then None
    else Some NoEvents

-- the first bad line of a file, and its kind
abbrev pub first_bad : List ℕ → Option FormatError
first_bad bytes = or_else (bad_line (history bytes)) (end_fault (history bytes))

-- The lines of a history say this profile.
pub record Says (before : List Line) (p : Contents) : Type 0 where
  pub events : meaning.events before ≡ Some p.events
  pub command : meaning.command before ≡ p.command
  -- its rows are those of the lines, in their order
  pub self_rows : named_self_rows p ≡ meaning.self_rows before
  pub call_rows : named_call_rows p ≡ meaning.call_rows before
  -- its functions are those of its rows, and its files those at which its rows stand
  pub functions : (f : FuncKey)
      → has_function p.functions f ≡ has_function (functions_of (meaning.self_rows before) (meaning.call_rows before)) f
  pub files : (t : List ℕ)
      → has_text p.files t ≡ has_text (files_of (meaning.self_rows before) (meaning.call_rows before)) t
  -- each once, and the rest that holds of every profile
  pub profile : IsProfile p

-- The bytes read as this profile: no line is bad, and the lines say it.
pub record Reads (bytes : List ℕ) (p : Contents) : Type 0 where
  pub sound : first_bad bytes ≡ None
  pub says : Says (history bytes) p
