-- What a reader knows of the lines that it has read. Each record is over what the lines say, so that a line leaves
-- those that it doesn't speak of as they are.
use Rattle.std.specs.Prelude.{◌≡◌, ℕ, List, [], ◌∷◌, Option, None, length, unwrap_or, option_map, IfSome, MatchOption}
use Rattle.std.specs.Prelude.{Result, MatchResult, Vec, Some, slice_get}
use Rattle.std.specs.declared.alloc.Global.{Global}
use Rattle.cg_read.specs.Meaning as meaning
use Rattle.cg_read.specs.Meaning.{Call, fault, fault_alone, self_rows, call_rows}
use Rattle.cg_read.specs.Profiles.{NamedSelf, NamedCall}
use Rattle.cg_read.specs.inner.Events.{AreEvents}
use Rattle.cg_read.specs.inner.Drafts.{Holds}
use Rattle.cg_lines.specs.Faults.{Refuses}
use Rattle.cg_read.specs.inner.Texts.{Means, Tells, Names}
use Rattle.cg_read.specs.declared.rows.FuncKey.{FuncKey}
use Rattle.cg_lines.specs.declared.fault.Fault.{Fault}
use Rattle.cg_lines.specs.declared.line.Line.{Line}
use Rattle.cg_read.specs.declared.draft.Draft.{Draft}
use Rattle.cg_read.specs.declared.ids.KnownIds.{KnownIds}
use Rattle.cg_read.specs.declared.current.Current.{Current}
use Rattle.cg_read.specs.declared.callee.NextCallee.{NextCallee}
use Rattle.cg_read.specs.declared.reader.OpenCall.{OpenCall}
use Rattle.cg_read.specs.declared.reader.Reader.{Reader}

-- the call that is open is the one that is meant
abbrev pub Opens : List (List ℕ) → Option OpenCall → Option Call → Type 0
Opens texts None None = Unit {0}
Opens texts (Some call) (Some meant) = Names texts call.callee meant.callee × (call.calls ≡ meant.calls)
Opens texts _ _ = ⊥

-- the names of the events, and the rows over them
pub record KnowsRows (texts : List (List ℕ)) (named : Option (Vec (List ℕ) Global)) (d : Draft)
    (events : Option (List (List ℕ))) (selfs : List NamedSelf) (calls : List NamedCall) : Type 0 where
  pub names : option_map (λ v. v.items) named ≡ events
  pub sound : IfSome events AreEvents
  pub none : MatchOption events ((d.self_rows.items ≡ []) × (d.call_rows.items ≡ [])) (λ _. Unit {0})
  pub rows : Holds texts (length (unwrap_or events [])) d selfs calls

-- what ids stand for
pub record KnowsIds (texts : List (List ℕ)) (known : KnownIds)
    (of_objects of_files of_functions : List ℕ → Option (List ℕ)) : Type 0 where
  pub objects : Tells texts known.objects of_objects
  pub files : Tells texts known.files of_files
  pub functions : Tells texts known.functions of_functions

-- what is current
pub record KnowsCurrent (texts : List (List ℕ)) (known : Current) (the_object the_file : List ℕ)
    (the_function : FuncKey) : Type 0 where
  pub object : slice_get texts known.object ≡ Some the_object
  pub file : slice_get texts known.file ≡ Some the_file
  pub function : Names texts known.function the_function

-- what was said of the next callee
pub record KnowsCallee (texts : List (List ℕ)) (known : NextCallee)
    (the_object the_file the_name : Option (List ℕ)) : Type 0 where
  pub object : Means texts known.object the_object
  pub file : Means texts known.file the_file
  pub name : Means texts known.name the_name

-- The reader's fields are what a line after these looks back to.
pub record Knows (r : Reader) (before : List Line) : Type 0 where
  pub rows : KnowsRows r.texts r.events r.draft (meaning.events before) (self_rows before) (call_rows before)
  pub command : r.command ≡ meaning.command before
  pub ids : KnowsIds r.texts r.ids (meaning.object_ids before) (meaning.file_ids before) (meaning.function_ids before)
  pub current : KnowsCurrent r.texts r.current (meaning.current_object before) (meaning.current_file before)
      (meaning.current_function before)
  pub position : r.position ≡ meaning.position before
  pub callee : KnowsCallee r.texts r.callee (meaning.callee_object before) (meaning.callee_file before)
      (meaning.callee_name before)
  pub open_call : Opens r.texts r.open_call (meaning.open_call before)

-- a reader where relative positions count from this one
abbrev pub counting_from : ℕ → Reader → Reader
counting_from position r = record r { position = position }

-- Read by itself, the line gave this result: the reader knows it too, but for what positions count from then, or the
-- line's fault was answered.
abbrev pub TakesAlone : Reader → Line → Result (Unit {0}) Fault → Reader → Type 0
TakesAlone old line result new = (before : List Line) → Knows old before
    → MatchResult result (λ _. Knows (counting_from (meaning.position (line ∷ before)) new) (line ∷ before)
    × (fault_alone before line ≡ None))
    (λ e. Refuses e (fault_alone before line))

-- the same of a line after a call too
abbrev pub Takes : Reader → Line → Result (Unit {0}) Fault → Reader → Type 0
Takes old line result new = (before : List Line) → Knows old before
    → MatchResult result (λ _. Knows new (line ∷ before) × (fault before line ≡ None))
    (λ e. Refuses e (fault before line))
