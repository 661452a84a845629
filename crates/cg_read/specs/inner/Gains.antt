-- What a profile gains from another that has no more events.
use Rattle.std.specs.Prelude.{◌≡◌, ◌<◌, ◌≤◌, ℕ, List, [], ◌++◌, length, map, Option, None}
use Rattle.std.specs.Prelude.{slice_index}
use Rattle.std.specs.Str.{bytes_eq}
use Rattle.cg_read.specs.Profiles.{Contents, IsProfile, contents, same_function, named_self_rows}
use Rattle.cg_read.specs.Profiles.{named_call_rows}
use Rattle.cg_read.specs.Meaning.{or_else, padded}
use Rattle.cg_read.specs.Merge.{missing, padded_self, padded_call}
pub use Rattle.key_tables.specs.Keys.{NumberEach}
use Rattle.cg_read.specs.declared.function_numbers.FunctionNumbers.{FunctionNumbers}
use Rattle.cg_read.specs.declared.rows.FuncKey.{FuncKey}
use Rattle.cg_read.specs.declared.rows.SelfRow.{SelfRow}
use Rattle.cg_read.specs.declared.rows.CallRow.{CallRow}

-- The new profile has these functions, and is the old one, which has the longer list of events, with the other's rows
-- after its own.
pub record HasRows (functions_are : List FuncKey) (old other new : Contents) : Type 0 where
  pub events : new.events ≡ old.events
  pub command : new.command ≡ or_else old.command other.command
  pub functions : new.functions ≡ functions_are
  pub files : new.files ≡ old.files ++ missing bytes_eq old.files other.files
  pub self_rows : named_self_rows new ≡ named_self_rows old ++ map (padded_self (length old.events))
      (named_self_rows other)
  pub call_rows : named_call_rows new ≡ named_call_rows old ++ map (padded_call (length old.events))
      (named_call_rows other)
  pub profile : IsProfile new

abbrev pub IsAppended : Contents → Contents → Contents → Type 0
IsAppended old other new =
    HasRows (old.functions ++ missing same_function old.functions other.functions) old other new

-- a function whose texts have other numbers
abbrev pub renumber : List ℕ → FunctionNumbers → FunctionNumbers
renumber numbers f = record {
  object = slice_index numbers f.object;
  file = slice_index numbers f.file;
  name = slice_index numbers f.name;
}

-- rows with the numbers that functions and files have in another profile, which has so many events
abbrev pub renumbered_self : ℕ → List ℕ → List ℕ → SelfRow → SelfRow
renumbered_self events functions files row = record {
  func = slice_index functions row.func;
  file = slice_index files row.file;
  line = row.line;
  cost = padded events row.cost;
}

abbrev pub renumbered_call : ℕ → List ℕ → List ℕ → CallRow → CallRow
renumbered_call events functions files row = record {
  caller = slice_index functions row.caller;
  file = slice_index files row.file;
  line = row.line;
  callee = slice_index functions row.callee;
  calls = row.calls;
  cost = padded events row.cost;
}

-- the rows' numbers are in range, and they have at most so many costs
abbrev pub InRangeSelf : ℕ → ℕ → ℕ → SelfRow → Type 0
InRangeSelf events functions files row = (row.func < functions) × (row.file < files) × (length row.cost ≤ events)

abbrev pub InRangeCall : ℕ → ℕ → ℕ → CallRow → Type 0
InRangeCall events functions files row =
    (row.caller < functions) × (row.file < files) × (row.callee < functions) × (length row.cost ≤ events)

-- a profile of these events with no rows
abbrev pub no_rows : List (List ℕ) → Contents
no_rows events = contents events None [] [] [] []

-- a profile with these files and rows at its ends, and a command if it had none
abbrev pub with_gain : Contents → Option (List ℕ) → List (List ℕ) → List SelfRow → List CallRow → Contents
with_gain p command files self_rows call_rows =
    contents p.events (or_else p.command command) p.functions (p.files ++ files)
    (p.self_rows ++ self_rows) (p.call_rows ++ call_rows)

-- a profile with these functions behind its own
abbrev pub with_functions : Contents → List FuncKey → Contents
with_functions p more = record p { functions = p.functions ++ more }
