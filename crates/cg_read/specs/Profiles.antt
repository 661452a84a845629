-- What contracts see of a profile, and what holds of every one.
use Rattle.std.specs.Prelude.{◌≡◌, ℕ, ◌<◌, ◌≤◌, Bool, ◌&&◌, List, [], ◌∷◌, ◌++◌, length, map, flat_map, Option}
use Rattle.std.specs.Prelude.{All, slice_index_or}
use Rattle.std.specs.List.{list_any}
use Rattle.std.specs.Str.{bytes_eq}
use Rattle.cg_read.specs.declared.rows.FuncKey.{FuncKey}
use Rattle.cg_read.specs.declared.rows.SelfRow.{SelfRow}
use Rattle.cg_read.specs.declared.rows.CallRow.{CallRow}
-- the text where no file or function is known
pub use Rattle.byte_text.specs.Names.{unknown}
pub use Rattle.key_tables.specs.Keys.{AreApart}
-- how many event names a profile may have, and whether a text is among others
pub use Rattle.cg_lines.specs.Names.{has_text, most_events}

-- A profile: the names of its events, the command where one was given, and rows that name functions and files by their
-- places in two lists.
pub record Contents : Type 0 where
  pub events : List (List ℕ)
  pub command : Option (List ℕ)
  pub functions : List FuncKey
  pub files : List (List ℕ)
  pub self_rows : List SelfRow
  pub call_rows : List CallRow

abbrev pub contents : List (List ℕ) → Option (List ℕ) → List FuncKey → List (List ℕ) → List SelfRow
    → List CallRow → Contents
contents events command functions files self_rows call_rows = record {
  events = events;
  command = command;
  functions = functions;
  files = files;
  self_rows = self_rows;
  call_rows = call_rows;
}

-- a self row's numbers are in range, and it has one cost for each event
pub record FitsSelf (events functions files : ℕ) (row : SelfRow) : Type 0 where
  pub function : row.func < functions
  pub file : row.file < files
  pub cost : length row.cost ≡ events

-- the same of a call row
pub record FitsCall (events functions files : ℕ) (row : CallRow) : Type 0 where
  pub caller : row.caller < functions
  pub callee : row.callee < functions
  pub file : row.file < files
  pub cost : length row.cost ≡ events

-- what holds of every profile
pub record IsProfile (p : Contents) : Type 0 where
  pub event_limit : length p.events ≤ most_events
  pub events_differ : AreApart p.events
  pub functions_differ : AreApart p.functions
  pub files_differ : AreApart p.files
  pub self_rows_fit : All (FitsSelf (length p.events) (length p.functions) (length p.files)) p.self_rows
  pub call_rows_fit : All (FitsCall (length p.events) (length p.functions) (length p.files)) p.call_rows

-- Rows with the texts that their numbers stand for

abbrev pub unknown_function : FuncKey
unknown_function = record { object = []; file = unknown; name = unknown }

abbrev pub function_at : List FuncKey → ℕ → FuncKey
function_at functions n = slice_index_or functions n unknown_function

abbrev pub file_at : List (List ℕ) → ℕ → List ℕ
file_at files n = slice_index_or files n unknown

-- what was counted in a function at a line
pub record NamedSelf : Type 0 where
  pub function : FuncKey
  pub file : List ℕ
  pub line : ℕ
  pub cost : List ℕ

-- what was counted under calls of a function from a line of another
pub record NamedCall : Type 0 where
  pub caller : FuncKey
  pub file : List ℕ
  pub line : ℕ
  pub callee : FuncKey
  pub calls : ℕ
  pub cost : List ℕ

abbrev pub named_self : List FuncKey → List (List ℕ) → SelfRow → NamedSelf
named_self functions files row = record {
  function = function_at functions row.func;
  file = file_at files row.file;
  line = row.line;
  cost = row.cost;
}

abbrev pub named_call : List FuncKey → List (List ℕ) → CallRow → NamedCall
named_call functions files row = record {
  caller = function_at functions row.caller;
  file = file_at files row.file;
  line = row.line;
  callee = function_at functions row.callee;
  calls = row.calls;
  cost = row.cost;
}

abbrev pub named_self_rows : Contents → List NamedSelf
named_self_rows p = map (named_self p.functions p.files) p.self_rows

abbrev pub named_call_rows : Contents → List NamedCall
named_call_rows p = map (named_call p.functions p.files) p.call_rows

-- Which functions and files there are

abbrev pub same_function : FuncKey → FuncKey → Bool
same_function f g = bytes_eq f.object g.object && (bytes_eq f.file g.file && bytes_eq f.name g.name)

abbrev pub has_function : List FuncKey → FuncKey → Bool
has_function functions f = list_any (same_function f) functions

-- the functions of the rows
abbrev pub functions_of : List NamedSelf → List NamedCall → List FuncKey
functions_of selfs calls = map (λ r. r.function) selfs ++ flat_map (λ r. r.caller ∷ r.callee ∷ []) calls

-- the files at which the rows stand
abbrev pub files_of : List NamedSelf → List NamedCall → List (List ℕ)
files_of selfs calls = map (λ r. r.file) selfs ++ map (λ r. r.file) calls

-- Two profiles that say the same: they differ at most in the order in which functions and files are numbered.
pub record SaysTheSame (p q : Contents) : Type 0 where
  pub events : p.events ≡ q.events
  pub command : p.command ≡ q.command
  pub self_rows : named_self_rows p ≡ named_self_rows q
  pub call_rows : named_call_rows p ≡ named_call_rows q
  pub functions : (f : FuncKey) → has_function p.functions f ≡ has_function q.functions f
  pub files : (t : List ℕ) → has_text p.files t ≡ has_text q.files t
