-- The profile of the rows of a part: what its text is to read as.
use Rattle.std.specs.Prelude.{◌≡◌, ℕ, ◌<◌, ◌^◌, List, All, map, Option, Some}
use Rattle.std.specs.List.Sorted.{IsStrictlySortedBy}
use Rattle.event_costs.specs.Costs.{IsWhole, event_names, events_shown}
use Rattle.byte_text.specs.Names.{clean_name}
use Rattle.event_costs.specs.declared.numbers.FuncId.{FuncId}
use Rattle.arc_costs.specs.Arcs.{arc_of}
use Rattle.arc_costs.specs.Contents.{Listed}
use Rattle.arc_costs.specs.Lines.{place_of}
use Rattle.event_costs.specs.Order.{arc_order, place_order}
use Rattle.arc_costs.specs.Rows.{ArcRow, LineRow}
use Rattle.sym_map.specs.SymbolMap.{SymbolMap, file_text, identity_of}
use Rattle.cg_format.specs.Part.{AreKnown}
use Rattle.cg_format.specs.declared.head.PartHead.{PartHead}
use Rattle.cg_read.specs.Profiles.{Contents, NamedCall, NamedSelf, files_of, functions_of, has_function}
use Rattle.cg_read.specs.Profiles.{has_text, named_call_rows, named_self_rows}
use Rattle.cg_read.specs.declared.rows.FuncKey.{FuncKey}
use Rattle.once_each.specs.Texts.{Naming, named_arc, named_line}

-- What rows keep to be written: their functions and files are those of the map, each has a number for each kind of
-- event, all numbers have 64 bits, and both kinds of row come in the order of their keys.
pub record FitsLine (row : LineRow) : Type 0 where
  pub line : row.place.line < 2 ^ 64
  pub whole : IsWhole row.cost
  pub cost : All (λ n. n < 2 ^ 64) row.cost

pub record FitsArc (row : ArcRow) : Type 0 where
  pub line : row.arc.line < 2 ^ 64
  pub calls : row.calls < 2 ^ 64
  pub whole : IsWhole row.cost
  pub cost : All (λ n. n < 2 ^ 64) row.cost

pub record AreWritable (m : SymbolMap) (rows : Listed) : Type 0 where
  pub of_map : AreKnown m rows
  pub lines_fit : All FitsLine rows.lines
  pub arcs_fit : All FitsArc rows.arcs
  pub lines_rise : IsStrictlySortedBy place_order (map place_of rows.lines)
  pub arcs_rise : IsStrictlySortedBy arc_order (map arc_of rows.arcs)

-- a function of a map, by texts: the object of the part, and what makes the function
abbrev pub key_of : PartHead → SymbolMap → FuncId → FuncKey
key_of head m func =
    record { object = clean_name head.object; file = (identity_of m func).file; name = (identity_of m func).name }

-- the texts of a map's functions and files in a part
abbrev pub naming : PartHead → SymbolMap → Naming
naming head m = record {
  func = λ n. key_of head m (record { 0 = n });
  file = λ n. file_text m (record { 0 = n });
  branches = head.branch;
}

-- the rows with their texts, and a cost for each event shown
abbrev pub lines_read : PartHead → SymbolMap → List LineRow → List NamedSelf
lines_read head m lines = map (named_line (naming head m)) lines

abbrev pub arcs_read : PartHead → SymbolMap → List ArcRow → List NamedCall
arcs_read head m arcs = map (named_arc (naming head m)) arcs

-- The rows of a profile: the events shown, this command, one self row for each line row, one call row for each arc row,
-- and the functions and files of these rows, in any numbering.
pub record IsOfRows (head : PartHead) (command : Option (List ℕ)) (rows : Listed) (m : SymbolMap)
    (p : Contents) : Type 0 where
  pub events : p.events ≡ events_shown head.branch event_names
  pub command_is : p.command ≡ command
  pub self_rows : named_self_rows p ≡ lines_read head m rows.lines
  pub call_rows : named_call_rows p ≡ arcs_read head m rows.arcs
  pub functions : (f : FuncKey) → has_function p.functions f
      ≡ has_function (functions_of (lines_read head m rows.lines) (arcs_read head m rows.arcs)) f
  pub files : (t : List ℕ) → has_text p.files t
      ≡ has_text (files_of (lines_read head m rows.lines) (arcs_read head m rows.arcs)) t

-- the command that a part gives
abbrev pub command_of : PartHead → Option (List ℕ)
command_of head = Some (clean_name head.cmd)
