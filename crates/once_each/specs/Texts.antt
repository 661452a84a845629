-- A profile that was read: its rows say which functions and files they mean by texts.
use Rattle.std.specs.Prelude.{◌≡◌, ℕ, Bool, List, map}
use Rattle.std.specs.List.{position_or_len}
use Rattle.std.specs.Str.{bytes_eq}
use Rattle.event_costs.specs.Costs.{event_names, events_shown}
use Rattle.sym_map.specs.SymbolMap.{SymbolMap}
use Rattle.shadow_stack.specs.Traces.{CountedEvent}
use Rattle.arc_costs.specs.Rows.{ArcRow, LineRow}
use Rattle.cg_read.specs.Profiles.{Contents, IsProfile, NamedCall, NamedSelf, named_call_rows, named_self_rows}
use Rattle.cg_read.specs.Profiles.{same_function}
use Rattle.cg_read.specs.declared.rows.FuncKey.{FuncKey}
use Rattle.once_each.specs.Parts.{ThreadRows, ArePartsOfTrace, all_arcs, all_lines}
use Rattle.once_each.specs.Profiles.{Numbering}

-- the texts of the functions and files of a map of symbols, and whether branches are shown
pub record Naming : Type 0 where
  pub func : ℕ → FuncKey
  pub file : ℕ → List ℕ
  pub branches : Bool

abbrev pub named_line : Naming → LineRow → NamedSelf
named_line names row = record {
  function = names.func row.place.func.0;
  file = names.file row.place.file.0;
  line = row.place.line;
  cost = events_shown names.branches row.cost;
}

abbrev pub named_arc : Naming → ArcRow → NamedCall
named_arc names row = record {
  caller = names.func row.arc.caller.0;
  file = names.file row.arc.file.0;
  line = row.arc.line;
  callee = names.func row.arc.callee.0;
  calls = row.calls;
  cost = events_shown names.branches row.cost;
}

-- a profile whose rows, with their texts, are those of all parts of a trace
pub record IsReadOf (syms : SymbolMap) (trace : List CountedEvent) (names : Naming) (p : Contents) : Type 0 where
  pub profile : IsProfile p
  pub parts : List (List ThreadRows)
  pub exact : ArePartsOfTrace syms trace parts
  pub events : p.events ≡ events_shown names.branches event_names
  pub self_rows : named_self_rows p ≡ map (named_line names) (all_lines parts)
  pub call_rows : named_call_rows p ≡ map (named_arc names) (all_arcs parts)

-- the numbers of its functions and files: the places of their texts, so equal texts have equal numbers
abbrev pub numbers_in : Contents → Naming → Numbering
numbers_in p names = record {
  func = λ f. position_or_len (same_function (names.func f)) p.functions;
  file = λ f. position_or_len (bytes_eq (names.file f)) p.files;
  branches = names.branches;
}
