-- The profile of a trace: the rows of all its parts, under any numbers.
use Rattle.std.specs.Prelude.{◌≡◌, ℕ, Bool, List, map}
use Rattle.event_costs.specs.Costs.{event_names, events_shown}
use Rattle.sym_map.specs.SymbolMap.{SymbolMap}
use Rattle.shadow_stack.specs.Traces.{CountedEvent}
use Rattle.arc_costs.specs.Rows.{ArcRow, LineRow}
use Rattle.cg_read.specs.Profiles.{Contents}
use Rattle.cg_read.specs.declared.rows.CallRow.{CallRow}
use Rattle.cg_read.specs.declared.rows.SelfRow.{SelfRow}
use Rattle.once_each.specs.Parts.{ThreadRows, ArePartsOfTrace, all_lines, all_arcs}

-- the numbers that a profile has for the functions and files of a map of symbols, and whether it shows branches
pub record Numbering : Type 0 where
  pub func : ℕ → ℕ
  pub file : ℕ → ℕ
  pub branches : Bool

abbrev pub self_row : Numbering → LineRow → SelfRow
self_row n row = record {
  func = n.func row.place.func.0;
  file = n.file row.place.file.0;
  line = row.place.line;
  cost = events_shown n.branches row.cost;
}

abbrev pub call_row : Numbering → ArcRow → CallRow
call_row n row = record {
  caller = n.func row.arc.caller.0;
  file = n.file row.arc.file.0;
  line = row.arc.line;
  callee = n.func row.arc.callee.0;
  calls = row.calls;
  cost = events_shown n.branches row.cost;
}

-- a profile whose rows are those of all parts of a trace, under these numbers
pub record IsProfileOf (syms : SymbolMap) (trace : List CountedEvent) (n : Numbering) (p : Contents) : Type 0 where
  pub parts : List (List ThreadRows)
  pub exact : ArePartsOfTrace syms trace parts
  pub events : p.events ≡ events_shown n.branches event_names
  pub self_rows : p.self_rows ≡ map (self_row n) (all_lines parts)
  pub call_rows : p.call_rows ≡ map (call_row n) (all_arcs parts)
