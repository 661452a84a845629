-- The rows of events: a row for each place of an event, and for each arc that a frame was entered by, by rising place
-- and arc, with their sums; a row that is all 0 is left out.
use Rattle.std.specs.Prelude.{List, ◌++◌, filter, flat_map, map}
use Rattle.std.specs.Option.{option_to_list}
use Rattle.event_costs.specs.Keys.{ArcKey, Place}
use Rattle.sym_map.specs.SymbolMap.{SymbolMap, place_of}
use Rattle.shadow_stack.specs.Changes.{change}
use Rattle.shadow_stack.specs.Stacks.{Activation}
use Rattle.shadow_stack.specs.Traces.{EventOnStack}
use Rattle.arc_costs.specs.Arcs.{is_some_arc}
use Rattle.arc_costs.specs.Contents.{Listed}
use Rattle.arc_costs.specs.Keys.{by_kind, risen}
use Rattle.arc_costs.specs.Lines.{is_some_line}
use Rattle.event_costs.specs.Order.{arc_order, place_order}
use Rattle.arc_costs.specs.Rows.{ArcRow, LineRow}
use Rattle.recorder.specs.Sums.{arc_calls, arc_cost, self_cost}

-- the places of events
abbrev pub places : SymbolMap → List EventOnStack → List Place
places syms xs = risen place_order (map (λ x. place_of syms x.event.done.pc) xs)

abbrev pub arcs_of : List Activation → List ArcKey
arcs_of frames = flat_map (λ a. option_to_list a.arc) frames

-- the arcs of the frames under an event, and that of the frame that it pushes
abbrev pub arcs_at : SymbolMap → EventOnStack → List ArcKey
arcs_at syms x = arcs_of x.stack ++ arcs_of (option_to_list (change syms x.event x.stack).pushed)

-- the arcs of events
abbrev pub arcs : SymbolMap → List EventOnStack → List ArcKey
arcs syms xs = risen arc_order (flat_map (arcs_at syms) xs)

abbrev pub line_at : SymbolMap → List EventOnStack → Place → LineRow
line_at syms xs place = record { place = place; cost = by_kind (λ kind. self_cost syms kind place xs) }

abbrev pub arc_at : SymbolMap → List EventOnStack → ArcKey → ArcRow
arc_at syms xs arc = record {
  arc = arc;
  calls = arc_calls syms arc xs;
  cost = by_kind (λ kind. arc_cost kind arc xs);
}

-- the rows of events
unfoldable pub rows_of : SymbolMap → List EventOnStack → Listed
rows_of syms xs = record {
  lines = filter is_some_line (map (line_at syms xs) (places syms xs));
  arcs = filter is_some_arc (map (arc_at syms xs) (arcs syms xs));
}
