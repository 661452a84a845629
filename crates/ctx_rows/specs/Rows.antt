-- Rows by context: a row for each line in a context at which an event counts, and for each arc that a frame was entered
-- by, by rising line and arc, with their sums; a row that is all 0 is left out.
use Rattle.std.specs.Prelude.{ℕ, Bool, List, ◌++◌, filter, flat_map, map, slice_index}
use Rattle.std.specs.Option.{option_to_list}
use Rattle.event_costs.specs.declared.numbers.ThreadNo.{ThreadNo}
use Rattle.sym_map.specs.SymbolMap.{SymbolMap}
use Rattle.shadow_stack.specs.Changes.{change}
use Rattle.shadow_stack.specs.Traces.{EventOnStack}
use Rattle.arc_costs.specs.Rows as rows
use Rattle.arc_costs.specs.Totals.{is_some_cost, is_some_total, total}
use Rattle.arc_costs.specs.Keys.{by_kind, risen}
use Rattle.ctx_rows.specs.Sums.{CtxArcKey, CtxPlace, arc_calls, arc_cost, arc_order, counts_at, ctx_arcs, place_order}
use Rattle.ctx_rows.specs.Sums.{pushed_arc, same_arc, same_place, self_cost}
use Rattle.ctx_rows.specs.declared.rows.CtxArc.{CtxArc}
use Rattle.ctx_rows.specs.declared.rows.CtxLine.{CtxLine}

-- rows that are listed
pub record CtxListed : Type 0 where
  pub lines : List CtxLine
  pub arcs : List CtxArc

abbrev pub place_of : CtxLine → CtxPlace
place_of row = record { ctx = row.ctx; file = row.file; line = row.line }

abbrev pub arc_of : CtxArc → CtxArcKey
arc_of row = record { caller = row.caller; file = row.file; line = row.line; callee = row.callee }

-- the row isn't all 0
abbrev pub is_some_line : CtxLine → Bool
is_some_line row = is_some_cost row.cost

abbrev pub is_some_arc : CtxArc → Bool
is_some_arc row = is_some_total (total row.calls row.cost)

-- the row of a line or an arc with these sums
abbrev pub line_with : (ℕ → CtxPlace → ℕ) → CtxPlace → CtxLine
line_with cost p = record { ctx = p.ctx; file = p.file; line = p.line; cost = by_kind (λ kind. cost kind p) }

abbrev pub arc_with : (CtxArcKey → ℕ) → (ℕ → CtxArcKey → ℕ) → CtxArcKey → CtxArc
arc_with calls cost k = record {
  caller = k.caller;
  callee = k.callee;
  file = k.file;
  line = k.line;
  calls = calls k;
  cost = by_kind (λ kind. cost kind k);
}

-- the sums over the rows of a line or an arc: for a kind of event, and of the calls
abbrev pub line_sum : ℕ → CtxPlace → List CtxLine → ℕ
line_sum kind = rows.sum_at place_of same_place (λ row. slice_index row.cost kind)

abbrev pub arc_sum : ℕ → CtxArcKey → List CtxArc → ℕ
arc_sum kind = rows.sum_at arc_of same_arc (λ row. slice_index row.cost kind)

abbrev pub call_sum : CtxArcKey → List CtxArc → ℕ
call_sum = rows.sum_at arc_of same_arc (λ row. row.calls)

-- rows of any lines and arcs, summed up: each line and arc once, in order, with its sums; a row that is
-- all 0 is left out
abbrev pub summed_rows : CtxListed → CtxListed
summed_rows all = record {
  lines = filter is_some_line
      (map (line_with (λ kind p. line_sum kind p all.lines)) (risen place_order (map place_of all.lines)));
  arcs = filter is_some_arc
      (map (arc_with (λ k. call_sum k all.arcs) (λ kind k. arc_sum kind k all.arcs))
      (risen arc_order (map arc_of all.arcs)));
}

-- the arcs of the frames under an event, and that of the frame that it pushes
abbrev pub arcs_at : ℕ → SymbolMap → EventOnStack → List CtxArcKey
arcs_at callers syms x =
    flat_map option_to_list (ctx_arcs callers x.stack)
    ++ option_to_list (pushed_arc callers (change syms x.event x.stack))

-- the rows of events
unfoldable pub ctx_rows_of : ℕ → SymbolMap → List EventOnStack → CtxListed
ctx_rows_of callers syms xs = record {
  lines = filter is_some_line
      (map (line_with (λ kind p. self_cost callers syms kind p xs))
      (risen place_order (map (counts_at callers syms) xs)));
  arcs = filter is_some_arc
      (map (arc_with (λ k. arc_calls callers syms k xs) (λ kind k. arc_cost callers kind k xs))
      (risen arc_order (flat_map (arcs_at callers syms) xs)));
}

-- the rows of a thread
pub record OfThread : Type 0 where
  pub thread : ThreadNo
  pub rows : CtxListed
