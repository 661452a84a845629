-- What a list of events has cost, by context and line and by call arc between contexts; each event comes with the stack
-- of its thread before it.
use Rattle.std.specs.Prelude.{ℕ, ◌*◌, ◌==◌, ◌&&◌, Bool, false, List, [], ◌∷◌, Option, None, Some, if◌then◌else◌}
use Rattle.std.specs.Prelude.{sum_by, slice_index}
use Rattle.std.specs.Option.{option_map, option_map_or}
use Rattle.std.specs.Ordering.{nat_cmp, ordering_then}
use Rattle.std.specs.declared.cmp.Ordering.{Ordering}
use Rattle.event_costs.specs.Keys.{ArcKey}
use Rattle.event_costs.specs.declared.numbers.FileId.{FileId}
use Rattle.sym_map.specs.SymbolMap.{SymbolMap, place_of}
use Rattle.shadow_stack.specs.Changes.{Change, change}
use Rattle.shadow_stack.specs.Stacks.{Activation, Stack}
use Rattle.shadow_stack.specs.Traces.{EventOnStack}
use Rattle.contexts.specs.Contexts.{Context, context, context_order, same_context}

-- a line in a context
pub record CtxPlace : Type 0 where
  pub ctx : Context
  pub file : FileId
  pub line : ℕ

-- a call from one context to another
pub record CtxArcKey : Type 0 where
  pub caller : Context
  pub file : FileId
  pub line : ℕ
  pub callee : Context

abbrev pub same_place : CtxPlace → CtxPlace → Bool
same_place a b = same_context a.ctx b.ctx && (a.file.0 == b.file.0 && a.line == b.line)

-- by context, then file, then line
abbrev pub place_order : CtxPlace → CtxPlace → Ordering
place_order a b =
    ordering_then (context_order a.ctx b.ctx) (ordering_then (nat_cmp a.file.0 b.file.0) (nat_cmp a.line b.line))

abbrev pub same_arc : CtxArcKey → CtxArcKey → Bool
same_arc a b =
    same_context a.caller b.caller
    && (a.file.0 == b.file.0 && (a.line == b.line && same_context a.callee b.callee))

-- by caller, then file, then line, then callee
abbrev pub arc_order : CtxArcKey → CtxArcKey → Ordering
arc_order a b =
    ordering_then (context_order a.caller b.caller)
    (ordering_then (nat_cmp a.file.0 b.file.0)
    (ordering_then (nat_cmp a.line b.line) (context_order a.callee b.callee)))

-- whether something was entered by this arc
abbrev pub is_arc : CtxArcKey → Option CtxArcKey → Bool
is_arc arc from = option_map_or (same_arc arc) from false

-- How many callers a context has at most is given.
module _ (callers : ℕ) where
  -- where an event counts: in the context of its stack's top frame, at the file and line of its pc
  abbrev pub counts_at : SymbolMap → EventOnStack → CtxPlace
  counts_at syms x = record {
    ctx = context callers x.stack;
    file = (place_of syms x.event.done.pc).file;
    line = (place_of syms x.event.done.pc).line;
  }

  -- the arc of a frame on a stack, from the context of the frame beneath to that of the frame
  abbrev pub ctx_arc : Activation → Stack → Option CtxArcKey
  ctx_arc a s =
      option_map (λ (arc : ArcKey). record {
        caller = context callers s;
        file = arc.file;
        line = arc.line;
        callee = context callers (a ∷ s);
      }) a.arc

  -- the arcs of all frames of a stack
  abbrev pub ctx_arcs : Stack → List (Option CtxArcKey)
  ctx_arcs [] = []
  ctx_arcs (a ∷ s) = ctx_arc a s ∷ ctx_arcs s

  -- how many frames of a stack were entered by this arc
  abbrev pub entered_by : CtxArcKey → Stack → ℕ
  entered_by arc s = sum_by (λ from. if is_arc arc from then 1 else 0) (ctx_arcs s)

  abbrev pub ctx_arc_of : Option Activation → Stack → Option CtxArcKey
  ctx_arc_of None s = None
  ctx_arc_of (Some a) s = ctx_arc a s

  -- the arc of the frame that an event pushes
  abbrev pub pushed_arc : Change → Option CtxArcKey
  pushed_arc c = ctx_arc_of c.pushed c.rest

  -- the cost of a kind at a line in a context: that of the events that count there
  abbrev pub self_cost : SymbolMap → ℕ → CtxPlace → List EventOnStack → ℕ
  self_cost syms kind place xs =
      sum_by (λ x. if same_place place (counts_at syms x) then slice_index x.cost kind else 0) xs

  -- the cost of a kind under an arc: that of each event, times the frames of its stack that were entered by the arc
  abbrev pub arc_cost : ℕ → CtxArcKey → List EventOnStack → ℕ
  arc_cost kind arc xs = sum_by (λ x. slice_index x.cost kind * entered_by arc x.stack) xs

  -- the calls of an arc: the frames that the events push by it
  abbrev pub arc_calls : SymbolMap → CtxArcKey → List EventOnStack → ℕ
  arc_calls syms arc xs =
      sum_by (λ x. if is_arc arc (pushed_arc (change syms x.event x.stack)) then 1 else 0) xs
