-- Profiles of rows by calling context, and the events that they count.
use Rattle.std.specs.Prelude.{◌≡◌, ℕ, Bool, false, ◌||◌, List, [], ◌∷◌, map, sum_by, slice_index, if◌then◌else◌}
use Rattle.std.specs.List.{position_or_len}
use Rattle.byte_text.specs.Names.{clean_name}
use Rattle.event_costs.specs.Costs.{events_shown}
use Rattle.sym_map.specs.SymbolMap.{file_text, home_of}
use Rattle.shadow_stack.specs.Stacks.{Stack}
use Rattle.shadow_stack.specs.Traces.{EventOnStack}
use Rattle.cg_read.specs.Profiles.{Contents, IsProfile, NamedCall, NamedSelf, named_call_rows, named_self_rows}
use Rattle.cg_read.specs.Profiles.{same_function}
use Rattle.cg_read.specs.declared.rows.FuncKey.{FuncKey}
use Rattle.contexts.specs.Contexts.{Context, context}
use Rattle.ctx_rows.specs.Folding.{function_of}
use Rattle.ctx_rows.specs.Rows.{ctx_rows_of}
use Rattle.ctx_rows.specs.Texts.{context_name}
use Rattle.ctx_rows.specs.declared.rows.CtxArc.{CtxArc}
use Rattle.ctx_rows.specs.declared.rows.CtxLine.{CtxLine}
use Rattle.profile_run.specs.Program.{Program, head_of_run}
use Rattle.profile_run.specs.Trace.{RunStep}
use Rattle.reads_back.specs.Joined.{events_in}
use Rattle.report_laws.specs.Chosen.{each_chosen}

-- ---- profiles

-- a context in a part: the object, the file of its function, and the names of the function and its callers
abbrev pub context_key : Program → Context → FuncKey
context_key guest c = record {
  object = clean_name (head_of_run guest).object;
  file = file_text guest.syms (home_of guest.syms (function_of c));
  name = context_name guest.syms c;
}

-- rows by context, with their texts
abbrev pub line_by_context : Program → CtxLine → NamedSelf
line_by_context guest row = record {
  function = context_key guest row.ctx;
  file = file_text guest.syms row.file;
  line = row.line;
  cost = events_shown (head_of_run guest).branch row.cost;
}

abbrev pub arc_by_context : Program → CtxArc → NamedCall
arc_by_context guest row = record {
  caller = context_key guest row.caller;
  file = file_text guest.syms row.file;
  line = row.line;
  callee = context_key guest row.callee;
  calls = row.calls;
  cost = events_shown (head_of_run guest).branch row.cost;
}

-- A profile of the rows of the chosen threads in the chosen segments, by contexts of up to so many callers.
pub record IsProfileByContext (guest : Program) (callers : ℕ) (chosen : ℕ → ℕ → Bool) (trace : List RunStep)
    (p : Contents) : Type 0
  where
    pub profile : IsProfile p
    pub events : p.events ≡ events_in (head_of_run guest)
    pub self_rows : named_self_rows p ≡ map (line_by_context guest)
        (each_chosen (λ xs. (ctx_rows_of callers guest.syms xs).lines) guest chosen trace)
    pub call_rows : named_call_rows p ≡ map (arc_by_context guest)
        (each_chosen (λ xs. (ctx_rows_of callers guest.syms xs).arcs) guest chosen trace)

-- the number of a context in a profile: equal texts have equal numbers
abbrev pub context_in : Program → Contents → Context → ℕ
context_in guest p c = position_or_len (same_function (context_key guest c)) p.functions

-- ---- events

-- a frame in a context that passes stands on the stack
abbrev pub stands_in : ℕ → (Context → Bool) → Stack → Bool
stands_in callers passes [] = false
stands_in callers passes (a ∷ s) = passes (context callers (a ∷ s)) || stands_in callers passes s

-- the cost of a kind of the events on whose thread's stack one does, each counted once
abbrev pub once_in : ℕ → (Context → Bool) → ℕ → List EventOnStack → ℕ
once_in callers passes kind xs =
    sum_by (λ x. if stands_in callers passes x.stack then slice_index x.cost kind else 0) xs
