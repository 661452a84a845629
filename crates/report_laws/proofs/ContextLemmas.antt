-- Rows by calling context: their sums are those of their events, and so each counts once.
use Rattle.std.proofs.Common.{◌≡◌, ℕ, ◌+◌, ◌*◌, ◌<◌, Bool, true, false, ◌||◌, List, [], ◌∷◌, ◌++◌, length, map, flat_map}
use Rattle.std.proofs.Common.{get_or, Option, None, Some, refl, sym, ap, subst, ◌∙◌, arith, if◌then◌else◌, sum_by}
use Rattle.std.proofs.Common.{Contains, append_assoc}
use Rattle.std.specs.List.{enumerate_from, list_any}
use Rattle.std.specs.Option.{option_map, option_map_or}
use Rattle.std.specs.Prelude.{slice_index_or}
use Rattle.std.proofs.lemmas.List.Elements.{recursion_from_All}
use Rattle.std.proofs.lemmas.List.Sums.{sum_by-append, sum_by-cons}
use Rattle.event_costs.specs.Costs.{event_names, events_shown}
use Rattle.event_costs.specs.Keys.{ArcKey}
use Rattle.event_costs.specs.declared.numbers.FuncId.{FuncId}
use Rattle.sym_map.specs.SymbolMap.{place_of}
use Rattle.shadow_stack.specs.Stacks.{Activation, Stack, top_of}
use Rattle.shadow_stack.specs.Traces.{EventOnStack, events_on_stacks}
use Rattle.call_graph.specs.Groups.{Grouping, is_member}
use Rattle.call_graph.specs.Reach.{Steps}
use Rattle.cg_read.specs.Profiles.{Contents, NamedCall, NamedSelf}
use Rattle.cg_read.specs.declared.rows.CallRow.{CallRow}
use Rattle.cg_read.specs.declared.rows.SelfRow.{SelfRow}
use Rattle.cycles.specs.Costs.{IsGroupsOf, IsInclusive, self_cost}
use Rattle.part_dump.specs.Steps.{IsPiece, Step, events_on_stack_of, threads}
use Rattle.profile_run.specs.Program.{Program, head_of_run, CanRun}
use Rattle.profile_run.specs.Trace.{Makes, RunStep, steps_of}
use Rattle.contexts.specs.Contexts.{Context, context}
use Rattle.ctx_rows.specs.Rows.{ctx_rows_of}
use Rattle.ctx_rows.specs.Sums.{CtxArcKey, ctx_arc, ctx_arcs}
use Rattle.ctx_rows.specs.declared.rows.CtxArc.{CtxArc}
use Rattle.ctx_rows.specs.declared.rows.CtxLine.{CtxLine}
use Rattle.once_each.specs.Graphs.{graph}
use Rattle.once_each.specs.Orderly.{FitsTop}
use Rattle.once_each.specs.Written.{segments_of}
use Rattle.run_laws.specs.Runs.{events_with_costs}
use Rattle.report_laws.specs.Chosen.{each_chosen, events_chosen}
use Rattle.report_laws.specs.Contexts.{IsProfileByContext, arc_by_context, context_in, line_by_context, once_in}
use Rattle.report_laws.specs.Contexts.{stands_in}
use Rattle.report_laws.proofs.AddrOwnPartLemmas.{Segment, flat, whole_run}
use Rattle.report_laws.proofs.ChosenLemmas.{of_chosen, shown}
use Rattle.report_laws.proofs.NumberLemmas.{any_in, group_counts, steps_in}
use Rattle.ctx_rows.proofs.FoldedLemmas.{arcs_where, lines_where}
use Rattle.ctx_rows.proofs.ShareLemmas.{passing}
use Rattle.report_laws.proofs.Others.{IsChain, arcs_within, chains, cost_of, each_at, each_from, is_group, number_of, on}
use Rattle.report_laws.proofs.Others.{sum_by-each, sum_by-flat_map, sum_by-map, sum_by-same, tops}
use Rattle.report_laws.proofs.StandLemmas.{calls_again, number_call, number_self, selfs_again}

-- ---- a stack by the numbers of its frames' contexts

module _ (callers : ℕ) (number : Context → ℕ) where
  abbrev numbers_on : Stack → List ℕ
  numbers_on [] = []
  numbers_on (a ∷ s) = number (context callers (a ∷ s)) ∷ numbers_on s

  -- those beneath the top
  abbrev beneath_top : Stack → List ℕ
  beneath_top [] = []
  beneath_top (a ∷ s) = numbers_on s

  abbrev by_numbers : (ℕ → ℕ → Bool) → CtxArcKey → Bool
  by_numbers test arc = test (number arc.caller) (number arc.callee)

  -- an arc of a frame, if there is one, counts where it passes
  abbrev counted : (ℕ → ℕ → Bool) → Option CtxArcKey → ℕ
  counted test o = if option_map_or (by_numbers test) o false then 1 else 0

  abbrev between : Activation → Stack → Option ArcKey → Option CtxArcKey
  between a s o = option_map (λ (arc : ArcKey). record {
    caller = context callers s;
    file = arc.file;
    line = arc.line;
    callee = context callers (a ∷ s);
  }) o

  arcs_are_steps : (Step : ℕ → ℕ → Type 0) (test : ℕ → ℕ → Bool) (a : Activation) (s : Stack) → IsChain Step (a ∷ s)
      → passing (by_numbers test) (ctx_arcs callers (a ∷ s))
      ≡ steps_in test (number (context callers (a ∷ s))) (numbers_on s)
  arcs_are_steps Step test a [] chain =
      let count = sum_by-cons (counted test) (ctx_arc callers a []) [] in
      let none : counted test (ctx_arc callers a []) ≡ 0
      = ap (λ (o : Option ArcKey). counted test (between a [] o)) chain.0 in
      omega (arith, count, none)
  arcs_are_steps Step test a (b ∷ s) chain =
      let count = sum_by-cons (counted test) (ctx_arc callers a (b ∷ s)) (ctx_arcs callers (b ∷ s)) in
      let here : counted test (ctx_arc callers a (b ∷ s))
      ≡ number_of (test (number (context callers (b ∷ s))) (number (context callers (a ∷ (b ∷ s)))))
      = ap (λ (o : Option ArcKey). counted test (between a (b ∷ s) o)) chain.0.is in
      let rest = arcs_are_steps Step test b s chain.1 in
      omega (arith, count, here, rest)

  any_is : (member : ℕ → Bool) (s : Stack)
      → list_any member (numbers_on s) ≡ stands_in callers (λ c. member (number c)) s
  any_is member [] = refl
  any_is member (a ∷ s) = ap (λ b. member (number (context callers (a ∷ s))) || b) (any_is member s)

  -- what an event's stack is by numbers
  record IsNumbered (s : Stack) : Type 0 where
    steps : (test : ℕ → ℕ → Bool)
        → passing (by_numbers test) (ctx_arcs callers s) ≡ steps_in test (number (context callers s)) (beneath_top s)
    any : (member : ℕ → Bool)
        → any_in member (number (context callers s)) (beneath_top s) ≡ stands_in callers (λ c. member (number c)) s

  numbered : (Step : ℕ → ℕ → Type 0) (s : Stack) → (top_of s ≡ None → ⊥) → IsChain Step s → IsNumbered s
  numbered Step [] some chain = absurd (some refl)
  numbered Step (a ∷ s) some chain = record {
    steps = λ test. arcs_are_steps Step test a s chain;
    any = λ member. any_is member (a ∷ s);
  }

module _ (guest : Program) (can : CanRun guest) (past : List RunStep) (makes : Makes guest past) (callers : ℕ)
    (chosen : ℕ → ℕ → Bool) where
  abbrev events : List EventOnStack
  events = events_chosen guest chosen past

  -- ---- the sums of the rows are those of the events

  module _ {R : Type 0} (rows : List EventOnStack → List R) (g : R → ℕ) (f : EventOnStack → ℕ)
      (same : (thread : ℕ) (segment : List Step) → IsPiece (steps_of past) segment
      → sum_by g (rows (events_on_stack_of thread segment)) ≡ sum_by f (events_on_stack_of thread segment)) where
    abbrev rows_of_thread : ℕ → List Step → ℕ → List R
    rows_of_thread number segment thread = if chosen number thread then rows (events_on_stack_of thread segment) else []

    abbrev events_of_thread : ℕ → List Step → ℕ → List EventOnStack
    events_of_thread number segment thread = if chosen number thread then events_on_stack_of thread segment else []

    abbrev rows_of_segment : ℕ × Segment → List R
    rows_of_segment s = flat_map (rows_of_thread s.0 s.1.0) (threads s.1.0)

    abbrev events_of_segment : ℕ × Segment → List EventOnStack
    events_of_segment s = flat_map (events_of_thread s.0 s.1.0) (threads s.1.0)

    segment_sum : (number : ℕ) (s : Segment) → IsPiece (steps_of past) s.0
        → sum_by g (rows_of_segment (number, s)) ≡ sum_by f (events_of_segment (number, s))
    segment_sum number s piece =
        sum_by-flat_map g (rows_of_thread number s.0) (threads s.0)
        ∙ sum_by-same (λ thread. sum_by g (rows_of_thread number s.0 thread))
        (λ thread. sum_by f (events_of_thread number s.0 thread))
        (λ thread. by thread (chosen number thread)) (threads s.0)
        ∙ sym (sum_by-flat_map f (events_of_thread number s.0) (threads s.0))
      where
        by : (thread : ℕ) (b : Bool) → sum_by g (if b then rows (events_on_stack_of thread s.0) else [])
            ≡ sum_by f (if b then events_on_stack_of thread s.0 else [])
        by thread true = same thread s.0 piece
        by thread false = refl

    sums_from : (earlier : List Step) (number : ℕ) (ss : List Segment) → earlier ++ flat ss ≡ steps_of past
        → sum_by g (flat_map rows_of_segment (enumerate_from number ss))
        ≡ sum_by f (flat_map events_of_segment (enumerate_from number ss))
    sums_from earlier number [] is = refl
    sums_from earlier number (s ∷ ss) is =
        let after = flat ss in
        let piece : IsPiece (steps_of past) s.0 = record { before = earlier; after = after; whole = is } in
        sum_by-append g (rows_of_segment (number, s)) (flat_map rows_of_segment (enumerate_from (number + 1) ss))
        ∙ (λ i. segment_sum number s piece i
        + sums_from (earlier ++ s.0) (number + 1) ss (append_assoc earlier s.0 after ∙ is) i)
        ∙ sym (sum_by-append f (events_of_segment (number, s))
        (flat_map events_of_segment (enumerate_from (number + 1) ss)))

    all_sum : sum_by g (each_chosen rows guest chosen past) ≡ sum_by f events
    all_sum =
        sums_from [] 1 (segments_of guest.syms guest.options.dump_points (steps_of past))
        (whole_run guest.syms guest.options.dump_points (steps_of past))

  -- ---- their profile

  module _ (p : Contents) (is : IsProfileByContext guest callers chosen past p) (kind : ℕ)
      (within : kind < length p.events) where
    abbrev number : Context → ℕ
    number = context_in guest p

    abbrev top : EventOnStack → ℕ
    top x = number (context callers x.stack)

    abbrev beneath : EventOnStack → List ℕ
    beneath x = beneath_top callers number x.stack

    abbrev lines : List EventOnStack → List CtxLine
    lines xs = (ctx_rows_of callers guest.syms xs).lines

    abbrev arcs : List EventOnStack → List CtxArc
    arcs xs = (ctx_rows_of callers guest.syms xs).arcs

    shows : (cost : List ℕ) → get_or (events_shown (head_of_run guest).branch cost) kind 0 ≡ get_or cost kind 0
    shows cost =
        shown (head_of_run guest).branch event_names cost kind
        (subst (λ (names : List (List ℕ)). kind < length names) is.events within)

    own_selfs : p.self_rows
        ≡ map (number_self p is.profile) (map (line_by_context guest) (each_chosen lines guest chosen past))
    own_selfs =
        selfs_again p is.profile p.self_rows (recursion_from_All _ p.self_rows is.profile.self_rows_fit)
        ∙ ap (map (number_self p is.profile)) is.self_rows

    own_calls : p.call_rows
        ≡ map (number_call p is.profile) (map (arc_by_context guest) (each_chosen arcs guest chosen past))
    own_calls =
        calls_again p is.profile p.call_rows (recursion_from_All _ p.call_rows is.profile.call_rows_fit)
        ∙ ap (map (number_call p is.profile)) is.call_rows

    selfs : (test : ℕ → Bool)
        → self_cost test p.self_rows kind ≡ sum_by (λ x. if test (top x) then cost_of kind x else 0) events
    selfs test =
        let g : SelfRow → ℕ = λ row. if test row.func then get_or row.cost kind 0 else 0 in
        let named = number_self p is.profile in
        ap (sum_by g) own_selfs
        ∙ sum_by-map g named (map (line_by_context guest) (each_chosen lines guest chosen past))
        ∙ sum_by-map (λ (row : NamedSelf). g (named row)) (line_by_context guest) (each_chosen lines guest chosen past)
        ∙ sum_by-same (λ (row : CtxLine). g (named (line_by_context guest row)))
        (λ (row : CtxLine). if test (number row.ctx) then get_or row.cost kind 0 else 0)
        (λ row. ap (λ m. if test (number row.ctx) then m else 0) (shows row.cost)) (each_chosen lines guest chosen past)
        ∙ all_sum lines (λ (row : CtxLine). if test (number row.ctx) then get_or row.cost kind 0 else 0)
        (λ x. if test (top x) then cost_of kind x else 0)
        (λ thread segment piece. lines_where callers guest.syms (events_on_stack_of thread segment)
        (on guest past thread segment can makes piece) kind (λ place. test (number place.ctx)))

    numbers : (x : EventOnStack) → Contains events x → IsNumbered callers number x.stack
    numbers x in' =
        let at_top = each_at (FitsTop guest.syms) events
        (of_chosen guest can past makes chosen (FitsTop guest.syms)
        (recursion_from_All (FitsTop guest.syms) (events_on_stacks guest.syms (events_with_costs past))
        (tops guest can past makes))) x in' in
        numbered callers number (Steps (graph guest.syms (events_with_costs past))) x.stack
        (λ none. never (sym none ∙ at_top))
        (each_at (λ (y : EventOnStack). IsChain (Steps (graph guest.syms (events_with_costs past))) y.stack) events
        (of_chosen guest can past makes chosen
        (λ (y : EventOnStack). IsChain (Steps (graph guest.syms (events_with_costs past))) y.stack)
        (chains (Steps (graph guest.syms (events_with_costs past))) guest.syms (events_with_costs past) (λ f g s. s)))
        x in')
      where
        never : ◌≡◌ {A = Option FuncId} None (Some (place_of guest.syms x.event.done.pc).func) → ⊥
        never e = cc

    calls : (test : ℕ → ℕ → Bool)
        → sum_by (λ (row : CallRow). if test row.caller row.callee then get_or row.cost kind 0 else 0) p.call_rows
        ≡ sum_by (λ x. cost_of kind x * steps_in test (top x) (beneath x)) events
    calls test =
        let g : CallRow → ℕ = λ row. if test row.caller row.callee then get_or row.cost kind 0 else 0 in
        let named = number_call p is.profile in
        let passes = by_numbers callers number test in
        ap (sum_by g) own_calls
        ∙ sum_by-map g named (map (arc_by_context guest) (each_chosen arcs guest chosen past))
        ∙ sum_by-map (λ (row : NamedCall). g (named row)) (arc_by_context guest) (each_chosen arcs guest chosen past)
        ∙ sum_by-same (λ (row : CtxArc). g (named (arc_by_context guest row)))
        (λ (row : CtxArc). if test (number row.caller) (number row.callee) then get_or row.cost kind 0 else 0)
        (λ row. ap (λ m. if test (number row.caller) (number row.callee) then m else 0) (shows row.cost))
        (each_chosen arcs guest chosen past)
        ∙ all_sum arcs
        (λ (row : CtxArc). if test (number row.caller) (number row.callee) then get_or row.cost kind 0 else 0)
        (λ x. cost_of kind x * passing passes (ctx_arcs callers x.stack))
        (λ thread segment piece. arcs_where callers guest.syms (events_on_stack_of thread segment)
        (on guest past thread segment can makes piece) kind passes)
        ∙ sum_by-each (λ x. cost_of kind x * passing passes (ctx_arcs callers x.stack))
        (λ x. cost_of kind x * steps_in test (top x) (beneath x)) events
        (each_from
        (λ x. cost_of kind x * passing passes (ctx_arcs callers x.stack)
        ≡ cost_of kind x * steps_in test (top x) (beneath x)) events
        (λ x in'. ap (λ m. cost_of kind x * m) ((numbers x in').steps test)))

    pub contexts_once : (groups : Grouping) (costs : List (List ℕ)) (group : ℕ) → IsGroupsOf p groups
        → IsInclusive p groups costs → group < length costs
        → get_or (slice_index_or costs group []) kind 0
        ≡ once_in callers (λ c. is_member groups group (number c)) kind events
    contexts_once groups costs group grouped inclusive less =
        let member = is_member groups group in
        inclusive.exact group kind less within
        ∙ group_counts top beneath (cost_of kind) events p kind selfs calls member
        (is_group grouped (arcs_within p is.profile) group)
        ∙ sum_by-each (λ x. if any_in member (top x) (beneath x) then cost_of kind x else 0)
        (λ x. if stands_in callers (λ c. member (number c)) x.stack then cost_of kind x else 0) events
        (each_from
        (λ x. (if any_in member (top x) (beneath x) then cost_of kind x else 0)
        ≡ (if stands_in callers (λ c. member (number c)) x.stack then cost_of kind x else 0)) events
        (λ x in'. ap (λ b. if b then cost_of kind x else 0) ((numbers x in').any member)))
