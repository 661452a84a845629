-- The rows of all parts of a run have the sums of all its events.
use Rattle.std.proofs.Common.{◌≡◌, ℕ, ◌+◌, ◌<◌, true, List, [], ◌∷◌, Option, None, Some, get_or, refl, sym, ap, ◌∙◌, arith}
use Rattle.std.proofs.Common.{if◌then◌else◌, count_by, sum_by}
use Rattle.std.specs.Prelude.{fold}
use Rattle.std.specs.List.{AllByRecursion}
use Rattle.std.proofs.lemmas.Grind.{same_number_lists}
use Rattle.std.proofs.lemmas.List.{get_or-replicate}
use Rattle.std.proofs.lemmas.List.Elements.{recursion_from_All}
use Rattle.std.proofs.lemmas.List.FromFn.{get_or-map-range_with_len, length-map-range_with_len}
use Rattle.std.proofs.lemmas.List.Sums.{sum_by-cons}
use Rattle.std.proofs.lemmas.Simd.{get_or-zip2, length-zip2}
use Rattle.event_costs.specs.Costs.{IsWhole, event_kinds, no_cost, sum_of_costs}
use Rattle.event_costs.specs.Keys.{ArcKey, Place}
use Rattle.shadow_stack.specs.Changes.{change}
use Rattle.shadow_stack.specs.Stacks.{Activation}
use Rattle.shadow_stack.specs.Traces.{EventOnStack, events_on_stacks}
use Rattle.arc_costs.specs.Arcs.{arc_sum, call_sum}
use Rattle.arc_costs.specs.Keys.{by_kind}
use Rattle.arc_costs.specs.Lines.{line_sum}
use Rattle.event_costs.specs.Order.{same_arc, same_place}
use Rattle.arc_costs.specs.Rows.{LineRow}
use Rattle.cg_format.specs.Sums.{sum_of_lines}
use Rattle.part_dump.specs.Steps.{IsPiece, Step, events_on_stack_of}
use Rattle.recorder.specs.Rows.{rows_of}
use Rattle.recorder.specs.Sums.{arc_calls, arc_cost, pushes, self_cost}
use Rattle.profile_run.specs.Program.{Program, CanRun}
use Rattle.profile_run.specs.Trace.{Makes, RunStep, steps_of}
use Rattle.once_each.proofs.PartLemmas as parts
use Rattle.once_each.proofs.StackLemmas.{on_arc}
use Rattle.run_laws.proofs.Others.{sum_by-same}
use Rattle.run_laws.specs.Runs.{events_with_costs, events_with_stacks, rows_of_run, thread_rows}
use Rattle.run_laws.proofs.EventLemmas.{have_stacks}
use Rattle.run_laws.proofs.PartLemmas.{parts_of_trace}
use Rattle.run_laws.proofs.PieceLemmas.{are_rows, lines_whole}

-- ---- the sum of line rows

abbrev added : List ℕ → LineRow → List ℕ
added sum row = sum_of_costs sum row.cost

more_whole : (sum cost : List ℕ) → IsWhole sum → IsWhole cost → IsWhole (sum_of_costs sum cost)
more_whole sum cost whole other = length-zip2 (λ x y. x + y) sum cost (whole ∙ sym other) ∙ whole

sum_length : (sum : List ℕ) (lines : List LineRow) → IsWhole sum → AllByRecursion (λ row. IsWhole row.cost) lines
    → IsWhole (fold added sum lines)
sum_length sum [] whole all = whole
sum_length sum (row ∷ lines) whole all =
    sum_length (sum_of_costs sum row.cost) lines (more_whole sum row.cost whole all.0) all.1

sum_number : (kind : ℕ) → kind < event_kinds → (sum : List ℕ) (lines : List LineRow) → IsWhole sum
    → AllByRecursion (λ row. IsWhole row.cost) lines
    → get_or (fold added sum lines) kind 0 ≡ get_or sum kind 0 + sum_by (λ (row : LineRow). get_or row.cost kind 0) lines
sum_number kind lt sum [] whole all = omega arith
sum_number kind lt sum (row ∷ lines) whole all =
    let rest = sum_number kind lt (sum_of_costs sum row.cost) lines (more_whole sum row.cost whole all.0) all.1 in
    let first = get_or-zip2 (λ x y. x + y) sum row.cost kind 0 0 0 (omega (arith, lt, whole)) (omega (arith, lt, all.0)) in
    let more = sum_by-cons (λ (r : LineRow). get_or r.cost kind 0) row lines in
    omega (arith, rest, first, more)

one_push : (arc : ArcKey) (o : Option Activation) → count_by (on_arc (same_arc arc)) (parts.pushed_stack o) ≡ pushes arc o
one_push arc None = refl
one_push arc (Some a) =
    sum_by-cons (λ (b : Activation). if on_arc (same_arc arc) b then 1 else 0) a [] ∙ (omega arith)

module _ (guest : Program) (can : CanRun guest) (past : List RunStep) (makes : Makes guest past) where
  pub lines_sum : (kind : ℕ) (place : Place)
      → line_sum kind place (rows_of_run guest past).lines ≡ self_cost guest.syms kind place (events_with_stacks past)
  lines_sum kind place =
      parts.all_lines_where guest.syms (events_with_costs past) (thread_rows guest past) (parts_of_trace guest can past makes)
      (same_place place) kind
      ∙ ap (self_cost guest.syms kind place) (sym (have_stacks guest can past makes))

  pub arcs_sum : (kind : ℕ) (arc : ArcKey)
      → arc_sum kind arc (rows_of_run guest past).arcs ≡ arc_cost kind arc (events_with_stacks past)
  arcs_sum kind arc =
      parts.all_arcs_where guest.syms (events_with_costs past) (thread_rows guest past) (parts_of_trace guest can past makes)
      (same_arc arc) kind
      ∙ ap (arc_cost kind arc) (sym (have_stacks guest can past makes))

  pub calls_sum : (arc : ArcKey)
      → call_sum arc (rows_of_run guest past).arcs ≡ arc_calls guest.syms arc (events_with_stacks past)
  calls_sum arc =
      parts.all_calls_where guest.syms (events_with_costs past) (thread_rows guest past) (parts_of_trace guest can past makes)
      (same_arc arc)
      ∙ sum_by-same (λ (x : EventOnStack). count_by (on_arc (same_arc arc)) (parts.pushed_by guest.syms x))
      (λ (x : EventOnStack). pushes arc (change guest.syms x.event x.stack).pushed)
      (λ x. one_push arc (change guest.syms x.event x.stack).pushed) (events_on_stacks guest.syms (events_with_costs past))
      ∙ ap (arc_calls guest.syms arc) (sym (have_stacks guest can past makes))

  -- the sum of the line rows of a thread's events in a piece is that of the events
  pub summary : (thread : ℕ) (segment : List Step) → IsPiece (steps_of past) segment
      → sum_of_lines (rows_of guest.syms (events_on_stack_of thread segment)).lines
      ≡ by_kind (λ kind. sum_by (λ (x : EventOnStack). get_or x.cost kind 0) (events_on_stack_of thread segment))
  summary thread segment piece =
      let events = events_on_stack_of thread segment in
      let rows = rows_of guest.syms events in
      let whole = recursion_from_All (λ (row : LineRow). IsWhole row.cost) rows.lines
      (lines_whole guest past thread segment can makes piece) in
      let number : ℕ → ℕ = λ kind. sum_by (λ (x : EventOnStack). get_or x.cost kind 0) events in
      let long = sum_length no_cost rows.lines refl whole in
      same_number_lists (sum_of_lines rows.lines) (by_kind number)
      (long ∙ sym (length-map-range_with_len number 0 event_kinds))
      (λ kind lt.
      let few : kind < event_kinds = omega (arith, lt, long) in
      let none = get_or-replicate {A = ℕ} event_kinds kind 0 0 few in
      let sum = sum_number kind few no_cost rows.lines refl whole in
      let all = parts.lines_where guest.syms events rows (are_rows guest past thread segment can makes piece) (λ place. true)
      kind in
      omega (arith, sum, none, all)
      ∙ sym (get_or-map-range_with_len number 0 event_kinds kind kind 0 few (omega arith)))
