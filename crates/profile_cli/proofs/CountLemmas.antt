-- The numbers of a report on a run count events of the run.
use Rattle.std.proofs.Common.{◌≡◌, ℕ, zero, suc, ◌<◌, ◌≤◌, ◌==◌, ◌&&◌, Bool, true, false, if◌then◌else◌, List, []}
use Rattle.std.proofs.Common.{◌∷◌, length, take, Option, Some, None, get_or, sum_by, count_by, refl, sym, ap, subst}
use Rattle.std.proofs.Common.{◌∙◌, arith}
use Rattle.std.specs.Option.{option_map_or}
use Rattle.std.proofs.lemmas.List.{get_or-take}
use Rattle.std.proofs.lemmas.List.Sums.{sum_by-cons}
use Rattle.event_costs.specs.Costs.{event_names, events_shown}
use Rattle.arc_costs.specs.Rows.{LineRow}
use Rattle.shadow_stack.specs.Changes.{change}
use Rattle.shadow_stack.specs.Stacks.{Activation}
use Rattle.shadow_stack.specs.Traces.{EventOnStack, events_on_stacks}
use Rattle.cg_read.specs.Profiles.{Contents}
use Rattle.cg_read.specs.declared.rows.CallRow.{CallRow}
use Rattle.cg_read.specs.declared.rows.SelfRow.{SelfRow}
use Rattle.cycles.specs.Limits.{is_pair, pair_calls}
use Rattle.once_each.specs.Parts.{all_arcs, all_lines}
use Rattle.once_each.specs.Profiles.{IsProfileOf, Numbering, call_row, self_row}
use Rattle.once_each.proofs.PartLemmas.{all_calls_where, all_lines_where, pushed_by, pushed_stack}
use Rattle.once_each.proofs.SumLemmas.{sum_by-map, sum_by-same}
use Rattle.profile_run.specs.Program.{CanRun, Program}
use Rattle.profile_run.specs.Trace.{Makes, RunStep}
use Rattle.run_laws.specs.Profiles.{IsProfileOfRun}
use Rattle.run_laws.specs.Runs.{events_with_costs, events_with_stacks}
use Rattle.profile_cli.proofs.Others.{profile_of_run}
use Rattle.profile_cli.proofs.Others.{have_stacks}
use Rattle.profile_cli.specs.Counts.{CountEvents, is_of_pair, numbers_of, passes}

-- the events that are shown have the first costs
length-take-le : {X : Type 0} (n : ℕ) (xs : List X) → length (take n xs) ≤ n
length-take-le zero xs = omega arith
length-take-le (suc n) [] = omega arith
length-take-le (suc n) (x ∷ xs) = let rest = length-take-le n xs in omega (arith, rest)

shown : (branches : Bool) (names : List (List ℕ)) (cost : List ℕ) (kind : ℕ)
    → kind < length (events_shown branches names) → get_or (events_shown branches cost) kind 0 ≡ get_or cost kind 0
shown true names cost kind within = refl
shown false names cost kind within =
    get_or-take 9 cost kind 0 (let few = length-take-le 9 names in omega (arith, few, within))

module _ (guest : Program) (can : CanRun guest) (trace : List RunStep) (makes : Makes guest trace) (p : Contents)
    (is : IsProfileOfRun guest trace p) where
  abbrev n : Numbering
  n = numbers_of guest p

  of_trace : IsProfileOf guest.syms (events_with_costs trace) n p
  of_trace = profile_of_run guest can trace makes p is

  -- an event at a place, and one that pushes a frame
  abbrev at : (ℕ → ℕ → ℕ → Bool) → ℕ → EventOnStack → ℕ
  at test kind x = if passes guest p test x.event.done.pc then get_or x.cost kind 0 else 0

  abbrev pushing : ℕ → ℕ → EventOnStack → ℕ
  pushing caller callee x =
      option_map_or (λ frame. if is_of_pair guest p caller callee frame then 1 else 0)
      (change guest.syms x.event x.stack).pushed 0

  costs_are : (test : ℕ → ℕ → ℕ → Bool) (kind : ℕ) → kind < length p.events
      → sum_by (λ (row : SelfRow). if test row.func row.file row.line then get_or row.cost kind 0 else 0) p.self_rows
      ≡ sum_by (at test kind) (events_with_stacks trace)
  costs_are test kind within =
      ap (sum_by (λ (row : SelfRow). if test row.func row.file row.line then get_or row.cost kind 0 else 0))
      of_trace.self_rows
      ∙ sum_by-map (λ (row : SelfRow). if test row.func row.file row.line then get_or row.cost kind 0 else 0) (self_row n)
      (all_lines of_trace.parts)
      ∙ sum_by-same
      (λ (row : LineRow). if test (n.func row.place.func.0) (n.file row.place.file.0) row.place.line
      then get_or (events_shown n.branches row.cost) kind 0 else 0)
      (λ (row : LineRow). if test (n.func row.place.func.0) (n.file row.place.file.0) row.place.line
      then get_or row.cost kind 0 else 0)
      (λ row. ap (λ m. if test (n.func row.place.func.0) (n.file row.place.file.0) row.place.line then m else 0)
      (shown n.branches event_names row.cost kind
      (subst (λ (names : List (List ℕ)). kind < length names) of_trace.events within)))
      (all_lines of_trace.parts)
      ∙ all_lines_where guest.syms (events_with_costs trace) of_trace.parts of_trace.exact
      (λ place. test (n.func place.func.0) (n.file place.file.0) place.line) kind
      ∙ ap (sum_by (at test kind)) (sym (have_stacks guest can trace makes))

  -- a frame that is pushed counts once
  one_frame : (caller callee : ℕ) (pushed : Option Activation)
      → count_by (is_of_pair guest p caller callee) (pushed_stack pushed)
      ≡ option_map_or (λ frame. if is_of_pair guest p caller callee frame then 1 else 0) pushed 0
  one_frame caller callee None = refl
  one_frame caller callee (Some frame) =
      sum_by-cons (λ (a : Activation). if is_of_pair guest p caller callee a then 1 else 0) frame [] ∙ omega arith

  calls_are : (caller callee : ℕ)
      → pair_calls caller callee p.call_rows ≡ sum_by (pushing caller callee) (events_with_stacks trace)
  calls_are caller callee =
      ap (pair_calls caller callee) of_trace.call_rows
      ∙ sum_by-map (λ (row : CallRow). if is_pair caller callee row then row.calls else 0) (call_row n)
      (all_arcs of_trace.parts)
      ∙ all_calls_where guest.syms (events_with_costs trace) of_trace.parts of_trace.exact
      (λ arc. n.func arc.caller.0 == caller && n.func arc.callee.0 == callee)
      ∙ sum_by-same (λ x. count_by (is_of_pair guest p caller callee) (pushed_by guest.syms x)) (pushing caller callee)
      (λ x. one_frame caller callee (change guest.syms x.event x.stack).pushed) (events_on_stacks guest.syms (events_with_costs trace))
      ∙ ap (sum_by (pushing caller callee)) (sym (have_stacks guest can trace makes))

  pub counts_of : CountEvents guest trace p
  counts_of = record { costs = costs_are; calls = calls_are }
