-- The events of a thread in a piece of a run, and rows with their sums.
use Rattle.std.proofs.Common.{All, ◌≡◌, ℕ, ◌<◌, ◌≤◌, ◌==◌, ◌^◌, ◌∙◌, List, [], ◌++◌, length, sym, subst, ap, arith}
use Rattle.std.specs.List.{AllByRecursion}
use Rattle.std.proofs.lemmas.List.{length-append, length-map}
use Rattle.std.proofs.lemmas.List.Elements.{All-from_recursion}
use Rattle.event_costs.specs.Costs.{IsWhole}
use Rattle.event_costs.specs.Keys.{ArcKey, Place}
use Rattle.arc_costs.specs.Arcs.{arc_sum, call_sum}
use Rattle.arc_costs.specs.Contents.{Listed}
use Rattle.arc_costs.specs.Lines.{line_sum}
use Rattle.sym_map.specs.SymbolMap.{SymbolMap}
use Rattle.shadow_stack.specs.Traces.{EventOnStack}
use Rattle.part_dump.specs.Steps.{Step, steps_of_thread, events_on_stack_of, thread_of, IsPiece}
use Rattle.recorder.specs.Laws.{IsIn}
use Rattle.recorder.specs.Rows.{rows_of}
use Rattle.recorder.specs.Standing.{AreRowsOf}
use Rattle.run_laws.proofs.Others.{in_left, in_right, all_of, of_all, from_map, in_filter, all_sum_up, whole_arcs}
use Rattle.run_laws.proofs.Others.{whole_lines, of_machine, IsReached}
use Rattle.profile_run.specs.Program.{Program, CanRun}
use Rattle.profile_run.specs.Trace.{Makes, RunStep, steps_of}
use Rattle.profile_run.proofs.SizeLemmas.{IsSmall, are_few, are_small, arc_fits, calls_fit, fewer, self_fits}
use Rattle.run_laws.proofs.Others.{HaveSums}
use Rattle.ctx_rows.specs.Folding.{AreSumsOf}
use Rattle.ctx_rows.specs.Since.{StandsOn}
use Rattle.run_laws.proofs.AnswerLemmas.{all_on, each_reached, order_of}

module _ (guest : Program) (past : List RunStep) (thread : ℕ) (segment : List Step) (can : CanRun guest)
    (makes : Makes guest past) (piece : IsPiece (steps_of past) segment) where
  abbrev events : List EventOnStack
  events = events_on_stack_of thread segment

  inside : (y : Step) → IsIn segment y → IsIn (steps_of past) y
  inside y there =
      subst (λ (ys : List Step). IsIn ys y) piece.whole
      (in_right piece.before (segment ++ piece.after) y (in_left segment piece.after y there))

  -- what holds of each step of the run holds of the thread's events among these
  pub each : (P : EventOnStack → Type 0) → ((y : Step) → IsIn (steps_of past) y → P y.on_stack) → (x : EventOnStack) → IsIn events x → P x
  each P of_step x there =
      let y = from_map (λ (z : Step). z.on_stack) (steps_of_thread thread segment) x there in
      let in_segment = (in_filter (λ (z : Step). thread_of z == thread) segment y.0 y.1).0 in
      subst P y.2 (of_step y.0 (inside y.0 in_segment))

  pub on : AllByRecursion (StandsOn guest.syms) events
  on =
      all_of (StandsOn guest.syms) events
      (each (StandsOn guest.syms)
      (of_all (λ (z : Step). StandsOn guest.syms z.on_stack) (steps_of past)
      (all_on guest can (steps_of past) (order_of guest can past makes))))

  pub reached : AllByRecursion (IsReached guest.syms) events
  reached =
      all_of (IsReached guest.syms) events
      (each (IsReached guest.syms)
      (each_reached guest.syms [] (steps_of past) (order_of guest can past makes)))

  small : (x : EventOnStack) → IsIn events x → IsSmall x
  small =
      let run = of_machine guest past makes in
      each IsSmall (are_small guest [] run.tolds past run.are)

  few : length events ≤ 10 ^ 12
  few =
      let run = of_machine guest past makes in
      let own_few = fewer (λ x. thread_of x == thread) segment in
      let seen = length-map (steps_of_thread thread segment) (λ (x : Step). x.on_stack) in
      let all = length-map past (λ (x : RunStep). x.step) in
      let within = are_few guest [] run.tolds past (omega arith) run.are in
      let front = length-append piece.before (segment ++ piece.after) in
      let rest = length-append segment piece.after in
      let whole = ap length piece.whole in
      let budget = can.budget in
      omega (arith, own_few, seen, all, within, front, rest, whole, budget)

  pub are_rows : AreRowsOf guest.syms events (rows_of guest.syms events)
  are_rows =
      all_sum_up guest.syms events
      (All-from_recursion (λ (x : EventOnStack). IsWhole x.cost) events
      (all_of (λ (x : EventOnStack). IsWhole x.cost) events
      (λ x there. (of_all (StandsOn guest.syms) events on x there).whole)))

  pub lines_whole : All (λ row. IsWhole row.cost) (rows_of guest.syms events).lines
  lines_whole = whole_lines guest.syms events

  module _ (all : Listed) (sums : HaveSums guest.syms events all) where
    pub lines_within : (kind : ℕ) (place : Place) → line_sum kind place all.lines < 2 ^ 64
    lines_within kind place =
        let is = sums.lines kind place in
        let fits = self_fits guest.syms events small few kind place in
        omega (arith, is, fits)

    pub arcs_within : (kind : ℕ) (arc : ArcKey) → arc_sum kind arc all.arcs < 2 ^ 64
    arcs_within kind arc =
        let is = sums.arcs kind arc in
        let fits = arc_fits guest.syms events small few kind arc in
        omega (arith, is, fits)

    pub calls_within : (arc : ArcKey) → call_sum arc all.arcs < 2 ^ 64
    calls_within arc =
        let is = sums.calls arc in
        let fits = calls_fit guest.syms events small few arc in
        omega (arith, is, fits)

    -- the plain rows are their sums
    pub sums_of : AreSumsOf all (rows_of guest.syms events)
    sums_of = record {
      lines = λ kind place. are_rows.lines kind place ∙ sym (sums.lines kind place);
      arcs = record {
        calls = λ arc. are_rows.calls arc ∙ sym (sums.calls arc);
        costs = λ kind arc. are_rows.arcs kind arc ∙ sym (sums.arcs kind arc);
      };
      lines_rise = are_rows.lines_rise;
      arcs_rise = are_rows.arcs_rise;
      some_lines = are_rows.some_lines;
      some_arcs = are_rows.some_arcs;
      whole_lines = lines_whole;
      whole_arcs = whole_arcs guest.syms events;
    }
