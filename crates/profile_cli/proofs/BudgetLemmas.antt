-- A run has no more steps than its budget.
use Rattle.std.proofs.Common.{◌≡◌, ℕ, zero, suc, ◌+◌, ◌≤◌, List, [], ◌∷◌, ◌++◌, length, Option, None, Some, Result}
use Rattle.std.specs.Option.{option_or}
use Rattle.std.proofs.Common.{Ok, Err, refl, ap, sym, ◌∙◌, arith}
use Rattle.std.specs.Prelude.{if◌then◌else◌}
use Rattle.std.proofs.lemmas.Bool.{eq-eqb}
use Rattle.std.proofs.lemmas.List.{length-append}
use Rattle.event_costs.specs.Runs.{Run}
use Rattle.event_costs.specs.declared.outcome.End.{End}
use Rattle.event_costs.specs.declared.outcome.End.TheVariants.{Budget}
use Rattle.guest_sched.specs.Engine.{Engine}
use Rattle.guest_sched.specs.Step.{MachineStep, step}
use Rattle.profile_run.specs.Program.{Program}
use Rattle.profile_run.specs.Trace.{IsTraceOf, Position, Stop, RunStep, end_before, next_step}
use Rattle.profile_run.specs.Trace.{start, steps_of, run_step}
use Rattle.profile_run.proofs.TraceLemmas.{going-end, going-over, going-step}
use Rattle.part_dump.specs.Steps.{live}
use Rattle.profile_run.proofs.TraceLemmas.{budget_end, exit_end, frames_end, waiting_end}

module _ (guest : Program) where
  abbrev Ended : Type 0
  Ended = Result (RunStep × Position) Stop

  -- where the budget is spent, an end stands
  or_spent : (o rest : Option End) (budget steps : ℕ) → steps ≡ budget
      → (end : End) × (option_or o (option_or (budget_end budget steps) rest) ≡ Some end)
  or_spent (Some end) rest budget steps e = (end, refl)
  or_spent None rest budget steps e =
      (Budget budget, ap (λ b. option_or (if b then Some (Budget budget) else None) rest) (eq-eqb steps budget e))

  no_move : (x : RunStep) (q : Position) (stop : Stop) → ◌≡◌ {A = Ended} (Ok (x, q)) (Err stop) → ⊥
  no_move x q stop is = cc

  -- a step is made only before it is spent
  unspent : (p : Position) (x : RunStep) (q : Position) → next_step guest p ≡ Ok (x, q) → length p.1 ≡ guest.options.budget
      → ⊥
  unspent p x q made e =
      let over =
      or_spent (exit_end p.0.exit)
      (option_or (frames_end (live guest.syms (steps_of p.1))) (waiting_end p.0.run_queue.ready)) guest.options.budget
      (length p.1) e in
      no_move x q (record { end = over.0; tried = None }) (sym made ∙ going-over guest p over.0 over.1)

  -- and is one more
  longer : (p : Position) (x : RunStep) (q : Position) → next_step guest p ≡ Ok (x, q) → length q.1 ≡ length p.1 + 1
  longer p x q made = looked (end_before guest p.0 p.1) refl
    where
      position : Ended → Position
      position (Ok made) = made.1
      position (Err stop) = q

      same : (y : RunStep) (r : Position) → ◌≡◌ {A = Ended} (Ok (x, q)) (Ok (y, r)) → q ≡ r
      same y r is = ap position is

      stepped : end_before guest p.0 p.1 ≡ None → (told : Result (MachineStep × Engine) End) → step p.0 ≡ told
          → length q.1 ≡ length p.1 + 1
      stepped none (Err end) is = absurd (no_move x q _ (sym made ∙ going-end guest p end none is))
      stepped none (Ok told) is =
          ap (λ (r : Position). length r.1)
          (same (run_step guest p.1 told.0) (told.1, p.1 ++ run_step guest p.1 told.0 ∷ [])
          (sym made ∙ going-step guest p told.0 told.1 none is))
          ∙ length-append p.1 (run_step guest p.1 told.0 ∷ [])

      looked : (o : Option End) → end_before guest p.0 p.1 ≡ o → length q.1 ≡ length p.1 + 1
      looked (Some end) is = absurd (no_move x q _ (sym made ∙ going-over guest p end is))
      looked None is = stepped is (step p.0) refl

  few_from : (n : ℕ) (p : Position) (xs : List RunStep) (q : Position) → length p.1 + n ≡ guest.options.budget
      → Run (next_step guest) p xs q → length xs ≤ n
  few_from n p [] q e run = omega arith
  few_from zero p (x ∷ xs) q e run = absurd (unspent p x run.0 run.1 (omega (arith, e)))
  few_from (suc n) p (x ∷ xs) q e run =
      let one = longer p x run.0 run.1 in
      let rest = few_from n run.0 xs q (omega (arith, e, one)) run.2 in omega (arith, rest)

  pub within_budget : (trace : List RunStep) (stop : Stop) → IsTraceOf guest trace stop
      → length trace ≤ guest.options.budget
  within_budget trace stop is = few_from guest.options.budget (start guest) trace is.last (omega arith) is.run
