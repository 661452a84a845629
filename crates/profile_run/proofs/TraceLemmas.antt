-- Runs and traces of a guest: what a step gives, and that every run goes on to a trace.
use Rattle.std.proofs.Common.{◌≡◌, ℕ, zero, suc, ◌+◌, ◌-◌, ◌≤◌, ◌⊎◌, inl, inr, List, []}
use Rattle.std.specs.Option.{option_map_or, option_or}
use Rattle.std.proofs.Common.{◌∷◌, ◌++◌, length}
use Rattle.std.proofs.Common.{Option, None, Some, Result, Ok, Err, refl, ap, sym, subst, ◌∙◌, arith}
use Rattle.std.specs.Prelude.{if◌then◌else◌, nat_le, option_map, slice_get, ◌==◌}
use Rattle.std.proofs.lemmas.Bool.{eq-eqb}
use Rattle.event_costs.specs.Runs.{IsTrace, Run}
use Rattle.event_costs.specs.declared.outcome.End.{End}
use Rattle.event_costs.specs.declared.numbers.ThreadNo.{ThreadNo}
use Rattle.event_costs.specs.declared.outcome.End.TheVariants.{AllWaiting, Budget, Exited, Frames}
use Rattle.guest_sched.specs.Engine.{Engine, runner}
use Rattle.guest_sched.specs.Step.{MachineStep, step}
use Rattle.profile_run.specs.Program.{Program}
use Rattle.profile_run.specs.Trace.{IsTraceOf, Position, Stop, RunStep, end_before, next_step, next_by}
use Rattle.profile_run.specs.Trace.{start, steps_of, run_step}
use Rattle.part_dump.specs.Steps.{live}
use Rattle.shadow_stack.specs.Stacks.{most_frames}

-- a run, and then another
pub Run-append : {M E X : Type 0} (step : M → Result (E × M) X) (a : M) (xs : List E) (b : M) (ys : List E) (c : M)
    → Run step a xs b → Run step b ys c → Run step a (xs ++ ys) c
Run-append step a [] b ys c run more = subst (λ m. Run step m ys c) (sym run) more
Run-append step a (x ∷ xs) b ys c run more = (run.0, run.1, Run-append step run.0 xs b ys c run.2 more)

-- the ends that are looked for before a step, the later ones where no earlier one stands

abbrev pub exit_end : Option ℕ → Option End
exit_end code = option_map Exited code

abbrev pub budget_end : ℕ → ℕ → Option End
budget_end budget steps = if steps == budget then Some (Budget budget) else None

abbrev pub frames_end : ℕ → Option End
frames_end frames = if nat_le most_frames frames then Some Frames else None

abbrev pub waiting_end : List ThreadNo → Option End
waiting_end ready = option_map_or (λ thread. None) (slice_get ready 0) (Some AllWaiting)

-- the running thread and its pc
abbrev pub runs_at : Engine → Option (ThreadNo × ℕ)
runs_at w = option_map (λ c. (c.thread.no, c.thread.regs.pc)) (runner w)

module _ (guest : Program) where
  pub going-over : (p : Position) (end : End) → end_before guest p.0 p.1 ≡ Some end
      → next_step guest p ≡ Err (record { end = end; tried = None })
  unfolding next_step
  going-over p end is = ap (λ o. next_by guest p o (step p.0)) is

  pub going-step : (p : Position) (told : MachineStep) (m : Engine) → end_before guest p.0 p.1 ≡ None
      → step p.0 ≡ Ok (told, m)
      → next_step guest p ≡ Ok (run_step guest p.1 told, (m, p.1 ++ run_step guest p.1 told ∷ []))
  unfolding next_step
  going-step p told m none is =
      ap (λ o. next_by guest p o (step p.0)) none ∙ ap (λ r. next_by guest p None r) is

  pub going-end : (p : Position) (end : End) → end_before guest p.0 p.1 ≡ None → step p.0 ≡ Err end
      → next_step guest p ≡ Err (record { end = end; tried = runs_at p.0 })
  unfolding next_step
  going-end p end none is =
      ap (λ o. next_by guest p o (step p.0)) none ∙ ap (λ r. next_by guest p None r) is

  -- a step, or an end
  abbrev Moves : Position → Type 0
  Moves p = (x : RunStep) × (m : Engine) × (next_step guest p ≡ Ok (x, (m, p.1 ++ x ∷ [])))

  abbrev Stops : Position → Type 0
  Stops p = (stop : Stop) × (next_step guest p ≡ Err stop)

  tried : (p : Position) (r : Result (MachineStep × Engine) End) → end_before guest p.0 p.1 ≡ None → step p.0 ≡ r
      → Moves p ⊎ Stops p
  tried p (Ok made) none is = inl (run_step guest p.1 made.0, made.1, going-step p made.0 made.1 none is)
  tried p (Err end) none is =
      inr (record { end = end; tried = runs_at p.0 }, going-end p end none is)

  looked : (p : Position) (o : Option End) → end_before guest p.0 p.1 ≡ o → Moves p ⊎ Stops p
  looked p (Some end) is = inr (record { end = end; tried = None }, going-over p end is)
  looked p None is = tried p (step p.0) is refl

  either : (p : Position) → Moves p ⊎ Stops p
  either p = looked p (end_before guest p.0 p.1) refl

  -- where the budget is spent, no more step is made
  or_spent : (o rest : Option End) (budget steps : ℕ) → steps ≡ budget
      → (end : End) × (option_or o (option_or (budget_end budget steps) rest) ≡ Some end)
  or_spent (Some end) rest budget steps e = (end, refl)
  or_spent None rest budget steps e =
      (Budget budget, ap (λ b. option_or (if b then Some (Budget budget) else None) rest) (eq-eqb steps budget e))

  at_budget : (p : Position) → length p.1 ≡ guest.options.budget → Stops p
  at_budget p e =
      let over =
      or_spent (exit_end p.0.exit)
      (option_or (frames_end (live guest.syms (steps_of p.1))) (waiting_end p.0.run_queue.ready)) guest.options.budget
      (length p.1) e in
      (record { end = over.0; tried = None }, going-over p over.0 over.1)

  one_more : (xs : List RunStep) (x : RunStep) → length (xs ++ x ∷ []) ≡ length xs + 1
  one_more [] x = refl
  one_more (y ∷ ys) x = omega (arith, one_more ys x)

  -- what is left from a position on
  pub record Rest (p : Position) : Type 0 where
    pub steps : List RunStep
    pub stop : Stop
    pub is : IsTrace (next_step guest) p steps stop

  stopped : (p : Position) → Stops p → Rest p
  stopped p s = record { steps = []; stop = s.0; is = record { last = p; run = refl; stop = s.1 } }

  moved : (p : Position) (x : RunStep) (q : Position) → next_step guest p ≡ Ok (x, q) → Rest q → Rest p
  moved p x q is rest = record {
    steps = x ∷ rest.steps;
    stop = rest.stop;
    is = record { last = rest.is.last; run = (q, is, rest.is.run); stop = rest.is.stop };
  }

  pub rest_from : (n : ℕ) (p : Position) → length p.1 + n ≡ guest.options.budget → Rest p
  rest_from zero p e = stopped p (at_budget p (omega (arith, e)))
  rest_from (suc n) p e =
      elim (either p) as (λ _. Rest p) [
        | inl m ↦ moved p m.0 (m.1, p.1 ++ m.0 ∷ []) m.2
            (rest_from n (m.1, p.1 ++ m.0 ∷ []) (omega (arith, e, one_more p.1 m.0)))
        | inr s ↦ stopped p s
      ]

  -- every run within the budget goes on to a trace
  pub record Whole (past : List RunStep) : Type 0 where
    pub rest : List RunStep
    pub stop : Stop
    pub is : IsTraceOf guest (past ++ rest) stop

  pub goes_on : (past : List RunStep) (m : Engine) → Run (next_step guest) (start guest) past (m, past)
      → length past ≤ guest.options.budget → Whole past
  goes_on past m run few =
      let rest = rest_from (guest.options.budget - length past) (m, past) (omega arith) in
      record {
        rest = rest.steps;
        stop = rest.stop;
        is = record {
          last = rest.is.last;
          run = Run-append (next_step guest) (start guest) past (m, past) rest.steps rest.is.last run rest.is.run;
          stop = rest.is.stop;
        };
      }
