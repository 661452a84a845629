-- A profiled run goes on as the machine does, unless too many frames are open.
use Rattle.std.proofs.Common.{◌≡◌, ℕ, suc, ◌+◌, ◌≤◌, ◌⊎◌, Bool, true, false, List, [], ◌∷◌, ◌++◌, length}
use Rattle.std.specs.Option.{option_or}
use Rattle.std.specs.List.{slice_get}
use Rattle.std.proofs.Common.{length-append}
use Rattle.std.proofs.Common.{None, Some, Ok, refl, ap, ◌∙◌, inl, inr, arith}
use Rattle.std.specs.Prelude.{nat_le, if◌then◌else◌}
use Rattle.std.specs.Option.{option_and_then}
use Rattle.std.proofs.lemmas.Bool.{ne_eqb}
use Rattle.event_costs.specs.Runs.{IsTrace, Run}
use Rattle.event_costs.specs.declared.numbers.ThreadNo.{ThreadNo}
use Rattle.event_costs.specs.declared.outcome.End.{End}
use Rattle.event_costs.specs.declared.outcome.End.TheVariants.{Budget, Exited, Frames}
use Rattle.guest_sys.specs.CallRow.{caller_of}
use Rattle.guest_sys.specs.declared.caller.Caller.{Caller}
use Rattle.guest_sched.specs.Engine.{Engine, runner}
use Rattle.guest_sched.specs.Machine.{Machine, next}
use Rattle.guest_sched.specs.Step.{MachineStep, step}
use Rattle.guest_sched.proofs.MoveLemmas.{IsCall, IsInstruction, next_is, step_is}
use Rattle.part_dump.specs.Steps.{live}
use Rattle.shadow_stack.specs.Stacks.{most_frames}
use Rattle.profile_run.specs.Program.{Program}
use Rattle.profile_run.specs.Trace.{Position, RunStep, Stop, end_before}
use Rattle.profile_run.specs.Trace.{next_step, run_step, steps_of}
use Rattle.profile_run.proofs.TraceLemmas.{going-over, going-step}
use Rattle.profile_run.proofs.TraceLemmas.{budget_end, exit_end, frames_end, waiting_end}

-- ---- a machine that makes a step

ready_by : (w : Engine) (c : Caller) (us : List ThreadNo)
    → option_and_then (λ t. caller_of t w.kernel.guest.threads) (slice_get us 0) ≡ Some c → waiting_end us ≡ None
ready_by w c [] is = cc
ready_by w c (u ∷ us) is = refl

runner_ready : (w : Engine) (c : Caller) → runner w ≡ Some c → waiting_end w.run_queue.ready ≡ None
unfolding runner
runner_ready w c is = ready_by w c w.run_queue.ready is

step_ready : (w : Engine) (x : MachineStep) (after : Engine) → IsInstruction w x after ⊎ IsCall w x after
    → waiting_end w.run_queue.ready ≡ None
step_ready w x after (inl s) = runner_ready w s.caller s.runs
step_ready w x after (inr s) = runner_ready w s.caller s.runs

abbrev pub stopped : End → Stop
stopped end = record { end = end; tried = None }

module _ (guest : Program) where
  abbrev frames : List RunStep → ℕ
  frames past = live guest.syms (steps_of past)

  -- no other end stands before a step
  before_step : (w : Engine) (past : List RunStep) (x : MachineStep) (mid : Engine) → step w ≡ Ok (x, mid)
      → length past + 1 ≤ guest.options.budget → end_before guest w past ≡ option_or (frames_end (frames past)) None
  before_step w past x mid is few =
      let made = step_is w x mid is in
      let unspent : budget_end guest.options.budget (length past) ≡ None
      = ap (λ b. if b then Some (Budget guest.options.budget) else None)
      (ne_eqb (length past) guest.options.budget (λ same. omega arith)) in
      ap (λ o. option_or (exit_end o) (option_or (budget_end guest.options.budget (length past))
      (option_or (frames_end (frames past)) (waiting_end w.run_queue.ready)))) made.0
      ∙ ap (λ o. option_or o (option_or (frames_end (frames past)) (waiting_end w.run_queue.ready))) unspent
      ∙ ap (option_or (frames_end (frames past))) (step_ready w x mid made.1)

  -- what is left of a run, where the machine makes so many steps
  pub record Left (p : Position) (steps : ℕ) : Type 0 where
    pub trace : List RunStep
    pub stop : Stop
    pub is : IsTrace (next_step guest) p trace stop
    pub ends_so : ((stop ≡ stopped (Exited 0)) × (length trace ≡ steps)) ⊎ (stop ≡ stopped Frames)

  one_more : (w mid : Engine) (past : List RunStep) (x : MachineStep) (steps : ℕ) → step w ≡ Ok (x, mid)
      → length past + 1 ≤ guest.options.budget → Left (mid, past ++ run_step guest past x ∷ []) steps
      → Left (w, past) (suc steps)
  one_more w mid past x steps is few rest = by (nat_le most_frames (frames past)) refl
    where
      none_else : end_before guest w past ≡ option_or (frames_end (frames past)) None
      none_else = before_step w past x mid is few

      by : (b : Bool) → nat_le most_frames (frames past) ≡ b → Left (w, past) (suc steps)
      by true full =
          let over : end_before guest w past ≡ Some Frames
          = none_else ∙ ap (λ b. option_or (if b then Some Frames else None) None) full in
          record {
            trace = [];
            stop = stopped Frames;
            is = record { last = (w, past); run = refl; stop = going-over guest (w, past) Frames over };
            ends_so = inr refl;
          }
      by false room =
          let none : end_before guest w past ≡ None
          = none_else ∙ ap (λ b. option_or (if b then Some Frames else None) None) room in
          let goes = going-step guest (w, past) x mid none is in
          record {
            trace = run_step guest past x ∷ rest.trace;
            stop = rest.stop;
            is = record {
              last = rest.is.last;
              run = ((mid, past ++ run_step guest past x ∷ []), goes, rest.is.run);
              stop = rest.is.stop;
            };
            ends_so = elim rest.ends_so [ inl exits ↦ inl (exits.0, ap suc exits.1) | inr nests ↦ inr nests ];
          }

  pub left : (xs : List MachineStep) (m last : Machine) (past : List RunStep) → Run next m xs last → last.engine.exit
      ≡ Some 0
      → length past + length xs ≤ guest.options.budget → Left (m.engine, past) (length xs)
  left [] m last past run exits few =
      let over : end_before guest m.engine past ≡ Some (Exited 0)
      = ap (λ o. option_or (exit_end o) (option_or (budget_end guest.options.budget (length past))
      (option_or (frames_end (frames past)) (waiting_end m.engine.run_queue.ready))))
      (ap (λ (m : Machine). m.engine.exit) run ∙ exits) in
      record {
        trace = [];
        stop = stopped (Exited 0);
        is = record { last = (m.engine, past); run = refl; stop = going-over guest (m.engine, past) (Exited 0) over };
        ends_so = inl (refl, refl);
      }
  left (x ∷ xs) m last past run exits few =
      one_more m.engine run.0.engine past x (length xs) (next_is m x run.0 run.1).0 (omega arith)
      (left xs run.0 last (past ++ run_step guest past x ∷ []) run.2 exits
      (omega (arith, length-append past (run_step guest past x ∷ []))))
