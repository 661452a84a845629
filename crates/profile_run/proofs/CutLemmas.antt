-- A step that is counted is followed by a cut, or it isn't.
use Rattle.std.proofs.Common.{◌≡◌, ◌≢◌, ℕ, ◌+◌, ◌==◌, true, false, List, [], ◌∷◌, ◌++◌}
use Rattle.std.proofs.Common.{length}
use Rattle.std.proofs.Common.{Option, None, Some, refl, ap, sym, subst, ◌∙◌, ◌⊎◌, inl, inr}
use Rattle.std.proofs.Common.{if◌then◌else◌}
use Rattle.std.proofs.lemmas.Bool.Decides.{eqb_tells}
use Rattle.std.proofs.lemmas.List.{append-nil, map-append}
use Rattle.event_costs.specs.declared.numbers.FuncId.{FuncId}
use Rattle.event_costs.specs.declared.outcome.Noted.{Noted}
use Rattle.cache_lru.specs.Costs.{RunCosts}
use Rattle.cg_format.specs.declared.head.PartHead.{PartHead}
use Rattle.guest_sched.specs.Machine.{Machine}
use Rattle.recorder.specs.Accounts.{Recording}
use Rattle.part_dump.specs.Calls.{Call, step_calls}
use Rattle.part_dump.specs.Steps.{Step, steps_of_thread, thread_of}
use Rattle.part_dump.specs.Watched.{ready_pc}
use Rattle.part_dump.specs.Watching.{Meaning, puts}
use Rattle.profile_run.specs.Program.{Program}
use Rattle.profile_run.specs.Parts.{calls_so_far}
use Rattle.profile_run.specs.Trace.{RunStep, steps_of}
use Rattle.profile_run.specs.inner.Standing.{IsAfter, IsUncut, IsWatched, StandsAfter, files_at}
use Rattle.profile_run.proofs.Others.{own-append, own-push, readied-append}
use Rattle.profile_run.proofs.CallLemmas.{calls_uncut, cut_at, cuts_of, cuts_uncut, may_cut, puts-append}

some_pushed : (xs : List Step) (x : Step) → xs ++ x ∷ [] ≢ []
some_pushed [] x e = cc
some_pushed (y ∷ ys) x e = cc

module _ {W : Type 0} (m : Meaning W) (guest : Program) (first : W) (past : List RunStep) (last : RunStep) (set : List FuncId)
    (noted : Noted) (machine : Machine) (costs : RunCosts) (r : Recording) (h : PartHead) (w : W)
    (u : IsUncut m guest first past last set noted machine costs r h w) where
  abbrev steps : List Step
  steps = steps_of past

  abbrev now : List Step
  now = steps_of (past ++ last ∷ [])

  now_is : now ≡ steps ++ last.step ∷ []
  now_is = map-append (λ (y : RunStep). y.step) past (last ∷ [])

  -- a thread without steps has none before, and isn't that of the last
  none_before : (thread : ℕ) → steps_of_thread thread now ≡ [] → (steps_of_thread thread steps ≡ []) × (thread_of last.step ≢ thread)
  none_before thread none =
      let all : steps_of_thread thread (steps ++ last.step ∷ []) ≡ [] = ap (steps_of_thread thread) (sym now_is) ∙ none in (
        left (steps_of_thread thread steps) (steps_of_thread thread (last.step ∷ []))
            (sym (own-append thread steps (last.step ∷ [])) ∙ all),
        (λ is. some_pushed (steps_of_thread thread steps) last.step (sym (own-push thread steps last.step is) ∙ all)),
      )
    where
      left : (xs ys : List Step) → xs ++ ys ≡ [] → xs ≡ []
      left [] ys e = refl
      left (x ∷ xs) ys e = absurd (cc)

  -- once the step is told
  pub quiet_step : (thread : ℕ) → steps_of_thread thread now ≡ []
      → ready_pc thread (calls_so_far guest steps ++ step_calls last.step) ≡ None
  quiet_step thread none =
      let before = none_before thread none in
      readied-append thread (calls_so_far guest steps) (step_calls last.step)
      ∙ by (eqb_tells (thread_of last.step) thread) before.1 (u.quiet thread before.0)
    where
      by : {o : Option ℕ} → ((thread_of last.step == thread ≡ true) × (thread_of last.step ≡ thread))
          ⊎ ((thread_of last.step == thread ≡ false) × (thread_of last.step ≢ thread))
          → thread_of last.step ≢ thread → o ≡ None
          → (if thread_of last.step == thread then Some last.step.on_stack.event.done.pc else o) ≡ None
      by (inl is) other same = absurd (other is.1)
      by {o} (inr differs) other same =
          ap (λ b. if b then Some last.step.on_stack.event.done.pc else o) differs.0 ∙ same

  -- a step puts no file
  pub files_step : puts m guest.syms guest.options.base first (calls_so_far guest steps ++ step_calls last.step)
      ≡ files_at m guest first steps
  files_step =
      puts-append m guest.syms guest.options.base first (calls_so_far guest steps) (step_calls last.step)
      ∙ append-nil (files_at m guest first steps)

  module _ (why : (cut_at guest steps last.step ≡ None) ⊎ (may_cut guest steps ≡ false)) where
    cuts_now : cuts_of guest now
        ≡ record { closed = (cuts_of guest steps).closed; recent = (cuts_of guest steps).recent ++ last.step ∷ [] }
    cuts_now = ap (cuts_of guest) now_is ∙ cuts_uncut guest steps last.step why

    calls_now : calls_so_far guest now ≡ calls_so_far guest steps ++ step_calls last.step
    calls_now = ap (calls_so_far guest) now_is ∙ calls_uncut guest steps last.step why

    quiet_now : (thread : ℕ) → steps_of_thread thread now ≡ [] → ready_pc thread (calls_so_far guest now) ≡ None
    quiet_now thread none = ap (ready_pc thread) calls_now ∙ quiet_step thread none

    -- the run goes on
    pub uncut : StandsAfter m guest first (past ++ last ∷ []) machine costs r h w
    uncut = record {
      after =
          (let P : List Step → Type 0 = λ since. IsAfter guest (past ++ last ∷ []) since machine costs r in
          subst P (sym (ap (λ s. s.recent) cuts_now)) u.counted.after);
      stepped = u.counted.stepped;
      head = u.head;
      number = u.number ∙ ap (λ s. length s.closed + 1) (sym cuts_now);
      quiet = quiet_now;
      watch =
          (let P : List Call → Type 0 = λ cs. IsWatched m guest first now cs w in
          subst P (sym calls_now) u.counted.watch);
    }

    -- and no file more is put
    pub files_uncut : files_at m guest first now ≡ files_at m guest first steps
    files_uncut = ap (puts m guest.syms guest.options.base first) calls_now ∙ files_step
