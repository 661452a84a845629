-- The ends that stand before a step, as the code looks at them.
use Rattle.std.proofs.Common.{◌≡◌, ◌≢◌, ℕ, ◌<◌, ◌≤◌, true, false, List, [], ◌∷◌, nat_le, Option, None, Some}
use Rattle.std.specs.Option.{option_or}
use Rattle.std.specs.List.{slice_get}
use Rattle.std.proofs.Common.{refl, ap, sym, ◌∙◌, arith, if◌then◌else◌}
use Rattle.std.specs.Prelude.{is_some}
use Rattle.std.proofs.lemmas.Bool.{eq-eqb}
use Rattle.std.proofs.lemmas.Bool.Decides.{nat_tests}
use Rattle.event_costs.specs.declared.numbers.ThreadNo.{ThreadNo}
use Rattle.event_costs.specs.declared.outcome.End.{End}
use Rattle.event_costs.specs.declared.outcome.End.TheVariants.{Budget, Frames}
use Rattle.guest_sched.specs.Machine.{Machine, ended, or_known_end, known_end}
use Rattle.shadow_stack.specs.Stacks.{most_frames}
use Rattle.profile_run.specs.inner.Standing.{is_exit}
use Rattle.profile_run.proofs.Others.{is_not}
use Rattle.profile_run.proofs.TraceLemmas.{budget_end, exit_end, frames_end, waiting_end}

pub ended_is : (m : Machine) → m.given ≡ None → ended m ≡ known_end m.engine.exit (slice_get m.engine.run_queue.ready 0)
unfolding ended
ended_is m none = ap (λ o. or_known_end o m.engine) none

true_false : true ≡ false → ⊥
true_false e = cc

exit_first : (exit : Option ℕ) (ready : List ThreadNo) (rest : Option End)
    → is_exit (known_end exit (slice_get ready 0)) ≡ true → known_end exit (slice_get ready 0) ≡ option_or (exit_end exit) rest
exit_first (Some code) ready rest is = refl
exit_first None [] rest is = absurd (true_false (sym is))
exit_first None (t ∷ ts) rest is = absurd (true_false (sym is))

no_exit : (exit : Option ℕ) (ready : List ThreadNo) → is_exit (known_end exit (slice_get ready 0)) ≡ false → exit_end exit ≡ None
no_exit (Some code) ready is = absurd (true_false is)
no_exit None ready is = refl

nobody : (exit : Option ℕ) (ready : List ThreadNo) → is_exit (known_end exit (slice_get ready 0)) ≡ false
    → known_end exit (slice_get ready 0) ≡ waiting_end ready
nobody (Some code) ready is = absurd (true_false is)
nobody None [] is = refl
nobody None (t ∷ ts) is = refl

module _ (m : Machine) (given : m.given ≡ None) (e : Option End) (is : e ≡ ended m) (budget steps frames : ℕ) where
  abbrev exit : Option ℕ
  exit = m.engine.exit

  abbrev ready : List ThreadNo
  ready = m.engine.run_queue.ready

  e_is : e ≡ known_end exit (slice_get ready 0)
  e_is = is ∙ ended_is m given

  pub where_exited : is_exit e ≡ true
      → e ≡ option_or (exit_end exit) (option_or (budget_end budget steps) (option_or (frames_end frames) (waiting_end ready)))
  where_exited yes_ = e_is ∙ exit_first exit ready _ (ap is_exit (sym e_is) ∙ yes_)

  skip_exit : is_exit e ≡ false → (rest : Option End) → rest ≡ option_or (exit_end exit) rest
  skip_exit other rest = ap (λ o. option_or o rest) (sym (no_exit exit ready (ap is_exit (sym e_is) ∙ other)))

  pub where_spent : is_exit e ≡ false → steps ≡ budget → Some (Budget budget)
      ≡ option_or (exit_end exit) (option_or (budget_end budget steps) (option_or (frames_end frames) (waiting_end ready)))
  where_spent other all =
      ap (λ b. option_or (if b then Some (Budget budget) else None) (option_or (frames_end frames) (waiting_end ready)))
      (sym (eq-eqb steps budget all))
      ∙ skip_exit other (option_or (budget_end budget steps) (option_or (frames_end frames) (waiting_end ready)))

  skip_spent : is_exit e ≡ false → steps ≢ budget → (rest : Option End)
      → rest ≡ option_or (exit_end exit) (option_or (budget_end budget steps) rest)
  skip_spent other some rest =
      ap (λ b. option_or (if b then Some (Budget budget) else None) rest) (sym (is_not steps budget some))
      ∙ skip_exit other (option_or (budget_end budget steps) rest)

  at_limit : most_frames ≤ frames → nat_le most_frames frames ≡ true
  at_limit le = grind (arith, nat_tests)

  below_limit : frames < most_frames → nat_le most_frames frames ≡ false
  below_limit less = grind (arith, nat_tests)

  pub where_full : is_exit e ≡ false → steps ≢ budget → most_frames ≤ frames → Some Frames
      ≡ option_or (exit_end exit) (option_or (budget_end budget steps) (option_or (frames_end frames) (waiting_end ready)))
  where_full other some le =
      ap (λ b. option_or (if b then Some Frames else None) (waiting_end ready)) (sym (at_limit le))
      ∙ skip_spent other some (option_or (frames_end frames) (waiting_end ready))

  pub where_open : is_exit e ≡ false → steps ≢ budget → frames < most_frames
      → e ≡ option_or (exit_end exit) (option_or (budget_end budget steps) (option_or (frames_end frames) (waiting_end ready)))
  where_open other some less =
      e_is ∙ nobody exit ready (ap is_exit (sym e_is) ∙ other)
      ∙ ap (λ b. option_or (if b then Some Frames else None) (waiting_end ready)) (sym (below_limit less))
      ∙ skip_spent other some (option_or (frames_end frames) (waiting_end ready))

  -- whether one of these ends stands
  some_else : (a b : Option End) → is_some b ≡ true → is_some (option_or a b) ≡ true
  some_else (Some end) b is_ = refl
  some_else None b is_ = is_

  none_or_nobody : (o : Option ℕ) (ts : List ThreadNo)
      → is_some (known_end o (slice_get ts 0)) ≡ is_some (option_or (exit_end o) (waiting_end ts))
  none_or_nobody (Some code) ts = refl
  none_or_nobody None [] = refl
  none_or_nobody None (t ∷ ts) = refl

  pub over_spent : steps ≡ budget → true
      ≡ is_some (option_or (exit_end exit) (option_or (budget_end budget steps) (option_or (frames_end frames) (waiting_end ready))))
  over_spent all =
      sym (some_else (exit_end exit) (option_or (budget_end budget steps) (option_or (frames_end frames) (waiting_end ready)))
      (ap (λ b. is_some (option_or (if b then Some (Budget budget) else None)
      (option_or (frames_end frames) (waiting_end ready))))
      (eq-eqb steps budget all)))

  pub over_full : most_frames ≤ frames → true
      ≡ is_some (option_or (exit_end exit) (option_or (budget_end budget steps) (option_or (frames_end frames) (waiting_end ready))))
  over_full le =
      sym (some_else (exit_end exit) (option_or (budget_end budget steps) (option_or (frames_end frames) (waiting_end ready)))
      (some_else (budget_end budget steps) (option_or (frames_end frames) (waiting_end ready))
      (ap (λ b. is_some (option_or (if b then Some Frames else None) (waiting_end ready))) (at_limit le))))

  pub over_else : steps ≢ budget → frames < most_frames → is_some e
      ≡ is_some (option_or (exit_end exit) (option_or (budget_end budget steps) (option_or (frames_end frames) (waiting_end ready))))
  over_else some less =
      ap is_some e_is ∙ none_or_nobody exit ready
      ∙ ap (λ o. is_some (option_or (exit_end exit) o))
      (ap (λ b. option_or (if b then Some Frames else None) (waiting_end ready)) (sym (below_limit less))
      ∙ ap (λ b. option_or (if b then Some (Budget budget) else None) (option_or (frames_end frames) (waiting_end ready)))
      (sym (is_not steps budget some)))
