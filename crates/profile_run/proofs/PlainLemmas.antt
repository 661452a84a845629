-- The parts of a run that nobody watches are those of the segments.
use Rattle.std.proofs.Common.{◌≡◌, ℕ, List, ◌++◌, Option, Result, ap, subst, ◌∙◌}
use Rattle.std.proofs.lemmas.List.{append-nil}
use Rattle.outside.specs.Outside.{Outside}
use Rattle.event_costs.specs.declared.numbers.ThreadNo.{ThreadNo}
use Rattle.part_dump.specs.Calls.{closed_calls, steps_calls}
use Rattle.part_dump.specs.Cuts.{cuts}
use Rattle.part_dump.specs.Plain.{Stateless, plain}
use Rattle.part_dump.specs.Steps.{Step}
use Rattle.part_dump.specs.Watching.{after_calls, puts}
use Rattle.part_dump.proofs.FileLemmas.{closed_puts, plain_files, puts_all}
use Rattle.profile_run.specs.Program.{Program, head_of_run}
use Rattle.profile_run.specs.Parts.{Writing, plain_parts, watched_parts}
use Rattle.recorder.specs.Rows.{rows_of}
use Rattle.profile_run.specs.Runs.{Answers, RunEnd}
use Rattle.profile_run.specs.declared.run_fault.RunFault.{RunFault}
use Rattle.profile_run.proofs.CallLemmas.{no_puts, puts-append}

module _ (guest : Program) (w : Stateless) where
  abbrev base : List ℕ
  base = guest.options.base

  at_cuts_are : (steps : List Step) → (watched_parts plain w guest).at_cuts steps ≡ (plain_parts guest).at_cuts steps
  at_cuts_are steps =
      let closed = (cuts guest.syms guest.options.dump_points steps).closed in
      let recent = (cuts guest.syms guest.options.dump_points steps).recent in
      let cs = closed_calls (rows_of guest.syms) (head_of_run guest) closed in
      puts-append plain guest.syms base w cs (steps_calls recent)
      ∙ ap (λ fs. puts plain guest.syms base w cs ++ fs)
      (no_puts plain guest.syms base recent (after_calls plain guest.syms w cs))
      ∙ append-nil (puts plain guest.syms base w cs)
      ∙ puts_all (rows_of guest.syms) (head_of_run guest) guest.syms base w cs
      ∙ closed_puts (rows_of guest.syms) (head_of_run guest) guest.syms base w closed

  whole_is : (steps : List Step) (tried : Option (ThreadNo × ℕ))
      → (watched_parts plain w guest).whole steps tried ≡ (plain_parts guest).whole steps tried
  whole_is steps tried =
      plain_files (rows_of guest.syms) (head_of_run guest) guest.syms base w guest.options.dump_points steps tried

  pub same_parts : watched_parts plain w guest ≡ plain_parts guest
  same_parts = λ i. record {
    at_cuts = λ steps. at_cuts_are steps i;
    whole = λ steps tried. whole_is steps tried i;
  }

  -- what a run answers whose watch has no state
  pub plain_answers : (old new : Outside) (answer : Result RunEnd RunFault)
      → Answers (watched_parts plain w guest) guest old answer new → Answers (plain_parts guest) guest old answer new
  plain_answers old new answer answers =
      subst (λ (parts : Writing). Answers parts guest old answer new) same_parts answers
