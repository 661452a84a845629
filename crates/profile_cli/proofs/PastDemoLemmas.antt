-- Behind a demonstration's run that came to its end its summary is that of its trace, or the work stops.
use Rattle.std.proofs.Common.{◌≡◌, ◌⊎◌, ℕ, ◌++◌, false, List, [], ◌∷◌, length, take, get_or, Option, None, Some}
use Rattle.std.proofs.Common.{option_map, IfOk, IfSome, Result, Ok, Err, refl, sym, ap, subst, ◌∙◌, arith, inl, inr}
use Rattle.std.proofs.Common.{append-nil, sum_by}
use Rattle.std.proofs.lemmas.List.{take_all, length-map}
use Rattle.std.proofs.lemmas.List.FromFn.{fill_by_all}
use Rattle.event_costs.specs.Costs.{event_names, events_shown}
use Rattle.outside.specs.Files.{Files, Rose}
use Rattle.outside.specs.Outside.{Holds, Named, Outside, Output, nothing, with_files}
use Rattle.outside.specs.Write.{taken_more}
use Rattle.event_costs.specs.declared.outcome.End.{End}
use Rattle.event_costs.specs.declared.outcome.End.TheVariants as end
use Rattle.outside.specs.declared.sink.WriteError.{WriteError}
use Rattle.outside.specs.declared.sink.WriteError.TheVariants as write
use Rattle.elf_read.specs.Image.{image_of}
use Rattle.sym_map.specs.SymbolMap.{IsSound, SymbolMap}
use Rattle.cg_read.specs.Profiles.{Contents, IsProfile}
use Rattle.cg_read.specs.Totals.{IsFirstOver}
use Rattle.cg_read.specs.declared.error.SumError.{SumError}
use Rattle.cg_read.specs.declared.error.SumError.TheVariants as sum
use Rattle.cycles.specs.Limits.{of_total}
use Rattle.demo_make.specs.Program.{IsFileOf, demo}
use Rattle.outside.specs.Load.{Load, bytes_of}
use Rattle.profile_files.specs.Reading.{IsReading}
use Rattle.profile_files.specs.WantedFile.{WantedFile}
use Rattle.profile_files.specs.declared.fault.ReadFault.{ReadFault}
use Rattle.profile_run.specs.Program.{Program, head_of_run, CanRun}
use Rattle.profile_run.specs.Parts.{ArePartsOf, plain_parts}
use Rattle.profile_run.specs.Runs.{RunEnd, IsWhole, Runs}
use Rattle.profile_run.specs.Trace.{Makes, RunStep}
use Rattle.profile_run.specs.declared.run_end.PartFile.{PartFile}
use Rattle.profile_run.specs.declared.run_fault.RunFault.{RunFault}
use Rattle.part_dump.specs.Files.{part_name}
use Rattle.reads_back.specs.Joined.{no_rows_of}
use Rattle.run_laws.specs.OwnParts.{IsOwnFault, files_of_run, with_their_lengths}
use Rattle.run_laws.specs.Profiles.{IsProfileOfRun}
use Rattle.run_laws.specs.Runs.{events_with_stacks}
use Rattle.profile_cli.proofs.Others.{none_over, total_is, read_is_run, refused_is_own}
use Rattle.report_laws.specs.Exact.{parts_wanted}
use Rattle.profile_cli.proofs.Others.{same_parts}
use Rattle.command_status.specs.Ends.{end_status}
use Rattle.command_status.specs.declared.status.Status.{Status}
use Rattle.command_status.specs.declared.status.Status.TheVariants.{Done, LoadFault, OutFault, OutOfMemory}
use Rattle.command_steps.specs.Annotate.{IsTaken, read_fault, read_status, write_fault}
use Rattle.profile_cli.specs.Course.{Course, RunOutcome}
use Rattle.command_steps.specs.Summary.{SummaryOutcome, AreTotals, IsSummed, summary, summary_of, summing, totals_fault}
use Rattle.profile_cli.specs.Demo.{IsDemoRan, IsSummedEnd, demo_guest, demo_job, figures_of}
use Rattle.profile_cli.specs.ExactDemo.{IsExactDemo, demo_status, summary_of_trace, totals_of}
use Rattle.command_steps.specs.Gates.{Outcome, at_gate, check, gates_outcome}
use Rattle.profile_cli.specs.Order.{behind_demo, behind_end, fault_status, run_gate}
use Rattle.profile_cli.specs.Program.{IsMapOf}
use Rattle.command_steps.specs.declared.summary.Figures.{Figures}
use Rattle.profile_cli.proofs.DemoLemmas.{demo_is_job}
use Rattle.profile_cli.proofs.PastRunLemmas.{At, IsQuiet, quiet_gate, quiet_write}
use Rattle.byte_text.specs.Memory.{memory}

-- ---- gates behind the run put nothing

quiet_summing : (f : Figures) (summed : Option SummaryOutcome) (last : Status) → IsQuiet (gates_outcome (summing f summed) last).output
quiet_summing f None last = record { files = refl; refused = refl }
quiet_summing f (Some s) last =
    quiet_gate (totals_fault s.totals) _ (quiet_write (write_fault s.written)
    (take s.count (summary_of f s.totals)) last)

quiet_end : (size : ℕ) (met : Course) (run : RunEnd) (stop : End)
    → IsQuiet (gates_outcome (behind_end size met run stop).gates (behind_end size met run stop).last).output
quiet_end size met run (end.Exited code) =
    let f = figures_of size (length (bytes_of met.program)) code run in
    quiet_gate (read_fault met.profile) (gates_outcome (summing f met.summary) Done) (quiet_summing f met.summary Done)
quiet_end size met run _ = record { files = refl; refused = refl }

-- ---- totals

-- the totals of a run's profile are those of its trace
totals_are : (guest : Program) (can : CanRun guest) (trace : List RunStep) (makes : Makes guest trace) (p : Contents)
    → IsProfileOfRun guest trace p → guest.options.branch ≡ false → (totals : List ℕ) → AreTotals p (Ok totals)
    → totals ≡ totals_of trace
totals_are guest can trace makes p is plain totals are =
    let count : length p.events ≡ length (events_shown false event_names)
    = ap length (is.rows.events ∙ ap (λ b. events_shown b event_names) plain) in
    fill_by_all (λ kind. sum_by (λ x. get_or x.cost kind 0) (events_with_stacks trace)) totals
    (length (events_shown false event_names)) 0 (are.0 ∙ count)
    (λ kind below. are.1 kind (omega (arith, below, count, are.0))
    ∙ total_is guest can trace makes p is kind (omega (arith, below, count)))

-- and none is too large
no_total_over : (guest : Program) (can : CanRun guest) (trace : List RunStep) (makes : Makes guest trace) (p : Contents)
    → IsProfileOfRun guest trace p → (event : ℕ) → IsFirstOver p.self_rows (length p.events) event → ⊥
no_total_over guest can trace makes p is event first =
    let below = none_over guest can trace makes p is event _ (of_total event first.within) in
    let above = first.too_large in
    omega (arith, below, above)

-- there are as many parts as files
count_parts : (base : List ℕ) (put : List Named) (parts : List PartFile) → ArePartsOf base put parts
    → length parts ≡ length put
count_parts base put parts are =
    let named : PartFile → List ℕ × ℕ = λ p. (part_name base p.part p.thread.0, p.len) in
    let sized : Named → List ℕ × ℕ = λ f. (f.0, length f.1) in
    sym (length-map parts named) ∙ ap length are ∙ length-map put sized

-- ---- behind the run

-- Where the work behind the run stops, its status is of the sort that is given; else the summary is that of the trace.
module _ (old mid : Outside) (size : ℕ) (contents : Files) (told : old.files ≡ Some contents) (found : Status)
    (Stops : Status → Type 0) (wants : Stops (OutOfMemory memory))
    (lost : (name : List ℕ) → Rose old.load_faults mid.load_faults → Stops (LoadFault name))
    (unwritten : Rose old.out.faults mid.out.faults → Stops OutFault) where
  abbrev Goal : Type 0
  Goal = Stops found ⊎ IsExactDemo old size found [] mid

  module _ (file : List ℕ) (made : IsFileOf (demo size) file) (syms : SymbolMap)
      (symbols : IsMapOf (image_of file) syms)
      (sound : IsSound syms) (run : RunEnd) (output : Output) where
    abbrev guest : Program
    guest = demo_guest file syms

    can : CanRun guest
    can = record { accepted = made.accepted; image = refl; sound = sound; budget = demo_is_job.budget.most_of }

    module _ (ran : IsWhole (plain_parts guest) guest run output) where
      abbrev put : List Named
      put = files_of_run guest ran.trace ran.stop

      makes : Makes guest ran.trace
      makes = record { last = ran.is.last; run = ran.is.run }

      parts : ArePartsOf demo_job.base put run.parts
      parts = subst (λ (o : Output). ArePartsOf demo_job.base o.files run.parts) ran.output ran.parts

      abbrev shown : End → List ℕ
      shown stop = summary_of_trace size (length file) ran.trace ran.is.last.0.kernel.guest.made (length put) stop

      -- what is told of the run is told of its trace
      shown_is : (code : ℕ) (totals : List ℕ) → run.end ≡ end.Exited code → totals ≡ totals_of ran.trace
          → summary (figures_of size (length file) code run) totals ≡ shown ran.stop.end
      shown_is code totals exited are =
          (λ i. summary (record {
            size = size;
            len = length file;
            code = code;
            steps = ran.steps i;
            threads = ran.threads i;
            files = count_parts demo_job.base put run.parts parts i;
          })
          (are i))
          ∙ ap shown (sym exited ∙ ran.end)

      module _ (holds : mid.files ≡ option_map (with_files put) old.files) where
        exact : (text : List ℕ) → text ≡ shown ran.stop.end → found ≡ demo_status run.end
            → mid.out.taken ≡ taken_more old.out.taken (output.out ++ text)
            → mid.err.taken ≡ taken_more old.err.taken (output.err ++ []) → Goal
        exact text is status out err = inr (record {
          file = file;
          made = made;
          run = record {
            syms = syms;
            symbols = symbols;
            guest = guest;
            guest_is = refl;
            trace = ran.trace;
            stop = ran.stop;
            is = ran.is;
          };
          status_is = status ∙ ap demo_status ran.end;
          files = holds;
          out = out ∙ (λ i. taken_more old.out.taken ((ran.output i).out ++ is i));
          err = err ∙ (λ i. taken_more old.err.taken ((ran.output i).err ++ []));
        })

        -- the program ended in another way
        other_on : (stop : End) → run.end ≡ stop → end_status stop ≡ demo_status stop → [] ≡ shown stop
            → At old found mid output (gates_outcome [] (end_status stop)) → Goal
        other_on stop ends status none at =
            exact [] (none ∙ ap shown (sym ends ∙ ran.end)) (at.status_is ∙ status ∙ ap demo_status (sym ends))
            at.leaves.out
            at.leaves.err

        -- the summary is written
        written_on : (code : ℕ) → run.end ≡ end.Exited code → (totals : List ℕ) → totals ≡ totals_of ran.trace
            → (written : Result (Unit {0}) WriteError) (count : ℕ)
            → IsTaken (summary (figures_of size (length file) code run) totals) old.out.faults mid.out.faults
            count written
            → At old found mid output (at_gate (write_fault written)
            (record nothing { out = take count (summary (figures_of size (length file) code run) totals) })
            (gates_outcome [] Done))
            → Goal
        written_on code exited totals are (Err write.Failed) count taken at =
            inl (subst Stops (sym at.status_is) (unwritten taken.0))
        written_on code exited totals are (Err (write.OutOfMemory memory)) count taken at =
            inl (subst Stops (sym at.status_is) wants)
        written_on code exited totals are (Ok done) count taken at =
            let text = summary (figures_of size (length file) code run) totals in
            exact text (shown_is code totals exited are) (at.status_is ∙ ap demo_status (sym exited))
            (at.leaves.out
            ∙ ap (λ t. taken_more old.out.taken (output.out ++ t))
            (append-nil (take count text) ∙ take_all count text (omega (arith, taken))))
            at.leaves.err

        -- the totals are made
        summed_on : (code : ℕ) → run.end ≡ end.Exited code → (p : Contents) → IsProfileOfRun guest ran.trace p
            → (totals : Result (List ℕ) SumError) → AreTotals p totals
            → (written : Result (Unit {0}) WriteError) (count : ℕ)
            → IsTaken (summary_of (figures_of size (length file) code run) totals) old.out.faults mid.out.faults count
            written
            → At old found mid output (at_gate (totals_fault totals) nothing (at_gate (write_fault written)
            (record nothing { out = take count (summary_of (figures_of size (length file) code run) totals) })
            (gates_outcome [] Done)))
            → Goal
        summed_on code exited p is (Err (sum.SumLimit event)) first written count taken at =
            absurd (no_total_over guest can ran.trace makes p is event first)
        summed_on code exited p is (Err (sum.OutOfMemory _)) are written count taken at =
            inl (subst Stops (sym at.status_is) wants)
        summed_on code exited p is (Ok totals) are written count taken at =
            written_on code exited totals (totals_are guest can ran.trace makes p is refl totals are)
            written count taken
            (record { status_is = at.status_is; leaves = at.leaves })

        told_on : (code : ℕ) → run.end ≡ end.Exited code → (p : Contents) → IsProfileOfRun guest ran.trace p
            → (summed : Option SummaryOutcome) → IfSome summed (IsSummed old (figures_of size (length file) code run) p mid)
            → At old found mid output (gates_outcome (summing (figures_of size (length file) code run) summed) Done) → Goal
        told_on code exited p is None known at = inl (subst Stops (sym at.status_is) wants)
        told_on code exited p is (Some s) known at =
            summed_on code exited p is s.totals known.totals s.written s.count known.written at

        own_reading : (answer : Result Contents ReadFault)
            → IsReading mid.files old.load_faults mid.load_faults (no_rows_of (head_of_run guest))
            (parts_wanted demo_job.base run.parts) answer
            → IsReading (Some (with_files put contents)) old.load_faults mid.load_faults
            (no_rows_of (head_of_run guest)) (with_their_lengths put) answer
        own_reading answer reading =
            subst (λ (wanted : List WantedFile). IsReading (Some (with_files put contents)) old.load_faults mid.load_faults
            (no_rows_of (head_of_run guest)) wanted answer) (same_parts demo_job.base put run.parts parts)
            (subst (λ files. IsReading files old.load_faults mid.load_faults (no_rows_of (head_of_run guest))
            (parts_wanted demo_job.base run.parts) answer) (holds ∙ ap (option_map (with_files put)) told) reading)

        own_stops : (refused : ReadFault) → IsOwnFault old.load_faults mid.load_faults refused
            → Stops (read_status refused)
        own_stops refused (inl is) = subst (λ r. Stops (read_status r)) (sym is) wants
        own_stops refused (inr failed) =
            subst (λ r. Stops (read_status r)) (sym failed.1) (lost failed.0 failed.2)

        -- the parts are read
        read_on : (code : ℕ) → run.end ≡ end.Exited code → (answer : Result Contents ReadFault)
            → IsReading mid.files old.load_faults mid.load_faults (no_rows_of (head_of_run guest))
            (parts_wanted demo_job.base run.parts) answer
            → IfOk answer IsProfile → (summed : Option SummaryOutcome)
            → IfSome summed (λ s. IfOk answer (λ p. IsSummed old (figures_of size (length file) code run) p mid s))
            → At old found mid output (gates_outcome (check (read_fault answer)
            ∷ summing (figures_of size (length file) code run) summed) Done)
            → Goal
        read_on code exited (Err refused) reading profile summed known at =
            inl (subst Stops (sym at.status_is)
            (own_stops refused
            (refused_is_own guest can ran.trace makes ran.stop contents old.load_faults mid.load_faults refused
            (own_reading (Err refused) reading))))
        read_on code exited (Ok p) reading profile summed known at =
            told_on code exited p
            (read_is_run guest can ran.trace makes ran.stop contents old.load_faults mid.load_faults p profile
            (own_reading (Ok p) reading)) summed known (record { status_is = at.status_is; leaves = at.leaves })

        ended_on : (met : Course) → met.program ≡ Ok file
            → IsReading mid.files old.load_faults mid.load_faults (no_rows_of (head_of_run guest))
            (parts_wanted demo_job.base run.parts) met.profile
            → IfOk met.profile IsProfile
            → (stop : End) → run.end ≡ stop → IsSummedEnd old size file met mid run stop
            → At old found mid output (gates_outcome (behind_end size met run stop).gates (behind_end size met run stop).last)
            → Goal
        ended_on met loaded reading profile (end.Exited code) ends known at =
            read_on code ends met.profile reading profile met.summary known
            (subst (λ (l : Load). At old found mid output (gates_outcome (check (read_fault met.profile)
            ∷ summing (figures_of size (length (bytes_of l)) code run) met.summary) Done)) loaded at)
        ended_on met loaded reading profile stop ends known at = other_on stop ends refl refl at

      -- what the folder holds once the parts were put
      held_on : (rest : Outcome) → IsQuiet rest.output → At old found mid output rest
          → mid.files ≡ option_map (with_files put) old.files
      held_on rest quiet at =
          let P : List Named → Option (List ℕ) → Type 0
          = λ files refused. Holds (output.files ++ files) refused old.files mid.files in
          let all : Holds (output.files ++ []) None old.files mid.files
          = subst (λ files. P files None) quiet.files (subst (P rest.output.files) quiet.refused at.leaves.files) in
          all ∙ ap (λ files. option_map (with_files files) old.files)
          (append-nil output.files ∙ ap (λ (o : Output). o.files) ran.output)

  -- the program ran to its end, or the run stopped
  pub demo_on : (met : Course)
      → ((file : List ℕ) (syms : SymbolMap) (refused : RunFault) (output : Output) → IsFileOf (demo size) file
      → Runs (plain_parts (demo_guest file syms)) (demo_guest file syms) old (Err refused) output mid
      → Stops (fault_status demo_job.base refused))
      → IfSome met.run (IsDemoRan old size met mid)
      → At old found mid nothing (gates_outcome (run_gate demo_job met.run ∷ (behind_demo size met met.run).gates)
      (behind_demo size met met.run).last)
      → Goal
  demo_on met cut is at = by met.run is at
    where
      by_stop : (syms : SymbolMap) (stop : Result RunEnd RunFault) (output : Output)
          → (let ran : RunOutcome = record { syms = syms; stop = stop; output = output } in IsDemoRan old size met mid ran)
          → (let ran : RunOutcome = record { syms = syms; stop = stop; output = output } in
          At old found mid nothing (gates_outcome (run_gate demo_job (Some ran) ∷ (behind_demo size met (Some ran)).gates)
          (behind_demo size met (Some ran)).last))
          → Goal
      by_stop syms (Err refused) output is at =
          inl (subst Stops (sym at.status_is) (cut is.file syms refused output is.made is.runs))
      by_stop syms (Ok run) output is at =
          let rest : Outcome = gates_outcome (behind_end size met run run.end).gates (behind_end size met run run.end).last in
          let behind : At old found mid output rest = record { status_is = at.status_is; leaves = at.leaves } in
          ended_on is.file is.made syms is.symbols is.sound run output is.runs.1
          (held_on is.file is.made syms is.symbols is.sound run output is.runs.1 rest
          (quiet_end size met run run.end) behind)
          met is.loaded is.reading is.profile run.end refl is.summary behind

      by : (ran : Option RunOutcome) → IfSome ran (IsDemoRan old size met mid)
          → At old found mid nothing (gates_outcome (run_gate demo_job ran ∷ (behind_demo size met ran).gates)
          (behind_demo size met ran).last)
          → Goal
      by None is at = inl (subst Stops (sym at.status_is) wants)
      by (Some ran) is at = by_stop ran.syms ran.stop ran.output is at
