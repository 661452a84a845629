-- The clause of a run, seen from the whole call.
use Rattle.std.proofs.Common.{◌≡◌, ◌⊎◌, ℕ, List, Some, Result, Ok, Err, inl, inr, refl, subst, sym}
use Rattle.std.proofs.lemmas.Option.{same_Some}
use Rattle.outside.specs.Files.{Rose}
use Rattle.outside.specs.Outside.{Outside, Output, Stream}
use Rattle.elf_read.specs.Image.{Image}
use Rattle.sym_map.specs.SymbolMap.{SymbolMap}
use Rattle.part_dump.specs.Watching.{Meaning}
use Rattle.profile_run.specs.Program.{Program, Options}
use Rattle.profile_run.specs.Parts.{Writing}
use Rattle.profile_run.specs.Runs.{Answers, RunEnd, Runs}
use Rattle.profile_run.specs.declared.run_fault.RunFault.{RunFault}
use Rattle.profile_run.specs.declared.run_fault.RunFault.TheVariants as fault
use Rattle.command_status.specs.declared.status.Status.{Status}
use Rattle.command_words.specs.Request.{Job}
use Rattle.command_steps.specs.Loading.{HasStatus}
use Rattle.profile_cli.specs.Order.{fault_status}
use Rattle.profile_cli.specs.Program.{guest_of, options_of}
use Rattle.profile_cli.specs.inner.RunStages.{HasWatched, RunsGuest}
use Rattle.byte_text.specs.Memory.{memory}

-- A run speaks of no count of loads, so what it says over an outside it says over any with the same other counts.
pub Runs-earlier : (writing : Writing) (guest : Program) (old mid : Outside) (stop : Result RunEnd RunFault)
    (output : Output) (new : Outside)
    → mid.put_faults ≡ old.put_faults → mid.out ≡ old.out → mid.err ≡ old.err
    → Runs writing guest mid stop output new → Runs writing guest old stop output new
Runs-earlier writing guest old mid (Ok run) output new puts out err runs = runs
Runs-earlier writing guest old mid (Err (fault.ArgsTooLong len)) output new puts out err runs = runs
Runs-earlier writing guest old mid (Err fault.GuestFull) output new puts out err runs = runs
Runs-earlier writing guest old mid (Err (fault.PutFault part thread)) output new puts out err runs =
    (runs.0, subst (λ n. Rose n new.put_faults) puts runs.1, runs.2, runs.3)
Runs-earlier writing guest old mid (Err fault.OutFault) output new puts out err runs =
    (runs.0, by runs.1, runs.2, runs.3)
  where
    by : Rose mid.out.faults new.out.faults ⊎ Rose mid.err.faults new.err.faults
        → Rose old.out.faults new.out.faults ⊎ Rose old.err.faults new.err.faults
    by (inl rose) = inl (subst (λ (s : Stream). Rose s.faults new.out.faults) out rose)
    by (inr rose) = inr (subst (λ (s : Stream). Rose s.faults new.err.faults) err rose)
Runs-earlier writing guest old mid (Err (fault.OutOfMemory _)) output new puts out err runs = runs

-- a part that can't be put may be answered as want of memory
pub Runs-unnamed : (writing : Writing) (guest : Program) (old : Outside) (refused : RunFault) (output : Output)
    (new : Outside)
    → Runs writing guest old (Err refused) output new → Runs writing guest old (Err (fault.OutOfMemory memory)) output new
Runs-unnamed writing guest old (fault.ArgsTooLong len) output new runs = inr runs.1
Runs-unnamed writing guest old fault.GuestFull output new runs = inr runs.2
Runs-unnamed writing guest old (fault.PutFault part thread) output new runs = inl (runs.0, runs.2)
Runs-unnamed writing guest old fault.OutFault output new runs = inl (runs.0, runs.2)
Runs-unnamed writing guest old (fault.OutOfMemory _) output new runs = runs

-- what is so of a guest is so of that of the job
of_job : (P : Program → Type 0) (job : Job) (image : Image) (syms : SymbolMap) (input : List ℕ) (args : List (List ℕ))
    (options : Options) → args ≡ job.args → options ≡ options_of job
    → P (record { image = image; syms = syms; args = args; input = input; options = options })
    → P (guest_of job image input syms)
of_job P job image syms input args options args_are options_are known =
    subst (λ (o : Options). P (record { image = image; syms = syms; args = job.args; input = input; options = o }))
    options_are
    (subst (λ (a : List (List ℕ)). P (record { image = image; syms = syms; args = a; input = input; options = options }))
    args_are known)

-- a run that came to its end
pub RunsGuest-ran : (parts : Program → Writing) (job : Job) (image : Image) (syms : SymbolMap) (input : List ℕ)
    (args : List (List ℕ)) (options : Options) (old : Outside) (run : RunEnd) (new : Outside)
    → args ≡ job.args → options ≡ options_of job
    → (let guest : Program = record { image = image; syms = syms; args = args; input = input; options = options } in
    Answers (parts guest) guest old (Ok run) new)
    → RunsGuest parts job image syms input old (Ok run) new
RunsGuest-ran parts job image syms input args options old run new args_are options_are answers =
    by (of_job (λ guest. Answers (parts guest) guest old (Ok run) new) job image syms input args options args_are
    options_are answers)
  where
    by : Answers (parts (guest_of job image input syms)) (guest_of job image input syms) old (Ok run) new
        → RunsGuest parts job image syms input old (Ok run) new
    by ran = record {
      stop = Ok run;
      answered = refl;
      output = ran.output;
      runs = ran.runs;
      leaves = ran.leaves;
      outcome = Ok run;
      same = refl;
      log = ran.log;
      does = ran.does;
      tells = ran.tells;
      comes = refl;
    }

-- a run that stopped before its end, with the status of that
pub RunsGuest-refused : (parts : Program → Writing) (job : Job) (image : Image) (syms : SymbolMap) (input : List ℕ)
    (args : List (List ℕ))
    (options : Options) (old : Outside) (refused : RunFault) (status : Status) (new : Outside)
    → args ≡ job.args → options ≡ options_of job
    → (let guest : Program = record { image = image; syms = syms; args = args; input = input; options = options } in
    Answers (parts guest) guest old (Err refused) new)
    → HasStatus (Some (fault_status job.base refused)) status
    → RunsGuest parts job image syms input old (Err status) new
RunsGuest-refused parts job image syms input args options old refused status new args_are options_are answers has =
    by (of_job (λ guest. Answers (parts guest) guest old (Err refused) new) job image syms input args options args_are
    options_are answers) has
  where
    by : Answers (parts (guest_of job image input syms)) (guest_of job image input syms) old (Err refused) new
        → HasStatus (Some (fault_status job.base refused)) status
        → RunsGuest parts job image syms input old (Err status) new
    by ran (inl wanting) = record {
      stop = Err (fault.OutOfMemory memory);
      answered = ((fault.OutOfMemory memory), refl, wanting);
      output = ran.output;
      runs = Runs-unnamed (parts (guest_of job image input syms)) (guest_of job image input syms) old refused
          ran.output new ran.runs;
      leaves = ran.leaves;
      outcome = Err refused;
      same = tt;
      log = ran.log;
      does = ran.does;
      tells = ran.tells;
      comes = inl wanting;
    }
    by ran (inr is) = record {
      stop = Err refused;
      answered = (refused, refl, sym (same_Some _ _ is));
      output = ran.output;
      runs = ran.runs;
      leaves = ran.leaves;
      outcome = Err refused;
      same = tt;
      log = ran.log;
      does = ran.does;
      tells = ran.tells;
      comes = inr is;
    }

-- a watch was told of the run of a job's guest
pub HasWatched-guest : {W : Type 0} (m : Meaning W) (first last : W) (job : Job) (image : Image) (syms : SymbolMap)
    (input : List ℕ) (args : List (List ℕ)) (options : Options) → args ≡ job.args → options ≡ options_of job
    → (let guest : Program = record { image = image; syms = syms; args = args; input = input; options = options } in
    HasWatched m first last guest)
    → HasWatched m first last (guest_of job image input syms)
HasWatched-guest m first last job image syms input args options args_are options_are told =
    of_job (HasWatched m first last) job image syms input args options args_are options_are told
