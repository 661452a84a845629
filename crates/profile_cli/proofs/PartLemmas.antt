-- What a run leaves of its parts that is watched by calling context.
use Rattle.std.proofs.Common.{◌≡◌, ℕ, IfOk, IfSome, inl, inr, List, Option, None, Some, Result, Ok, Err, refl, subst}
use Rattle.outside.specs.Outside.{Log, Named, Outside, Output}
use Rattle.elf_read.specs.Image.{image_of}
use Rattle.elf_read.specs.Refusal.{refusal}
use Rattle.sym_map.specs.SymbolMap.{IsSound, SymbolMap}
use Rattle.part_dump.specs.Watching.{Meaning}
use Rattle.outside.specs.Load.{bytes_of}
use Rattle.profile_run.specs.Program.{Program, CanRun}
use Rattle.profile_run.specs.Parts.{ArePartsOf, Writing, watched_parts}
use Rattle.profile_run.specs.Runs.{Does, RunEnd, Runs}
use Rattle.profile_run.specs.Trace.{IsTraceOf, Stop, RunStep, steps_of}
use Rattle.profile_run.specs.declared.run_fault.RunFault.{RunFault}
use Rattle.ctx_rows.specs.States as contexts
use Rattle.ctx_rows.specs.Watching as ctx
use Rattle.run_laws.specs.Contexts.{ctx_parts}
use Rattle.run_laws.proofs.AnswerLemmas as ctx_runs
use Rattle.command_status.specs.declared.status.Status.{Status}
use Rattle.command_words.specs.Request.{Job}
use Rattle.command_words.specs.Within.{IsJob}
use Rattle.profile_cli.specs.Course.{Course, RunOutcome}
use Rattle.outside.specs.Limits.{file_limit}
use Rattle.profile_cli.specs.Order.{elf_fault}
use Rattle.profile_cli.specs.Words.{program_of}
use Rattle.profile_cli.specs.Program.{guest_of}
use Rattle.profile_cli.specs.Reply.{IsRan}
use Rattle.profile_cli.specs.Stages as stage
use Rattle.command_steps.specs.Stages.{Did, Loads, LoadsIf, Passes, Quiet, Then}
use Rattle.profile_cli.specs.Stages.{IsEndOf, LoadsAndRuns}
use Rattle.profile_cli.specs.inner.RunStages.{IsAny, RunsJob}
use Rattle.profile_cli.proofs.PastRunLemmas.{accepted_is}
use Rattle.profile_cli.proofs.StageLemmas.{then_on}

-- a watch whose parts are these in every run
module _ {W : Type 0} (meaning : Meaning W) (first : W) (parts : Program → Writing)
    (runs : (guest : Program) → CanRun guest → (old : Outside) (answer : Result RunEnd RunFault) (output : Output)
    (new : Outside) → Runs (watched_parts meaning first guest) guest old answer output new
    → Runs (parts guest) guest old answer output new)
    (does : (guest : Program) → CanRun guest → (answer : Result RunEnd RunFault) (log : Log)
    → Does (watched_parts meaning first guest) guest answer log → Does (parts guest) guest answer log)
    (wholes : (guest : Program) → CanRun guest → (trace : List RunStep) (stop : Stop) → IsTraceOf guest trace stop
    → (watched_parts meaning first guest).whole (steps_of trace) stop.tried
    ≡ (parts guest).whole (steps_of trace) stop.tried)
    (IsSo : Program → Type 0) (old : Outside) (job : Job) (new : Outside) (within : IsJob job) where
  can_run : (program input : List ℕ) (syms : SymbolMap) → elf_fault program ≡ None → IsSound syms
      → CanRun (guest_of job (image_of program) input syms)
  can_run program input syms accepted sound = record {
    accepted = accepted_is (refusal program) accepted;
    image = refl;
    sound = sound;
    budget = within.budget.most_of;
  }

  -- what stopped the work
  ran_on : (met : Course) (ran : Option RunOutcome) → IfSome ran (IsRan (watched_parts meaning first) old job met new)
      → IfSome ran (λ r. elf_fault (bytes_of met.program) ≡ None)
      → IfSome ran (IsRan parts old job met new)
  ran_on met None known accepted = tt
  ran_on met (Some ran) known accepted = (
    known.0,
    known.1,
    runs (guest_of job (image_of (bytes_of met.program)) (bytes_of met.input) ran.syms)
        (can_run (bytes_of met.program) (bytes_of met.input) ran.syms accepted known.1) old ran.stop ran.output new
        known.2,
  )

  -- and what was told of it
  ended : (guest : Program) → CanRun guest → (stop : Result RunEnd RunFault)
      → IfOk stop (IsEndOf (watched_parts meaning first guest) guest) → IfOk stop (IsEndOf (parts guest) guest)
  ended guest can (Ok run) e = record {
    trace = e.trace;
    stop = e.stop;
    is = e.is;
    end = e.end;
    parts_are = subst (λ (files : List Named). ArePartsOf guest.options.base files run.parts)
        (wholes guest can e.trace e.stop e.is) e.parts_are;
  }
  ended guest can (Err refused) e = tt

  run_on : (program input : List ℕ) (log : Log) (result : Result (Program × RunEnd) Status) → elf_fault program ≡ None
      → stage.Runs (watched_parts meaning first) job program input log result
      → stage.Runs parts job program input log result
  run_on program input log result accepted (inl wants) = inl wants
  run_on program input log result accepted (inr has) =
      let can = can_run program input has.syms accepted has.sound in
      inr (record {
        syms = has.syms;
        symbols = has.symbols;
        sound = has.sound;
        stop = has.stop;
        ended = ended (guest_of job (image_of program) input has.syms) can has.stop has.ended;
        does = does (guest_of job (image_of program) input has.syms) can has.stop log has.does;
        comes = has.comes;
      })

  abbrev feeds : (Program → Writing) → List ℕ → Log → Result (Program × RunEnd) Status → Type 0
  feeds writes program = Then (LoadsIf job.input) (stage.Runs writes job program)

  abbrev accepts : (Program → Writing) → List ℕ → Log → Result (Program × RunEnd) Status → Type 0
  accepts writes program = Then (Quiet (Passes (elf_fault program))) (λ passed. feeds writes program)

  told_on : (result : Result (Program × RunEnd) Status)
      → Did (LoadsAndRuns (watched_parts meaning first) job) old result new
      → Did (LoadsAndRuns parts job) old result new
  told_on result did = record {
    log = did.log;
    stage = then_on (Loads (program_of job.args) file_limit) (accepts (watched_parts meaning first)) (accepts parts)
        (λ program asked loaded. then_on (Quiet (Passes (elf_fault program)))
        (λ passed. feeds (watched_parts meaning first) program) (λ passed. feeds parts program)
        (λ passed none accepted. then_on (LoadsIf job.input) (stage.Runs (watched_parts meaning first) job program)
        (stage.Runs parts job program)
        (λ input more fed log result. run_on program input log result accepted.comes))) did.log result did.stage;
    tells = did.tells;
  }

  pub RunsJob-parts : (result : Result RunEnd Status) → RunsJob (watched_parts meaning first) IsSo old job result new
      → RunsJob parts IsAny old job result new
  RunsJob-parts (Ok run) ran = record {
    program = ran.program;
    input = ran.input;
    syms = ran.syms;
    output = ran.output;
    load = ran.load;
    accepted = ran.accepted;
    fed = ran.fed;
    symbols = ran.symbols;
    sound = ran.sound;
    fits = ran.fits;
    whole =
        (runs (guest_of job (image_of ran.program) ran.input ran.syms)
        (can_run ran.program ran.input ran.syms ran.accepted ran.sound) old (Ok run) ran.output new
        (ran.fits, ran.whole)).1;
    so = tt;
    leaves = ran.leaves;
    did = told_on (Ok (guest_of job (image_of ran.program) ran.input ran.syms, run)) ran.did;
  }
  RunsJob-parts (Err status) (stops, told) = (
    record {
      met = stops.met;
      output = stops.output;
      is = record {
        program = stops.is.program;
        input = stops.is.input;
        run = ran_on stops.met stops.met.run stops.is.run stops.accepted;
      };
      accepted = stops.accepted;
      comes = stops.comes;
      leaves = stops.leaves;
    },
    told_on (Err status) told,
  )

pub RunsJob-contexts : (first : contexts.CtxState) → ctx.IsFresh first → (IsSo : Program → Type 0) (old : Outside)
    (job : Job) (new : Outside) → IsJob job → (result : Result RunEnd Status)
    → RunsJob (watched_parts ctx.by_context first) IsSo old job result new
    → RunsJob (ctx_parts first.callers) IsAny old job result new
RunsJob-contexts first fresh IsSo old job new within result known =
    RunsJob-parts ctx.by_context first (ctx_parts first.callers)
    (λ guest can old answer output new. ctx_runs.runs guest can first fresh old answer output new)
    (λ guest can answer log. ctx_runs.does guest can first fresh answer log)
    (λ guest can trace stop is. ctx_runs.wholes guest can first fresh trace stop is) IsSo old job new within
    result known
