-- What is so of every run that didn't stop short: how many steps it has, the rows of each thread, which are of its own
-- events, what waiting cost, and what its parts are by context or by address.
use Rattle.std.proofs.Common.{◌≡◌, ◌⊎◌, ℕ, ◌≤◌, false, List, length, ◌∷◌, Option, None, Some, IfSome, Result, Ok, Err}
use Rattle.std.proofs.Common.{refl, sym, ap, subst, ◌∙◌, inl, inr}
use Rattle.outside.specs.Files.{Rose}
use Rattle.outside.specs.Outside.{Leaves, Outside, Output, nothing}
use Rattle.elf_read.specs.Image.{image_of}
use Rattle.elf_read.specs.Refusal.{refusal}
use Rattle.sym_map.specs.SymbolMap.{IsSound, SymbolMap}
use Rattle.profile_files.specs.Loads.{IsLoad}
use Rattle.outside.specs.Load.{bytes_of}
use Rattle.profile_run.specs.Program.{Program, CanRun}
use Rattle.profile_run.specs.Runs.{RunEnd, Runs}
use Rattle.profile_run.specs.Trace.{IsTraceOf, Makes, Stop, RunStep, steps_of}
use Rattle.profile_run.specs.declared.run_fault.RunFault.{RunFault}
use Rattle.profile_cli.proofs.Others.{have_stacks}
use Rattle.run_laws.proofs.OwnRowLemmas.{own_last}
use Rattle.command_status.specs.Ends.{end_status}
use Rattle.command_status.specs.declared.status.Status.{Status}
use Rattle.command_status.specs.declared.status.Status.TheVariants.{OutOfMemory, PutFault}
use Rattle.command_words.specs.Request.{AddressAndLine, Line, Positions, Request, Job, Run, Watching, watching_at}
use Rattle.command_words.specs.Within.{IsJob, IsWithin}
use Rattle.run_laws.proofs.AnswerLemmas.{folds_back, order_of}
use Rattle.run_laws.proofs.CtxFoldableLemmas.{may_fold, plain_sums}
use Rattle.run_laws.proofs.AddrFoldableLemmas as addresses
use Rattle.profile_cli.specs.Addresses.{IsAddresses}
use Rattle.profile_cli.specs.Contexts.{IsContexts}
use Rattle.profile_cli.specs.Course.{Course, RunOutcome}
use Rattle.outside.specs.Limits.{text_limit, file_limit}
use Rattle.command_steps.specs.Loading.{IsLoadIf, input_fault, load_fault}
use Rattle.command_steps.specs.Gates.{Outcome, at_gate, gates_outcome}
use Rattle.profile_cli.specs.HasRun.{AsksToRun, HasRun, OfRuns, RunFiles, RunOf}
use Rattle.command_status.specs.Numbers.{is_short}
use Rattle.profile_cli.specs.Order.{elf_fault, fault_status, last_status, run_fault, run_gate}
use Rattle.profile_cli.specs.Order.{run_status}
use Rattle.profile_cli.specs.OwnRows.{IsOwnRows}
use Rattle.profile_cli.specs.Program.{IsMapOf}
use Rattle.profile_cli.specs.Reply.{IsRan, IsWaitedIn, Replies, guest_met}
use Rattle.profile_cli.specs.Waits.{IsWaits}
use Rattle.profile_cli.specs.Watching.{IsWaited, files_asked, files_at, output_asked, parts_asked, watch_gates}
use Rattle.profile_cli.specs.Words.{program_of}
use Rattle.profile_cli.proofs.BudgetLemmas as budget
use Rattle.profile_cli.proofs.HeadlineLemmas.{reported_or_short}
use Rattle.profile_cli.proofs.PastRunLemmas.{At, accepted_is, fed_is, loaded_is, same_run}
use Rattle.profile_cli.proofs.ShortLemmas.{IsShort, fault_short}
use Rattle.profile_cli.proofs.WaitLemmas.{others_of_run}
use Rattle.profile_cli.proofs.WalkLemmas.{line_written, loading_on, loading_short, work_short}
use Rattle.profile_cli.proofs.WatchLemmas.{Comes, past_watch}
use Rattle.byte_text.specs.Memory.{memory}

-- ---- what is behind the loading

-- what the work of `run` comes to before the line is written, where it isn't stopped
pub record IsWhole (old : Outside) (job : Job) (watching : Watching) (program input : List ℕ) (found : Status)
    (mid : Outside) : Type 0 where
  pub run : RunOf job program input
  pub can : CanRun run.guest
  pub status_is : found ≡ end_status run.stop.end
  pub leaves : Leaves old (output_asked watching run.guest run.trace run.stop) mid

-- Where it is stopped behind the loading, its status is of the sort that is given.
module _ (old : Outside) (job : Job) (watching : Watching) (within : IsJob job) (found : Status) (mid : Outside)
    (Such : Status → Type 0) (wants : Such (OutOfMemory memory))
    (unput : (name : List ℕ) → Rose old.put_faults mid.put_faults → Such (PutFault name)) (met : Course)
    (elf_none : elf_fault (bytes_of met.program) ≡ None)
    (cut : (syms : SymbolMap) (refused : RunFault) (output : Output)
    → Runs (parts_asked watching (guest_met job met syms)) (guest_met job met syms) old (Err refused) output mid
    → Such (fault_status job.base refused)) where
  abbrev Goal : Type 0
  Goal = Such found ⊎ IsWhole old job watching (bytes_of met.program) (bytes_of met.input) found mid

  -- what the gates behind the run come to
  abbrev behind : Status → Outcome
  behind last = gates_outcome (watch_gates watching job.base met.waits) last

  stopped_on : (syms : SymbolMap) (stop : Result RunEnd RunFault) (output : Output)
      → IsMapOf (image_of (bytes_of met.program)) syms → IsSound syms
      → Runs (parts_asked watching (guest_met job met syms)) (guest_met job met syms) old stop output mid
      → IfSome met.waits (IsWaited old (guest_met job met syms) mid)
      → At old found mid nothing (at_gate (run_fault job.base stop) output (behind (run_status job.base stop))) → Goal
  stopped_on syms (Err refused) output symbols sound runs known at =
      inl (subst Such (sym at.status_is) (cut syms refused output runs))
  stopped_on syms (Ok ended) output symbols sound runs known at =
      by (past_watch old mid guest runs.1.trace runs.1.stop runs.1.is output (end_status ended.end)
      watching met.waits runs.1.output known)
    where
      guest : Program
      guest = guest_met job met syms

      by : Comes old mid guest runs.1.trace runs.1.stop runs.1.is output (end_status ended.end)
          watching (behind (end_status ended.end))
          → Goal
      by (inl waits) = inl (subst Such (sym (at.status_is ∙ waits)) wants)
      by (inr (inl failed)) = inl (subst Such (sym (at.status_is ∙ failed.1)) (unput failed.0 failed.2))
      by (inr (inr past)) = inr (record {
        run = record {
          syms = syms;
          symbols = symbols;
          guest = guest;
          guest_is = refl;
          trace = runs.1.trace;
          stop = runs.1.stop;
          is = runs.1.is;
        };
        can = record {
          accepted = accepted_is (refusal (bytes_of met.program)) elf_none;
          image = refl;
          sound = sound;
          budget = within.budget.most_of;
        };
        status_is = at.status_is ∙ past.status ∙ ap end_status runs.1.end;
        leaves = subst (λ o. Leaves old o mid) past.output_is at.leaves;
      })

  pub ran_on : (ran : Option RunOutcome) → IfSome ran (IsRan (parts_asked watching) old job met mid)
      → IfSome ran (IsWaitedIn old job met mid)
      → At old found mid nothing (gates_outcome (run_gate job ran ∷ watch_gates watching job.base met.waits)
      (last_status job ran))
      → Goal
  ran_on None known waits at = inl (subst Such (sym at.status_is) wants)
  ran_on (Some ran) known waits at =
      stopped_on ran.syms ran.stop ran.output known.0 known.1 known.2 waits at

-- ---- the run itself

-- a run of a guest that can be run
record HasRunWell (old : Outside) (job : Job) (put : RunFiles) (status : Status) (new : Outside) : Type 0 where
  run : HasRun old job put status new
  can : CanRun run.run.guest

-- the run is whole, unless the work stopped short
run_or_short : (old new : Outside) (job : Job) (watching : Watching) (status : Status) → IsJob job
    → (replies : Replies old (Run job watching) status new) → is_short status ≡ false
    → HasRunWell old job (files_asked watching) status new
run_or_short old new job watching status within replies long =
    by (loading_on IsShort old job replies.found mid (HasRunWell old job (files_asked watching) status new) met (loading_short job met)
    (watch_gates watching job.base met.waits)
    (λ program_none elf_none input_none at.
    whole program_none input_none
    (ran_on old job watching within replies.found mid IsShort refl (λ name rose. refl) met elf_none
    (λ syms refused output runs. fault_short job.base refused) met.run replies.works.met.0.run replies.works.met.1 at))
    (record { status_is = replies.works.status_is; leaves = replies.works.leaves }))
  where
    met : Course
    met = replies.works.course

    mid : Outside
    mid = record new { err = replies.err }

    whole : load_fault (program_of job.args) met.program ≡ None → input_fault job.input met.input ≡ None
        → IsShort replies.found ⊎ IsWhole old job watching (bytes_of met.program) (bytes_of met.input) replies.found mid
        → IsShort replies.found ⊎ HasRunWell old job (files_asked watching) status new
    whole program_none input_none (inl short) = inl short
    whole program_none input_none (inr w) =
        let said =
        line_written replies.found status replies.err new.err replies.says w.run.stop.end w.status_is long in
        inr (record {
          run = record {
            program = bytes_of met.program;
            loaded = subst (IsLoad old.files (program_of job.args) file_limit old.load_faults mid.load_faults)
                (loaded_is (program_of job.args) met.program program_none) replies.works.met.0.program;
            input = bytes_of met.input;
            fed = subst (IsLoadIf old.files job.input text_limit old.load_faults mid.load_faults)
                (fed_is old mid job.input met.input replies.works.met.0.input input_none) replies.works.met.0.input;
            run = w.run;
            status_is = said.0 ∙ w.status_is;
            files = w.leaves.files;
          };
          can = w.can;
        })

    by : IsShort replies.found ⊎ HasRunWell old job (files_asked watching) status new → HasRunWell old job (files_asked watching) status new
    by (inl short) = absurd (work_short replies.found status replies.err new.err replies.says short long)
    by (inr w) = w

-- a report puts what a run that counts so puts
asked_at : (positions : Positions) → files_at positions ≡ files_asked (watching_at positions)
asked_at Line = refl
asked_at AddressAndLine = refl

-- and so is that of a report
asked_or_short : (old new : Outside) (asked : Request) (status : Status) → IsWithin asked
    → Replies old asked status new → (job : Job) (watching : Watching) → AsksToRun old asked job watching
    → is_short status ≡ false → HasRunWell old job (files_asked watching) status new
asked_or_short old new asked status within replies job watching (inl is) long =
    run_or_short old new job watching status (subst IsWithin is within).0
    (subst (λ a. Replies old a status new) is replies) long
asked_or_short old new asked status within replies job watching (inr asks) long =
    let fits = subst IsWithin asks.asked_is within in
    let reply = subst (λ a. Replies old a status new) asks.asked_is replies in
    let all = reported_or_short old new job asks.positions asks.view status fits.0 reply asks.contents asks.contents_are long in
    subst (λ put. HasRunWell old job put status new) (asked_at asks.positions ∙ ap files_asked (sym asks.watching_is))
    (record {
      run = same_run old new job (files_at asks.positions) reply.found status reply.err all.worked.run all.status_is;
      can = all.worked.can;
    })

-- ---- what is so of every run is so of this one

module _ (IsSo : Job → Watching → Program → List RunStep → Type 0) (law : (job : Job) (watching : Watching)
    (program input : List ℕ) (run : RunOf job program input) → CanRun run.guest
    → IsSo job watching run.guest run.trace) where
  of_runs : (old new : Outside) (asked : Request) (status : Status) → IsWithin asked → Replies old asked status new
      → OfRuns IsSo old asked status new
  of_runs old new asked status within replies = λ job watching asks long.
      let whole = asked_or_short old new asked status within replies job watching asks long in record {
        run = whole.run;
        so = law job watching whole.run.program whole.run.input whole.run.run whole.can;
      }

makes_of : (guest : Program) (trace : List RunStep) (stop : Stop) → IsTraceOf guest trace stop → Makes guest trace
makes_of guest trace stop is = record { last = is.last; run = is.run }

pub budget-replies : (old new : Outside) (asked : Request) (status : Status) → IsWithin asked
    → Replies old asked status new → OfRuns (λ job watching guest trace. length trace ≤ job.budget) old asked status new
budget-replies = of_runs (λ job watching guest trace. length trace ≤ job.budget) (λ job watching program input run can.
    subst (λ (g : Program). length run.trace ≤ g.options.budget) run.guest_is
    (budget.within_budget run.guest run.trace run.stop run.is))

pub can_run-replies : (old new : Outside) (asked : Request) (status : Status) → IsWithin asked
    → Replies old asked status new → OfRuns (λ job watching guest trace. CanRun guest) old asked status new
can_run-replies = of_runs (λ job watching guest trace. CanRun guest) (λ job watching program input run can. can)

pub IsOwnRows-replies : (old new : Outside) (asked : Request) (status : Status) → IsWithin asked
    → Replies old asked status new → IsOwnRows old asked status new
IsOwnRows-replies = of_runs _ (λ job watching program input run can earlier segment later thread cut.
    own_last run.guest.syms thread (steps_of run.trace) earlier segment later
    (have_stacks run.guest can run.trace (makes_of run.guest run.trace run.stop run.is)) cut)

pub IsWaits-replies : (old new : Outside) (asked : Request) (status : Status) → IsWithin asked
    → Replies old asked status new → IsWaits old asked status new
IsWaits-replies = of_runs _ (λ job watching program input run can counts. others_of_run run.guest can run.trace run.stop run.is)

pub IsContexts-replies : (old new : Outside) (asked : Request) (status : Status) → IsWithin asked
    → Replies old asked status new → IsContexts old asked status new
IsContexts-replies = of_runs _ (λ job watching program input run can callers counts.
    let makes = makes_of run.guest run.trace run.stop run.is in (
      λ thread segment piece. (
        may_fold run.guest run.trace callers thread segment can makes piece,
        plain_sums run.guest run.trace callers thread segment can makes piece,
      ),
      λ thread segment rows inside sums.
          folds_back run.guest can (steps_of run.trace) (order_of run.guest can run.trace makes) callers thread segment
          rows inside sums,
    ))

pub IsAddresses-replies : (old new : Outside) (asked : Request) (status : Status) → IsWithin asked
    → Replies old asked status new → IsAddresses old asked status new
IsAddresses-replies = of_runs _ (λ job watching program input run can counts.
    let makes = makes_of run.guest run.trace run.stop run.is in (
      λ thread segment piece. (
        addresses.may_fold run.guest run.trace thread segment can makes piece,
        addresses.plain_sums run.guest run.trace thread segment can makes piece,
      ),
      λ thread segment rows piece sums. addresses.folds_back run.guest run.trace thread segment can makes piece rows sums,
    ))
