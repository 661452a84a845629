-- Stages, one behind another, and what is told of them.
use Rattle.std.proofs.Common.{◌≡◌, ℕ, List, [], ◌∷◌, Option, None, Result, Ok, Err, refl, sym, ap, subst}
use Rattle.std.specs.Result.{IsErrAnd}
use Rattle.outside.specs.Load.{Load}
use Rattle.outside.specs.Outside.{Log, Outside, Stream, Tells, done_then, nothing_done}
use Rattle.outside.specs.Journal.{Call, Loaded, TellsMore, Wrote}
use Rattle.command_status.specs.declared.status.Status.TheVariants.{Done}
use Rattle.command_steps.specs.ReportStages.{reported}
use Rattle.outside.proofs.JournalLemmas as told
use Rattle.command_status.specs.declared.status.Status.{Status}
use Rattle.command_steps.specs.Loading.{HasStatus, load_fault}
use Rattle.command_steps.specs.Stages.{Did, Gives, Goes, Loads, LoadsIf, Quiet, Stops, Then, asking, writing}

-- ---- what is told

-- one thing, and then another
pub tells_then : (old mid new : Outside) (first next : Log) → Tells old first mid → Tells mid next new
    → Tells old (done_then first next) new
tells_then old mid new first next one other = record {
  calls = told.tells_then old.calls mid.calls new.calls first.calls next.calls one.calls other.calls;
  out = told.tells_then old.out.writes mid.out.writes new.out.writes first.out next.out one.out other.out;
  err = told.tells_then old.err.writes mid.err.writes new.err.writes first.err next.err one.err other.err;
}

pub nothing_told : {C : Type 0} (told : Option (List C)) → TellsMore told [] told
nothing_told = told.tells_nothing_more

-- the sink is as before
no_writes : (old new : Stream) → new ≡ old → TellsMore old.writes [] new.writes
no_writes old new same =
    subst (λ (s : Stream). TellsMore old.writes [] s.writes) (sym same) (nothing_told old.writes)

-- calls of the folder
pub tells_calls : (old new : Outside) (calls : List Call) → TellsMore old.calls calls new.calls → new.out ≡ old.out
    → new.err ≡ old.err → Tells old (asking calls) new
tells_calls old new calls is out err = record {
  calls = is;
  out = no_writes old.out new.out out;
  err = no_writes old.err new.err err;
}

-- writes to the sink of output
pub tells_writes : (old new : Outside) (writes : List Wrote) → TellsMore old.out.writes writes new.out.writes
    → new.calls ≡ old.calls → new.err ≡ old.err → Tells old (writing writes) new
tells_writes old new writes is calls err = record {
  calls = subst (λ cs. TellsMore old.calls [] cs) (sym calls) (nothing_told old.calls);
  out = is;
  err = no_writes old.err new.err err;
}

-- the line behind the work
pub tells_line : (old new : Outside) (line : List Wrote) → TellsMore old.err.writes line new.err.writes
    → new.calls ≡ old.calls → new.out ≡ old.out → Tells old (record nothing_done { err = line }) new
tells_line old new line is calls out = record {
  calls = subst (λ cs. TellsMore old.calls [] cs) (sym calls) (nothing_told old.calls);
  out = no_writes old.out new.out out;
  err = is;
}

-- nothing
pub tells_none : (old : Outside) → Tells old nothing_done old
tells_none old = tells_calls old old [] (nothing_told old.calls) refl refl

-- ---- stages

-- where nothing is done
pub did_quietly : {A : Type 0} {Comes : Result A Status → Type 0} (old : Outside) (result : Result A Status)
    → Comes result → Did (Quiet Comes) old result old
did_quietly old result comes = record { log = nothing_done; stage = record { nothing = refl; comes = comes }; tells = tells_none old }

-- the first stage stops the work
pub then_stops : {A B : Type 0} {First : Log → Result A Status → Type 0} {Next : A → Log → Result B Status → Type 0}
    (old new : Outside) (status : Status) → Did First old (Err status) new
    → Did (Then First Next) old (Err status) new
then_stops old new status did =
    record { log = did.log; stage = Stops status refl did.stage; tells = did.tells }

-- the next one is come to
pub then_goes : {A B : Type 0} {First : Log → Result A Status → Type 0} {Next : A → Log → Result B Status → Type 0}
    (old mid new : Outside) (came : A) (result : Result B Status) → Did First old (Ok came) mid
    → Did (Next came) mid result new → Did (Then First Next) old result new
then_goes old mid new came result first next = record {
  log = done_then first.log next.log;
  stage = Goes came first.log next.log refl first.stage next.stage;
  tells = tells_then old mid new first.log next.log first.tells next.tells;
}

-- the same stage, and then one that follows from the next one
pub then_on : {A B : Type 0} (First : Log → Result A Status → Type 0)
    (Next Other : A → Log → Result B Status → Type 0)
    → ((came : A) (before : Log) → First before (Ok came) → (log : Log) (result : Result B Status)
    → Next came log result → Other came log result)
    → (log : Log) (result : Result B Status) → Then First Next log result → Then First Other log result
then_on First Next Other on log result (Stops status is first) = Stops status is first
then_on First Next Other on log result (Goes came before behind is first next) =
    Goes came before behind is first (on came before first behind result next)

-- an answer that is this status
pub did_exit : {A : Type 0} {Stage : Log → Result A Status → Type 0} (old new : Outside) (status : Status)
    (result : Result A Status) → IsErrAnd result (λ s. s ≡ status) → Did Stage old (Err status) new
    → Did Stage old result new
did_exit old new status (Ok came) none did = absurd none
did_exit {Stage = Stage} old new status (Err s) is did = subst (λ t. Did Stage old (Err t) new) (sym is) did

pub reported_exit : {Stage : Log → Result Status Status → Type 0} (old new : Outside) (stop : Status)
    (result : Result (Unit {0}) Status) → IsErrAnd result (λ s. s ≡ stop) → Did Stage old (Err stop) new
    → Did Stage old (reported result) new
reported_exit old new stop (Ok done) none did = absurd none
reported_exit {Stage} old new stop (Err s) is did = subst (λ t. Did Stage old (Err t) new) (sym is) did

-- the last stage of a report, behind which nothing is done
pub reported_then : {Stage : Log → Result (Unit {0}) Status → Type 0} (old new : Outside)
    (result : Result (Unit {0}) Status) → Did Stage old result new
    → Did (Then Stage (λ shown. Gives Done)) old (reported result) new
reported_then old new (Ok done) did = then_goes old new new done (Ok Done) did (did_quietly new (Ok Done) refl)
reported_then old new (Err status) did = then_stops old new status did

-- ---- loads

pub did_load : (old new : Outside) (name : List ℕ) (limit : ℕ) (bytes : List ℕ)
    → TellsMore old.calls (Loaded name limit (Ok bytes) ∷ []) new.calls → new.out ≡ old.out → new.err ≡ old.err
    → Did (Loads name limit) old (Ok bytes) new
did_load old new name limit bytes is out err = record {
  log = asking (Loaded name limit (Ok bytes) ∷ []);
  stage = refl;
  tells = tells_calls old new (Loaded name limit (Ok bytes) ∷ []) is out err;
}

pub did_no_load : (old new : Outside) (name : List ℕ) (limit : ℕ) (found : Load) (status : Status)
    → HasStatus (load_fault name found) status → TellsMore old.calls (Loaded name limit found ∷ []) new.calls
    → new.out ≡ old.out → new.err ≡ old.err → Did (Loads name limit) old (Err status) new
did_no_load old new name limit found status has is out err = record {
  log = asking (Loaded name limit found ∷ []);
  stage = (found, refl, has);
  tells = tells_calls old new (Loaded name limit found ∷ []) is out err;
}

-- no input is named
pub no_input : (old : Outside) (name : Option (List ℕ)) (bytes : List ℕ) → name ≡ None → bytes ≡ []
    → Did (LoadsIf name) old (Ok bytes) old
no_input old name bytes none empty =
    subst (λ n. Did (LoadsIf n) old (Ok bytes) old) (sym none) (did_quietly old (Ok bytes) (ap Ok empty))

-- a load of the same name
pub load_named : {old new : Outside} {limit : ℕ} {result : Result (List ℕ) Status} (name program : List ℕ)
    → name ≡ program → Did (Loads name limit) old result new → Did (Loads program limit) old result new
load_named {old} {new} {limit} {result} name program is = subst (λ n. Did (Loads n limit) old result new) is

-- the bytes that were loaded, as they are handed on
pub program_then : {B : Type 0} {First : Log → Result (List ℕ) Status → Type 0}
    {Next : List ℕ → Log → Result B Status → Type 0}
    (old mid new : Outside) (bytes items : List ℕ) (result : Result B Status) → bytes ≡ items
    → Did First old (Ok items) mid → Did (Next bytes) mid result new → Did (Then First Next) old result new
program_then {First = First} old mid new bytes items result is first next =
    then_goes old mid new bytes result (subst (λ b. Did First old (Ok b) mid) (sym is) first) next
