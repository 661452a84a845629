-- What a watch leaves of the parts of a run, and what the gates behind the run come to.
use Rattle.std.proofs.Common.{◌≡◌, ◌⊎◌, ℕ, List, [], ◌∷◌, ◌++◌, IfSome, Option, None, Some, Result, Ok, Err, inl, inr}
use Rattle.std.proofs.Common.{refl, ap, subst, ◌∙◌, append-nil}
use Rattle.arc_costs.specs.Contents.{Listed}
use Rattle.sym_map.specs.SymbolMap.{SymbolMap}
use Rattle.cg_format.specs.Part.{part_text}
use Rattle.cg_format.specs.declared.head.PartHead.{PartHead}
use Rattle.outside.specs.Files.{Rose}
use Rattle.outside.specs.Outside.{Log, Outside, Output, and_then, nothing}
use Rattle.outside.specs.declared.folder.PutError.{PutError}
use Rattle.outside.specs.declared.folder.PutError.TheVariants as put
use Rattle.part_dump.specs.Calls.{Call, Readies, Sees, Writes}
use Rattle.part_dump.specs.Files.{part_name}
use Rattle.part_dump.specs.Plain.{Stateless, plain, stateless}
use Rattle.part_dump.specs.Watching.{Meaning, after_call, puts}
use Rattle.profile_run.specs.Program.{Program}
use Rattle.profile_run.specs.Parts.{Writing, calls_of, calls_so_far, plain_parts, watched_parts}
use Rattle.profile_run.specs.Runs.{RunEnd, whole_output}
use Rattle.profile_run.specs.Trace.{IsTraceOf, Stop, RunStep}
use Rattle.profile_run.proofs.PlainLemmas.{same_parts}
use Rattle.run_laws.specs.Addresses.{addr_parts}
use Rattle.run_laws.specs.Contexts.{ctx_parts}
use Rattle.command_status.specs.declared.status.Status.{Status}
use Rattle.command_status.specs.declared.status.Status.TheVariants.{OutOfMemory, PutFault}
use Rattle.command_words.specs.Request.{Addresses, Contexts, Job, Nothing, Waits, Watching}
use Rattle.command_words.specs.Meaning.{watching_of}
use Rattle.command_words.specs.declared.request.Watching as code
use Rattle.command_words.specs.declared.request.Watching.TheVariants as watching
use Rattle.profile_cli.specs.Course.{WaitsOutcome}
use Rattle.command_steps.specs.Gates.{Outcome, gates_outcome}
use Rattle.command_steps.specs.Stages.{Gives}
use Rattle.profile_cli.specs.Stages.{PutsWaits}
use Rattle.profile_cli.specs.Watching.{IsPut, IsWaited, output_asked, parts_asked, waits_file, waits_name}
use Rattle.profile_cli.specs.Watching.{watch_gates}
use Rattle.profile_cli.specs.inner.RunStages.{RunsJob}
use Rattle.byte_text.specs.Memory.{memory}

-- ---- the parts

-- a watch that writes the text of the rows
pub record WritesPlain {W : Type 0} (m : Meaning W) : Type 0 where
  pub text : (w : W) (head : PartHead) (rows : Listed) (syms : SymbolMap)
      → m.text w head rows syms ≡ part_text head rows syms

module _ {W : Type 0} (m : Meaning W) (writes : WritesPlain m) (syms : SymbolMap) (base : List ℕ) where
  plain_puts : (w : W) (v : Stateless) (cs : List Call) → puts m syms base w cs ≡ puts plain syms base v cs
  plain_puts w v [] = refl
  plain_puts w v (Readies thread pc ∷ cs) = plain_puts (after_call m syms w (Readies thread pc)) v cs
  plain_puts w v (Sees x ∷ cs) = plain_puts (after_call m syms w (Sees x)) v cs
  plain_puts w v (Writes head rows ∷ cs) =
      (λ i. (part_name base head.part head.thread.0, writes.text w head rows syms i)
      ∷ plain_puts (after_call m syms w (Writes head rows)) v cs i)

-- its parts are the plain ones
pub plain_watched : {W : Type 0} (m : Meaning W) → WritesPlain m → (w : W) → watched_parts m w ≡ plain_parts
plain_watched m writes w = λ i guest. (watched guest ∙ same_parts guest stateless) i
  where
    watched : (guest : Program) → watched_parts m w guest ≡ watched_parts plain stateless guest
    watched guest = λ i. record {
      at_cuts = λ steps.
          plain_puts m writes guest.syms guest.options.base w stateless (calls_so_far guest steps) i;
      whole = λ steps tried.
          plain_puts m writes guest.syms guest.options.base w stateless (calls_of guest steps tried) i;
    }

pub RunsJob-plain : {W : Type 0} (m : Meaning W) → WritesPlain m → (w : W) (IsSo : Program → Type 0) (old : Outside)
    (job : Job) (result : Result RunEnd Status) (new : Outside) → RunsJob (watched_parts m w) IsSo old job result new
    → RunsJob plain_parts IsSo old job result new
RunsJob-plain m writes w IsSo old job result new =
    subst (λ parts. RunsJob parts IsSo old job result new) (plain_watched m writes w)

-- what is said of the guest gives less
pub RunsJob-so : (parts : Program → Writing) (Was IsSo : Program → Type 0) → ((guest : Program) → Was guest → IsSo guest)
    → (old : Outside) (job : Job) (result : Result RunEnd Status) (new : Outside)
    → RunsJob parts Was old job result new → RunsJob parts IsSo old job result new
RunsJob-so parts Was IsSo so old job (Ok run) new ran = record {
  program = ran.program;
  input = ran.input;
  syms = ran.syms;
  output = ran.output;
  load = ran.load;
  accepted = ran.accepted;
  fed = ran.fed;
  symbols = ran.symbols;
  sound = ran.sound;
  fits = ran.fits;
  whole = ran.whole;
  so = so _ ran.so;
  leaves = ran.leaves;
  did = ran.did;
}
RunsJob-so parts Was IsSo so old job (Err status) new stops = stops

pub nobody_writes : WritesPlain plain
nobody_writes = record { text = λ w head rows syms. refl }

-- ---- the gates behind the run

-- All files were put: the status is the last one, and this is put out.
pub record IsPast (w : Watching) (guest : Program) (trace : List RunStep) (stop : Stop) (output : Output) (last : Status)
    (behind : Outcome) : Type 0 where
  pub status : behind.status ≡ last
  pub output_is : and_then output behind.output ≡ output_asked w guest trace stop

-- a put failed
abbrev pub IsUnput : ℕ → ℕ → Status → Type 0
IsUnput before now status = (name : List ℕ) × (status ≡ PutFault name) × Rose before now

module _ (old mid : Outside) (guest : Program) (trace : List RunStep) (stop : Stop) (is : IsTraceOf guest trace stop)
    (output : Output) (last : Status) where
  abbrev pub Comes : Watching → Outcome → Type 0
  Comes w behind =
      (behind.status ≡ (OutOfMemory memory)) ⊎ (IsUnput old.put_faults mid.put_faults behind.status
      ⊎ IsPast w guest trace stop output last behind)

  abbrev all : Output
  all = whole_output (plain_parts guest) trace stop

  with_nothing : (writing : Writing) → and_then (whole_output writing trace stop) nothing ≡ whole_output writing trace stop
  with_nothing writing = λ i. record {
    files = append-nil (whole_output writing trace stop).files i;
    refused = None;
    out = append-nil (whole_output writing trace stop).out i;
    err = append-nil (whole_output writing trace stop).err i;
  }

  with_waits : (waited : WaitsOutcome) → waited.text ≡ (waits_file guest trace).1
      → and_then all (record nothing { files = (waits_name guest.options.base, waited.text) ∷ [] })
      ≡ output_asked Waits guest trace stop
  with_waits waited same = λ i. record {
    files = all.files ++ (waits_name guest.options.base, same i) ∷ [];
    refused = None;
    out = append-nil all.out i;
    err = append-nil all.err i;
  }

  pub past_watch : (w : Watching) (waited : Option WaitsOutcome) → output ≡ whole_output (parts_asked w guest) trace stop
      → IfSome waited (IsWaited old guest mid) → Comes w (gates_outcome (watch_gates w guest.options.base waited) last)
  past_watch Nothing waited output_is known =
      inr (inr (record {
        status = refl;
        output_is = ap (λ o. and_then o nothing) output_is ∙ with_nothing (plain_parts guest);
      }))
  past_watch (Contexts callers) waited output_is known =
      inr (inr (record {
        status = refl;
        output_is = ap (λ o. and_then o nothing) output_is ∙ with_nothing (ctx_parts callers guest);
      }))
  past_watch Addresses waited output_is known =
      inr (inr (record {
        status = refl;
        output_is = ap (λ o. and_then o nothing) output_is ∙ with_nothing (addr_parts guest);
      }))
  past_watch Waits None output_is known = inl refl
  past_watch Waits (Some waited) output_is known = by waited.put known.put
    where
      by : (answer : Result (Unit {0}) PutError) → IsPut old.put_faults mid.put_faults answer
          → Comes Waits (gates_outcome (watch_gates Waits guest.options.base
          (Some (record { text = waited.text; put = answer }))) last)
      by (Ok done) is_put = inr (inr (record {
        status = refl;
        output_is =
            ap (λ o. and_then o (record nothing { files = (waits_name guest.options.base, waited.text) ∷ [] }))
            output_is
            ∙ with_waits waited (known.text trace stop is);
      }))
      by (Err put.Failed) rose = inr (inl (waits_name guest.options.base, refl, rose))
      by (Err (put.OutOfMemory _)) is_put = inl refl

-- ---- a run that doesn't count what waiting costs puts nothing behind its parts

pub quiet_gates : (w : code.Watching) → (w ≡ watching.Waits → ⊥) → (base : List ℕ)
    → watch_gates (watching_of w) base None ≡ []
quiet_gates watching.Nothing other base = refl
quiet_gates watching.Waits other base = absurd (other refl)
quiet_gates (watching.Contexts callers) other base = refl
quiet_gates watching.Addresses other base = refl

pub quiet_puts : (w : code.Watching) → (w ≡ watching.Waits → ⊥) → (guest : Program) (log : Log)
    (result : Result (Unit {0}) Status) → Gives tt log result → PutsWaits (watching_of w) guest log result
quiet_puts watching.Nothing other guest log result given = given
quiet_puts watching.Waits other guest log result given = absurd (other refl)
quiet_puts (watching.Contexts callers) other guest log result given = given
quiet_puts watching.Addresses other guest log result given = given
