-- Runs that are watched by one of the watches, as runs that are watched by the watch of its kind.
use Rattle.std.proofs.Common.{◌≡◌, false, [], Result, ap, subst, sym, ◌∙◌}
use Rattle.outside.specs.Outside.{Outside}
use Rattle.elf_read.specs.Image.{image_of}
use Rattle.sym_map.specs.AddressMap.{address_map}
use Rattle.sym_map.specs.SymbolMap.{SymbolMap}
use Rattle.part_dump.specs.Plain.{plain}
use Rattle.part_dump.specs.Watching.{Meaning}
use Rattle.profile_run.specs.Program.{Program}
use Rattle.profile_run.specs.Parts.{Writing, calls_of, plain_parts, watched_parts}
use Rattle.profile_run.specs.Runs.{Answers, RunEnd}
use Rattle.profile_run.specs.Trace.{steps_of}
use Rattle.profile_run.specs.declared.run_fault.RunFault.{RunFault}
use Rattle.run_laws.specs.Addresses.{addr_parts, addressed}
use Rattle.run_laws.proofs.AddrRunLemmas.{answers}
use Rattle.wait_report.specs.Keeping.{WaitState}
use Rattle.wait_report.specs.Keeping as waits
use Rattle.run_watches.specs.Laws.{IsOfKind}
use Rattle.run_watches.specs.Watching.{IsFresh, watching}
use Rattle.run_watches.specs.declared.run_watch.RunWatch.{RunWatch}
use Rattle.run_watches.specs.declared.run_watch.RunWatch.TheVariants.{Addresses, Contexts, Nobody, Waits}
use Rattle.profile_cli.proofs.Others.{addresses_are, contexts_are, nobody_is, waits_are}
use Rattle.command_status.specs.declared.status.Status.{Status}
use Rattle.command_words.specs.Request as words
use Rattle.command_words.specs.Request.{Job, Watching}
use Rattle.command_words.specs.Within.{IsJob}
use Rattle.profile_cli.specs.Program.{guest_of}
use Rattle.profile_cli.specs.Watching.{parts_asked}
use Rattle.profile_cli.specs.inner.RunStages.{IsAny, HasWatched, RanToEnd, RunsJob, WritesAsked}
use Rattle.profile_cli.proofs.PartLemmas.{RunsJob-contexts}
use Rattle.profile_cli.proofs.WaitLemmas.{waits_write}
use Rattle.profile_cli.proofs.WatchLemmas.{RunsJob-plain, RunsJob-so, nobody_writes}

-- its parts are those of its kind
pub RunsJob-kind : {W : Type 0} {meaning : Meaning W} {kind : W → RunWatch} → IsOfKind meaning kind → (w : W)
    (IsSo : Program → Type 0) (old : Outside) (job : Job) (result : Result RunEnd Status) (new : Outside)
    → RunsJob (watched_parts watching (kind w)) IsSo old job result new
    → RunsJob (watched_parts meaning w) IsSo old job result new
RunsJob-kind of w IsSo old job result new = subst (λ parts. RunsJob parts IsSo old job result new) (of.parts w)

-- a map of nothing
abbrev no_map : SymbolMap
no_map = record {
  functions = [];
  files = [];
  entries = [];
  places = [];
  begins = [];
  unknown = record { func = record { 0 = 0 }; file = record { 0 = 0 }; line = 0 };
}

-- its parts are those that are asked for
pub RunsJob-asked : (w : RunWatch) (asked : Watching) → ((m : SymbolMap) → IsFresh w m) → WritesAsked asked w
    → (IsSo : Program → Type 0)
    (old : Outside) (job : Job) (result : Result RunEnd Status) (new : Outside) → IsJob job
    → RunsJob (watched_parts watching w) IsSo old job result new → RunsJob (parts_asked asked) IsAny old job result new
RunsJob-asked (Nobody w) asked fresh writes IsSo old job result new within ran =
    subst (λ parts. RunsJob parts IsAny old job result new) (sym writes)
    (RunsJob-so plain_parts IsSo IsAny (λ guest so. tt) old job result new
    (RunsJob-plain plain nobody_writes w IsSo old job result new
    (RunsJob-kind nobody_is w IsSo old job result new ran)))
RunsJob-asked (Waits w) asked fresh writes IsSo old job result new within ran = absurd writes
RunsJob-asked (Contexts w) asked fresh writes IsSo old job result new within ran =
    subst (λ a. RunsJob (parts_asked a) IsAny old job result new) (sym writes)
    (RunsJob-contexts w (fresh no_map) IsSo old job new within result
    (RunsJob-kind contexts_are w IsSo old job result new ran))
RunsJob-asked (Addresses w) asked fresh writes IsSo old job result new within ran = absurd writes

-- ---- by address

-- a run over the map that tells code by its addresses
pub by_address : (guest : Program) (told : SymbolMap) (watch : RunWatch) → told ≡ address_map guest.syms
    → watch ≡ Addresses guest.syms → (old : Outside) (stop : Result RunEnd RunFault) (new : Outside)
    → Answers (watched_parts watching watch (record guest { syms = told })) (record guest { syms = told }) old stop new
    → Answers (addr_parts guest) guest old stop new
by_address guest told watch told_is watch_is old stop new ran =
    answers guest old stop new
    (subst (λ (parts : Program → Writing). Answers (parts (addressed guest)) (addressed guest) old stop new)
    (addresses_are.parts guest.syms)
    (subst (λ (w : RunWatch). Answers (watched_parts watching w (addressed guest)) (addressed guest) old stop new)
    watch_is
    (subst (λ (m : SymbolMap). Answers (watched_parts watching watch (record guest { syms = m }))
    (record guest { syms = m }) old stop new) told_is ran)))

-- where they are asked for by address
pub RunsJob-addresses : (asked : Watching) → asked ≡ words.Addresses → (old : Outside) (job : Job)
    (result : Result RunEnd Status) (new : Outside)
    → RunsJob addr_parts IsAny old job result new → RunsJob (parts_asked asked) IsAny old job result new
RunsJob-addresses asked is old job result new ran =
    subst (λ a. RunsJob (parts_asked a) IsAny old job result new) (sym is) ran

-- ---- waits

-- a watch of waits, or this state
abbrev pub waits_or : WaitState → RunWatch → WaitState
waits_or before (Nobody w) = before
waits_or before (Waits w) = w
waits_or before (Contexts w) = before
waits_or before (Addresses w) = before

-- the watch of waits was told of the run
told_waits : (first last : WaitState) (watch : RunWatch) → watch ≡ Waits last → (guest : Program)
    → HasWatched watching (Waits first) watch guest → HasWatched waits.watching first last guest
told_waits first last watch is guest told = λ trace stop of.
    let calls = calls_of guest (steps_of trace) stop.tried in
    ap (waits_or first) (sym is ∙ told trace stop of ∙ waits_are.states guest.syms first calls)

module _ (first : WaitState) (start watch : RunWatch) (starts : start ≡ Waits first) (old : Outside) (job : Job)
    (new : Outside) where
  -- the parts are the plain ones
  pub RunsJob-wait_parts : (IsSo : Program → Type 0) (result : Result RunEnd Status)
      → RunsJob (watched_parts watching start) IsSo old job result new → RunsJob plain_parts IsSo old job result new
  RunsJob-wait_parts IsSo result ran =
      RunsJob-plain waits.watching waits_write first IsSo old job result new
      (RunsJob-kind waits_are first IsSo old job result new
      (subst (λ w. RunsJob (watched_parts watching w) IsSo old job result new) starts ran))

  pub RunsJob-waits : (last : WaitState) → watch ≡ Waits last → (result : Result RunEnd Status)
      → RunsJob (watched_parts watching start) (HasWatched watching start watch) old job result new
      → RunsJob plain_parts (HasWatched waits.watching first last) old job result new
  RunsJob-waits last is result ran =
      RunsJob-so plain_parts (HasWatched watching start watch) (HasWatched waits.watching first last)
      (λ guest told. told_waits first last watch is guest (subst (λ w. HasWatched watching w watch guest) starts told))
      old job result new (RunsJob-wait_parts (HasWatched watching start watch) result ran)

  -- after a run it is still a watch of waits
  pub still_waits : (parts : Program → Writing) (run : RunEnd)
      → RanToEnd parts (HasWatched watching start watch) old job run new → watch ≡ Waits (waits_or first watch)
  still_waits parts run ran =
      let guest = guest_of job (image_of ran.program) ran.input ran.syms in
      let calls = calls_of guest (steps_of ran.whole.trace) ran.whole.stop.tried in
      let told : HasWatched watching (Waits first) watch guest
      = subst (λ w. HasWatched watching w watch guest) starts ran.so in
      let is = told ran.whole.trace ran.whole.stop ran.whole.is ∙ waits_are.states guest.syms first calls in
      is ∙ ap Waits (ap (waits_or first) (sym is))
