-- What one of the watches makes of a run: what the watch of its kind makes of it.
use Rattle.std.specs.Prelude.{◌≡◌, ℕ, List, Option}
use Rattle.event_costs.specs.declared.event.Event.{Event}
use Rattle.event_costs.specs.declared.numbers.ThreadNo.{ThreadNo}
use Rattle.arc_costs.specs.Contents.{Listed}
use Rattle.sym_map.specs.SymbolMap.{SymbolMap}
use Rattle.cg_format.specs.Part.{AreKnown}
use Rattle.cg_format.specs.declared.head.PartHead.{PartHead}
use Rattle.part_dump.specs.Plain.{plain}
use Rattle.part_dump.specs.Watching.{Meaning}
use Rattle.wait_report.specs.Keeping as waits
use Rattle.wait_report.specs.Standing as waits_standing
use Rattle.ctx_rows.specs.Telling as contexts_known
use Rattle.ctx_rows.specs.Watching as contexts
use Rattle.addr_rows.specs.Translated.{CanTranslate, IsAddressMapOf, translation}
use Rattle.run_watches.specs.declared.run_watch.RunWatch.{RunWatch}
use Rattle.run_watches.specs.declared.run_watch.RunWatch.TheVariants.{Addresses, Contexts, Nobody, Waits}

abbrev pub after_ready : RunWatch → ThreadNo → ℕ → SymbolMap → RunWatch
after_ready (Nobody w) thread pc m = Nobody (plain.after_ready w thread pc m)
after_ready (Waits w) thread pc m = Waits (waits.watching.after_ready w thread pc m)
after_ready (Contexts w) thread pc m = Contexts (contexts.by_context.after_ready w thread pc m)
after_ready (Addresses w) thread pc m = Addresses (translation.after_ready w thread pc m)

abbrev pub after_seen : RunWatch → Event → List ℕ → Option ℕ → List ThreadNo → SymbolMap → RunWatch
after_seen (Nobody w) event cost wait woken m = Nobody (plain.after_seen w event cost wait woken m)
after_seen (Waits w) event cost wait woken m = Waits (waits.watching.after_seen w event cost wait woken m)
after_seen (Contexts w) event cost wait woken m =
    Contexts (contexts.by_context.after_seen w event cost wait woken m)
after_seen (Addresses w) event cost wait woken m =
    Addresses (translation.after_seen w event cost wait woken m)

abbrev pub after_part : RunWatch → PartHead → Listed → SymbolMap → RunWatch
after_part (Nobody w) head rows m = Nobody (plain.after_part w head rows m)
after_part (Waits w) head rows m = Waits (waits.watching.after_part w head rows m)
after_part (Contexts w) head rows m = Contexts (contexts.by_context.after_part w head rows m)
after_part (Addresses w) head rows m = Addresses (translation.after_part w head rows m)

abbrev pub text : RunWatch → PartHead → Listed → SymbolMap → List ℕ
text (Nobody w) head rows m = plain.text w head rows m
text (Waits w) head rows m = waits.watching.text w head rows m
text (Contexts w) head rows m = contexts.by_context.text w head rows m
text (Addresses w) head rows m = translation.text w head rows m

abbrev pub watching : Meaning RunWatch
watching = record {
  after_ready = after_ready;
  after_seen = after_seen;
  after_part = after_part;
  text = text;
}

-- a state before any call, in a run with this map
abbrev pub IsFresh : RunWatch → SymbolMap → Type 0
IsFresh (Nobody w) m = Unit {0}
IsFresh (Waits w) m = w.books ≡ waits.nothing
IsFresh (Contexts w) m = contexts.IsFresh w
IsFresh (Addresses w) m = IsAddressMapOf w m

-- whether there is room for a step of a thread
abbrev pub HasRoom : RunWatch → ThreadNo → Type 0
HasRoom (Nobody w) thread = Unit {0}
HasRoom (Waits w) thread = waits.IsRoomy w
HasRoom (Contexts w) thread = contexts_known.HasRoom w thread
HasRoom (Addresses w) thread = Unit {0}

-- when a step may be told
abbrev pub CanSee : RunWatch → Event → List ℕ → Option ℕ → List ThreadNo → SymbolMap → Type 0
CanSee (Nobody w) event cost wait woken m = Unit {0}
CanSee (Waits w) event cost wait woken m = waits_standing.CanSee w event cost wait woken m
CanSee (Contexts w) event cost wait woken m = contexts_known.CanSee w event cost
CanSee (Addresses w) event cost wait woken m = Unit {0}

-- when a part may be written
abbrev pub CanWrite : RunWatch → PartHead → Listed → SymbolMap → Type 0
CanWrite (Nobody w) head rows m = AreKnown m rows
CanWrite (Waits w) head rows m = AreKnown m rows
CanWrite (Contexts w) head rows m = contexts_known.CanWrite w head.thread m
CanWrite (Addresses w) head rows m = CanTranslate w rows m
