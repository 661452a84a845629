-- The laws of the watch: there is room for each step, and a call that goes on with a run may be made, as with the watch
-- of its kind.
use Rattle.std.specs.Prelude.{◌≡◌, ℕ, List, [], ◌∷◌, ◌++◌, Option, refl}
use Rattle.std.proofs.Common.{subst, sym, ap, ◌∙◌}
use Rattle.event_costs.specs.declared.event.Event.{Event}
use Rattle.event_costs.specs.declared.numbers.ThreadNo.{ThreadNo}
use Rattle.arc_costs.specs.Contents.{Listed}
use Rattle.sym_map.specs.SymbolMap.{SymbolMap}
use Rattle.cg_format.specs.declared.head.PartHead.{PartHead}
use Rattle.part_dump.specs.Calls.{Call, Readies, Sees, Writes}
use Rattle.part_dump.specs.Plain.{plain}
use Rattle.part_dump.specs.Watched.{AreWatched}
use Rattle.part_dump.specs.Watching.{Can, KeepsRoom, Meaning, after_call, after_calls}
use Rattle.part_dump.specs.inner.PlainLaw.{plain_lasts}
use Rattle.wait_report.specs.Keeping as waits
use Rattle.wait_report.specs.inner.Law as waits_law
use Rattle.ctx_costs.specs.inner.WatchLaw as contexts_room
use Rattle.ctx_rows.specs.Watching as contexts
use Rattle.ctx_rows.proofs.LastLemmas as contexts_law
use Rattle.addr_costs.specs.inner.TextsLaw.{texts_last}
use Rattle.addr_rows.specs.Translated.{translation}
use Rattle.run_watches.specs.Watching.{CanSee, CanWrite, HasRoom, IsFresh, watching}
use Rattle.run_watches.specs.declared.run_watch.RunWatch.{RunWatch}
use Rattle.run_watches.specs.declared.run_watch.RunWatch.TheVariants.{Addresses, Contexts, Nobody, Waits}

-- A watch of this kind is told as one of the watches.
pub record IsTold {W : Type 0} (meaning : Meaning W) (kind : W → RunWatch) : Type 0 where
  pub call : (m : SymbolMap) (w : W) (c : Call)
      → after_call watching m (kind w) c ≡ kind (after_call meaning m w c)
  pub text : (w : W) (head : PartHead) (rows : Listed) (m : SymbolMap)
      → watching.text (kind w) head rows m ≡ meaning.text w head rows m

by_calls : {W : Type 0} (meaning : Meaning W) (kind : W → RunWatch)
    → ((m : SymbolMap) (w : W) (thread : ThreadNo) (pc : ℕ)
    → watching.after_ready (kind w) thread pc m ≡ kind (meaning.after_ready w thread pc m))
    → ((m : SymbolMap) (w : W) (e : Event) (cost : List ℕ) (wait : Option ℕ) (woken : List ThreadNo)
    → watching.after_seen (kind w) e cost wait woken m ≡ kind (meaning.after_seen w e cost wait woken m))
    → ((m : SymbolMap) (w : W) (head : PartHead) (rows : Listed)
    → watching.after_part (kind w) head rows m ≡ kind (meaning.after_part w head rows m))
    → (m : SymbolMap) (w : W) (c : Call) → after_call watching m (kind w) c ≡ kind (after_call meaning m w c)
by_calls meaning kind ready seen part m w (Readies thread pc) = ready m w thread pc
by_calls meaning kind ready seen part m w (Sees x) = seen m w x.on_stack.event x.on_stack.cost x.wait x.woken
by_calls meaning kind ready seen part m w (Writes head rows) = part m w head rows

pub nobody_told : IsTold plain Nobody
nobody_told = record {
  call = by_calls plain Nobody (λ m w t pc. refl) (λ m w e c wait woken. refl) (λ m w head rows. refl);
  text = λ w head rows m. refl;
}

pub waits_told : IsTold waits.watching Waits
waits_told = record {
  call = by_calls waits.watching Waits (λ m w t pc. refl) (λ m w e c wait woken. refl) (λ m w head rows. refl);
  text = λ w head rows m. refl;
}

pub contexts_told : IsTold contexts.by_context Contexts
contexts_told = record {
  call = by_calls contexts.by_context Contexts (λ m w t pc. refl) (λ m w e c wait woken. refl) (λ m w head rows. refl);
  text = λ w head rows m. refl;
}

pub addresses_told : IsTold translation Addresses
addresses_told = record {
  call = by_calls translation Addresses (λ m w t pc. refl) (λ m w e c wait woken. refl) (λ m w head rows. refl);
  text = λ w head rows m. refl;
}

-- the state after calls is of its kind
pub after_all : {W : Type 0} {meaning : Meaning W} {kind : W → RunWatch} → IsTold meaning kind
    → (m : SymbolMap) (w : W) (cs : List Call)
    → after_calls watching m (kind w) cs ≡ kind (after_calls meaning m w cs)
after_all told m w [] = refl
after_all {W} {meaning} {kind} told m w (c ∷ cs) =
    ap (λ v. after_calls watching m v cs) (told.call m w c) ∙ after_all told m (after_call meaning m w c) cs

-- what may be told to a watch of this kind may be told to it as one of the watches
widened : {W : Type 0} {see : W → Event → List ℕ → Option ℕ → List ThreadNo → SymbolMap → Type 0}
    {write : W → PartHead → Listed → SymbolMap → Type 0} (kind : W → RunWatch)
    → ((w : W) (e : Event) (cost : List ℕ) (wait : Option ℕ) (woken : List ThreadNo) (m : SymbolMap)
    → see w e cost wait woken m → CanSee (kind w) e cost wait woken m)
    → ((w : W) (head : PartHead) (rows : Listed) (m : SymbolMap) → write w head rows m
    → CanWrite (kind w) head rows m)
    → (m : SymbolMap) (w : W) (c : Call) → Can see write m w c → Can CanSee CanWrite m (kind w) c
widened kind sees writes m w (Readies thread pc) can = tt
widened kind sees writes m w (Sees x) can = sees w x.on_stack.event x.on_stack.cost x.wait x.woken m can
widened kind sees writes m w (Writes head rows) can = writes w head rows m can

pub watching_lasts : (m : SymbolMap) (first : RunWatch) (calls : List Call) (call : Call) → IsFresh first m
    → AreWatched m (calls ++ call ∷ [])
    → Can CanSee CanWrite m (after_calls watching m first calls) call
watching_lasts m (Nobody w) calls call fresh watched =
    subst (λ v. Can CanSee CanWrite m v call) (sym (after_all nobody_told m w calls))
    (widened Nobody (λ w e cost wait woken m can. can) (λ w head rows m can. can) m
    (after_calls plain m w calls) call (plain_lasts m w calls call fresh watched))
watching_lasts m (Waits w) calls call fresh watched =
    subst (λ v. Can CanSee CanWrite m v call) (sym (after_all waits_told m w calls))
    (widened Waits (λ w e cost wait woken m can. can) (λ w head rows m can. can) m
    (after_calls waits.watching m w calls) call (waits_law.watching_lasts m w calls call fresh watched))
watching_lasts m (Contexts w) calls call fresh watched =
    subst (λ v. Can CanSee CanWrite m v call) (sym (after_all contexts_told m w calls))
    (widened Contexts (λ w e cost wait woken m can. can) (λ w head rows m can. can) m
    (after_calls contexts.by_context m w calls) call (contexts_law.lasts m w calls call fresh watched))
watching_lasts m (Addresses w) calls call fresh watched =
    subst (λ v. Can CanSee CanWrite m v call) (sym (after_all addresses_told m w calls))
    (widened Addresses (λ w e cost wait woken m can. can) (λ w head rows m can. can) m
    (after_calls translation m w calls) call (texts_last m w calls call fresh watched))

made_ready : (w : RunWatch) (thread : ThreadNo) (pc : ℕ) (m : SymbolMap)
    → HasRoom (watching.after_ready w thread pc m) thread
made_ready (Nobody w) thread pc m = tt
made_ready (Waits w) thread pc m = waits_law.watching_keeps_room.ready w thread pc m
made_ready (Contexts w) thread pc m = contexts_room.context_watch_keeps_room.ready w thread pc m
made_ready (Addresses w) thread pc m = tt

seen_roomy : (w : RunWatch) (e : Event) (cost : List ℕ) (wait : Option ℕ) (woken : List ThreadNo) (m : SymbolMap)
    → CanSee w e cost wait woken m → HasRoom w e.thread
seen_roomy (Nobody w) e cost wait woken m can = tt
seen_roomy (Waits w) e cost wait woken m can = waits_law.watching_keeps_room.seen w e cost wait woken m can
seen_roomy (Contexts w) e cost wait woken m can =
    contexts_room.context_watch_keeps_room.seen w e cost wait woken m can
seen_roomy (Addresses w) e cost wait woken m can = tt

pub watching_keeps_room : KeepsRoom watching HasRoom CanSee
watching_keeps_room = record { ready = made_ready; seen = seen_roomy }
