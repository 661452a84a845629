-- There is room for each step, and after each watched run the next call may be made.
use Rattle.std.specs.Prelude.{ℕ, ◌++◌, List, [], ◌∷◌, None, Option, Some, refl}
use Rattle.event_costs.specs.declared.event.Event.{Event}
use Rattle.sym_map.specs.SymbolMap.{SymbolMap}
use Rattle.part_dump.specs.Calls.{Call}
use Rattle.part_dump.specs.Watched.{AreWatched}
use Rattle.part_dump.specs.Watching.{Can, KeepsRoom, after_calls}
use Rattle.ctx_rows.specs.States as contexts
use Rattle.ctx_rows.specs.Telling as told
use Rattle.addr_rows.specs.Telling.{CanSee, CanWrite, HasRoom, CanSeeWith, thread_rows}
use Rattle.addr_rows.specs.States.{AddrState}
use Rattle.addr_rows.specs.Watching.{IsFresh, by_address}
use Rattle.addr_rows.proofs.LastLemmas.{lasts}

pub address_watch_lasts : (m : SymbolMap) (first : AddrState) (calls : List Call) (call : Call) → IsFresh first
    → AreWatched m (calls ++ call ∷ [])
    → Can (λ w event cost wait woken n. CanSee w event cost)
    (λ w head rows n. CanWrite n (thread_rows w head.thread)) m
    (after_calls by_address m first calls) call
address_watch_lasts m first calls call fresh watched = lasts m first calls call fresh watched

pub address_watch_keeps_room : KeepsRoom by_address HasRoom (λ w event cost wait woken m. CanSee w event cost)
address_watch_keeps_room = record {
  ready = λ w thread pc m. refl;
  seen = λ w event cost wait woken m can. room w.first_syms w.watched event cost can;
}
  where
    room : (over : Option SymbolMap) (s : contexts.CtxState) (event : Event) (cost : List ℕ) → CanSeeWith over s event cost
        → told.HasRoom s event.thread
    room None s event cost can = absurd can
    room (Some over) s event cost can = can.ready
