-- There is room for each step, and after each watched run the next call may be made.
use Rattle.std.specs.Prelude.{◌++◌, List, [], ◌∷◌, refl}
use Rattle.sym_map.specs.SymbolMap.{SymbolMap}
use Rattle.part_dump.specs.Calls.{Call}
use Rattle.part_dump.specs.Watched.{AreWatched}
use Rattle.part_dump.specs.Watching.{Can, KeepsRoom, after_calls}
use Rattle.ctx_rows.specs.Telling.{CanSee, CanWrite, HasRoom}
use Rattle.ctx_rows.specs.States.{CtxState}
use Rattle.ctx_rows.specs.Watching.{IsFresh, by_context}
use Rattle.ctx_rows.proofs.LastLemmas.{lasts}

pub context_watch_lasts : (syms : SymbolMap) (first : CtxState) (calls : List Call) (call : Call) → IsFresh first
    → AreWatched syms (calls ++ call ∷ [])
    → Can (λ w event cost wait woken m. CanSee w event cost) (λ w head rows m. CanWrite w head.thread m) syms
    (after_calls by_context syms first calls) call
context_watch_lasts syms first calls call fresh watched = lasts syms first calls call fresh watched

pub context_watch_keeps_room : KeepsRoom by_context HasRoom (λ w event cost wait woken m. CanSee w event cost)
context_watch_keeps_room = record {
  ready = λ w thread pc syms. refl;
  seen = λ w event cost wait woken syms can. can.ready;
}
