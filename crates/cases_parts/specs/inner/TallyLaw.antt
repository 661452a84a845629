-- A watch that asks for nothing needs no room, and may be told of every run.
use Rattle.std.specs.Prelude.{List, [], ◌∷◌, ◌++◌}
use Rattle.sym_map.specs.SymbolMap.{SymbolMap}
use Rattle.part_dump.specs.Calls.{Call, Readies, Sees, Writes}
use Rattle.part_dump.specs.Watched.{AreWatched}
use Rattle.part_dump.specs.Watching.{Can, KeepsRoom, after_calls}
use Rattle.cases_parts.specs.TallyState.{TallyState, tally}

pub tally_lasts : (syms : SymbolMap) (first : TallyState) (calls : List Call) (call : Call) → Unit {0}
    → AreWatched syms (calls ++ call ∷ [])
    → Can (λ w event cost wait woken syms. Unit {0}) (λ w head rows syms. Unit {0}) syms
    (after_calls tally syms first calls)
    call
tally_lasts syms first calls (Readies thread pc) fresh watched = tt
tally_lasts syms first calls (Sees x) fresh watched = tt
tally_lasts syms first calls (Writes head rows) fresh watched = tt

pub tally_keeps_room : KeepsRoom tally (λ w thread. Unit {0}) (λ w event cost wait woken syms. Unit {0})
tally_keeps_room = record {
  ready = λ w thread pc syms. tt;
  seen = λ w event cost wait woken syms can. tt;
}
