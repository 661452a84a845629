-- The laws of the watch of a run that nobody watches.
use Rattle.std.specs.Prelude.{List, [], ◌∷◌, ◌++◌}
use Rattle.std.proofs.Common.{subst, sym, append_assoc}
use Rattle.std.proofs.lemmas.List.{append-nil}
use Rattle.sym_map.specs.SymbolMap.{SymbolMap}
use Rattle.cg_format.specs.Part.{AreKnown}
use Rattle.part_dump.specs.Calls.{Call, Readies, Sees, Writes}
use Rattle.part_dump.specs.Plain.{Stateless, plain}
use Rattle.part_dump.specs.Watched.{Fits, FitAll, AreWatched}
use Rattle.part_dump.specs.Watching.{Can, KeepsRoom, after_calls}

-- the last call fits all others
pub last_fits : (syms : SymbolMap) (earlier calls : List Call) (call : Call) → FitAll syms earlier (calls ++ call ∷ [])
    → Fits syms (earlier ++ calls) call
last_fits syms earlier [] call fit =
    let P : List Call → Type 0 = λ before. Fits syms before call in subst P (sym (append-nil earlier)) fit.0
last_fits syms earlier (c ∷ calls) call fit =
    let P : List Call → Type 0 = λ before. Fits syms before call in
    subst P (append_assoc earlier (c ∷ []) calls) (last_fits syms (earlier ++ c ∷ []) calls call fit.1)

pub plain_lasts : (syms : SymbolMap) (first : Stateless) (calls : List Call) (call : Call) → Unit {0}
    → AreWatched syms (calls ++ call ∷ [])
    → Can (λ w event cost wait woken syms. Unit {0}) (λ w head rows syms. AreKnown syms rows) syms
    (after_calls plain syms first calls)
    call
plain_lasts syms first calls (Readies thread pc) fresh watched = tt
plain_lasts syms first calls (Sees x) fresh watched = tt
plain_lasts syms first calls (Writes head rows) fresh watched = (last_fits syms [] calls (Writes head rows) watched).1

-- it needs no room
pub plain_keeps_room : KeepsRoom plain (λ w thread. Unit {0}) (λ w event cost wait woken syms. Unit {0})
plain_keeps_room = record {
  ready = λ w thread pc syms. tt;
  seen = λ w event cost wait woken syms can. tt;
}
