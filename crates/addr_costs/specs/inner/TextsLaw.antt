-- It has room for each step, and after each watched run the next call may be made.
use Rattle.std.specs.Prelude.{◌≡◌, List, [], ◌∷◌, ◌++◌, refl}
use Rattle.std.proofs.Common.{subst, sym}
use Rattle.sym_map.specs.SymbolMap.{SymbolMap}
use Rattle.part_dump.specs.Calls.{Call, Readies, Sees, Writes}
use Rattle.part_dump.specs.Watched.{AreWatched}
use Rattle.part_dump.specs.Watching.{Can, KeepsRoom, after_calls}
use Rattle.part_dump.specs.inner.PlainLaw.{last_fits}
use Rattle.addr_rows.specs.Translated.{CanTranslate, IsAddressMapOf, translation}

pub stays : (told m : SymbolMap) (calls : List Call) → after_calls translation told m calls ≡ m
stays told m [] = refl
stays told m (Readies thread pc ∷ calls) = stays told m calls
stays told m (Sees x ∷ calls) = stays told m calls
stays told m (Writes head rows ∷ calls) = stays told m calls

pub texts_last : (told m : SymbolMap) (calls : List Call) (call : Call) → IsAddressMapOf m told
    → AreWatched told (calls ++ call ∷ [])
    → Can (λ w event cost wait woken n. Unit {0}) (λ w head rows n. CanTranslate w rows n) told
    (after_calls translation told m calls) call
texts_last told m calls (Readies thread pc) over watched = tt
texts_last told m calls (Sees x) over watched = tt
texts_last told m calls (Writes head rows) over watched =
    subst (λ w. CanTranslate w rows told) (sym (stays told m calls))
    (record { first_syms = over; known = (last_fits told [] calls (Writes head rows) watched).1 })

pub texts_keep_room : KeepsRoom translation (λ w thread. Unit {0}) (λ w event cost wait woken n. Unit {0})
texts_keep_room = record {
  ready = λ w thread pc n. tt;
  seen = λ w event cost wait woken n can. tt;
}
