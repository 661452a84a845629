-- After each watched run the next call may be made, and the rows of a thread are those of its events since its last
-- part.
use Rattle.std.proofs.Common.{◌≡◌, List, [], ◌∷◌, ◌++◌, IfSome, sym, subst, append_assoc}
use Rattle.std.proofs.lemmas.List.{append-nil}
use Rattle.event_costs.specs.declared.numbers.ThreadNo.{ThreadNo}
use Rattle.sym_map.specs.AddressMap.{address_map}
use Rattle.sym_map.specs.SymbolMap.{SymbolMap}
use Rattle.shadow_stack.specs.Traces.{EventOnStack}
use Rattle.part_dump.specs.Calls.{Call, Readies, Sees, Writes}
use Rattle.part_dump.specs.Watched.{FitAll, Fits, AreWatched}
use Rattle.part_dump.specs.Watching.{Can, after_call, after_calls}
use Rattle.addr_rows.specs.EventRows.{addr_rows_of}
use Rattle.addr_rows.specs.Stacked.{since}
use Rattle.addr_rows.specs.States.{AddrState}
use Rattle.addr_rows.specs.Telling.{CanSee, CanWrite, thread_rows}
use Rattle.addr_rows.specs.Watching.{IsFresh, by_address}
use Rattle.addr_rows.proofs.HoldsLemmas.{Holds, can_see, can_write, fresh_holds, holds_more, rows_now, since_told}

can_more : (m : SymbolMap) (w : AddrState) (calls : List Call) (c : Call) → Holds m w calls → Fits m calls c
    → Can (λ v event cost wait woken n. CanSee v event cost)
    (λ v head rows n. CanWrite n (thread_rows v head.thread)) m w c
can_more m w calls (Readies thread pc) holds fits = tt
can_more m w calls (Sees x) holds fits = can_see m w calls holds x fits
can_more m w calls (Writes head rows) holds fits = can_write m w calls holds head rows fits

pub holds_all : (m : SymbolMap) (w : AddrState) (earlier calls : List Call) → Holds m w earlier → FitAll m earlier calls
    → Holds m (after_calls by_address m w calls) (earlier ++ calls)
holds_all m w earlier [] holds fit = subst (Holds m w) (sym (append-nil earlier)) holds
holds_all m w earlier (c ∷ calls) holds fit =
    subst (Holds m (after_calls by_address m w (c ∷ calls))) (append_assoc earlier (c ∷ []) calls)
    (holds_all m (after_call by_address m w c) (earlier ++ c ∷ []) calls (holds_more m w earlier holds c fit.0) fit.1)

can_all : (m : SymbolMap) (w : AddrState) (earlier calls : List Call) (c : Call) → Holds m w earlier
    → FitAll m earlier (calls ++ c ∷ [])
    → Can (λ v event cost wait woken n. CanSee v event cost)
    (λ v head rows n. CanWrite n (thread_rows v head.thread)) m (after_calls by_address m w calls) c
can_all m w earlier [] c holds fit = can_more m w earlier c holds fit.0
can_all m w earlier (a ∷ calls) c holds fit =
    can_all m (after_call by_address m w a) (earlier ++ a ∷ []) calls c (holds_more m w earlier holds a fit.0) fit.1

-- a call that goes on with a watched run may be made
pub lasts : (m : SymbolMap) (first : AddrState) (calls : List Call) (call : Call) → IsFresh first
    → AreWatched m (calls ++ call ∷ [])
    → Can (λ w event cost wait woken n. CanSee w event cost)
    (λ w head rows n. CanWrite n (thread_rows w head.thread)) m (after_calls by_address m first calls) call
lasts m first calls call fresh watched = can_all m first [] calls call (fresh_holds m first fresh) watched

-- the rows that a watch has of a thread
pub run_rows : (m : SymbolMap) (first : AddrState) (calls : List Call) (thread : ThreadNo) → IsFresh first
    → AreWatched m calls
    → IfSome (thread_rows (after_calls by_address m first calls) thread)
    (λ rows. rows ≡ addr_rows_of m (since (address_map m) thread.0 calls))
run_rows m first calls thread fresh watched =
    subst (λ (xs : List EventOnStack). IfSome (thread_rows (after_calls by_address m first calls) thread)
    (λ rows. rows ≡ addr_rows_of m xs)) (sym (since_told (address_map m) thread.0 [] [] calls))
    (rows_now m (after_calls by_address m first calls) calls
    (holds_all m first [] calls (fresh_holds m first fresh) watched) thread)
