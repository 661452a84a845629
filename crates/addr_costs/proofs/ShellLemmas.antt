-- The rows of a thread, by those of the watch by context.
use Rattle.std.proofs.Common.{◌≡◌, Bool, true, false, None, Some, Result, Ok, Err, OnErr, IfOk, IfSome, ap, sym}
use Rattle.std.proofs.Common.{subst, ◌∙◌, if◌then◌else◌}
use Rattle.event_costs.specs.declared.numbers.ThreadNo.{ThreadNo}
use Rattle.sym_map.specs.SymbolMap.{SymbolMap}
use Rattle.ctx_rows.specs.Folding.{plain}
use Rattle.ctx_rows.specs.Rows.{CtxListed}
use Rattle.ctx_rows.specs.States as contexts
use Rattle.ctx_rows.specs.Telling as told
use Rattle.addr_rows.specs.EventRows.{located_rows}
use Rattle.addr_rows.specs.Rows.{OfThread}
use Rattle.addr_rows.specs.States.{AddrState}
use Rattle.addr_rows.specs.Telling.{IsThere, rows_in, thread_rows}

pub rows_given : {E : Type 0} (result : Result OfThread E) (thread : ThreadNo) (m : SymbolMap) (s : contexts.CtxState)
    (w : AddrState) (listed : CtxListed) → w ≡ record { first_syms = Some m; watched = s } → IsThere (thread_rows w thread)
    → listed ≡ told.rows_in s thread
    → IfOk result (λ rows. rows ≡ record { thread = thread; rows = located_rows m (plain listed) })
    → IfOk result (λ rows. IfSome (thread_rows w thread) (λ known. rows ≡ record { thread = thread; rows = known }))
unfolding rows_in
rows_given (Err e) thread m s w listed is there listed_is found = tt
rows_given (Ok rows) thread m s w listed is there listed_is found =
    subst (λ (v : AddrState). IsThere (thread_rows v thread)
    → IfSome (thread_rows v thread) (λ known. rows ≡ record { thread = thread; rows = known })) (sym is)
    (by (contexts.knows s thread)) there
  where
    by : (b : Bool) → IsThere (if b then Some (located_rows m (plain (told.rows_in s thread))) else None)
        → IfSome (if b then Some (located_rows m (plain (told.rows_in s thread))) else None)
        (λ known. rows ≡ record { thread = thread; rows = known })
    by true there_ =
        found ∙ ap (λ (l : CtxListed). record { thread = thread; rows = located_rows m (plain l) }) listed_is
    by false there_ = absurd there_

pub on_err : {A E X : Type 0} (r : Result A E) → X → OnErr r X
on_err (Ok a) x = tt
on_err (Err e) x = x
