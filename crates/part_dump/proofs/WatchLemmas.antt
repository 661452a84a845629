-- Watched runs, one call after another.
use Rattle.std.proofs.Common.{◌≡◌, ℕ, List, [], ◌∷◌, ◌++◌}
use Rattle.std.proofs.Common.{Option, None, Some, refl, sym, subst, append_assoc}
use Rattle.std.proofs.lemmas.List.{append-nil}
use Rattle.std.proofs.lemmas.List.Concat.{flat_map-append}
use Rattle.sym_map.specs.SymbolMap.{SymbolMap}
use Rattle.part_dump.specs.Calls.{Call}
use Rattle.part_dump.specs.Watched.{FitAll, Fits, AreWatched, last_of, ready_pc, ready_pc_after, ready_pc_by, steps_in}
use Rattle.part_dump.specs.Watched.{steps_of}

fit_more : (syms : SymbolMap) (earlier cs : List Call) (c : Call) → FitAll syms earlier cs
    → Fits syms (earlier ++ cs) c → FitAll syms earlier (cs ++ c ∷ [])
fit_more syms earlier [] c all fits =
    let P : List Call → Type 0 = λ before. Fits syms before c in (subst P (append-nil earlier) fits, tt)
fit_more syms earlier (d ∷ cs) c all fits =
    let P : List Call → Type 0 = λ before. Fits syms before c in
    (all.0, fit_more syms (earlier ++ d ∷ []) cs c all.1 (subst P (sym (append_assoc earlier (d ∷ []) cs)) fits))

-- a call that fits those before it goes on with a watched run
pub watched_more : (syms : SymbolMap) (cs : List Call) (c : Call) → AreWatched syms cs → Fits syms cs c
    → AreWatched syms (cs ++ c ∷ [])
watched_more syms cs c all fits = fit_more syms [] cs c all fits

pub steps-append : (cs ds : List Call) → steps_in (cs ++ ds) ≡ steps_in cs ++ steps_in ds
steps-append cs ds = flat_map-append steps_of cs ds

pub last-push : {A : Type 0} (xs : List A) (x : A) → last_of (xs ++ x ∷ []) ≡ Some x
last-push [] x = refl
last-push (y ∷ []) x = refl
last-push (y ∷ (z ∷ zs)) x = last-push (z ∷ zs) x

pub readied-from : (thread : ℕ) (before : Option ℕ) (cs ds : List Call)
    → ready_pc_after thread before (cs ++ ds) ≡ ready_pc_after thread (ready_pc_after thread before cs) ds
readied-from thread before [] ds = refl
readied-from thread before (c ∷ cs) ds = readied-from thread (ready_pc_by thread c before) cs ds

pub readied-append : (thread : ℕ) (cs ds : List Call)
    → ready_pc thread (cs ++ ds) ≡ ready_pc_after thread (ready_pc thread cs) ds
readied-append thread cs ds = readied-from thread None cs ds
