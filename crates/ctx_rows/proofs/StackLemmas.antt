-- The stacks of a thread: how their frames were entered, and how many there are.
use Rattle.std.proofs.Common.{◌≡◌, ◌⊎◌, inl, inr, ℕ, zero, suc, ◌+◌, ◌≤◌, not, false, [], ◌∷◌, Option, None}
use Rattle.std.proofs.Common.{Some, drop, length, refl, ap, sym, subst, arith, if◌then◌else◌}
use Rattle.std.proofs.lemmas.List.Sums.{sum_by-cons}
use Rattle.event_costs.specs.declared.event.Event.{Event}
use Rattle.sym_map.specs.SymbolMap.{SymbolMap}
use Rattle.shadow_stack.specs.Changes.{after, change, new_activation, drop_count, with_pushed}
use Rattle.shadow_stack.specs.Kinds.{is_root}
use Rattle.shadow_stack.specs.Stacks.{Activation, Stack, root}
use Rattle.shadow_stack.specs.declared.frame.Kind.{Kind}
use Rattle.ctx_rows.proofs.Others.{change_push, count_is}
use Rattle.part_dump.specs.Steps.{frames_in}
use Rattle.ctx_rows.specs.Since.{AreEntered}
use Rattle.ctx_rows.proofs.FrameLemmas.{kept_stack}

entered_drop : (n : ℕ) (s : Stack) → AreEntered s → AreEntered (drop n s)
entered_drop zero s all = all
entered_drop (suc n) [] all = tt
entered_drop (suc n) (a ∷ s) all = entered_drop n s all.2

entered_on : (syms : SymbolMap) (e : Event) (kind : Kind) (s : Stack) → is_root kind ≡ false → AreEntered s
    → AreEntered (new_activation syms e kind s ∷ s)
entered_on syms e kind [] other all = (tt, tt, tt)
entered_on syms e kind (a ∷ s) other all = ((refl, refl), other, all)

-- frames were entered from each other after an event, where they were before
pub entered_after : (syms : SymbolMap) (e : Event) (s : Stack) → AreEntered s → AreEntered (after syms s e)
entered_after syms e s all = by (change_push syms e s)
  where
    kept : AreEntered (change syms e s).rest
    kept = subst AreEntered (kept_stack syms e s) (entered_drop (drop_count syms e s) s all)

    by : ((change syms e s).pushed ≡ None)
        ⊎ ((kind : Kind) × ((change syms e s).pushed ≡ Some (new_activation syms e kind (change syms e s).rest))
        × (is_root kind ≡ false))
        → AreEntered (after syms s e)
    by (inl none) =
        subst (λ (o : Option Activation). AreEntered (with_pushed o (change syms e s).rest)) (sym none) kept
    by (inr p) =
        subst (λ (o : Option Activation). AreEntered (with_pushed o (change syms e s).rest)) (sym p.1)
        (entered_on syms e p.0 (change syms e s).rest p.2 kept)

pub entered_root : (syms : SymbolMap) (pc : ℕ) → AreEntered (root syms pc)
entered_root syms pc = (tt, tt, tt)

-- all frames but one are no roots
pub few_roots : (s : Stack) → AreEntered s → length s ≤ frames_in s + 1
few_roots [] all = omega arith
few_roots (a ∷ []) all = omega arith
few_roots (a ∷ (b ∷ s)) all =
    let rest = few_roots (b ∷ s) all.2 in
    let left = count_is (λ (c : Activation). not (is_root c.kind)) (a ∷ (b ∷ s)) in
    let right = count_is (λ (c : Activation). not (is_root c.kind)) (b ∷ s) in
    let sums = sum_by-cons (λ (c : Activation). if not (is_root c.kind) then 1 else 0) a (b ∷ s) in
    let here : ◌≡◌ {A = ℕ} (if not (is_root a.kind) then 1 else 0) 1 = ap (λ c. if not c then 1 else 0) all.1 in
    omega (arith, rest, left, right, sums, here)
