-- What is kept of the guest's code stands in its memory, as turns pass.
use Rattle.std.proofs.Common.{◌≡◌, ℕ, ◌+◌, ◌≤◌, ◌⊎◌, Bool, true, false, List, refl, sym, ap, subst, ◌∙◌, cond, arith}
use Rattle.std.proofs.Common.{Result, Ok, Err, Some}
use Rattle.std.specs.Prelude.{IfOk, OnErr}
use Rattle.std.specs.FinMap as map
use Rattle.std.specs.Option.{option_and_then}
use Rattle.event_costs.specs.declared.numbers.ThreadNo.{ThreadNo}
use Rattle.rv_step.specs.declared.code.Code.{Code}
use Rattle.rv_step.specs.Code.{IsCodeOf, instruction_at}
use Rattle.rv_decode.specs.Decoded.{decode}
use Rattle.rv_decode.specs.declared.instr.Instr.{Instr}
use Rattle.guest_sys.specs.CallRow.{Calls}
use Rattle.guest_sys.specs.Reaching.{IsWithin}
use Rattle.guest_sys.specs.Kernel.{Kernel}
use Rattle.guest_sys.specs.declared.effect.Effect.{Effect}
use Rattle.guest_sys.specs.declared.effect.SysEnd.{SysEnd}
use Rattle.guest_sys.specs.declared.reach.Reach.{Reach}
use Rattle.guest_sched.specs.declared.turns.Fate.{Fate}
use Rattle.guest_sched.specs.RunQueue.{ends_turn}
use Rattle.guest_sched.specs.Engine.{Engine, engine_after_step}

two : (b : Bool) (x y : Engine) (s : Kernel) → x.kernel ≡ s → y.kernel ≡ s → (cond b x y).kernel ≡ s
two true x y s first second = first
two false x y s first second = second

turned-sys : (f : Fate) (threads : List ThreadNo) (w : Engine) → (engine_after_step f threads w).kernel ≡ w.kernel
unfolding engine_after_step
turned-sys f threads w = two (ends_turn f w.run_queue) _ _ w.kernel refl refl

-- the turn of a thread changes no memory
pub code-turned : (code : Code) (f : Fate) (threads : List ThreadNo) (w after : Engine) → after ≡ engine_after_step f threads w
    → IsCodeOf code w.kernel.guest.mem → IsCodeOf code after.kernel.guest.mem
code-turned code f threads w after is stands =
    let same = ap (λ (x : Engine). x.kernel) is ∙ turned-sys f threads w in
    subst (λ (s : Kernel). IsCodeOf code s.guest.mem) (sym same) stands

-- a call changes nothing that is still kept once its reach was forgotten
pub code-called : (old new : Code) (reach : Reach) (step : Result (Effect × Kernel) ℕ) (s : Kernel) (result : Result Effect SysEnd)
    (now : Kernel) → Calls step s result now → OnErr result (now ≡ s)
    → IfOk step (λ done. IsWithin reach s.guest.mem done.1.guest.mem)
    → ((q : ℕ) (i : Instr) → map.get new q ≡ Some i → map.get old q ≡ Some i)
    → ((q : ℕ) (i : Instr) → map.get new q ≡ Some i → (q + 4 ≤ reach.address) ⊎ (reach.address + reach.bytes ≤ q))
    → IsCodeOf old s.guest.mem → IsCodeOf new now.guest.mem
unfolding instruction_at
code-called old new reach step s (Ok effect) now calls refused within fewer apart code =
    let same : IsWithin reach s.guest.mem now.guest.mem
    = subst (λ (r : Result (Effect × Kernel) ℕ). IfOk r (λ done. IsWithin reach s.guest.mem done.1.guest.mem)) calls within in
    λ pc i below aligned given.
    ap (option_and_then decode) (same 4 pc 4 (omega arith) below (apart pc i given))
    ∙ code pc i below aligned (fewer pc i given)
code-called old new reach step s (Err e) now calls refused within fewer apart code =
    subst (λ (t : Kernel). IsCodeOf new t.guest.mem) (sym refused)
    (λ pc i below aligned given. code pc i below aligned (fewer pc i given))
