-- Loads and stores, from what the calls of the memory say.
use Rattle.std.proofs.Common.{◌≡◌, ℕ, refl, ap, ◌∙◌, arith}
use Rattle.std.specs.Prelude.{Option, Some, None, Result, Ok, Err, OnErr, is_ok, if◌then◌else◌}
use Rattle.std.specs.Option.{option_map}
use Rattle.event_costs.specs.declared.event.Regs.{Regs}
use Rattle.event_costs.specs.declared.event.Flow.TheVariants.{Plain}
use Rattle.event_costs.specs.declared.event.Touch.TheVariants as touch
use Rattle.event_costs.specs.declared.event.Branch.TheVariants as branch
use Rattle.rv_decode.specs.declared.instr.Instr.{Instr}
use Rattle.guest_mem.specs.Memory.{prot_read, prot_write, Memory, may, load_at, store_at, bytes_of}
use Rattle.rv_step.specs.Forms.{HartState, outcome, register, address, at, retirement, following, retires, reads, loads, stores}
use Rattle.rv_step.specs.declared.stepped.Stepped.{Stepped}
use Rattle.rv_step.specs.declared.stepped.Stepped.TheVariants.{Trap}

pub map-same : (o : Option ℕ) → o ≡ option_map (λ n. n) o
map-same None = refl
map-same (Some n) = refl

-- a load from what was loaded at its address
pub loads-from : (i : Instr) (s : HartState) (n : ℕ) (view : ℕ → ℕ) (a : ℕ) (r : Option ℕ) → a ≡ address i s
    → r ≡ option_map view (load_at s.memory prot_read a n) → reads i s s.held a n r ≡ loads i s n view
unfolding loads
loads-from i s n view a r at_address given =
    ap (λ (o : Option ℕ). reads i s s.held a n o) given
    ∙ ap (λ (q : ℕ). reads i s s.held q n (option_map view (load_at s.memory prot_read q n))) at_address

-- a store from what was stored at its address
pub stores-from : {T E : Type 0} (i : Instr) (s : HartState) (n w a v : ℕ) (res : Result T E) (answer : Stepped) (r : Regs)
    (m : Memory) → w ≡ n → a ≡ address i s → v ≡ register i.rs2 s → is_ok res ≡ may s.memory prot_write a n
    → m ≡ store_at s.memory a (bytes_of n v) → OnErr res (m ≡ s.memory)
    → answer
    ≡ (if is_ok res then retirement s.regs (at s.regs (following s.regs)) Plain (touch.Write a w) branch.Nothing else Trap 11)
    → r ≡ (if is_ok res then at s.regs (following s.regs) else s.regs) → outcome answer r m s.held ≡ stores i s n
unfolding stores retires
stores-from i s n w a v (Ok x) answer r m width at_address value allowed after refused answered moved = grind arith
stores-from i s n w a v (Err e) answer r m width at_address value allowed after refused answered moved = grind arith
