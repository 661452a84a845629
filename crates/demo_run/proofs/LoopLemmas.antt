-- The rounds of a loop amid other threads.
use Rattle.std.proofs.Common.{drop, inl, inr, sym}
use Rattle.std.proofs.Common.{◌≡◌, ℕ, zero, suc, ◌+◌, ◌*◌, ◌%◌, ◌^◌, ◌<◌, List, ◌∷◌, refl, arith, subst}
use Rattle.std.proofs.Common.{pos, not, true}
use Rattle.std.specs.Prelude.{◌==◌}
use Rattle.std.proofs.lemmas.Bool.Decides.{nat_tests}
use Rattle.guest_mem.specs.Memory.{Memory}
use Rattle.demo_make.specs.Functions.{child, loop, main}
use Rattle.demo_make.specs.Instructions.{less, offset}
use Rattle.demo_make.specs.Layout.{child_addr, code_addr, function_addr}
use Rattle.demo_run.proofs.Going.{Holds}
use Rattle.demo_run.proofs.Amid.{IsHeld, IsLoop, IsLoopFrame, Slot, Will, call_steps}
use Rattle.demo_run.proofs.CallLemmas.{call, leads}
use Rattle.demo_run.proofs.MoveLemmas.{First, holds_part, stands}
use Rattle.demo_run.proofs.WillLemmas.{will-addi, will-jal, will-leave, will-repeat}

some_left : (r : ℕ) → not (suc r == 0) ≡ true
some_left r = grind (arith, nat_tests)

-- where they stand
pub loop_there : (size base len addr : ℕ) (slots : List Slot) → IsLoop addr → (m : Memory)
    → IsHeld size base len slots m
    → Holds m addr (loop addr size)
loop_there size base len addr slots (inl is) m h =
    subst (λ a. Holds m a (loop a size)) (sym is) (holds_part m child_addr (child size) 0 6 h.child)
loop_there size base len addr slots (inr is) m h =
    subst (λ a. Holds m a (loop a size)) (sym is) (holds_part m code_addr (main size) 30 6 h.main)

pub loop_low : (addr : ℕ) → IsLoop addr → addr < 2 ^ 20
loop_low addr (inl is) = omega arith
loop_low addr (inr is) = omega arith

pub loop_aligned : (addr : ℕ) → IsLoop addr → addr % 4 ≡ 0
loop_aligned addr (inl is) = omega arith
loop_aligned addr (inr is) = omega arith

module _ (size base len addr low x3 x4 x5 s0 : ℕ) (others : List ℕ) (slots : List Slot) (loop_is : IsLoop addr)
    (frame : IsLoopFrame base len low s0 slots) where
  abbrev regs : ℕ → ℕ → ℕ → ℕ → ℕ → List ℕ
  regs ra t1 t2 s1 a0 = 0 ∷ ra ∷ (low + 16) ∷ x3 ∷ x4 ∷ x5 ∷ t1 ∷ t2 ∷ s0 ∷ s1 ∷ a0 ∷ others

  code : (j : ℕ) (m : Memory) → IsHeld size base len slots m → First m (addr + 4 * j) (drop j (loop addr size))
  code j m h = stands m addr (loop addr size) j (loop_there size base len addr slots loop_is m h)

  -- f0 is called with 5
  called : (ra t1 t2 s1 a0 left : ℕ) (Post : ℕ → List ℕ → List Slot → Type 0)
      → ((t1' t2' a0' : ℕ) → Will size base len left (addr + 16) (regs (addr + 16) t1' t2' s1 a0') slots Post)
      → Will size base len (suc (suc (call_steps 5 + left))) (addr + 8) (regs ra t1 t2 s1 a0) slots Post
  called ra t1 t2 s1 a0 left Post goes_on =
      let here = loop_low addr loop_is in
      let aligned = loop_aligned addr loop_is in
      will-addi size base len (suc (call_steps 5 + left)) Post (addr + 8) _ slots (addr + 12) (omega arith) 10 0
      (pos 5) 5 (code 2) refl
      (will-jal size base len (call_steps 5 + left) Post (addr + 12) (regs ra t1 t2 s1 5) slots (function_addr 0)
      (omega arith)
      1 (offset (addr + 4 * 3) (function_addr 0)) (addr + 16) (code 3)
      (leads (addr + 12) (addr + 4 * 3) (function_addr 0) (omega arith) (omega arith) (omega arith)) (omega arith)
      (call size base len 5 (omega arith) 0 (omega arith)
      (record {
        ra = addr + 16;
        low = low;
        x3 = x3;
        x4 = x4;
        x5 = x5;
        t1 = t1;
        t2 = t2;
        s0 = s0;
        s1 = s1;
        rest =
            others;
      }) slots
      (record {
        low = frame.low;
        high = frame.high;
        room = frame.room;
        top = frame.top;
        ra = omega arith;
        ra_aligned = omega arith;
        s0 = frame.s0;
        above = frame.above;
      }) left Post goes_on))

  -- so many rounds, and one
  pub rounds : (r : ℕ) → r < 2 ^ 20 → (ra t1 t2 a0 more : ℕ) (Post : ℕ → List ℕ → List Slot → Type 0)
      → ((t1' t2' a0' : ℕ) → Will size base len more (addr + 24) (regs (addr + 16) t1' t2' 0 a0') slots Post)
      → Will size base len (947 * suc r + more) (addr + 8) (regs ra t1 t2 (suc r) a0) slots Post
  rounds zero lt ra t1 t2 a0 more Post goes_on =
      let here = loop_low addr loop_is in
      let count : suc (suc (call_steps 5 + suc (suc more))) ≡ 947 * suc zero + more = omega arith in
      subst (λ q. Will size base len q (addr + 8) (regs ra t1 t2 1 a0) slots Post) count
      (called ra t1 t2 1 a0 (suc (suc more)) Post (λ t1' t2' a0'.
      will-addi size base len (suc more) Post (addr + 16) _ slots (addr + 20) (omega arith) 9 9 (less 1) 0 (code 4) refl
      (will-leave size base len more Post (addr + 20) _ slots (addr + 24) (omega arith) 9 0 (less (4 * 3)) (code 5) refl
      (goes_on t1' t2' a0'))))
  rounds (suc r) lt ra t1 t2 a0 more Post goes_on =
      let here = loop_low addr loop_is in
      let aligned = loop_aligned addr loop_is in
      let count : suc (suc (call_steps 5 + suc (suc (947 * suc r + more)))) ≡ 947 * suc (suc r) + more = omega arith in
      subst (λ q. Will size base len q (addr + 8) (regs ra t1 t2 (suc (suc r)) a0) slots Post) count
      (called ra t1 t2 (suc (suc r)) a0 (suc (suc (947 * suc r + more))) Post (λ t1' t2' a0'.
      will-addi size base len (suc (947 * suc r + more)) Post (addr + 16) _ slots (addr + 20) (omega arith) 9 9
      (less 1) (suc r)
      (code 4) (omega arith)
      (will-repeat size base len (947 * suc r + more) Post (addr + 20) _ slots (addr + 8) (omega arith) 9 0
      (less (4 * 3)) (code 5)
      (some_left r) (omega arith) (rounds r (omega arith) (addr + 16) t1' t2' a0' more Post goes_on))))
