-- Several instructions that write registers, one after another.
use Rattle.std.proofs.Common.{◌≡◌, ℕ, zero, suc, ◌+◌, ◌*◌, ◌%◌, ◌^◌, ◌<◌, List, [], ◌∷◌, length, map, take, drop, refl}
use Rattle.std.proofs.Common.{arith, subst}
use Rattle.std.proofs.Common.{ℤ, Some, pos}
use Rattle.std.specs.Prelude.{slice_index}
use Rattle.guest_mem.specs.Memory.{Memory}
use Rattle.rv_decode.specs.declared.instr.Instr.{Instr}
use Rattle.rv_step.specs.Code.{instruction_at}
use Rattle.rv_step.specs.Numbers.{wrapped}
use Rattle.demo_make.specs.Instructions.{addi, lui}
use Rattle.demo_run.proofs.Going.{Holds}
use Rattle.demo_run.proofs.Amid.{IsHeld, Slot, Will}
use Rattle.demo_run.proofs.WillLemmas.{set, will-addi, will-lui}

-- ---- where instructions stand

pub holds_drop : (m : Memory) (a : ℕ) (is : List Instr) (k : ℕ) → Holds m a is → Holds m (a + 4 * k) (drop k is)
holds_drop m a is zero h = (let same : a ≡ a + 4 * 0 = omega arith in subst (λ p. Holds m p is) same h)
holds_drop m a [] (suc k) h = tt
holds_drop m a (i ∷ is) (suc k) h =
    let same : a + 4 + 4 * k ≡ a + 4 * suc k = omega arith in
    subst (λ p. Holds m p (drop k is)) same (holds_drop m (a + 4) is k h.1)

holds_take : (m : Memory) (a : ℕ) (is : List Instr) (n : ℕ) → Holds m a is → Holds m a (take n is)
holds_take m a is zero h = tt
holds_take m a [] (suc n) h = tt
holds_take m a (i ∷ is) (suc n) h = (h.0, holds_take m (a + 4) is n h.1)

-- so many from one on
pub holds_part : (m : Memory) (a : ℕ) (is : List Instr) (k n : ℕ) → Holds m a is
    → Holds m (a + 4 * k) (take n (drop k is))
holds_part m a is k n h = holds_take m (a + 4 * k) (drop k is) n (holds_drop m a is k h)

-- the one at a place
abbrev pub First : Memory → ℕ → List Instr → Type 0
First m a [] = Unit {0}
First m a (i ∷ is) = instruction_at m a ≡ Some i

first_there : (m : Memory) (a : ℕ) (is : List Instr) → Holds m a is → First m a is
first_there m a [] h = tt
first_there m a (i ∷ is) h = h.0

pub stands : (m : Memory) (a : ℕ) (is : List Instr) (k : ℕ) → Holds m a is → First m (a + 4 * k) (drop k is)
stands m a is k h = first_there m (a + 4 * k) (drop k is) (holds_drop m a is k h)

-- ---- moves

-- an instruction that writes a register
pub data Move : Type 0 where
  add : ℕ → ℕ → ℤ → Move
  up : ℕ → ℕ → Move

abbrev pub instr_of : Move → Instr
instr_of (Move.add rd rs1 imm) = addi rd rs1 imm
instr_of (Move.up rd upper) = lui rd upper

abbrev pub moved : Move → List ℕ → List ℕ
moved (Move.add rd rs1 imm) x = set x rd ((slice_index x rs1 + wrapped imm) % 2 ^ 32)
moved (Move.up rd upper) x = set x rd (wrapped (pos (4096 * upper)))

abbrev pub all_moved : List Move → List ℕ → List ℕ
all_moved [] x = x
all_moved (i ∷ is) x = all_moved is (moved i x)

module _ (size base len n : ℕ) (Post : ℕ → List ℕ → List Slot → Type 0) (slots : List Slot) where
  will-move : (i : Move) (k pc : ℕ) (x : List ℕ) → pc + 4 < 2 ^ 32
      → ((m : Memory) → IsHeld size base len slots m → Holds m pc (instr_of i ∷ []))
      → Will size base len k (pc + 4) (moved i x) slots Post → Will size base len (suc k) pc x slots Post
  will-move (Move.add rd rs1 imm) k pc x low is rest =
      will-addi size base len k Post pc x slots (pc + 4) (omega arith) rd rs1 imm _ (λ m h. (is m h).0) refl rest
  will-move (Move.up rd upper) k pc x low is rest =
      will-lui size base len k Post pc x slots (pc + 4) (omega arith) rd upper _ (λ m h. (is m h).0) refl rest

  pub will-moves : (is : List Move) (pc : ℕ) (x : List ℕ) → pc + 4 * length is < 2 ^ 32
      → ((m : Memory) → IsHeld size base len slots m → Holds m pc (map instr_of is))
      → Will size base len n (pc + 4 * length is) (all_moved is x) slots Post
      → Will size base len (length is + n) pc x slots Post
  will-moves [] pc x low is rest =
      let place : pc + 4 * 0 ≡ pc = omega arith in
      let count : n ≡ 0 + n = omega arith in
      subst (λ k. Will size base len k pc x slots Post) count
      (subst (λ p. Will size base len n p x slots Post) place rest)
  will-moves (i ∷ is) pc x low there rest =
      let place : pc + 4 * suc (length is) ≡ pc + 4 + 4 * length is = omega arith in
      let count : suc (length is + n) ≡ suc (length is) + n = omega arith in
      subst (λ k. Will size base len k pc x slots Post) count
      (will-move i (length is + n) pc x (omega arith) (λ m h. ((there m h).0, tt))
      (will-moves is (pc + 4) (moved i x) (omega arith) (λ m h. (there m h).1)
      (subst (λ p. Will size base len n p (all_moved is (moved i x)) slots Post) place rest)))
