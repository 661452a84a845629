-- Instructions in memory, and a caller's registers.
use Rattle.std.specs.Prelude.{ℕ, ◌+◌, ◌≡◌, List, [], ◌∷◌, Option, Some}
use Rattle.guest_mem.specs.Memory.{Memory}
use Rattle.rv_decode.specs.declared.instr.Instr.{Instr}
use Rattle.rv_step.specs.Code.{instruction_at}
use Rattle.rv_step.specs.Forms.{HartState, hart_state}

-- these instructions stand one after another from an address on
abbrev pub Holds : Memory → ℕ → List Instr → Type 0
Holds m a [] = Unit {0}
Holds m a (i ∷ is) = (instruction_at m a ≡ Some i) × Holds m (a + 4) is

abbrev pub hart : ℕ → List ℕ → Memory → Option ℕ → HartState
hart pc x m held = hart_state (record { pc = pc; x = x }) m held

-- a caller's registers; the stack pointer less 16
pub record Frame : Type 0 where
  pub ra : ℕ
  pub low : ℕ
  pub x3 : ℕ
  pub x4 : ℕ
  pub x5 : ℕ
  pub t1 : ℕ
  pub t2 : ℕ
  pub s0 : ℕ
  pub s1 : ℕ
  pub rest : List ℕ

abbrev pub registers : Frame → ℕ → ℕ → ℕ → List ℕ
registers f t1 t2 a0 = 0 ∷ f.ra ∷ (f.low + 16) ∷ f.x3 ∷ f.x4 ∷ f.x5 ∷ t1 ∷ t2 ∷ f.s0 ∷ f.s1 ∷ a0 ∷ f.rest
