-- The steps of a thread of the demonstration amid those of others, which may change the counters and their own stacks.
use Rattle.std.specs.Prelude.{ℕ, zero, suc, ◌+◌, ◌*◌, ◌%◌, ◌^◌, ◌<◌, ◌≤◌, ◌≡◌, ◌⊎◌, true, List, [], ◌∷◌, Option, Some}
use Rattle.guest_mem.specs.Memory.{Memory, load_at, may}
use Rattle.rv_step.specs.Effects.{step_of}
use Rattle.rv_step.specs.Forms.{Outcome}
use Rattle.rv_step.specs.Promises.{UnlessRetired}
use Rattle.demo_make.specs.Draws.{choice}
use Rattle.demo_make.specs.Functions.{function, main, child}
use Rattle.demo_make.specs.Layout.{code_addr, child_addr, function_addr}
use Rattle.demo_run.proofs.Going.{Frame, Holds, hart}

-- a word of a stack: its address and its value
pub record Slot : Type 0 where
  pub addr : ℕ
  pub value : ℕ

abbrev pub AreStored : Memory → List Slot → Type 0
AreStored m [] = Unit {0}
AreStored m (s ∷ slots) = (load_at m 1 s.addr 4 ≡ Some s.value) × AreStored m slots

-- they lie at or above an address
abbrev pub AreAbove : ℕ → List Slot → Type 0
AreAbove low [] = Unit {0}
AreAbove low (s ∷ slots) = (low ≤ s.addr) × AreAbove low slots

-- they lie in a range
abbrev pub AreIn : ℕ → ℕ → List Slot → Type 0
AreIn base len [] = Unit {0}
AreIn base len (s ∷ slots) = (base ≤ s.addr) × (s.addr + 4 ≤ base + len) × AreIn base len slots

-- The program of a size stands in memory, with its zeros, a thread's stack and what the thread stored there.
pub record IsHeld (size base len : ℕ) (slots : List Slot) (m : Memory) : Type 0 where
  pub code : (k : ℕ) → k < 32 → Holds m (function_addr k) (function k (choice size k))
  pub main : Holds m code_addr (main size)
  pub child : Holds m child_addr (child size)
  pub reads_stack : may m 1 base len ≡ true
  pub writes_stack : may m 2 base len ≡ true
  pub reads_data : may m 1 0x20000 0x10000 ≡ true
  pub writes_data : may m 2 0x20000 0x10000 ≡ true
  pub stored : AreStored m slots
  pub within : AreIn base len slots

-- another stack
pub record IsOther (base len other width : ℕ) : Type 0 where
  pub low : 0x20800 ≤ other
  pub apart : (base + len ≤ other) ⊎ (other + width ≤ base)

-- what other threads hold in the one memory they hold in the other
abbrev pub Keeps : ℕ → ℕ → ℕ → Memory → Memory → Type 0
Keeps size base len m after = (other width : ℕ) (slots : List Slot) → IsOther base len other width
    → IsHeld size other width slots m → IsHeld size other width slots after

-- A step retires with these registers, and the thread goes on, whatever stands in memory beside what it holds.
pub record IsNext (size base len : ℕ) (m : Memory) (o : Outcome) (Rest : ℕ → List ℕ → List Slot → Type 0) : Type 0 where
  pub pc : ℕ
  pub x : List ℕ
  pub slots : List Slot
  pub retires : UnlessRetired o.stepped ⊥
  pub pc_is : o.after.regs.pc ≡ pc
  pub x_is : o.after.regs.x ≡ x
  pub held : IsHeld size base len slots o.after.memory
  -- it leaves to others what they hold
  pub keeps : Keeps size base len m o.after.memory
  pub rest : Rest pc x slots

abbrev pub Will : ℕ → ℕ → ℕ → ℕ → ℕ → List ℕ → List Slot → (ℕ → List ℕ → List Slot → Type 0) → Type 0
Will size base len zero pc x slots Post = Post pc x slots
Will size base len (suc n) pc x slots Post =
    (m : Memory) (held : Option ℕ) → IsHeld size base len slots m
    → IsNext size base len m (step_of (hart pc x m held)) (λ pc' x' slots'. Will size base len n pc' x' slots' Post)

-- how many steps a call of one of f0 to f31 takes
abbrev pub call_steps : ℕ → ℕ
call_steps zero = 13
call_steps (suc n) = 17 + 2 * call_steps n

-- a frame lies on the stack, with room for calls so deep below it
pub record IsFrame (base len depth : ℕ) (f : Frame) (slots : List Slot) : Type 0 where
  pub low : 0x20800 ≤ base
  pub high : base + len < 2 ^ 31
  pub room : base + 16 * depth ≤ f.low
  pub top : f.low + 16 ≤ base + len
  pub ra : f.ra < 2 ^ 32
  pub ra_aligned : f.ra % 4 ≡ 0
  pub s0 : f.s0 < 2 ^ 32
  pub above : AreAbove (f.low + 16) slots

-- the loops of main and child begin here
abbrev pub IsLoop : ℕ → Type 0
IsLoop addr = (addr ≡ child_addr) ⊎ (addr ≡ code_addr + 4 * 30)

-- the frame of a loop's function, with room for the calls of f0 with 5
pub record IsLoopFrame (base len sp word : ℕ) (slots : List Slot) : Type 0 where
  pub low : 0x20800 ≤ base
  pub high : base + len < 2 ^ 31
  pub room : base + 80 ≤ sp
  pub top : sp + 16 ≤ base + len
  pub s0 : word < 2 ^ 32
  pub above : AreAbove (sp + 16) slots
