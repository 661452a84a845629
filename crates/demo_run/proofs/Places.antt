-- What a thread of the demonstration does between two system calls.
use Rattle.std.specs.Prelude.{ℕ, ◌+◌, ◌*◌, ◌≡◌, List, ◌∷◌}
use Rattle.demo_make.specs.Layout.{code_addr}
use Rattle.demo_run.proofs.Amid.{Slot}

-- registers, but for x0, by their names in the calling convention; those from s2 on aren't used
pub record Registers : Type 0 where
  pub ra : ℕ
  pub sp : ℕ
  pub gp : ℕ
  pub tp : ℕ
  pub t0 : ℕ
  pub t1 : ℕ
  pub t2 : ℕ
  pub s0 : ℕ
  pub s1 : ℕ
  pub a0 : ℕ
  pub a1 : ℕ
  pub a2 : ℕ
  pub a3 : ℕ
  pub a4 : ℕ
  pub a5 : ℕ
  pub a6 : ℕ
  pub a7 : ℕ
  pub others : List ℕ

abbrev pub listed : Registers → List ℕ
listed r =
    0 ∷ r.ra ∷ r.sp ∷ r.gp ∷ r.tp ∷ r.t0 ∷ r.t1 ∷ r.t2 ∷ r.s0 ∷ r.s1
    ∷ r.a0 ∷ r.a1 ∷ r.a2 ∷ r.a3 ∷ r.a4 ∷ r.a5 ∷ r.a6 ∷ r.a7 ∷ r.others

-- a thread is at this pc with these registers, and what it stored is as it was
abbrev pub IsAt : ℕ → Registers → List Slot → ℕ → List ℕ → List Slot → Type 0
IsAt there r slots pc x after = (pc ≡ there) × (x ≡ listed r) × (after ≡ slots)

-- the same, with any values in the registers that a loop changes
abbrev pub IsBehind : ℕ → (Registers → Registers) → Registers → List Slot → ℕ → List ℕ → List Slot → Type 0
IsBehind there f r slots pc x after =
    (ra : ℕ) × (t1 : ℕ) × (t2 : ℕ) × (a0 : ℕ)
    × IsAt there (f (record r { ra = ra; t1 = t1; t2 = t2; s1 = 0; a0 = a0 })) slots pc x after

-- the word that is a thread's number until it ends
abbrev pub word_of : ℕ → ℕ
word_of t = 0x21000 + 4 * t

-- where main makes the thread t, counted from 0, and where it looks at the word of that thread
abbrev pub start_addr : ℕ → ℕ
start_addr t = code_addr + 40 * t

abbrev pub await_addr : ℕ → ℕ
await_addr t = code_addr + 144 + 36 * t

-- the registers at the call that makes the thread t
abbrev pub cloning : ℕ → Registers → Registers
cloning t r = record r {
  a0 = 0x7d0f00;
  a1 = 0x28000 + 0x4000 * t;
  a2 = word_of (t + 1);
  a3 = 0;
  a4 = word_of (t + 1);
  a7 = 220;
}

-- at the look at the word of the thread t, and at the call that waits there
abbrev pub looking : ℕ → Registers → Registers
looking t r = record r { a0 = word_of (t + 1) }

abbrev pub waiting : Registers → Registers
waiting r = record r { a1 = 0; a3 = 0; a7 = 422 }

-- at a call with one argument, 0
abbrev pub ending : ℕ → Registers → Registers
ending number r = record r { a0 = 0; a7 = number }
