-- One way behind another.
use Rattle.std.proofs.Common.{◌≡◌, ℕ, zero, suc, ◌+◌, List, sym, arith, subst}
use Rattle.demo_run.proofs.Amid.{Slot, Will}
use Rattle.demo_run.proofs.Places.{IsAt, Registers, listed}

module _ (size base len k : ℕ) (P Q : ℕ → List ℕ → List Slot → Type 0)
    (more : (pc : ℕ) (x : List ℕ) (slots : List Slot) → P pc x slots → Will size base len k pc x slots Q) where
  pub will-then : (n pc : ℕ) (x : List ℕ) (slots : List Slot) → Will size base len n pc x slots P
      → Will size base len (n + k) pc x slots Q
  will-then zero pc x slots will =
      let count : k ≡ 0 + k = omega arith in
      subst (λ j. Will size base len j pc x slots Q) count (more pc x slots will)
  will-then (suc n) pc x slots will =
      let count : suc (n + k) ≡ suc n + k = omega arith in
      subst (λ j. Will size base len j pc x slots Q) count (λ m held h.
      let next = will m held h in record {
        pc = next.pc;
        x = next.x;
        slots = next.slots;
        retires = next.retires;
        pc_is = next.pc_is;
        x_is = next.x_is;
        held = next.held;
        keeps = next.keeps;
        rest = will-then n next.pc next.x next.slots next.rest;
      })

-- from a place on
pub from_there : (size base len k there pc : ℕ) (x : List ℕ) (r : Registers) (slots after : List Slot)
    (Q : ℕ → List ℕ → List Slot → Type 0) → IsAt there r slots pc x after
    → Will size base len k there (listed r) slots Q → Will size base len k pc x after Q
from_there size base len k there pc x r slots after Q is will =
    subst (λ p. Will size base len k p x after Q) (sym is.0)
    (subst (λ y. Will size base len k there y after Q) (sym is.1)
    (subst (λ s. Will size base len k there (listed r) s Q) (sym is.2) will))

-- another fact of the end
pub will-map : (size base len n pc : ℕ) (x : List ℕ) (slots : List Slot) (P Q : ℕ → List ℕ → List Slot → Type 0)
    → ((pc : ℕ) (x : List ℕ) (slots : List Slot) → P pc x slots → Q pc x slots) → Will size base len n pc x slots P
    → Will size base len n pc x slots Q
will-map size base len n pc x slots P Q more will =
    let count : n + 0 ≡ n = omega arith in
    subst (λ j. Will size base len j pc x slots Q) count (will-then size base len 0 P Q more n pc x slots will)
