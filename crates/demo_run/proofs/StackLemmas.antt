-- What belongs to two numbers lies apart.
use Rattle.std.proofs.Common.{◌≡◌, ◌≢◌, ℕ, zero, suc, ◌+◌, ◌≤◌, Bool, false, ltb, refl, arith, inl, inr, ltb-true}
use Rattle.std.proofs.Common.{ltb-false}
use Rattle.std.proofs.Common.{List, [], ◌∷◌, ◌<◌, ◌-◌, Some, true, subst}
use Rattle.guest_mem.specs.Memory.{Memory, load_at, may}
use Rattle.demo_run.proofs.MemoryLemmas.{may-part}
use Rattle.demo_run.proofs.Amid.{IsHeld, IsOther, Keeps, Slot}
use Rattle.demo_run.proofs.Places.{word_of}
use Rattle.demo_run.proofs.Ways.{own_base, own_len}

pub apart : (a b : ℕ) → a ≤ 4 → b ≤ 4 → a ≢ b → IsOther (own_base a) (own_len a) (own_base b) (own_len b)
apart zero zero la lb other = absurd (other refl)
apart zero (suc zero) la lb other = record { low = omega arith; apart = inl (omega arith) }
apart zero (suc (suc k)) la lb other = record { low = omega arith; apart = inl (omega arith) }
apart (suc zero) zero la lb other = record { low = omega arith; apart = inr (omega arith) }
apart (suc zero) (suc zero) la lb other = absurd (other refl)
apart (suc zero) (suc (suc k)) la lb other = record { low = omega arith; apart = inr (omega arith) }
apart (suc (suc j)) zero la lb other = record { low = omega arith; apart = inr (omega arith) }
apart (suc (suc j)) (suc zero) la lb other = record { low = omega arith; apart = inl (omega arith) }
apart (suc (suc j)) (suc (suc k)) la lb other = go (ltb j k) refl
  where
    go : (b : Bool) → ltb j k ≡ b → IsOther (own_base (suc (suc j))) (own_len (suc (suc j))) (own_base (suc (suc k)))
        (own_len (suc (suc k)))
    go true is = (let lt = ltb-true j k is in record { low = omega arith; apart = inl (omega arith) })
    go false is = (let ge = ltb-false j k is in record { low = omega arith; apart = inr (omega arith) })

-- ---- a word

word_apart : (n k : ℕ) → k < 3 → 1 ≤ n → n ≤ 4 → IsOther (own_base n) (own_len n) (word_of (k + 1)) 4
word_apart zero k lt some few = absurd (omega arith)
word_apart (suc zero) k lt some few = record { low = omega arith; apart = inr (omega arith) }
word_apart (suc (suc j)) k lt some few = record { low = omega arith; apart = inr (omega arith) }

pub word_may : (want k : ℕ) (m : Memory) → k < 3 → may m want 0x20000 0x10000 ≡ true → may m want (word_of (k + 1)) 4
    ≡ true
word_may want k m lt ok =
    let place : 0x20000 + (word_of (k + 1) - 0x20000) ≡ word_of (k + 1) = omega arith in
    subst (λ a. may m want a 4 ≡ true) place
    (may-part m want 0x20000 0x10000 (word_of (k + 1) - 0x20000) 4 (omega arith) ok)

-- a word is kept by the steps of threads
pub word_kept : (size n k v : ℕ) (slots : List Slot) (m after : Memory) → k < 3 → 1 ≤ n → n ≤ 4
    → IsHeld size (own_base n) (own_len n) slots m → Keeps size (own_base n) (own_len n) m after
    → load_at m 1 (word_of (k + 1)) 4 ≡ Some v → load_at after 1 (word_of (k + 1)) 4 ≡ Some v
word_kept size n k v slots m after lt some few h keeps is =
    (keeps (word_of (k + 1)) 4 (record { addr = word_of (k + 1); value = v } ∷ []) (word_apart n k lt some few)
    (record {
      code = h.code;
      main = h.main;
      child = h.child;
      reads_stack = word_may 1 k m lt h.reads_data;
      writes_stack = word_may 2 k m lt h.writes_data;
      reads_data = h.reads_data;
      writes_data = h.writes_data;
      stored = (is, tt);
      within = (omega arith, omega arith, tt);
    })).stored.0
