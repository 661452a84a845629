-- What a store of a word leaves.
use Rattle.std.proofs.Common.{◌≡◌, ℕ, ◌+◌, ◌*◌, ◌^◌, ◌<◌, ◌≤◌, ◌⊎◌, true, List, [], ◌∷◌, length, refl, sym, ap, ◌∙◌}
use Rattle.std.proofs.Common.{arith, subst}
use Rattle.std.proofs.Common.{Some, inl}
use Rattle.std.specs.Option.{option_and_then}
use Rattle.guest_mem.specs.Memory.{Memory, load_at, store_at, write_at, may, allows_at, bytes_of, number_of}
use Rattle.demo_run.proofs.Others.{bytes_at-written, elsewhere-stored, loaded_bytes, may-from, may-written, may_at}
use Rattle.demo_run.proofs.Others.{stored_when}
use Rattle.rv_decode.specs.declared.instr.Instr.{Instr}
use Rattle.rv_decode.specs.Decoded.{decode}
use Rattle.rv_step.specs.Code.{instruction_at}
use Rattle.demo_run.proofs.Going.{Holds}

-- part of a range that may be used
pub may-part : (m : Memory) (want a n from count : ℕ) → from + count ≤ n → may m want a n ≡ true
    → may m want (a + from) count ≡ true
may-part m want a n from count within ok = may-from m want (a + from) count (λ k lt.
    let same : a + (from + k) ≡ a + from + k = omega arith in
    subst (λ q. allows_at m want q ≡ true) same (may_at m want a n ok (from + k) (omega arith)))

number-bytes : (v : ℕ) → v < 2 ^ 32 → v ≡ number_of (bytes_of 4 v)
number-bytes v lt = omega arith

module _ (m : Memory) (a v : ℕ) where
  pub load-apart : (want b : ℕ) → (b + 4 ≤ a) ⊎ (a + 4 ≤ b)
      → load_at (store_at m a (bytes_of 4 v)) want b 4 ≡ load_at m want b 4
  load-apart want b apart = elsewhere-stored m (store_at m a (bytes_of 4 v)) a (bytes_of 4 v) refl want b 4 apart

  pub instruction-kept : (pc : ℕ) → pc + 4 ≤ a → instruction_at (store_at m a (bytes_of 4 v)) pc ≡ instruction_at m pc
  unfolding instruction_at
  instruction-kept pc below = ap (option_and_then decode) (load-apart 4 pc (inl below))

  pub code-kept : (from : ℕ) (is : List Instr) → from + 4 * length is ≤ a → Holds m from is
      → Holds (store_at m a (bytes_of 4 v)) from is
  code-kept from [] below holds = tt
  code-kept from (i ∷ is) below holds =
      (instruction-kept from (omega arith) ∙ holds.0, code-kept (from + 4) is (omega arith) holds.1)

  module _ (ok : may m 2 a 4 ≡ true) where
    pub may-kept : (want b n : ℕ) → may (store_at m a (bytes_of 4 v)) want b n ≡ may m want b n
    may-kept want b n = ap (λ o. may o want b n)
        (sym (stored_when m (write_at m a (bytes_of 4 v)) a (bytes_of 4 v) ok refl))
        ∙ may-written m a (bytes_of 4 v) want b n

    pub load-back : v < 2 ^ 32 → may m 1 a 4 ≡ true → load_at (store_at m a (bytes_of 4 v)) 1 a 4 ≡ Some v
    load-back small readable =
        ap (λ o. load_at o 1 a 4) (sym (stored_when m (write_at m a (bytes_of 4 v)) a (bytes_of 4 v) ok refl))
        ∙ sym (loaded_bytes (write_at m a (bytes_of 4 v)) 1 a 4 v (may-written m a (bytes_of 4 v) 1 a 4 ∙ readable)
        (number-bytes v small ∙ ap number_of (sym (bytes_at-written m 2 a (bytes_of 4 v) ok))))
