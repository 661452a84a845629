-- Instructions whose bytes stand in memory.
use Rattle.std.proofs.Common.{◌≡◌, ℕ, zero, suc, ◌+◌, ◌-◌, ◌*◌, ◌^◌, ◌<◌, true, List, [], ◌∷◌, ◌++◌, length, get_or}
use Rattle.std.proofs.Common.{map, refl, sym, ap, ◌∙◌, arith, subst}
use Rattle.std.proofs.Common.{Some, length-append}
use Rattle.std.specs.List.{All, range_with_len}
use Rattle.std.specs.Option.{option_and_then}
use Rattle.std.proofs.lemmas.List.{get_or_append_left, get_or-append_right}
use Rattle.std.proofs.lemmas.List.Elements.{All-head, All-tail}
use Rattle.guest_mem.specs.Memory.{Memory, allows_at, byte_at, number_of}
use Rattle.demo_run.proofs.Others.{bytes_at-is, decoded-encoded, encoded-below, loaded_bytes, may-from}
use Rattle.rv_decode.specs.declared.instr.Instr.{Instr}
use Rattle.rv_decode.specs.Decoded.{decode}
use Rattle.rv_decode.specs.Encoded.{IsInRange, encode}
use Rattle.rv_step.specs.Code.{instruction_at}
use Rattle.prog_make.specs.Code.{code_of}
use Rattle.prog_make.specs.Encoding.{word_bytes}
use Rattle.demo_make.specs.Draws.{choice}
use Rattle.demo_make.specs.Functions.{function}
use Rattle.demo_make.specs.Program.{instructions, numbered_routine}
use Rattle.demo_run.proofs.Going.{Holds}

-- these bytes stand from an address on, and may be executed
pub record Stands (m : Memory) (a : ℕ) (bytes : List ℕ) : Type 0 where
  pub byte : (k : ℕ) → k < length bytes → byte_at m (a + k) ≡ get_or bytes k 0
  pub runs : (k : ℕ) → k < length bytes → allows_at m 4 (a + k) ≡ true

stands_first : (m : Memory) (a : ℕ) (xs ys : List ℕ) → Stands m a (xs ++ ys) → Stands m a xs
stands_first m a xs ys s =
    let long = length-append xs ys in
    record {
      byte = λ k lt. s.byte k (omega arith) ∙ get_or_append_left xs ys 0 k lt;
      runs = λ k lt. s.runs k (omega arith);
    }

stands_rest : (m : Memory) (a : ℕ) (xs ys : List ℕ) → Stands m a (xs ++ ys) → Stands m (a + length xs) ys
stands_rest m a xs ys s =
    let long = length-append xs ys in
    record {
      byte = λ k lt. ap (byte_at m) (place k) ∙ s.byte (length xs + k) (omega arith)
          ∙ get_or-append_right xs ys (length xs) (length xs + k) 0 refl (omega arith) ∙ ap (λ j. get_or ys j 0)
          (back k);
      runs = λ k lt. ap (allows_at m 4) (place k) ∙ s.runs (length xs + k) (omega arith);
    }
  where
    place : (k : ℕ) → a + length xs + k ≡ a + (length xs + k)
    place k = omega arith

    back : (k : ℕ) → length xs + k - length xs ≡ k
    back k = omega arith

word : (n : ℕ) → n < 2 ^ 32 → n ≡ number_of (word_bytes n)
word n lt = omega arith

stands_instruction : (m : Memory) (a : ℕ) (i : Instr) → IsInRange i → Stands m a (word_bytes (encode i))
    → instruction_at m a ≡ Some i
unfolding instruction_at
stands_instruction m a i ranged s =
    ap (option_and_then decode)
    (sym (loaded_bytes m 4 a 4 (encode i) (may-from m 4 a 4 s.runs)
    (word (encode i) (encoded-below i ranged) ∙ ap number_of (sym (bytes_at-is m a (word_bytes (encode i)) s.byte)))))
    ∙ decoded-encoded i ranged

pub stands_code : (m : Memory) (a : ℕ) (is : List Instr) → All IsInRange is → Stands m a (code_of is) → Holds m a is
unfolding code_of
stands_code m a [] ranged s = tt
stands_code m a (i ∷ is) ranged s = (
  stands_instruction m a i (All-head IsInRange i is ranged) (stands_first m a (word_bytes (encode i)) (code_of is) s),
  stands_code m (a + 4) is (All-tail IsInRange i is ranged) (stands_rest m a (word_bytes (encode i)) (code_of is) s),
)

-- ---- parts

pub holds_both : (m : Memory) (a : ℕ) (xs ys : List Instr) → Holds m a (xs ++ ys)
    → Holds m a xs × Holds m (a + 4 * length xs) ys
holds_both m a [] ys h = (let same : a + 4 * 0 ≡ a = omega arith in (tt, subst (λ p. Holds m p ys) (sym same) h))
holds_both m a (x ∷ xs) ys h =
    let rest = holds_both m (a + 4) xs ys h.1 in
    let same : a + 4 + 4 * length xs ≡ a + 4 * suc (length xs) = omega arith in
    ((h.0, rest.0), subst (λ p. Holds m p ys) same rest.1)

-- one of f0 to f31 among those from a number on
pub holds_function : (m : Memory) (a size from n k : ℕ) → k < n
    → Holds m a (instructions (map (numbered_routine size) (range_with_len from n)))
    → Holds m (a + 4 * 17 * k) (function (from + k) (choice size (from + k)))
holds_function m a size from zero k lt h = absurd (omega arith)
holds_function m a size from (suc n) zero lt h =
    let place : a + 4 * 17 * 0 ≡ a = omega arith in
    let number : from + 0 ≡ from = omega arith in
    subst (λ p. Holds m p (function (from + 0) (choice size (from + 0)))) (sym place)
    (subst (λ j. Holds m a (function j (choice size j))) (sym number)
    (holds_both m a (function from (choice size from))
    (instructions (map (numbered_routine size) (range_with_len (from + 1) n))) h).0)
holds_function m a size from (suc n) (suc k) lt h =
    let place : a + 4 * 17 + 4 * 17 * k ≡ a + 4 * 17 * suc k = omega arith in
    let number : from + 1 + k ≡ from + suc k = omega arith in
    subst (λ p. Holds m p (function (from + suc k) (choice size (from + suc k)))) place
    (subst (λ j. Holds m (a + 4 * 17 + 4 * 17 * k) (function j (choice size j))) number
    (holds_function m (a + 4 * 17) size (from + 1) n k (omega arith)
    (holds_both m a (function from (choice size from))
    (instructions (map (numbered_routine size) (range_with_len (from + 1) n))) h).1))
