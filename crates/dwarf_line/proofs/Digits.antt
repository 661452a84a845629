-- The digits of a LEB128 number, from the last one to the first.
use Rattle.std.proofs.Common.{◌≡◌, ℕ, zero, suc, add-one, ◌+◌, ◌*◌, ◌<◌, ◌≤◌, ◌^◌, Bool, List, [], ◌∷◌, length, get_or}
use Rattle.std.proofs.Common.{drop, arith}
use Rattle.std.proofs.lemmas.List.{at_drop_more}
use Rattle.dwarf_line.specs.Leb128.{digit_of, number_of}

-- one digit more
pub number_of-drop : (flipped : Bool) (bytes : List ℕ) (i : ℕ) → i < length bytes
    → number_of flipped (drop i bytes)
    ≡ digit_of flipped (get_or bytes i 0) + 128 * number_of flipped (drop (i + 1) bytes)
number_of-drop flipped bytes i lt = at_drop_more (number_of flipped) bytes i 0 lt

-- the higher digits alone are no more than the number
pub number_of-drop-le : (flipped : Bool) (bytes : List ℕ) (i : ℕ)
    → number_of flipped (drop i bytes) ≤ number_of flipped bytes
number_of-drop-le flipped bytes zero = omega arith
number_of-drop-le flipped [] (suc i) = omega arith
number_of-drop-le flipped (b ∷ bytes) (suc i) = omega (arith, number_of-drop-le flipped bytes i)

-- a digit in front of a number that does not fit is too much
pub too_large : (flipped : Bool) (bytes : List ℕ) (i number : ℕ) → 0 < i → i ≤ length bytes
    → number ≡ number_of flipped (drop i bytes) → number_of flipped bytes < 2 ^ 64 → number * 128 < 2 ^ 64
too_large flipped bytes zero number lt le is fits = omega arith
too_large flipped bytes (suc i) number lt le is fits =
    let more : number_of flipped (drop i bytes)
    ≡ digit_of flipped (get_or bytes i 0) + 128 * number_of flipped (drop (i + 1) bytes) =
    number_of-drop flipped bytes i (omega arith) in
    let same : number ≡ number_of flipped (drop (i + 1) bytes) = rw add-one is in
    omega (arith, number_of-drop-le flipped bytes i)

-- at the first digit the number is whole
pub first_digits : (flipped : Bool) (bytes : List ℕ) (i number : ℕ) → i ≤ 0 → number ≡ number_of flipped (drop i bytes)
    → number < 2 ^ 64 → (number_of flipped bytes < 2 ^ 64) × (number ≡ number_of flipped bytes)
first_digits flipped bytes zero number le is fits = (omega arith, is)
first_digits flipped bytes (suc i) number le is fits = absurd (omega arith)
