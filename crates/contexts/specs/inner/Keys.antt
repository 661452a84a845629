-- Contexts as keys of a fixed size.
use Rattle.std.specs.Prelude.{◌≡◌, ℕ, zero, suc, ◌*◌, ◌/◌, ◌%◌, ◌<◌, ◌≤◌, ◌^◌, min, true, List, [], ◌∷◌, length, slice_index}
use Rattle.std.specs.Prelude.{slice_index_or, take}
use Rattle.std.specs.Str.{bytes_eq}
use Rattle.std.proofs.Common.{arith, refl, rules, sym}
use Rattle.std.proofs.lemmas.List.{length-take-le}
use Rattle.std.proofs.lemmas.Slice.Eq.{bytes_eq-Decides}
use Rattle.contexts.specs.Contexts.{Context}

-- What holds of its fields: there is at least one function, and zeros stand behind the last.
pub record IsCut (len : ℕ) (functions : List ℕ) : Type 0 where
  pub some : 0 < len
  pub within : len ≤ 17
  pub size : length functions ≡ 17
  pub zeros : (place : ℕ) → len ≤ place → slice_index functions place ≡ 0

-- so many numbers: those of a list, with zeros behind them
abbrev pub padded : ℕ → List ℕ → List ℕ
padded zero c = []
padded (suc n) [] = 0 ∷ padded n []
padded (suc n) (x ∷ c) = x ∷ padded n c

padded_take : (n len : ℕ) (functions : List ℕ) → length functions ≡ n
    → ((place : ℕ) → len ≤ place → slice_index functions place ≡ 0) → padded n (take len functions) ≡ functions
padded_take zero len [] size zeros = refl
padded_take zero len (x ∷ fs) size zeros = absurd (omega (arith, size))
padded_take (suc n) len [] size zeros = absurd (omega (arith, size))
padded_take (suc n) zero (x ∷ fs) size zeros =
    let rest = padded_take n zero fs (omega (arith, size)) (λ k more. zeros (suc k) (omega (arith, more))) in
    let first = zeros 0 (omega arith) in λ i. sym first i ∷ rest i
padded_take (suc n) (suc len) (x ∷ fs) size zeros =
    let rest = padded_take n len fs (omega (arith, size)) (λ k more. zeros (suc k) (omega (arith, more))) in
    λ i. x ∷ rest i

pub padded_back : (len : ℕ) (functions : List ℕ) → IsCut len functions → padded 17 (take len functions) ≡ functions
padded_back len functions cut = padded_take 17 len functions cut.size cut.zeros

pub taken_length : (len : ℕ) (functions : List ℕ) → IsCut len functions → length (take len functions) ≡ len
taken_length len functions cut = length-take-le len functions (omega (arith, cut.within, cut.size))

-- a digit by which a key is found: two bits of one of its functions
unfoldable pub digit_at : Context → ℕ → ℕ
digit_at c place = slice_index_or c (place % 17) 0 / 2 ^ (2 * min (place / 17) 15) % 4

pub few_digits : (c : Context) (place : ℕ) → digit_at c place < 4
unfolding digit_at
few_digits c place = omega arith

pub equal_contexts : (a b : Context) → bytes_eq a b ≡ true → a ≡ b
equal_contexts a b e = search (rules, bytes_eq-Decides)
