-- The number of a kind, as the code has it, and the list of what an event costs as it grows kind by kind.
use Rattle.std.proofs.Common.{◌≡◌, ◌≢◌, ℕ, ◌*◌, ◌^◌, ◌%◌, ◌<◌, ◌⊎◌, inl, inr, true, false, get_or, refl, sym, ◌∙◌, subst, arith}
use Rattle.std.proofs.Common.{slice_set, bit_or, w16}
use Rattle.std.proofs.lemmas.Bool.Decides.{eqb_tells}
use Rattle.std.proofs.Math.Dec.{eqb}
use Rattle.std.specs.Int.{bit_at}
use Rattle.std.proofs.lemmas.Nat.Bits.{bit_at_set_other, bit_at_set_same}
use Rattle.std.proofs.lemmas.List.{get_or-set_other, get_or-set_same, length-set}
use denote.Enum.Declared.{tag_of}
use Rattle.event_costs.specs.contracts.kind.Kind.{the_type}
use Rattle.event_costs.specs.declared.kind.Kind.{Kind}
use Rattle.event_costs.specs.declared.kind.Kind.TheVariants.{Ir, Dr, Dw, I1mr, D1mr, D1mw, ILmr, DLmr, DLmw}
use Rattle.event_costs.specs.declared.kind.Kind.TheVariants.{Bc, Bcm, Bi, Bim}
use Rattle.event_costs.specs.Costs.{event_kinds, no_cost}
use Rattle.event_costs.specs.Kinds.{number}
use Rattle.event_costs.specs.inner.Bits.{ones_in}
use Rattle.event_costs.proofs.OneLemmas.{length-ones_in, ones_from_places, ones_in_at}

pub number_is : (kind : Kind) → tag_of the_type kind ≡ number kind
number_is Ir = refl
number_is Dr = refl
number_is Dw = refl
number_is I1mr = refl
number_is D1mr = refl
number_is D1mw = refl
number_is ILmr = refl
number_is DLmr = refl
number_is DLmw = refl
number_is Bc = refl
number_is Bcm = refl
number_is Bi = refl
number_is Bim = refl

pub number_few : (kind : Kind) → number kind < event_kinds
number_few Ir = omega arith
number_few Dr = omega arith
number_few Dw = omega arith
number_few I1mr = omega arith
number_few D1mr = omega arith
number_few D1mw = omega arith
number_few ILmr = omega arith
number_few DLmr = omega arith
number_few DLmw = omega arith
number_few Bc = omega arith
number_few Bcm = omega arith
number_few Bi = omega arith
number_few Bim = omega arith

-- one more kind is one more bit
pub with_is : (bits n : ℕ) → n < event_kinds → ones_in (bit_or bits (1 * 2 ^ n % 65536)) ≡ slice_set (ones_in bits) n 1
with_is bits n few =
    sym (ones_from_places (bit_or bits (1 * 2 ^ n % 65536)) (slice_set (ones_in bits) n 1)
    (length-set (ones_in bits) n 1 ∙ length-ones_in bits) (λ k lt. at k lt (eqb_tells k n)))
  where
    at : (k : ℕ) → k < event_kinds → ((eqb k n ≡ true) × (k ≡ n)) ⊎ ((eqb k n ≡ false) × (k ≢ n))
        → get_or (slice_set (ones_in bits) n 1) k 0 ≡ bit_at (bit_or bits (1 * 2 ^ n % 65536)) k
    at k lt (inl same) =
        subst (λ (j : ℕ). get_or (slice_set (ones_in bits) n 1) j 0 ≡ bit_at (bit_or bits (1 * 2 ^ n % 65536)) j)
        (sym same.1)
        (get_or-set_same (ones_in bits) n 1 0 (let e = length-ones_in bits in omega arith)
        ∙ sym (bit_at_set_same w16 bits n (omega arith)))
    at k lt (inr other) =
        get_or-set_other (ones_in bits) n k 1 0 other.1
        ∙ ones_in_at bits k lt
        ∙ sym (bit_at_set_other w16 bits n (omega arith) k other.1)

-- nothing counts
pub none_is : ones_in 0 ≡ no_cost
unfolding ones_in
none_is = refl
