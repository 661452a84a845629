-- The number of an instruction among those from an address on, found by one turn of its distance.
use Rattle.std.proofs.Common.{◌≡◌, ℕ, ◌+◌, ◌*◌, ◌/◌, ◌%◌, ◌-◌, ◌^◌, ◌<◌, ◌∙◌, ap, arith}
use Rattle.std.specs.Int.{rotate_right, w32}
use Rattle.std.specs.Int.RustNames.{bit_or}
use Rattle.std.proofs.lemmas.Nat.{or_comm, or_shifted}

-- a quarter of the distance, with what is left of it in front
turned : (d : ℕ) → d < 2 ^ 32 → rotate_right w32 d 2 ≡ (d % 4) * 2 ^ 30 + d / 4
turned d small =
    let front : (d * 2 ^ 30) % 2 ^ 32 ≡ (d % 4) * 2 ^ 30 = omega (arith) in
    let low : d / 4 < 2 ^ 30 = omega (arith, small) in
    ap (λ f. bit_or (d / 4) f) front ∙ or_comm (d / 4) ((d % 4) * 2 ^ 30) ∙ or_shifted (d % 4) 30 (d / 4) low

-- A number within those of the instructions is that of the address.
pub number_is : (pc first len k : ℕ) → pc < 2 ^ 32 → first < 2 ^ 32 → first + 4 * len < 2 ^ 32
    → k ≡ rotate_right w32 ((pc + (2 ^ 32 - first)) % 2 ^ 32) 2 → k < len → pc ≡ first + 4 * k
number_is pc first len k pc_small first_small within is below =
    let d = (pc + (2 ^ 32 - first)) % 2 ^ 32 in
    let small : d < 2 ^ 32 = omega (arith) in
    let same : k ≡ (d % 4) * 2 ^ 30 + d / 4 = is ∙ turned d small in
    let whole : d ≡ 4 * k = omega (arith, same, below, within) in
    omega (arith, pc_small, first_small, within, below, whole)
