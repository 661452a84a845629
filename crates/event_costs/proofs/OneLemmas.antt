-- Costs of 0 and 1 that are kept as bits.
use Rattle.std.proofs.Common.{◌≡◌, ℕ, zero, suc, ◌+◌, ◌*◌, ◌%◌, ◌^◌, ◌<◌, ◌≤◌, All, Bool}
use Rattle.std.proofs.Common.{true, false, List, refl, get_or, length, map, slice_set}
use Rattle.std.proofs.Common.{if◌then◌else◌, sym, ap, ◌∙◌, subst, arith, add-one}
use mir.Val.{bool_byte}
use Rattle.std.specs.Int.{bit_at}
use Rattle.std.proofs.lemmas.Nat.{div-mul-add, mod-mul-add}
use Rattle.std.proofs.lemmas.Nat.Bits.{bit_at-lt, bit_at-suc, bit_at_above, bit_at_lowest}
use Rattle.std.proofs.lemmas.Grind.{same_number_lists}
use Rattle.std.proofs.lemmas.List.Elements.{All-from_get_or}
use Rattle.std.proofs.lemmas.List.{get_or-map, get_or-set_other, get_or-set_same, length-map}
use Rattle.std.proofs.Math.Nat.{pow-suc}
use Rattle.std.proofs.Math.Pow.{pow_mono}
use Rattle.std.proofs.lemmas.List.FromFn.{get_or-map-range_with_len, length-map-range_with_len}
use Rattle.event_costs.specs.Costs.{event_kinds, sum_of_costs}
use Rattle.event_costs.specs.inner.Bits.{ones_in}
use Rattle.event_costs.proofs.CostLemmas.{zip2_from_places, zip2_at}

pub length-ones_in : (bits : ℕ) → length (ones_in bits) ≡ event_kinds
unfolding ones_in
length-ones_in bits = length-map-range_with_len (bit_at bits) 0 event_kinds

pub ones_in_at : (bits k : ℕ) → k < event_kinds → get_or (ones_in bits) k 0 ≡ bit_at bits k
unfolding ones_in
ones_in_at bits k lt = get_or-map-range_with_len (bit_at bits) 0 event_kinds k k 0 lt (omega arith)

-- a list of these bits is the one
pub ones_from_places : (bits : ℕ) (xs : List ℕ) → length xs ≡ event_kinds
    → ((k : ℕ) → k < event_kinds → get_or xs k 0 ≡ bit_at bits k) → xs ≡ ones_in bits
ones_from_places bits xs long at =
    same_number_lists xs (ones_in bits) (long ∙ sym (length-ones_in bits))
    (λ k lt. let within : k < event_kinds = let e = length-ones_in bits in omega arith in
    at k within ∙ sym (ones_in_at bits k within))

-- a sum with the ones, number by number
pub sum_from_bits : (bits : ℕ) (now numbers held ones : List ℕ) → numbers ≡ held → ones_in bits ≡ ones
    → length numbers ≡ event_kinds → length now ≡ length numbers
    → ((k : ℕ) → k < event_kinds → get_or now k 0 ≡ get_or numbers k 0 + bit_at bits k)
    → now ≡ sum_of_costs held ones
sum_from_bits bits now numbers held ones held_is ones_is whole long at =
    zip2_from_places (λ x y. x + y) now numbers (ones_in bits) (whole ∙ sym (length-ones_in bits)) long
    (λ k lt.
    let within : k < event_kinds = let e = length-ones_in bits in omega arith in
    at k within ∙ ap (λ b. get_or numbers k 0 + b) (sym (ones_in_at bits k within)))
    ∙ (λ i. sum_of_costs (held_is i) (ones_is i))

-- where the sum fits, it does at each place
pub bit_fits : (bits : ℕ) (numbers held ones : List ℕ) → numbers ≡ held → ones_in bits ≡ ones
    → length numbers ≡ event_kinds → All (λ n. n < 2 ^ 64) (sum_of_costs held ones)
    → (k : ℕ) → k < event_kinds → get_or numbers k 0 + bit_at bits k < 2 ^ 64
bit_fits bits numbers held ones held_is ones_is whole all k within =
    let here : All (λ n. n < 2 ^ 64) (sum_of_costs numbers (ones_in bits))
    = subst (λ (xs : List ℕ). All (λ n. n < 2 ^ 64) (sum_of_costs xs (ones_in bits))) (sym held_is)
    (subst (λ (ys : List ℕ). All (λ n. n < 2 ^ 64) (sum_of_costs held ys)) (sym ones_is) all) in
    subst (λ (b : ℕ). get_or numbers k 0 + b < 2 ^ 64) (ones_in_at bits k within)
    (zip2_at (λ x y. x + y) (λ n. n < 2 ^ 64) numbers (ones_in bits) k (whole ∙ sym (length-ones_in bits))
    (let e = length-ones_in bits in omega arith) here)

pub ones_are_few : (bits : ℕ) → All (λ n. n ≤ 1) (ones_in bits)
ones_are_few bits =
    All-from_get_or (λ n. n ≤ 1) (ones_in bits) 0
    (λ k lt.
    let within : k < event_kinds = let e = length-ones_in bits in omega arith in
    subst (λ b. b ≤ 1) (sym (ones_in_at bits k within)) (let few = bit_at-lt bits k in omega arith))

-- a bit from the third on is none of a number that has none there
pub no_bit : (bits k : ℕ) → bits < 8 → 3 ≤ k → bit_at bits k ≡ 0
no_bit bits k few from = bit_at_above bits 3 k few from

-- Where the lowest nine bits are below 8, only the kinds of branches have bits from the third on.
pub branches_added : (bits k old new : ℕ) → bits % 512 < 8 → 3 ≤ k → (k < 9 → new ≡ old)
    → (9 ≤ k → new ≡ old + bit_at bits k) → new ≡ old + bit_at bits k
branches_added bits zero old new few from same added = absurd (omega (arith, from))
branches_added bits (suc zero) old new few from same added = absurd (omega (arith, from))
branches_added bits (suc (suc zero)) old new few from same added = absurd (omega (arith, from))
branches_added bits (suc (suc (suc zero))) old new few from same added = omega (arith, few, same (omega arith))
branches_added bits (suc (suc (suc (suc zero)))) old new few from same added = omega (arith, few, same (omega arith))
branches_added bits (suc (suc (suc (suc (suc zero))))) old new few from same added = omega (arith, few, same (omega arith))
branches_added bits (suc (suc (suc (suc (suc (suc zero)))))) old new few from same added = omega (arith, few, same (omega arith))
branches_added bits (suc (suc (suc (suc (suc (suc (suc zero))))))) old new few from same added = omega (arith, few, same (omega arith))
branches_added bits (suc (suc (suc (suc (suc (suc (suc (suc zero)))))))) old new few from same added = omega (arith, few, same (omega arith))
branches_added bits (suc (suc (suc (suc (suc (suc (suc (suc (suc k))))))))) old new few from same added = added (omega arith)

-- one more fetch is 1 more at the first place
pub fetch_added : (numbers : List ℕ) (k : ℕ) → length numbers ≡ event_kinds
    → get_or (slice_set numbers 0 (get_or numbers 0 0 + 1)) k 0 ≡ get_or numbers k 0 + bit_at 1 k
fetch_added numbers zero long = get_or-set_same numbers 0 (get_or numbers 0 0 + 1) 0 (omega arith)
fetch_added numbers (suc k) long =
    let other = get_or-set_other numbers 0 (suc k) (get_or numbers 0 0 + 1) 0 (λ same. absurd (omega (arith, same))) in
    let none = bit_at_above 1 1 (suc k) (omega arith) (omega arith) in
    omega (arith, other, none)

-- one more bit below the others
pub bits_more : (bits x k : ℕ) → x < 2 → bit_at (bits * 2 + x) (suc k) ≡ bit_at bits k
bits_more bits x k lt = bit_at-suc (bits * 2 + x) k ∙ ap (λ n. bit_at n k) (div-mul-add bits 2 x lt)

pub bit_lowest : (bits x : ℕ) → x < 2 → bit_at (bits * 2 + x) 0 ≡ x
bit_lowest bits x lt = bit_at_lowest (bits * 2 + x) ∙ mod-mul-add bits 2 x lt

abbrev pub one_where : Bool → ℕ
one_where b = if b then 1 else 0

-- The bits hold the last kinds of a list, as many as this: each bit is at its place from there on.
abbrev pub AreLast : List Bool → ℕ → ℕ → Type 0
AreLast kinds count bits = (k j : ℕ) → k < count → j + count ≡ event_kinds + k
    → bit_at bits k ≡ one_where (get_or kinds j false)

pub last_more : (kinds : List Bool) (count bits x : ℕ) → count < event_kinds → AreLast kinds count bits → x < 2
    → ((j : ℕ) → j + count + 1 ≡ event_kinds → x ≡ one_where (get_or kinds j false))
    → AreLast kinds (count + 1) (bits * 2 + x)
last_more kinds count bits x below last lt is zero j within here = bit_lowest bits x lt ∙ is j (omega arith)
last_more kinds count bits x below last lt is (suc k) j within here =
    bits_more bits x k lt ∙ last k j (omega arith) (omega arith)

-- a number holds the kinds of a list
pub ones_from_kinds : (bits : ℕ) (kinds : List Bool) → length kinds ≡ event_kinds
    → ((k : ℕ) → k < event_kinds → bit_at bits k ≡ one_where (get_or kinds k false))
    → ones_in bits ≡ map one_where kinds
ones_from_kinds bits kinds long at =
    sym (ones_from_places bits (map one_where kinds) (length-map kinds one_where ∙ long)
    (λ k within. get_or-map one_where kinds k false 0 (omega arith) ∙ sym (at k within)))

pub twice_fits : (bits x count : ℕ) → bits < 2 ^ count → x < 2 → bits * 2 + x < 2 ^ (count + 1)
twice_fits bits x count few lt = let e = pow-suc 2 count in rw add-one (omega (arith, e))

pub few_bits : (bits count : ℕ) → bits < 2 ^ count → count < event_kinds → bits < 4096
few_bits bits count few below = let most : 2 ^ count ≤ 2 ^ 12 = pow_mono {i = count} {j = 12} (omega arith) in
    omega (arith, most)

-- what holds at the first three places and at those behind them
pub each_place : (P : ℕ → Type 0) → ((k : ℕ) → k < 3 → P k) → ((k : ℕ) → 3 ≤ k → P k) → (k : ℕ) → P k
each_place P low high zero = low 0 (omega arith)
each_place P low high (suc zero) = low 1 (omega arith)
each_place P low high (suc (suc zero)) = low 2 (omega arith)
each_place P low high (suc (suc (suc k))) = high (suc (suc (suc k))) (omega arith)

pub one_where_few : (b : Bool) → one_where b < 2
one_where_few true = omega arith
one_where_few false = omega arith

pub byte_is : (b : Bool) → bool_byte b ≡ one_where b
byte_is true = refl
byte_is false = refl

-- The first so many kinds of a cost are those that it counts as.
pub record AreKinds (cost : List ℕ) (kinds : List Bool) (count : ℕ) : Type 0 where
  pub size : length kinds ≡ 13
  pub same : (kind : ℕ) → kind < count → (if get_or kinds kind false then 1 else 0) ≡ get_or cost kind 0
