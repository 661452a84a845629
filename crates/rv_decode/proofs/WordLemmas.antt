-- The digits of a word, and what a mask leaves of it.
use Rattle.std.proofs.Common.{◌≡◌, ℕ, ℤ, lit<, suc, ◌+◌, ◌-◌, ◌*◌, ◌/◌, ◌%◌, ◌^◌, ◌<◌, ◌≤◌, bit_and, pos, negsuc, cond}
use Rattle.std.proofs.Common.{◌⊎◌, inl, inr, sym, ap, ◌∙◌, arith, subst}
use Rattle.std.specs.Int.{cast_unsigned, w32}
use Rattle.std.proofs.Math.Nat.{mod-eq_of_lt}
use Rattle.std.proofs.lemmas.Nat.{and_block, and_mask, and_comm, mod-mul-add, mod_below, pow_pos, shr_split}
use Rattle.std.proofs.lemmas.Nat.{shr-shr}
use Rattle.std.proofs.lemmas.Bool.{cases_lt, lt-ltb, le-ltb}
use Rattle.rv_decode.specs.Encoded.{IsMultipleOf, IsWithin}
use Rattle.rv_decode.specs.Fields.{field, twos_complement}

-- ---- fields

pub field-below : (low len w : ℕ) → field low len w < 2 ^ len
field-below low len w = mod_below (w / 2 ^ low) (2 ^ len) (pow_pos len)

-- what is left above a field
pub above : (low len w : ℕ) → w / 2 ^ low ≡ field low len w + w / 2 ^ (low + len) * 2 ^ len
above low len w =
    let split = shr_split (w / 2 ^ low) len in
    let deeper = ap (λ q. q * 2 ^ len) (shr-shr w low len) in
    omega (arith, split, deeper)

-- ---- masks

-- a mask looks at its own bits alone
mask-low : (k w s : ℕ) → s < 2 ^ k → bit_and w s ≡ bit_and (w % 2 ^ k) s
mask-low k w s below =
    let e = and_block k (w / 2 ^ k) 0 (w % 2 ^ k) s (mod_below w (2 ^ k) (pow_pos k)) below in
    let whole = ap (λ x. bit_and x (0 * 2 ^ k + s)) (shr_split w k) in
    let none : bit_and (w / 2 ^ k) 0 ≡ 0 = and_comm (w / 2 ^ k) 0 in
    let alone : 0 * 2 ^ k + s ≡ s = omega arith in
    let rest : 0 * 2 ^ k + bit_and (w % 2 ^ k) s ≡ bit_and (w % 2 ^ k) s = omega arith in
    ap (λ x. bit_and w x) (sym alone) ∙ sym whole ∙ e ∙ ap (λ x. x * 2 ^ k + bit_and (w % 2 ^ k) s) none ∙ rest

-- the highest field of a mask
pub mask-field : (low len w s : ℕ) → s < 2 ^ low
    → bit_and w ((2 ^ len - 1) * 2 ^ low + s) ≡ field low len w * 2 ^ low + bit_and w s
mask-field low len w s below =
    let e = and_block low (w / 2 ^ low) (2 ^ len - 1) (w % 2 ^ low) s (mod_below w (2 ^ low) (pow_pos low)) below in
    let whole = ap (λ x. bit_and x ((2 ^ len - 1) * 2 ^ low + s)) (shr_split w low) in
    let top = and_mask (w / 2 ^ low) len in
    let rest = mask-low low w s below in
    sym whole ∙ e ∙ ap (λ x. x * 2 ^ low + bit_and (w % 2 ^ low) s) top
    ∙ ap (λ x. field low len w * 2 ^ low + x) (sym rest)

-- ---- two's complement

-- a number of two's complement has the sign bit clear or set
twos-positive : (h n : ℕ) → n < h → twos_complement h n ≡ pos n
twos-positive h n below = ap (λ b. cond b (pos n) (negsuc (2 * h - 1 - n))) (lt-ltb n h below)

twos-negative : (h n : ℕ) → h ≤ n → twos_complement h n ≡ negsuc (2 * h - 1 - n)
twos-negative h n large = ap (λ b. cond b (pos n) (negsuc (2 * h - 1 - n))) (le-ltb n h large)

-- the low bits of a negative number
negative-low : (h p n : ℕ) → 2 ^ 32 ≡ suc p * (2 * h) → n < 2 * h → (2 ^ 32 - suc n) % (2 * h) ≡ 2 * h - 1 - n
negative-low h p n whole below =
    let e : 2 ^ 32 - suc n ≡ p * (2 * h) + (2 * h - 1 - n) = omega (arith, whole) in
    ap (λ x. x % (2 * h)) e ∙ mod-mul-add p (2 * h) (2 * h - 1 - n) (omega arith)

bits-twos_at : (h p n : ℕ) → 2 ^ 32 ≡ suc p * (2 * h) → n < 2 * h → (n < h) ⊎ (h ≤ n)
    → cast_unsigned w32 (twos_complement h n) % (2 * h) ≡ n
bits-twos_at h p n whole below (inl small) = ap (λ z. cast_unsigned w32 z % (2 * h)) (twos-positive h n small)
    ∙ mod-eq_of_lt below
bits-twos_at h p n whole below (inr large) =
    let back : 2 * h - 1 - (2 * h - 1 - n) ≡ n = omega arith in
    ap (λ z. cast_unsigned w32 z % (2 * h)) (twos-negative h n large)
    ∙ negative-low h p (2 * h - 1 - n) whole (omega arith) ∙ back

-- the low bits of a number in two's complement are the number that it was read from
pub bits-twos : (h p n : ℕ) → 2 ^ 32 ≡ suc p * (2 * h) → n < 2 * h
    → cast_unsigned w32 (twos_complement h n) % (2 * h) ≡ n
bits-twos h p n whole below = bits-twos_at h p n whole below (cases_lt n h)

-- a number that fits is read back from its low bits
pub twos-bits : (h p : ℕ) (z : ℤ) → 2 ^ 32 ≡ suc p * (2 * h) → IsWithin h z
    → twos_complement h (cast_unsigned w32 z % (2 * h)) ≡ z
twos-bits h p (pos n) whole within =
    let small : n < 2 * h = omega arith in
    ap (λ x. twos_complement h x) (mod-eq_of_lt small) ∙ twos-positive h n within
twos-bits h p (negsuc n) whole within =
    let back : 2 * h - 1 - (2 * h - 1 - n) ≡ n = omega arith in
    ap (λ x. twos_complement h x) (negative-low h p n whole (omega arith))
    ∙ twos-negative h (2 * h - 1 - n) (omega arith)
    ∙ ap (λ x. negsuc x) back

-- a number that is read has its range
within_at : (h n : ℕ) → n < 2 * h → (n < h) ⊎ (h ≤ n) → IsWithin h (twos_complement h n)
within_at h n below (inl small) = let P : ℤ → Type 0 = λ z. IsWithin h z in
    subst P (sym (twos-positive h n small)) small
within_at h n below (inr large) =
    let P : ℤ → Type 0 = λ z. IsWithin h z in
    let fits : 2 * h - 1 - n < h = omega arith in
    subst P (sym (twos-negative h n large)) fits

pub within : (h n : ℕ) → n < 2 * h → IsWithin h (twos_complement h n)
within h n below = within_at h n below (cases_lt n h)

-- a number that is read from a multiple is one
multiple_at : (k h n : ℕ) → n % k ≡ 0 → (h ≤ n → (2 * h - 1 - n + 1) % k ≡ 0) → (n < h) ⊎ (h ≤ n)
    → IsMultipleOf k (twos_complement h n)
multiple_at k h n clear turned (inl small) = let P : ℤ → Type 0 = λ z. IsMultipleOf k z in
    subst P (sym (twos-positive h n small)) clear
multiple_at k h n clear turned (inr large) = let P : ℤ → Type 0 = λ z. IsMultipleOf k z in
    subst P (sym (twos-negative h n large)) (turned large)

pub even : (h n : ℕ) → n < 2 * h → n % 2 ≡ 0 → IsMultipleOf 2 (twos_complement h n)
even h n below clear = multiple_at 2 h n clear (λ large. omega arith) (cases_lt n h)

pub upper : (n : ℕ) → n < 2 ^ 32 → n % 4096 ≡ 0 → IsMultipleOf 4096 (twos_complement (2 ^ 31) n)
upper n below clear = multiple_at 4096 (2 ^ 31) n clear (λ large. omega arith) (cases_lt n (2 ^ 31))

-- and its low bits are clear
pub bits-even : (z : ℤ) → IsWithin (2 ^ 31) z → IsMultipleOf 2 z → cast_unsigned w32 z % 2 ≡ 0
bits-even (pos n) within clear = clear
bits-even (negsuc n) within clear = omega arith

pub bits-upper : (z : ℤ) → IsWithin (2 ^ 31) z → IsMultipleOf 4096 z → cast_unsigned w32 z % 4096 ≡ 0
bits-upper (pos n) within clear = clear
bits-upper (negsuc n) within clear = omega arith

pub bits-below : (z : ℤ) → IsWithin (2 ^ 31) z → cast_unsigned w32 z < 2 ^ 32
bits-below (pos n) within = omega arith
bits-below (negsuc n) within = omega arith

pub wider : (h : ℕ) (z : ℤ) → h ≤ 2 ^ 31 → IsWithin h z → IsWithin (2 ^ 31) z
wider h (pos n) at_most within = omega arith
wider h (negsuc n) at_most within = omega arith

-- ---- the masks of the table

pub mask-7f : (w : ℕ) → bit_and w 0x7f ≡ field 0 7 w
mask-7f w = and_mask w 7 ∙ omega arith

pub mask-707f : (w : ℕ) → bit_and w 0x707f ≡ field 12 3 w * 2 ^ 12 + field 0 7 w
mask-707f w = mask-field 12 3 w 0x7f (lit< tt) ∙ ap (λ x. field 12 3 w * 2 ^ 12 + x) (mask-7f w)

pub mask-fe00707f : (w : ℕ) → bit_and w 0xfe00707f ≡ field 25 7 w * 2 ^ 25 + (field 12 3 w * 2 ^ 12 + field 0 7 w)
mask-fe00707f w = mask-field 25 7 w 0x707f (lit< tt) ∙ ap (λ x. field 25 7 w * 2 ^ 25 + x) (mask-707f w)

pub mask-f800707f : (w : ℕ) → bit_and w 0xf800707f ≡ field 27 5 w * 2 ^ 27 + (field 12 3 w * 2 ^ 12 + field 0 7 w)
mask-f800707f w = mask-field 27 5 w 0x707f (lit< tt) ∙ ap (λ x. field 27 5 w * 2 ^ 27 + x) (mask-707f w)

pub mask-f9f0707f : (w : ℕ)
    → bit_and w 0xf9f0707f ≡ field 27 5 w * 2 ^ 27 + (field 20 5 w * 2 ^ 20 + (field 12 3 w * 2 ^ 12 + field 0 7 w))
mask-f9f0707f w =
    mask-field 27 5 w 0x1f0707f (lit< tt)
    ∙ ap (λ x. field 27 5 w * 2 ^ 27 + x)
    (mask-field 20 5 w 0x707f (lit< tt) ∙ ap (λ x. field 20 5 w * 2 ^ 20 + x) (mask-707f w))

pub mask-ffffffff : (w : ℕ) → w < 2 ^ 32 → bit_and w 0xffffffff ≡ w
mask-ffffffff w small = and_mask w 32 ∙ mod-eq_of_lt small
