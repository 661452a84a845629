-- Powers of two, and what follows from a geometry.
use Rattle.std.proofs.Common.{◌≡◌, ℕ, ◌+◌, ◌-◌, ◌*◌, ◌/◌, ◌%◌, ◌^◌, ◌<◌, ◌≤◌, ap, sym, subst, ◌∙◌, arith, inl, inr}
use Rattle.std.proofs.Common.{add-one}
use Rattle.std.proofs.Math.Nat.{pow-suc, pow-le-pow_right, mul-mod_right, mul-div_right, mul-le-mul_left, add-div_right}
use Rattle.std.proofs.Math.Nat.{div-mul-le_self}
use Rattle.std.proofs.lemmas.Nat.{div-mul-add, pow_below, pow_pos, mul-le, one_shl, and_mask, div_below, le-div}
use Rattle.std.proofs.lemmas.Bool.{cases_order, cases_lt, eqb-true, eq-eqb}
use Rattle.std.specs.Prelude.{IsTrue, bit_and, ◌==◌, ◌↔◌}
use Rattle.std.specs.Int.{IsPowerOfTwo}
use Rattle.cache_lru.specs.Shape.{Shape, IsGeometry, sets_of, block_of}

-- a power of two from 2 ^ bits on, and below twice that, is 2 ^ bits
pub power_between : (number bits : ℕ) → IsPowerOfTwo number → 2 ^ bits ≤ number → number < 2 * 2 ^ bits
    → number ≡ 2 ^ bits
power_between number bits power low high = elim (cases_order power.0 bits) [
  | inl same ↦ power.1 ∙ ap (λ n. 2 ^ n) same
  | inr apart ↦ elim apart [
    | inl below ↦ absurd (let l = pow_below power.0 bits below in omega (arith, l, power.1))
    | inr above ↦ absurd (
        let l : 2 ^ (bits + 1) ≤ 2 ^ power.0 = pow-le-pow_right (omega arith) (omega arith) in
        let e : 2 ^ (bits + 1) ≡ 2 ^ bits * 2 = rw add-one (pow-suc 2 bits) in
        omega (arith, l, e, power.1)
        )
  ]
]

-- a product over its first factor
pub whole_sets : (size each sets : ℕ) → 0 < each → size ≡ each * sets → (size % each ≡ 0) × (size / each ≡ sets)
whole_sets size each sets some is =
    (ap (λ n. n % each) is ∙ mul-mod_right each sets, ap (λ n. n / each) is ∙ mul-div_right sets some)

pub some_bytes : (shape : Shape) → IsGeometry shape → 0 < shape.assoc * shape.line
some_bytes shape g = let l = mul-le 1 1 shape.assoc shape.line g.assoc_least (let h = g.line_least in omega arith) in
    omega arith

pub sets_of_is : (shape : Shape) → (g : IsGeometry shape) → sets_of shape ≡ g.size_is.0
sets_of_is shape g = (whole_sets shape.size (shape.assoc * shape.line) g.size_is.0 (some_bytes shape g) g.size_is.2).1

-- the number of sets is a power of two
pub sets_of-power : (shape : Shape) → IsGeometry shape → IsPowerOfTwo (sets_of shape)
sets_of-power shape g = subst IsPowerOfTwo (sym (sets_of_is shape g)) g.size_is.1

-- what the test of `1 << ilog2` shows
pub power_by_log : (number bits : ℕ) → bits < 32 → 2 ^ bits ≤ number → number < 2 * 2 ^ bits
    → IsTrue (number == (1 * 2 ^ bits) % 2 ^ 32) ↔ IsPowerOfTwo number
power_by_log number bits within low high =
    let shifted = one_shl bits 32 within in (
      (λ same. (bits, eqb-true number ((1 * 2 ^ bits) % 2 ^ 32) same ∙ shifted)),
      (λ power. eq-eqb number ((1 * 2 ^ bits) % 2 ^ 32) (power_between number bits power low high ∙ sym shifted)),
    )

-- the size is a whole number of sets
pub size-mod : (shape : Shape) → IsGeometry shape → shape.size % (shape.assoc * shape.line) ≡ 0
size-mod shape g = (whole_sets shape.size (shape.assoc * shape.line) g.size_is.0 (some_bytes shape g) g.size_is.2).0

-- a line's length is at most 1,024, so its logarithm is a shift
pub line_bits_below : (shape : Shape) (bits : ℕ) → IsGeometry shape → shape.line ≡ 2 ^ bits → bits < 32
line_bits_below shape bits g is = elim (cases_lt bits 32) [
  | inl below ↦ below
  | inr above ↦ absurd
      (let large : 2 ^ 32 ≤ 2 ^ bits = pow-le-pow_right (omega arith) above in let most = g.line_most in omega arith)
]

-- the number of sets less 1 masks the set of a block
pub mask_of_sets : (shape : Shape) → IsGeometry shape → (n : ℕ) → bit_and n (sets_of shape - 1) ≡ n % sets_of shape
mask_of_sets shape g n =
    let power = sets_of-power shape g in
    ap (λ sets. bit_and n (sets - 1)) power.1 ∙ and_mask n power.0 ∙ ap (λ sets. n % sets) (sym power.1)

pub some_sets : (shape : Shape) → IsGeometry shape → 0 < sets_of shape
some_sets shape g = let power = sets_of-power shape g in let some = pow_pos power.0 in omega (arith, power.1)

-- the addresses of a block are those from its first on, fewer than a line behind it
pub block_between : (shape : Shape) (block addr : ℕ) → block * shape.line ≤ addr
    → addr < block * shape.line + shape.line → block_of shape addr ≡ block
block_between shape block addr low high =
    let behind = addr - block * shape.line in
    let is : addr ≡ block * shape.line + behind = omega arith in
    ap (λ n. n / shape.line) is ∙ div-mul-add block shape.line behind (omega arith)

-- the block of an address leaves room for the mark of an empty line
pub block_below : (shape : Shape) (addr : ℕ) → IsGeometry shape → addr < 2 ^ 32 → block_of shape addr < 2 ^ 32 - 1
block_below shape addr g fits =
    let least = g.line_least in
    let wide : (2 ^ 32 - 1) * 16 ≤ (2 ^ 32 - 1) * shape.line = mul-le-mul_left (2 ^ 32 - 1) least in
    div_below addr shape.line (2 ^ 32 - 1) (omega arith) (omega arith)

div_mono : (m n k : ℕ) → 0 < k → m ≤ n → m / k ≤ n / k
div_mono m n k some below = le-div (m / k) n k some (let l = div-mul-le_self m k in omega arith)

-- an access of at most a line ends in the block where it begins or in the next one
pub last_block : (shape : Shape) (addr len : ℕ) → IsGeometry shape → 1 ≤ len → len ≤ 4
    → (block_of shape addr ≤ block_of shape (addr + (len - 1)))
    × (block_of shape (addr + (len - 1)) ≤ block_of shape addr + 1)
last_block shape addr len g some few =
    let least = g.line_least in
    let next : (addr + shape.line) / shape.line ≡ addr / shape.line + 1 = add-div_right addr (omega arith) in
    let within = div_mono (addr + (len - 1)) (addr + shape.line) shape.line (omega arith) (omega arith) in
    (div_mono addr (addr + (len - 1)) shape.line (omega arith) (omega arith), omega (arith, next, within))
