-- A word that decodes is encoded again as itself, and its fields are in their ranges.
use Rattle.std.proofs.Common.{◌≡◌, ℕ, ◌+◌, ◌*◌, ◌%◌, ◌^◌, ◌<◌, inl, inr, bit_and, refl, sym, ap, ◌∙◌, arith}
use Rattle.std.specs.Int.{cast_unsigned, w32}
use Rattle.rv_decode.specs.Encoded.{HasRanges, operand_bits}
use Rattle.rv_decode.specs.Fields.{field, imm_b, imm_i, imm_j, imm_s, imm_u}
use Rattle.rv_decode.specs.Layout.{instr_of}
use Rattle.rv_decode.specs.declared.instr.Op.{Op}
use Rattle.rv_decode.specs.declared.instr.Op.TheVariants.{LR}
use Rattle.rv_decode.specs.declared.row.Shape.{Shape}
use Rattle.rv_decode.specs.declared.row.Shape.TheVariants.{R, I, S, B, U, J, Shift, Fence, Whole, Atomic}
use Rattle.rv_decode.proofs.CandidateLemmas.{field-masked}
use Rattle.rv_decode.proofs.LaidLemmas.{HasMask}
use Rattle.rv_decode.proofs.WordLemmas.{bits-twos, even, field-below, upper, within, mask-7f, mask-707f, mask-f800707f}
use Rattle.rv_decode.proofs.WordLemmas.{mask-f9f0707f, mask-fe00707f, mask-ffffffff}

-- ---- a word is the sum of its fields; u is its immediate in two's complement

whole_r : (w : ℕ) → w < 2 ^ 32
    → field 25 7 w * 2 ^ 25 + (field 12 3 w * 2 ^ 12 + field 0 7 w)
    + (field 7 5 w * 2 ^ 7 + field 15 5 w * 2 ^ 15 + field 20 5 w * 2 ^ 20) ≡ w
whole_r w small = omega arith

whole_i : (w u : ℕ) → w < 2 ^ 32 → u % 2 ^ 12 ≡ field 20 12 w
    → field 12 3 w * 2 ^ 12 + field 0 7 w + (field 7 5 w * 2 ^ 7 + field 15 5 w * 2 ^ 15 + field 0 12 u * 2 ^ 20) ≡ w
whole_i w u small e = omega arith

whole_s : (w u : ℕ) → w < 2 ^ 32 → u % 2 ^ 12 ≡ field 25 7 w * 2 ^ 5 + field 7 5 w
    → field 12 3 w * 2 ^ 12 + field 0 7 w
    + (field 0 5 u * 2 ^ 7 + field 15 5 w * 2 ^ 15 + field 20 5 w * 2 ^ 20 + field 5 7 u * 2 ^ 25) ≡ w
whole_s w u small e = omega arith

whole_b :
    (w u : ℕ) → w < 2 ^ 32
    → u % 2 ^ 13 ≡ field 31 1 w * 2 ^ 12 + field 7 1 w * 2 ^ 11 + field 25 6 w * 2 ^ 5 + field 8 4 w * 2 →
    field 12 3 w * 2 ^ 12 + field 0 7 w
    + (field 11 1 u * 2 ^ 7 + field 1 4 u * 2 ^ 8 + field 15 5 w * 2 ^ 15 + field 20 5 w * 2 ^ 20
    + field 5 6 u * 2 ^ 25 + field 12 1 u * 2 ^ 31) ≡ w
whole_b w u small e = omega arith

whole_u : (w u : ℕ) → w < 2 ^ 32 → u % 2 ^ 32 ≡ field 12 20 w * 2 ^ 12
    → field 0 7 w + (field 7 5 w * 2 ^ 7 + field 12 20 u * 2 ^ 12) ≡ w
whole_u w u small e = omega arith

whole_j :
    (w u : ℕ) → w < 2 ^ 32
    → u % 2 ^ 21 ≡ field 31 1 w * 2 ^ 20 + field 12 8 w * 2 ^ 12 + field 20 1 w * 2 ^ 11 + field 21 10 w * 2 →
    field 0 7 w
    + (field 7 5 w * 2 ^ 7 + field 12 8 u * 2 ^ 12 + field 11 1 u * 2 ^ 20 + field 1 10 u * 2 ^ 21
    + field 20 1 u * 2 ^ 31) ≡ w
whole_j w u small e = omega arith

whole_a : (w : ℕ) → w < 2 ^ 32
    → field 27 5 w * 2 ^ 27 + (field 12 3 w * 2 ^ 12 + field 0 7 w)
    + (field 7 5 w * 2 ^ 7 + field 15 5 w * 2 ^ 15 + field 20 5 w * 2 ^ 20 + field 25 2 w * 2 ^ 25) ≡ w
whole_a w small = omega arith

whole_shift : (w : ℕ) → w < 2 ^ 32
    → field 25 7 w * 2 ^ 25 + (field 12 3 w * 2 ^ 12 + field 0 7 w)
    + (field 7 5 w * 2 ^ 7 + field 15 5 w * 2 ^ 15 + field 0 5 (field 20 5 w) * 2 ^ 20) ≡ w
whole_shift w small = omega arith

-- LR, whose rs2 is 0
whole_lr : (w : ℕ) → w < 2 ^ 32 → field 20 5 w ≡ 0
    → field 27 5 w * 2 ^ 27 + (field 20 5 w * 2 ^ 20 + (field 12 3 w * 2 ^ 12 + field 0 7 w))
    + (field 7 5 w * 2 ^ 7 + field 15 5 w * 2 ^ 15 + field 20 5 w * 2 ^ 20 + field 25 2 w * 2 ^ 25) ≡ w
whole_lr w small none = omega arith

-- the immediate that is read has these low bits
low_i : (w : ℕ) → cast_unsigned w32 (imm_i w) % 2 ^ 12 ≡ field 20 12 w
low_i w = bits-twos 2048 1048575 (field 20 12 w) refl (field-below 20 12 w)

low_s : (w : ℕ) → cast_unsigned w32 (imm_s w) % 2 ^ 12 ≡ field 25 7 w * 2 ^ 5 + field 7 5 w
low_s w =
    bits-twos 2048 1048575 (field 25 7 w * 2 ^ 5 + field 7 5 w) refl
    (omega (arith, field-below 25 7 w, field-below 7 5 w))

low_b : (w : ℕ) → cast_unsigned w32 (imm_b w) % 2 ^ 13
    ≡ field 31 1 w * 2 ^ 12 + field 7 1 w * 2 ^ 11 + field 25 6 w * 2 ^ 5 + field 8 4 w * 2
low_b w =
    bits-twos 4096 524287 (field 31 1 w * 2 ^ 12 + field 7 1 w * 2 ^ 11 + field 25 6 w * 2 ^ 5 + field 8 4 w * 2) refl
    (omega arith)

low_u : (w : ℕ) → cast_unsigned w32 (imm_u w) % 2 ^ 32 ≡ field 12 20 w * 2 ^ 12
low_u w = bits-twos (2 ^ 31) 0 (field 12 20 w * 2 ^ 12) refl (omega arith)

low_j : (w : ℕ) → cast_unsigned w32 (imm_j w) % 2 ^ 21
    ≡ field 31 1 w * 2 ^ 20 + field 12 8 w * 2 ^ 12 + field 20 1 w * 2 ^ 11 + field 21 10 w * 2
low_j w =
    bits-twos (2 ^ 20) 2047
    (field 31 1 w * 2 ^ 20 + field 12 8 w * 2 ^ 12 + field 20 1 w * 2 ^ 11 + field 21 10 w * 2) refl (omega arith)

-- the row's bits and the fields of the word give the word
pub again : (s : Shape) (mask bits w : ℕ) (o : Op) → HasMask s mask bits o → bit_and w mask ≡ bits → w < 2 ^ 32
    → bits + operand_bits s (instr_of s o w) ≡ w
again R mask bits w o m h small =
    ap (λ b. b + operand_bits R (instr_of R o w)) (sym h ∙ ap (λ x. bit_and w x) m ∙ mask-fe00707f w) ∙ whole_r w small
again I mask bits w o m h small =
    ap (λ b. b + operand_bits I (instr_of I o w)) (sym h ∙ ap (λ x. bit_and w x) m ∙ mask-707f w)
    ∙ whole_i w (cast_unsigned w32 (imm_i w)) small (low_i w)
again S mask bits w o m h small =
    ap (λ b. b + operand_bits S (instr_of S o w)) (sym h ∙ ap (λ x. bit_and w x) m ∙ mask-707f w)
    ∙ whole_s w (cast_unsigned w32 (imm_s w)) small (low_s w)
again B mask bits w o m h small =
    ap (λ b. b + operand_bits B (instr_of B o w)) (sym h ∙ ap (λ x. bit_and w x) m ∙ mask-707f w)
    ∙ whole_b w (cast_unsigned w32 (imm_b w)) small (low_b w)
again U mask bits w o m h small = ap (λ b. b + operand_bits U (instr_of U o w)) (sym h ∙ ap (λ x. bit_and w x) m ∙ mask-7f w)
    ∙ whole_u w (cast_unsigned w32 (imm_u w)) small (low_u w)
again J mask bits w o m h small = ap (λ b. b + operand_bits J (instr_of J o w)) (sym h ∙ ap (λ x. bit_and w x) m ∙ mask-7f w)
    ∙ whole_j w (cast_unsigned w32 (imm_j w)) small (low_j w)
again Shift mask bits w o m h small =
    ap (λ b. b + operand_bits Shift (instr_of Shift o w)) (sym h ∙ ap (λ x. bit_and w x) m ∙ mask-fe00707f w)
    ∙ whole_shift w small
again Fence mask bits w o m h small =
    ap (λ b. b + operand_bits Fence (instr_of Fence o w)) (sym h ∙ ap (λ x. bit_and w x) m ∙ mask-707f w)
    ∙ whole_i w (cast_unsigned w32 (imm_i w)) small (low_i w)
again Whole mask bits w o m h small = let e : bits ≡ w = sym h ∙ ap (λ x. bit_and w x) m ∙ mask-ffffffff w small in
    omega (arith, e)
again Atomic mask bits w o (inl m) h small =
    ap (λ b. b + operand_bits Atomic (instr_of Atomic o w)) (sym h ∙ ap (λ x. bit_and w x) m.0 ∙ mask-f800707f w)
    ∙ whole_a w small
again Atomic mask bits w o (inr m) h small =
    let looked : bit_and w 0xf9f0707f ≡ bits = ap (λ x. bit_and w x) (sym m.0) ∙ h in
    ap (λ b. b + operand_bits Atomic (instr_of Atomic o w)) (sym looked ∙ mask-f9f0707f w)
    ∙ whole_lr w small (field-masked 20 5 w 0xf9f0707f bits looked refl ∙ m.2)

-- the fields of a word are in their ranges
pub ranges : (s : Shape) (w : ℕ) (o : Op) → HasRanges s (instr_of s o w)
ranges R w o = (field-below 7 5 w, field-below 15 5 w, field-below 20 5 w, refl, refl)
ranges I w o = (field-below 7 5 w, field-below 15 5 w, refl, within 2048 (field 20 12 w) (field-below 20 12 w), refl)
ranges S w o =
    (refl, field-below 15 5 w, field-below 20 5 w, within 2048 (field 25 7 w * 2 ^ 5 + field 7 5 w) (omega arith), refl)
ranges B w o =
    let n = field 31 1 w * 2 ^ 12 + field 7 1 w * 2 ^ 11 + field 25 6 w * 2 ^ 5 + field 8 4 w * 2 in
    let below : n < 2 * 4096 = omega arith in
    (refl, field-below 15 5 w, field-below 20 5 w, (within 4096 n below, even 4096 n below (omega arith)), refl)
ranges U w o =
    let n = field 12 20 w * 2 ^ 12 in
    let below : n < 2 ^ 32 = omega arith in
    (field-below 7 5 w, refl, refl, (within (2 ^ 31) n below, upper n below (omega arith)), refl)
ranges J w o =
    let n = field 31 1 w * 2 ^ 20 + field 12 8 w * 2 ^ 12 + field 20 1 w * 2 ^ 11 + field 21 10 w * 2 in
    let below : n < 2 * 2 ^ 20 = omega arith in
    (field-below 7 5 w, refl, refl, (within (2 ^ 20) n below, even (2 ^ 20) n below (omega arith)), refl)
ranges Shift w o = (field-below 7 5 w, field-below 15 5 w, refl, field-below 20 5 w, refl)
ranges Fence w o =
    (field-below 7 5 w, field-below 15 5 w, refl, within 2048 (field 20 12 w) (field-below 20 12 w), refl)
ranges Whole w o = (refl, refl, refl, refl, refl)
ranges Atomic w o = (field-below 7 5 w, field-below 15 5 w, field-below 20 5 w, refl, field-below 25 2 w)

-- LR has no rs2
pub reserved : (s : Shape) (mask bits w : ℕ) (o : Op) → HasMask s mask bits o → bit_and w mask ≡ bits
    → (o ≡ LR → s ≡ Atomic) → o ≡ LR → (instr_of s o w).rs2 ≡ 0
reserved R mask bits w o m h atomic lr = let e = atomic lr in cc
reserved I mask bits w o m h atomic lr = refl
reserved S mask bits w o m h atomic lr = let e = atomic lr in cc
reserved B mask bits w o m h atomic lr = let e = atomic lr in cc
reserved U mask bits w o m h atomic lr = refl
reserved J mask bits w o m h atomic lr = refl
reserved Shift mask bits w o m h atomic lr = refl
reserved Fence mask bits w o m h atomic lr = refl
reserved Whole mask bits w o m h atomic lr = refl
reserved Atomic mask bits w o (inl m) h atomic lr = absurd (m.1 lr)
reserved Atomic mask bits w o (inr m) h atomic lr =
    let looked : bit_and w 0xf9f0707f ≡ bits = ap (λ x. bit_and w x) (sym m.0) ∙ h in
    field-masked 20 5 w 0xf9f0707f bits looked refl ∙ m.2

-- an instruction keeps its name
pub op-kept : (s : Shape) (o : Op) (w : ℕ) → (instr_of s o w).op ≡ o
op-kept R o w = refl
op-kept _ o w = refl
