-- The word of an instruction whose fields are in their ranges matches its row, and gives the fields back.
use Rattle.std.proofs.Common.{◌≡◌, ℕ, ℤ, pos, negsuc, ◌+◌, ◌*◌, ◌%◌, ◌^◌, ◌<◌, inl, inr, bit_and, refl, sym, ap, ◌∙◌}
use Rattle.std.proofs.Common.{arith}
use Rattle.std.specs.Int.{cast_unsigned, w32}
use Rattle.rv_decode.specs.Encoded.{HasRanges, IsAmount, operand_bits}
use Rattle.rv_decode.specs.Fields.{field, twos_complement}
use Rattle.rv_decode.specs.Layout.{instr_of}
use Rattle.rv_decode.specs.declared.instr.Instr.{Instr}
use Rattle.rv_decode.specs.declared.instr.Op.TheVariants.{LR}
use Rattle.rv_decode.specs.declared.row.Shape.{Shape}
use Rattle.rv_decode.specs.declared.row.Shape.TheVariants.{R, I, S, B, U, J, Shift, Fence, Whole, Atomic}
use Rattle.rv_decode.proofs.LaidLemmas.{HasMask}
use Rattle.rv_decode.proofs.WordLemmas.{bits-below, bits-even, bits-upper, field-below, twos-bits, wider, mask-7f}
use Rattle.rv_decode.proofs.WordLemmas.{mask-707f, mask-f800707f, mask-f9f0707f, mask-fe00707f, mask-ffffffff}

-- two instructions of one name with the same fields are one
same_instr : (i : Instr) (rd rs1 rs2 order : ℕ) (imm : ℤ) → rd ≡ i.rd → rs1 ≡ i.rs1 → rs2 ≡ i.rs2 → imm ≡ i.imm
    → order ≡ i.order
    → ◌≡◌ {A = Instr} (record { op = i.op; rd = rd; rs1 = rs1; rs2 = rs2; imm = imm; order = order }) i
same_instr i rd rs1 rs2 order imm a b c d e =
    ap (λ (x : ℕ). let j : Instr = record { op = i.op; rd = x; rs1 = rs1; rs2 = rs2; imm = imm; order = order } in j) a
    ∙ ap (λ (x : ℕ). let j : Instr
    = record { op = i.op; rd = i.rd; rs1 = x; rs2 = rs2; imm = imm; order = order } in j) b
    ∙ ap (λ (x : ℕ). let j : Instr
    = record { op = i.op; rd = i.rd; rs1 = i.rs1; rs2 = x; imm = imm; order = order } in j) c
    ∙ ap (λ (x : ℤ). let j : Instr
    = record { op = i.op; rd = i.rd; rs1 = i.rs1; rs2 = i.rs2; imm = x; order = order } in j) d
    ∙ ap (λ (x : ℕ). let j : Instr
    = record { op = i.op; rd = i.rd; rs1 = i.rs1; rs2 = i.rs2; imm = i.imm; order = x } in j) e

-- ---- the fields of a sum of fields; u is an immediate in two's complement, v the sum

record Parts_r (v b0 b12 b25 rd rs1 rs2 : ℕ) : Type 0 where
  f0 : field 0 7 v ≡ b0
  f12 : field 12 3 v ≡ b12
  f25 : field 25 7 v ≡ b25
  f7 : field 7 5 v ≡ rd
  f15 : field 15 5 v ≡ rs1
  f20 : field 20 5 v ≡ rs2
  below : v < 2 ^ 32

parts_r : (v b0 b12 b25 rd rs1 rs2 : ℕ) → b0 < 2 ^ 7 → b12 < 2 ^ 3 → b25 < 2 ^ 7 → rd < 32 → rs1 < 32 → rs2 < 32
    → v ≡ b25 * 2 ^ 25 + (b12 * 2 ^ 12 + b0) + (rd * 2 ^ 7 + rs1 * 2 ^ 15 + rs2 * 2 ^ 20)
    → Parts_r v b0 b12 b25 rd rs1 rs2
parts_r v b0 b12 b25 rd rs1 rs2 a b c d e f is = record {
  f0 = omega arith;
  f12 = omega arith;
  f25 = omega arith;
  f7 = omega arith;
  f15 = omega arith;
  f20 = omega arith;
  below = omega arith;
}

record Parts_i (v b0 b12 rd rs1 u : ℕ) : Type 0 where
  f0 : field 0 7 v ≡ b0
  f12 : field 12 3 v ≡ b12
  f7 : field 7 5 v ≡ rd
  f15 : field 15 5 v ≡ rs1
  f20 : field 20 12 v ≡ u % 2 ^ 12
  below : v < 2 ^ 32

parts_i : (v b0 b12 rd rs1 u : ℕ) → b0 < 2 ^ 7 → b12 < 2 ^ 3 → rd < 32 → rs1 < 32
    → v ≡ b12 * 2 ^ 12 + b0 + (rd * 2 ^ 7 + rs1 * 2 ^ 15 + field 0 12 u * 2 ^ 20) → Parts_i v b0 b12 rd rs1 u
parts_i v b0 b12 rd rs1 u a b c d is = record {
  f0 = omega arith;
  f12 = omega arith;
  f7 = omega arith;
  f15 = omega arith;
  f20 = omega arith;
  below = omega arith;
}

record Parts_s (v b0 b12 rs1 rs2 u : ℕ) : Type 0 where
  f0 : field 0 7 v ≡ b0
  f12 : field 12 3 v ≡ b12
  f15 : field 15 5 v ≡ rs1
  f20 : field 20 5 v ≡ rs2
  imm : field 25 7 v * 2 ^ 5 + field 7 5 v ≡ u % 2 ^ 12
  below : v < 2 ^ 32

parts_s : (v b0 b12 rs1 rs2 u : ℕ) → b0 < 2 ^ 7 → b12 < 2 ^ 3 → rs1 < 32 → rs2 < 32
    → v ≡ b12 * 2 ^ 12 + b0 + (field 0 5 u * 2 ^ 7 + rs1 * 2 ^ 15 + rs2 * 2 ^ 20 + field 5 7 u * 2 ^ 25)
    → Parts_s v b0 b12 rs1 rs2 u
parts_s v b0 b12 rs1 rs2 u a b c d is = record {
  f0 = omega arith;
  f12 = omega arith;
  f15 = omega arith;
  f20 = omega arith;
  imm = omega arith;
  below = omega arith;
}

record Parts_b (v b0 b12 rs1 rs2 u : ℕ) : Type 0 where
  f0 : field 0 7 v ≡ b0
  f12 : field 12 3 v ≡ b12
  f15 : field 15 5 v ≡ rs1
  f20 : field 20 5 v ≡ rs2
  imm : field 31 1 v * 2 ^ 12 + field 7 1 v * 2 ^ 11 + field 25 6 v * 2 ^ 5 + field 8 4 v * 2 ≡ u % 2 ^ 13
  below : v < 2 ^ 32

parts_b :
    (v b0 b12 rs1 rs2 u : ℕ) → b0 < 2 ^ 7 → b12 < 2 ^ 3 → rs1 < 32 → rs2 < 32 → u % 2 ≡ 0 →
    v ≡ b12 * 2 ^ 12 + b0
    + (field 11 1 u * 2 ^ 7 + field 1 4 u * 2 ^ 8 + rs1 * 2 ^ 15 + rs2 * 2 ^ 20 + field 5 6 u * 2 ^ 25
    + field 12 1 u * 2 ^ 31) →
    Parts_b v b0 b12 rs1 rs2 u
parts_b v b0 b12 rs1 rs2 u a b c d even is = record {
  f0 = omega arith;
  f12 = omega arith;
  f15 = omega arith;
  f20 = omega arith;
  imm = omega arith;
  below = omega arith;
}

record Parts_u (v b0 rd u : ℕ) : Type 0 where
  f0 : field 0 7 v ≡ b0
  f7 : field 7 5 v ≡ rd
  imm : field 12 20 v * 2 ^ 12 ≡ u % 2 ^ 32
  below : v < 2 ^ 32

parts_u : (v b0 rd u : ℕ) → b0 < 2 ^ 7 → rd < 32 → u < 2 ^ 32 → u % 4096 ≡ 0
    → v ≡ b0 + (rd * 2 ^ 7 + field 12 20 u * 2 ^ 12) → Parts_u v b0 rd u
parts_u v b0 rd u a b small clear is = record {
  f0 = omega arith;
  f7 = omega arith;
  imm = omega arith;
  below = omega arith;
}

record Parts_j (v b0 rd u : ℕ) : Type 0 where
  f0 : field 0 7 v ≡ b0
  f7 : field 7 5 v ≡ rd
  imm : field 31 1 v * 2 ^ 20 + field 12 8 v * 2 ^ 12 + field 20 1 v * 2 ^ 11 + field 21 10 v * 2 ≡ u % 2 ^ 21
  below : v < 2 ^ 32

parts_j :
    (v b0 rd u : ℕ) → b0 < 2 ^ 7 → rd < 32 → u % 2 ≡ 0 →
    v ≡ b0
    + (rd * 2 ^ 7 + field 12 8 u * 2 ^ 12 + field 11 1 u * 2 ^ 20 + field 1 10 u * 2 ^ 21 + field 20 1 u * 2 ^ 31) →
    Parts_j v b0 rd u
parts_j v b0 rd u a b even is = record { f0 = omega arith; f7 = omega arith; imm = omega arith; below = omega arith }

record Parts_a (v b0 b12 b27 rd rs1 rs2 order : ℕ) : Type 0 where
  f0 : field 0 7 v ≡ b0
  f12 : field 12 3 v ≡ b12
  f27 : field 27 5 v ≡ b27
  f7 : field 7 5 v ≡ rd
  f15 : field 15 5 v ≡ rs1
  f20 : field 20 5 v ≡ rs2
  f25 : field 25 2 v ≡ order
  below : v < 2 ^ 32

parts_a :
    (v b0 b12 b27 rd rs1 rs2 order : ℕ) → b0 < 2 ^ 7 → b12 < 2 ^ 3 → b27 < 2 ^ 5 → rd < 32 → rs1 < 32 → rs2 < 32
    → order < 4 →
    v ≡ b27 * 2 ^ 27 + (b12 * 2 ^ 12 + b0) + (rd * 2 ^ 7 + rs1 * 2 ^ 15 + rs2 * 2 ^ 20 + order * 2 ^ 25) →
    Parts_a v b0 b12 b27 rd rs1 rs2 order
parts_a v b0 b12 b27 rd rs1 rs2 order a b c d e f g is = record {
  f0 = omega arith;
  f12 = omega arith;
  f27 = omega arith;
  f7 = omega arith;
  f15 = omega arith;
  f20 = omega arith;
  f25 = omega arith;
  below = omega arith;
}

-- ---- the mask looks at the row's own fields alone

alike_707f : (v bits mask : ℕ) → mask ≡ 0x707f → bits ≡ field 12 3 bits * 2 ^ 12 + field 0 7 bits
    → field 12 3 v ≡ field 12 3 bits → field 0 7 v ≡ field 0 7 bits → bit_and v mask ≡ bits
alike_707f v bits mask m is a b = ap (λ x. bit_and v x) m ∙ mask-707f v ∙ omega (arith, is, a, b)

alike_7f : (v bits mask : ℕ) → mask ≡ 0x7f → bits ≡ field 0 7 bits → field 0 7 v ≡ field 0 7 bits
    → bit_and v mask ≡ bits
alike_7f v bits mask m is a = ap (λ x. bit_and v x) m ∙ mask-7f v ∙ a ∙ sym is

alike_fe00707f :
    (v bits mask : ℕ) → mask ≡ 0xfe00707f
    → bits ≡ field 25 7 bits * 2 ^ 25 + (field 12 3 bits * 2 ^ 12 + field 0 7 bits) →
    field 25 7 v ≡ field 25 7 bits → field 12 3 v ≡ field 12 3 bits → field 0 7 v ≡ field 0 7 bits →
    bit_and v mask ≡ bits
alike_fe00707f v bits mask m is a b c = ap (λ x. bit_and v x) m ∙ mask-fe00707f v ∙ omega (arith, is, a, b, c)

alike_f800707f :
    (v bits mask : ℕ) → mask ≡ 0xf800707f
    → bits ≡ field 27 5 bits * 2 ^ 27 + (field 12 3 bits * 2 ^ 12 + field 0 7 bits) →
    field 27 5 v ≡ field 27 5 bits → field 12 3 v ≡ field 12 3 bits → field 0 7 v ≡ field 0 7 bits →
    bit_and v mask ≡ bits
alike_f800707f v bits mask m is a b c = ap (λ x. bit_and v x) m ∙ mask-f800707f v ∙ omega (arith, is, a, b, c)

alike_f9f0707f :
    (v bits mask : ℕ) → mask ≡ 0xf9f0707f
    → bits ≡ field 27 5 bits * 2 ^ 27 + (field 12 3 bits * 2 ^ 12 + field 0 7 bits) →
    field 27 5 v ≡ field 27 5 bits → field 12 3 v ≡ field 12 3 bits → field 0 7 v ≡ field 0 7 bits → field 20 5 v ≡ 0 →
    bit_and v mask ≡ bits
alike_f9f0707f v bits mask m is a b c d = ap (λ x. bit_and v x) m ∙ mask-f9f0707f v ∙ omega (arith, is, a, b, c, d)

-- ---- the whole

pub record GivesBack (s : Shape) (mask bits : ℕ) (i : Instr) : Type 0 where
  pub matches : bit_and (bits + operand_bits s i) mask ≡ bits
  pub fields : instr_of s i.op (bits + operand_bits s i) ≡ i
  pub below : bits + operand_bits s i < 2 ^ 32

under_mask : (mask m bits : ℕ) (look : ℕ) → mask ≡ m → bit_and bits mask ≡ bits → bit_and bits m ≡ look → bits ≡ look
under_mask mask m bits look e under is = sym under ∙ ap (λ x. bit_and bits x) e ∙ is

gives_back_i : (mask bits : ℕ) (i : Instr) → mask ≡ 0x707f → bit_and bits mask ≡ bits → HasRanges I i
    → GivesBack I mask bits i
gives_back_i mask bits i m under h =
    let is = under_mask mask 0x707f bits (field 12 3 bits * 2 ^ 12 + field 0 7 bits) m under (mask-707f bits) in
    let v = bits + operand_bits I i in
    let p = parts_i v (field 0 7 bits) (field 12 3 bits) i.rd i.rs1 (cast_unsigned w32 i.imm) (field-below 0 7 bits)
    (field-below 12 3 bits) h.0 h.1 (ap (λ b. b + operand_bits I i) is) in
    record {
      matches = alike_707f v bits mask m is p.f12 p.f0;
      fields = same_instr i (field 7 5 v) (field 15 5 v) 0 0 (twos_complement 2048 (field 20 12 v)) p.f7 p.f15 (sym h.2)
          (ap (λ n. twos_complement 2048 n) p.f20 ∙ twos-bits 2048 1048575 i.imm refl h.3) (sym h.4);
      below = p.below;
    }

gives_back_r : (mask bits : ℕ) (i : Instr) → mask ≡ 0xfe00707f → bit_and bits mask ≡ bits → HasRanges R i
    → GivesBack R mask bits i
gives_back_r mask bits i m under h =
    let is =
    under_mask mask 0xfe00707f bits (field 25 7 bits * 2 ^ 25 + (field 12 3 bits * 2 ^ 12 + field 0 7 bits)) m under
    (mask-fe00707f bits) in
    let v = bits + operand_bits R i in
    let p = parts_r v (field 0 7 bits) (field 12 3 bits) (field 25 7 bits) i.rd i.rs1 i.rs2 (field-below 0 7 bits)
    (field-below 12 3 bits) (field-below 25 7 bits) h.0 h.1 h.2 (ap (λ b. b + operand_bits R i) is) in
    record {
      matches = alike_fe00707f v bits mask m is p.f25 p.f12 p.f0;
      fields = same_instr i (field 7 5 v) (field 15 5 v) (field 20 5 v) 0 (pos 0) p.f7 p.f15 p.f20 (sym h.3) (sym h.4);
      below = p.below;
    }

-- an amount is its own five bits
amount_bits : (z : ℤ) → IsAmount z → pos (field 0 5 (cast_unsigned w32 z)) ≡ z
amount_bits (pos n) below = let e : field 0 5 n ≡ n = omega arith in ap (λ x. pos x) e
amount_bits (negsuc n) none = absurd none

gives_back_shift : (mask bits : ℕ) (i : Instr) → mask ≡ 0xfe00707f → bit_and bits mask ≡ bits → HasRanges Shift i
    → GivesBack Shift mask bits i
gives_back_shift mask bits i m under h =
    let is =
    under_mask mask 0xfe00707f bits (field 25 7 bits * 2 ^ 25 + (field 12 3 bits * 2 ^ 12 + field 0 7 bits)) m under
    (mask-fe00707f bits) in
    let v = bits + operand_bits Shift i in
    let u = cast_unsigned w32 i.imm in
    let p = parts_r v (field 0 7 bits) (field 12 3 bits) (field 25 7 bits) i.rd i.rs1 (field 0 5 u)
    (field-below 0 7 bits) (field-below 12 3 bits) (field-below 25 7 bits) h.0 h.1 (field-below 0 5 u)
    (ap (λ b. b + operand_bits Shift i) is) in
    record {
      matches = alike_fe00707f v bits mask m is p.f25 p.f12 p.f0;
      fields = same_instr i (field 7 5 v) (field 15 5 v) 0 0 (pos (field 20 5 v)) p.f7 p.f15 (sym h.2)
          (ap (λ n. pos n) p.f20 ∙ amount_bits i.imm h.3) (sym h.4);
      below = p.below;
    }

gives_back_s : (mask bits : ℕ) (i : Instr) → mask ≡ 0x707f → bit_and bits mask ≡ bits → HasRanges S i
    → GivesBack S mask bits i
gives_back_s mask bits i m under h =
    let is = under_mask mask 0x707f bits (field 12 3 bits * 2 ^ 12 + field 0 7 bits) m under (mask-707f bits) in
    let v = bits + operand_bits S i in
    let p = parts_s v (field 0 7 bits) (field 12 3 bits) i.rs1 i.rs2 (cast_unsigned w32 i.imm) (field-below 0 7 bits)
    (field-below 12 3 bits) h.1 h.2 (ap (λ b. b + operand_bits S i) is) in
    record {
      matches = alike_707f v bits mask m is p.f12 p.f0;
      fields =
          same_instr i 0 (field 15 5 v) (field 20 5 v) 0 (twos_complement 2048 (field 25 7 v * 2 ^ 5 + field 7 5 v))
          (sym h.0) p.f15 p.f20
          (ap (λ n. twos_complement 2048 n) p.imm ∙ twos-bits 2048 1048575 i.imm refl h.3) (sym h.4);
      below = p.below;
    }

gives_back_b : (mask bits : ℕ) (i : Instr) → mask ≡ 0x707f → bit_and bits mask ≡ bits → HasRanges B i
    → GivesBack B mask bits i
gives_back_b mask bits i m under h =
    let is = under_mask mask 0x707f bits (field 12 3 bits * 2 ^ 12 + field 0 7 bits) m under (mask-707f bits) in
    let v = bits + operand_bits B i in
    let even = bits-even i.imm (wider 4096 i.imm (omega arith) h.3.0) h.3.1 in
    let p = parts_b v (field 0 7 bits) (field 12 3 bits) i.rs1 i.rs2 (cast_unsigned w32 i.imm) (field-below 0 7 bits)
    (field-below 12 3 bits) h.1 h.2 even (ap (λ b. b + operand_bits B i) is) in
    record {
      matches = alike_707f v bits mask m is p.f12 p.f0;
      fields =
          same_instr i 0 (field 15 5 v) (field 20 5 v) 0
          (twos_complement 4096 (field 31 1 v * 2 ^ 12 + field 7 1 v * 2 ^ 11 + field 25 6 v * 2 ^ 5 + field 8 4 v * 2))
          (sym h.0) p.f15 p.f20
          (ap (λ n. twos_complement 4096 n) p.imm ∙ twos-bits 4096 524287 i.imm refl h.3.0) (sym h.4);
      below = p.below;
    }

gives_back_u : (mask bits : ℕ) (i : Instr) → mask ≡ 0x7f → bit_and bits mask ≡ bits → HasRanges U i
    → GivesBack U mask bits i
gives_back_u mask bits i m under h =
    let is = under_mask mask 0x7f bits (field 0 7 bits) m under (mask-7f bits) in
    let v = bits + operand_bits U i in
    let p = parts_u v (field 0 7 bits) i.rd (cast_unsigned w32 i.imm) (field-below 0 7 bits) h.0
    (bits-below i.imm h.3.0) (bits-upper i.imm h.3.0 h.3.1) (ap (λ b. b + operand_bits U i) is) in
    record {
      matches = alike_7f v bits mask m is p.f0;
      fields =
          same_instr i (field 7 5 v) 0 0 0 (twos_complement (2 ^ 31) (field 12 20 v * 2 ^ 12)) p.f7 (sym h.1) (sym h.2)
          (ap (λ n. twos_complement (2 ^ 31) n) p.imm ∙ twos-bits (2 ^ 31) 0 i.imm refl h.3.0) (sym h.4);
      below = p.below;
    }

gives_back_j : (mask bits : ℕ) (i : Instr) → mask ≡ 0x7f → bit_and bits mask ≡ bits → HasRanges J i
    → GivesBack J mask bits i
gives_back_j mask bits i m under h =
    let is = under_mask mask 0x7f bits (field 0 7 bits) m under (mask-7f bits) in
    let v = bits + operand_bits J i in
    let even = bits-even i.imm (wider (2 ^ 20) i.imm (omega arith) h.3.0) h.3.1 in
    let p = parts_j v (field 0 7 bits) i.rd (cast_unsigned w32 i.imm) (field-below 0 7 bits) h.0 even
    (ap (λ b. b + operand_bits J i) is) in
    record {
      matches = alike_7f v bits mask m is p.f0;
      fields =
          same_instr i (field 7 5 v) 0 0 0
          (twos_complement (2 ^ 20)
          (field 31 1 v * 2 ^ 20 + field 12 8 v * 2 ^ 12 + field 20 1 v * 2 ^ 11 + field 21 10 v * 2)) p.f7
          (sym h.1) (sym h.2)
          (ap (λ n. twos_complement (2 ^ 20) n) p.imm ∙ twos-bits (2 ^ 20) 2047 i.imm refl h.3.0) (sym h.4);
      below = p.below;
    }

gives_back_whole : (mask bits : ℕ) (i : Instr) → mask ≡ 0xffffffff → bits < 2 ^ 32 → HasRanges Whole i
    → GivesBack Whole mask bits i
gives_back_whole mask bits i m small h =
    let same : bits + 0 ≡ bits = omega arith in
    record {
      matches = ap (λ x. bit_and (bits + 0) x) m ∙ mask-ffffffff (bits + 0) (omega arith) ∙ same;
      fields = same_instr i 0 0 0 0 (pos 0) (sym h.0) (sym h.1) (sym h.2) (sym h.3) (sym h.4);
      below = omega arith;
    }

-- an atomic, whose mask covers rs2 for LR alone
gives_back_atomic : (mask bits : ℕ) (i : Instr) → HasMask Atomic mask bits i.op → bit_and bits mask ≡ bits
    → HasRanges Atomic i → (i.op ≡ LR → i.rs2 ≡ 0) → GivesBack Atomic mask bits i
gives_back_atomic mask bits i (inl m) under h none =
    let is =
    under_mask mask 0xf800707f bits
    (field 27 5 bits * 2 ^ 27 + (field 12 3 bits * 2 ^ 12 + field 0 7 bits)) m.0 under (mask-f800707f bits) in
    let v = bits + operand_bits Atomic i in
    let p = parts_a v (field 0 7 bits) (field 12 3 bits) (field 27 5 bits) i.rd i.rs1 i.rs2 i.order
    (field-below 0 7 bits) (field-below 12 3 bits) (field-below 27 5 bits) h.0 h.1 h.2 h.4
    (ap (λ b. b + operand_bits Atomic i) is) in
    record {
      matches = alike_f800707f v bits mask m.0 is p.f27 p.f12 p.f0;
      fields = same_instr i (field 7 5 v) (field 15 5 v) (field 20 5 v) (field 25 2 v) (pos 0) p.f7 p.f15 p.f20
          (sym h.3) p.f25;
      below = p.below;
    }
gives_back_atomic mask bits i (inr m) under h none =
    let look =
    under_mask mask 0xf9f0707f bits
    (field 27 5 bits * 2 ^ 27 + (field 20 5 bits * 2 ^ 20 + (field 12 3 bits * 2 ^ 12 + field 0 7 bits))) m.0 under
    (mask-f9f0707f bits) in
    let is : bits ≡ field 27 5 bits * 2 ^ 27 + (field 12 3 bits * 2 ^ 12 + field 0 7 bits) = look
    ∙ ap (λ x. field 27 5 bits * 2 ^ 27 + (x * 2 ^ 20 + (field 12 3 bits * 2 ^ 12 + field 0 7 bits))) m.2
    ∙ omega arith in
    let v = bits + operand_bits Atomic i in
    let p = parts_a v (field 0 7 bits) (field 12 3 bits) (field 27 5 bits) i.rd i.rs1 i.rs2 i.order
    (field-below 0 7 bits) (field-below 12 3 bits) (field-below 27 5 bits) h.0 h.1 h.2 h.4
    (ap (λ b. b + operand_bits Atomic i) is) in
    record {
      matches = alike_f9f0707f v bits mask m.0 is p.f27 p.f12 p.f0 (p.f20 ∙ none m.1);
      fields = same_instr i (field 7 5 v) (field 15 5 v) (field 20 5 v) (field 25 2 v) (pos 0) p.f7 p.f15 p.f20
          (sym h.3) p.f25;
      below = p.below;
    }

pub gives_back : (s : Shape) (mask bits : ℕ) (i : Instr) → HasMask s mask bits i.op → bit_and bits mask ≡ bits
    → bits < 2 ^ 32 → HasRanges s i → (i.op ≡ LR → i.rs2 ≡ 0) → GivesBack s mask bits i
gives_back R mask bits i m under small h none = gives_back_r mask bits i m under h
gives_back I mask bits i m under small h none = gives_back_i mask bits i m under h
gives_back S mask bits i m under small h none = gives_back_s mask bits i m under h
gives_back B mask bits i m under small h none = gives_back_b mask bits i m under h
gives_back U mask bits i m under small h none = gives_back_u mask bits i m under h
gives_back J mask bits i m under small h none = gives_back_j mask bits i m under h
gives_back Shift mask bits i m under small h none = gives_back_shift mask bits i m under h
gives_back Fence mask bits i m under small h none =
    let b = gives_back_i mask bits i m under h in
    record { matches = b.matches; fields = b.fields; below = b.below }
gives_back Whole mask bits i m under small h none = gives_back_whole mask bits i m small h
gives_back Atomic mask bits i m under small h none = gives_back_atomic mask bits i m under h none
