-- Decoding and encoding undo each other.
use Rattle.std.proofs.Common.{◌≡◌, ℕ, ◌^◌, ◌+◌, ◌<◌, Option, Some, None, IfSome, Contains, refl, sym, ap, ◌∙◌, subst}
use Rattle.std.proofs.Common.{arith}
use Rattle.rv_decode.specs.Decoded.{decode, matching_row}
use Rattle.rv_decode.specs.Encoded.{HasAmounts, HasEvenOffsets, HasRanges, HasRegisters, IsInRange, encode, operand_bits}
use Rattle.rv_decode.specs.Layout.{instr_of}
use Rattle.rv_decode.specs.Matching.{Matches}
use Rattle.rv_decode.specs.Table.{listed_rows, row_of}
use Rattle.rv_decode.specs.declared.instr.Instr.{Instr}
use Rattle.rv_decode.specs.declared.instr.Op.{Op}
use Rattle.rv_decode.specs.declared.instr.Op.TheVariants.{JAL, BEQ, BNE, BLT, BGE, BLTU, BGEU, SLLI, SRLI, SRAI}
use Rattle.rv_decode.specs.declared.row.Row.{Row}
use Rattle.rv_decode.specs.declared.row.Shape.{Shape}
use Rattle.rv_decode.specs.declared.row.Shape.TheVariants.{R, I, S, B, U, J, Shift, Fence, Whole, Atomic}
use Rattle.rv_decode.proofs.DecodeLemmas.{decoded-none, decoded-some, is_matching_row, matched}
use Rattle.rv_decode.proofs.EncodeLemmas.{GivesBack, gives_back}
use Rattle.rv_decode.proofs.LaidLemmas.{laid, lr-atomic}
use Rattle.rv_decode.proofs.RoundTrip.{again, op-kept, ranges, reserved}
use Rattle.rv_decode.proofs.RowLemmas.{op_of, row_of-contained, row_of-op}

-- ---- from an instruction to its word and back

back : (i : Instr) → IsInRange i → GivesBack (row_of i.op).shape (row_of i.op).mask (row_of i.op).bits i
back i h =
    let l = laid i.op in
    gives_back (row_of i.op).shape (row_of i.op).mask (row_of i.op).bits i l.mask l.under l.small h.ranges h.reserved

pub encoded-below : (i : Instr) → IsInRange i → encode i < 2 ^ 32
unfolding encode
encoded-below i h = (back i h).below

pub decoded-encoded : (i : Instr) → IsInRange i → decode (encode i) ≡ Some i
unfolding encode
decoded-encoded i h =
    let b = back i h in
    let row = row_of i.op in
    let w = row.bits + operand_bits row.shape i in
    decoded-some w row (is_matching_row w row (row_of-contained i.op) b.matches)
    ∙ ap (λ (j : Instr). Some j) (ap (λ o. instr_of row.shape o w) (op_of i.op) ∙ b.fields)

-- what the code adds up
pub encoded-row : (i : Instr) (row : Row) (parts : ℕ) → row ≡ row_of i.op → parts ≡ operand_bits row.shape i
    → row.bits + parts ≡ encode i
unfolding encode
encoded-row i row parts is e = ap (λ n. row.bits + n) e ∙ ap (λ (r : Row). r.bits + operand_bits r.shape i) is

-- ---- from a word to its instruction and back

-- what a word that matches the row of an instruction gives
record Reads (o : Op) (w : ℕ) : Type 0 where
  same : encode (instr_of (row_of o).shape o w) ≡ w
  in_range : IsInRange (instr_of (row_of o).shape o w)

-- the row of the name, where the name is a word's
encoded_by : (o : Op) (i : Instr) → i.op ≡ o → encode i ≡ (row_of o).bits + operand_bits (row_of o).shape i
unfolding encode
encoded_by o i e = ap (λ p. (row_of p).bits + operand_bits (row_of p).shape i) e

reads : (o : Op) (w : ℕ) → w < 2 ^ 32 → Matches w (row_of o) → Reads o w
reads o w small h =
    let l = laid o in
    let row = row_of o in
    let i = instr_of row.shape o w in
    let kept = op-kept row.shape o w in
    let P : Op → Type 0 = λ p. HasRanges (row_of p).shape i in
    record {
      same = encoded_by o i kept ∙ again row.shape row.mask row.bits w o l.mask h small;
      in_range = record {
        ranges = subst P (sym kept) (ranges row.shape w o);
        reserved = λ lr. reserved row.shape row.mask row.bits w o l.mask h (lr-atomic o) (sym kept ∙ lr);
      };
    }

-- the same of a row of the table
row_reads : (w : ℕ) (row : Row) → w < 2 ^ 32 → Contains listed_rows row → Matches w row
    → (encode (instr_of row.shape row.op w) ≡ w) × IsInRange (instr_of row.shape row.op w)
row_reads w row small stands h =
    let e = row_of-op row stands in
    let M : Row → Type 0 = λ r. Matches w r in
    let r = reads row.op w small (subst M (sym e) h) in
    let P : Row → Type 0 = λ x. (encode (instr_of x.shape row.op w) ≡ w) × IsInRange (instr_of x.shape row.op w) in
    subst P e (r.same, r.in_range)

decoded_reads_at : (w : ℕ) (m : Option Row) → w < 2 ^ 32 → matching_row w ≡ m → (o : Option Instr) → o ≡ decode w
    → IfSome o (λ i. (encode i ≡ w) × IsInRange i)
decoded_reads_at w m small e None is = tt
decoded_reads_at w None small e (Some i) is = let none = decoded-none w e in cc
decoded_reads_at w (Some row) small e (Some i) is =
    let at = matched w row e in
    let some = decoded-some w row e in
    let same : instr_of row.shape row.op w ≡ i = cc in
    let P : Instr → Type 0 = λ j. (encode j ≡ w) × IsInRange j in
    subst P same (row_reads w row small at.1 at.0)

pub decoded_reads : (w : ℕ) (o : Option Instr) → w < 2 ^ 32 → o ≡ decode w
    → IfSome o (λ i. (encode i ≡ w) × IsInRange i)
decoded_reads w o small is = decoded_reads_at w (matching_row w) small refl o is

pub encoded_again : (w : ℕ) (o : Option Instr) → w < 2 ^ 32 → o ≡ decode w → IfSome o (λ i. encode i ≡ w)
encoded_again w None small is = tt
encoded_again w (Some i) small is = (decoded_reads w (Some i) small is).0

pub in_range : (w : ℕ) (o : Option Instr) → w < 2 ^ 32 → o ≡ decode w → IfSome o IsInRange
in_range w None small is = tt
in_range w (Some i) small is = (decoded_reads w (Some i) small is).1

-- an instruction has one word
pub one_word : (w : ℕ) (i : Instr) → w < 2 ^ 32 → decode w ≡ Some i → w ≡ encode i
one_word w i small is = sym (decoded_reads w (Some i) small (sym is)).0

-- the ranges of any shape bound the registers
registers_of : (s : Shape) (i : Instr) → HasRanges s i → HasRegisters i
registers_of R i h = record { rd = h.0; rs1 = h.1; rs2 = h.2; order = omega (arith, h.4) }
registers_of I i h = record { rd = h.0; rs1 = h.1; rs2 = omega (arith, h.2); order = omega (arith, h.4) }
registers_of S i h = record { rd = omega (arith, h.0); rs1 = h.1; rs2 = h.2; order = omega (arith, h.4) }
registers_of B i h = record { rd = omega (arith, h.0); rs1 = h.1; rs2 = h.2; order = omega (arith, h.4) }
registers_of U i h = record { rd = h.0; rs1 = omega (arith, h.1); rs2 = omega (arith, h.2); order = omega (arith, h.4) }
registers_of J i h = record { rd = h.0; rs1 = omega (arith, h.1); rs2 = omega (arith, h.2); order = omega (arith, h.4) }
registers_of Shift i h = record { rd = h.0; rs1 = h.1; rs2 = omega (arith, h.2); order = omega (arith, h.4) }
registers_of Fence i h = record { rd = h.0; rs1 = h.1; rs2 = omega (arith, h.2); order = omega (arith, h.4) }
registers_of Whole i h = record {
  rd = omega (arith, h.0);
  rs1 = omega (arith, h.1);
  rs2 = omega (arith, h.2);
  order = omega (arith, h.4);
}
registers_of Atomic i h = record { rd = h.0; rs1 = h.1; rs2 = h.2; order = h.4 }

pub has_registers : (i : Instr) → IsInRange i → HasRegisters i
has_registers i h = registers_of (row_of i.op).shape i h.ranges

pub registers : (w : ℕ) (o : Option Instr) → w < 2 ^ 32 → o ≡ decode w → IfSome o HasRegisters
registers w None small is = tt
registers w (Some i) small is = has_registers i (in_range w (Some i) small is)

-- ---- what a step asks of one instruction

-- the ranges of the instruction with this name
named : (i : Instr) (o : Op) → IsInRange i → i.op ≡ o → HasRanges (row_of o).shape i
named i o h e = let P : Op → Type 0 = λ p. HasRanges (row_of p).shape i in subst P e h.ranges

has_amounts : (i : Instr) → IsInRange i → HasAmounts i
unfolding row_of
has_amounts i h = record {
  slli = λ e. (named i SLLI h e).3;
  srli = λ e. (named i SRLI h e).3;
  srai = λ e. (named i SRAI h e).3;
}

has_even_offsets : (i : Instr) → IsInRange i → HasEvenOffsets i
unfolding row_of
has_even_offsets i h = record {
  jal = λ e. (named i JAL h e).3.1;
  beq = λ e. (named i BEQ h e).3.1;
  bne = λ e. (named i BNE h e).3.1;
  blt = λ e. (named i BLT h e).3.1;
  bge = λ e. (named i BGE h e).3.1;
  bltu = λ e. (named i BLTU h e).3.1;
  bgeu = λ e. (named i BGEU h e).3.1;
}

pub amounts : (w : ℕ) (o : Option Instr) → w < 2 ^ 32 → o ≡ decode w → IfSome o HasAmounts
amounts w None small is = tt
amounts w (Some i) small is = has_amounts i (in_range w (Some i) small is)

pub even_offsets : (w : ℕ) (o : Option Instr) → w < 2 ^ 32 → o ≡ decode w → IfSome o HasEvenOffsets
even_offsets w None small is = tt
even_offsets w (Some i) small is = has_even_offsets i (in_range w (Some i) small is)
