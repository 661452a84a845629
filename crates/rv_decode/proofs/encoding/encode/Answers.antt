use Rattle.std.proofs.Common.{◌^◌, ◌<◌, ℕ, ap, sym, subst, ◌∙◌}
use Rattle.rv_decode.specs.Decoded.{decode}
use Rattle.rv_decode.proofs.CodingLemmas.{decoded-encoded, encoded-below, encoded-row, has_registers, one_word}
use Rattle.rv_decode.proofs.encoding.encode.Goals as goal

pub operand_bits-requires : goal.operand_bits-requires
operand_bits-requires c = has_registers c.args.instr c.requires

pub overflow_add-result : goal.overflow_add-result
overflow_add-result c =
    let P : ℕ → Type 0 = λ n. n < 2 ^ 32 in
    record {
      fits =
          subst P
          (sym (encoded-row c.args.instr c.row_of-row.result c.operand_bits.result c.row_of-row.ensures.row c.operand_bits.ensures))
          (encoded-below c.args.instr c.requires);
    }

pub returns-clause-word : goal.returns-clause-word
returns-clause-word c =
    encoded-row c.args.instr c.row_of-row.result c.operand_bits.result c.row_of-row.ensures.row c.operand_bits.ensures

pub returns-clause-back : goal.returns-clause-back
returns-clause-back c =
    ap decode (encoded-row c.args.instr c.row_of-row.result c.operand_bits.result c.row_of-row.ensures.row c.operand_bits.ensures)
    ∙ decoded-encoded c.args.instr c.requires

pub returns-clause-only : goal.returns-clause-only
returns-clause-only c = λ w small is.
    one_word w c.args.instr small is
    ∙ sym (encoded-row c.args.instr c.row_of-row.result c.operand_bits.result c.row_of-row.ensures.row c.operand_bits.ensures)
