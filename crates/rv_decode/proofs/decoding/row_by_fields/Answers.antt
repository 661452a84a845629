use Rattle.std.proofs.Common.{sym, ◌∙◌}
use Rattle.rv_decode.proofs.DecodeLemmas.{no_row, other_row, is_matching_row}
use Rattle.rv_decode.proofs.decoding.row_by_fields.Goals as goal

pub returns-in_err-candidate : goal.returns-in_err-candidate
returns-in_err-candidate c =
    c.from_residual.ensures ∙ sym (no_row c.args.word (sym c.candidate.ensures ∙ c.in_err-candidate.was))

pub returns-then-word-row : goal.returns-then-word-row
returns-then-word-row c =
    sym (is_matching_row c.args.word c.row_of-row.result c.row_of-row.ensures.of_the_table c.if-word-row.true)

pub returns-else-word-row : goal.returns-else-word-row
returns-else-word-row c =
    sym (other_row c.args.word c.in_ok-candidate.field-0 c.row_of-row.result
    (sym c.candidate.ensures ∙ c.in_ok-candidate.was) c.row_of-row.ensures.row c.if-word-row.false)
