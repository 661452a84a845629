use Rattle.std.proofs.Common.{Some, ap, sym, ◌∙◌}
use Rattle.rv_decode.specs.declared.instr.Instr.{Instr}
use Rattle.rv_decode.proofs.DecodeLemmas.{decoded-none, decoded-some}
use Rattle.rv_decode.proofs.decoding.instr_by.Goals as goal

pub returns-in_err-row : goal.returns-in_err-row
returns-in_err-row c =
    c.from_residual.ensures ∙ sym (decoded-none c.args.word (sym c.requires ∙ c.in_err-row.was))

pub returns : goal.returns
returns c =
    ap (λ (i : Instr). Some i) c.instr_of.ensures
    ∙ sym (decoded-some c.args.word c.in_ok-row.row (sym c.requires ∙ c.in_ok-row.was))
