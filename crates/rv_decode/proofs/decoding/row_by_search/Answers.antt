use Rattle.std.proofs.Common.{refl, sym, ◌∙◌}
use Rattle.rv_decode.proofs.DecodeLemmas.{no_match, at_position}
use Rattle.rv_decode.proofs.decoding.row_by_search.Goals as goal

pub returns-in_err-index : goal.returns-in_err-index
returns-in_err-index c =
    c.from_residual.ensures ∙ sym (no_match c.args.word (c.in_err-index.ensures.none.0 refl))

pub returns : goal.returns
returns c = sym (at_position c.args.word c.in_ok-index.index _ (sym c.in_ok-index.ensures.first))
