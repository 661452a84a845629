use Rattle.std.proofs.Common.{◌∙◌, sym}
use Rattle.command_words.proofs.ValueLemmas.{one_comma, two_commas}
use Rattle.command_words.proofs.value.geometry.Goals as goal

pub returns-in_err-assoc : goal.returns-in_err-assoc
returns-in_err-assoc c =
    c.from_residual-in_err-assoc.ensures
    ∙ one_comma c.args.text.now c.in_ok-size.size c.in_ok-size.others c.in_ok-size.ensures.cases
    c.in_err-assoc.ensures.cases

pub returns : goal.returns
returns c =
    two_commas c.args.text.now c.in_ok-size.size c.in_ok-size.others c.in_ok-assoc.assoc c.in_ok-assoc.line
    c.in_ok-small_number.field-0
    c.in_ok-small_number-2.field-0 c.in_ok-small_number-3.field-0 c.new.result c.in_ok-size.ensures.cases
    c.in_ok-assoc.ensures.cases
    (sym c.small_number.ensures ∙ c.in_ok-small_number.was) (sym c.small_number-2.ensures ∙ c.in_ok-small_number-2.was)
    (sym c.small_number-3.ensures ∙ c.in_ok-small_number-3.was) c.new.ensures.accepted c.new.ensures.value
