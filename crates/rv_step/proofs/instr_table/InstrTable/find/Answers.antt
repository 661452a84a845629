use Rattle.std.proofs.Common.{ap, sym, ◌∙◌, inr}
use Rattle.std.specs.Option.{option_and_then}
use Rattle.std.specs.Result.{result_ok}
use Rattle.rv_decode.specs.Decoded.{decode}
use Rattle.rv_step.specs.Code.{instruction_at}
use Rattle.rv_step.specs.inner.Table.{kept_instruction}
use Rattle.rv_step.proofs.instr_table.InstrTable.find.Goals as goal

pub returns-in_default-clause-found : goal.returns-in_default-clause-found
unfolding instruction_at
returns-in_default-clause-found c =
    c.requires ∙ sym (ap (option_and_then decode) (sym c.fetch.ensures ∙ ap result_ok c.in_default.is))

pub returns-in-Some-clause-found : goal.returns-in-Some-clause-found
unfolding instruction_at
returns-in-Some-clause-found c =
    c.keep.ensures.kept
    ∙ sym (ap (option_and_then decode) (sym c.fetch.ensures ∙ ap result_ok c.in-Ok.is)
    ∙ sym c.decode.ensures.row ∙ c.in-Some.is)

pub returns-in-Some-clause-others : goal.returns-in-Some-clause-others
unfolding kept_instruction
returns-in-Some-clause-others c = c.keep.ensures.others

pub returns-in_default-decode-clause-found : goal.returns-in_default-decode-clause-found
unfolding instruction_at kept_instruction
returns-in_default-decode-clause-found c =
    c.requires
    ∙ sym (ap (option_and_then decode) (sym c.fetch.ensures ∙ ap result_ok c.in-Ok.is)
    ∙ sym c.decode.ensures.row ∙ c.in_default-decode.is)

pub returns-in_default-decode-clause-others : goal.returns-in_default-decode-clause-others
unfolding kept_instruction
returns-in_default-decode-clause-others c = λ q i given. inr given
