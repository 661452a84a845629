use Rattle.std.proofs.Common.{◌++◌, ap, ◌∙◌, append_assoc, codes}
use Rattle.std.proofs.lemmas.Result.{on_ok_weaker}
use Rattle.byte_text.specs.Names.{clean_name}
use Rattle.wait_report.proofs.writing.push_command.Goals as goal

pub returns : goal.returns
returns c =
    on_ok_weaker c.push_cleaned.result
    (λ e. e ∙ ap (λ t. t ++ clean_name c.args.cmd.now) c.in_ok-push.ensures.ok
    ∙ append_assoc c.args.text.now (codes "# waits\ncmd: ") (clean_name c.args.cmd.now))
    c.push_cleaned.ensures
