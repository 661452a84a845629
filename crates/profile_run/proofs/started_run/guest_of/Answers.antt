use Rattle.std.proofs.Common.{Err, ap, map, string_bytes, sym, subst, ◌∙◌}
use Rattle.guest_load.specs.Arguments.{NeedsTooMany}
use Rattle.profile_run.proofs.JobLemmas.{few_of_full, few_of_ok}
use Rattle.profile_run.proofs.started_run.guest_of.Goals as goal

pub returns-in-Ok-clause-few : goal.returns-in-Ok-clause-few
returns-in-Ok-clause-few c = few_of_ok c.load.result _ c.load.ensures.args_too_long c.in-Ok.guest c.in-Ok.is

pub returns-in-Err-ArgsTooLong-clause-stops : goal.returns-in-Err-ArgsTooLong-clause-stops
returns-in-Err-ArgsTooLong-clause-stops c =
    subst (λ n. NeedsTooMany (map string_bytes c.args.args.now) n) (sym c.in-Err-ArgsTooLong.len-is)
    ((c.load.ensures.args_too_long c.in-Err-ArgsTooLong.len).0
    (c.in-Err-ArgsTooLong.is ∙ ap Err c.in-Err-ArgsTooLong.field-0-is))

pub returns-in-Err-Full-clause-stops : goal.returns-in-Err-Full-clause-stops
returns-in-Err-Full-clause-stops c =
    let is = c.in-Err-Full.is ∙ ap Err c.in-Err-Full.field-0-is in
    (few_of_full c.load.result _ c.load.ensures.args_too_long is, c.load.ensures.full is)
