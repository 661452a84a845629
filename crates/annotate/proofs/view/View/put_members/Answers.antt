use Rattle.std.proofs.Common.{◌++◌, get_or, codes}
use Rattle.annotate.specs.Functions.{self_and_name}
use Rattle.report_rows.proofs.ListLemmas.{text_more, two_pieces}
use Rattle.annotate.proofs.view.View.put_members.Goals as goal

pub members-preserved : goal.members-preserved
members-preserved c =
    let p = c.args.self.now.profile.now in
    let fs = c.args.members.now in
    let i = c.members.function-index in
    text_more (λ f. codes "  - | " ++ self_and_name p f) c.args.text.now c.members.text c.put_function.new.text fs i 0
    c.members-test.true c.members.invariant
    (two_pieces c.members.text c.push.new.self c.put_function.new.text (codes "  - | ")
    (self_and_name p (get_or fs i 0))
    c.in_ok-push.ensures.ok c.in_ok-put_function.ensures)
