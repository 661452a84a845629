use Rattle.std.proofs.Common.{◌<◌, ℕ, [], length, All, sym, subst, ◌∙◌, arith}
use Rattle.std.proofs.lemmas.List.Elements.{All-filter}
use Rattle.report_rows.specs.Orders.{in_group}
use Rattle.std.proofs.lemmas.List.{get_or-map}
use Rattle.report_rows.proofs.OrderLemmas.{all_below}
use Rattle.annotate.proofs.view.View.members_of.Goals as goal

pub returns-clause-functions : goal.returns-clause-functions
returns-clause-functions c =
    let v = c.args.self.now in
    let n = length v.profile.now.functions in
    let P : ℕ → Type 0 = λ f. f < n in
    let inside : c.args.group < length v.members.now = omega (arith, c.requires.group, c.requires.view.members.size) in
    let is = c.deref.ensures.value
    ∙ sym (get_or-map (λ row. row.items) v.members.now c.args.group c.index-self-group.result [] inside)
    ∙ c.requires.view.members.exact c.args.group c.requires.group in
    subst (All P) (sym is)
    (All-filter (in_group v.groups.now c.args.group) P v.functions.now
    (all_below n v.functions.now c.requires.view.in_order.same))
