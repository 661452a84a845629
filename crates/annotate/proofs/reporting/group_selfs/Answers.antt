use Rattle.std.proofs.Common.{◌≡◌, ◌<◌, ◌==◌, ◌&&◌, nat_lt, true, ℕ, length, get_or, sym, ap, subst, arith}
use Rattle.std.specs.Prelude.{IfOk}
use Rattle.std.proofs.lemmas.Bool.Decides.{nat_tests}
use Rattle.call_graph.specs.Groups.{is_member}
use Rattle.cycles.specs.Costs.{group_at}
use Rattle.annotate.specs.Functions.{self_text}
use Rattle.annotate.specs.inner.Layout.{AreTexts}
use Rattle.annotate.proofs.reporting.group_selfs.Goals as goal

inside : (n f : ℕ) → f < n → nat_lt f n ≡ true
inside n f lt = grind (arith, nat_tests)

pub list_texts-requires-clause-lists : goal.list_texts-requires-clause-lists
list_texts-requires-clause-lists c = λ i d lt.
    omega (arith, (c.requires.profile.self_rows_fit i d lt).function, c.requires.groups.numbered.size)

pub list_texts-requires-clause-below : goal.list_texts-requires-clause-below
list_texts-requires-clause-below c = λ i d lt.
    let low = c.requires.groups.numbered.below (get_or c.args.profile.now.self_rows i d).func
    (c.requires.profile.self_rows_fit i d lt).function in
    omega (arith, low, c.count.ensures)

pub returns : goal.returns
returns c =
    let p = c.args.profile.now in
    let groups = c.args.groups.now in
    subst (λ n. IfOk c.list_texts.result (λ texts. AreTexts n
    (λ k. self_text p (is_member groups k)) texts.items)) c.count.ensures
    (c.list_texts.ensures (is_member groups)
    (λ n lt i d below.
    let f = (get_or p.self_rows i d).func in
    let small : f < length groups.number = omega (
      arith,
      (c.requires.profile.self_rows_fit i d below).function,
      c.requires.groups.numbered.size,
    ) in
    ap (λ b. b && (group_at groups f == n)) (sym (inside (length groups.number) f small))))
