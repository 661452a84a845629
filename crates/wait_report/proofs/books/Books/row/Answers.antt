use Rattle.std.proofs.Common.{◌≡◌, ◌^◌, ◌<◌, List, ℕ, All, IfSome, true, false, ap, subst, sym, ◌∙◌}
use Rattle.event_costs.specs.Costs.{difference_of_costs, sum_of_costs}
use Rattle.wait_report.specs.Keeping.{open_of, spot, sum_of}
use Rattle.wait_report.specs.declared.books.Sum.{Sum}
use Rattle.wait_report.specs.inner.Lookups.{same_number}
use Rattle.wait_report.specs.inner.Room.{HasSpan, books_of}
use Rattle.wait_report.proofs.RowLemmas.{at_none_cost, at_none_unwoken, only_some, open_cost, open_unwoken, row_is}
use Rattle.wait_report.proofs.books.Books.row.Goals as goal

pub add-requires : goal.add-requires
add-requires c =
    let k = books_of c.args.self.now in
    let s = c.args.spot in
    let held = c.in-Some.held in
    let some = only_some s.word (open_of s.thread k) held (sym c.open_at.ensures ∙ c.in-Some.is) in
    let span : HasSpan k s.thread held = subst (λ o. IfSome o (HasSpan k s.thread)) some.0 (c.requires.sound s.thread) in
    let word = same_number held.word s.word some.1 in
    let sum : sum_of (spot s.thread held.word) k ≡ c.sum_of-sum.result =
    ap (λ w. sum_of (spot s.thread w) k) word ∙ sym c.sum_of-sum.ensures in
    let rest : difference_of_costs k.total held.start ≡ c.minus.result = sym c.minus.ensures in
    subst (λ (cost : List ℕ). All (λ n. n < 2 ^ 64) (sum_of_costs c.sum_of-sum.result.cost cost)) rest
    (subst (λ (x : Sum). All (λ n. n < 2 ^ 64) (sum_of_costs x.cost (difference_of_costs k.total held.start))) sum
    span.fits)

pub returns-in_default : goal.returns-in_default
returns-in_default c = λ xs stands.
    let k = books_of c.args.self.now in
    let s = c.args.spot in
    let none = sym c.open_at.ensures ∙ c.in_default.is in
    row_is xs s c.sum_of-sum.result.waits false c.sum_of-sum.result.cost c.in_ok-wakers.wakers
    (ap (λ x. x.waits) c.sum_of-sum.ensures ∙ stands.waits s)
    (at_none_unwoken k xs s stands none)
    (ap (λ x. x.cost) c.sum_of-sum.ensures ∙ at_none_cost k xs s stands none)
    (c.in_ok-wakers.ensures xs stands)

pub returns : goal.returns
returns c = λ xs stands.
    let k = books_of c.args.self.now in
    let s = c.args.spot in
    let held = c.in-Some.held in
    let some = only_some s.word (open_of s.thread k) held (sym c.open_at.ensures ∙ c.in-Some.is) in
    row_is xs s c.sum_of-sum.result.waits true c.add.new.self c.in_ok-wakers.wakers
    (ap (λ x. x.waits) c.sum_of-sum.ensures ∙ stands.waits s)
    (open_unwoken k xs s stands held some.0 some.1)
    (c.add.ensures.sum ∙ (λ i. sum_of_costs (c.sum_of-sum.ensures i).cost (c.minus.ensures i))
    ∙ open_cost k xs s stands held some.0 some.1)
    (c.in_ok-wakers.ensures xs stands)
