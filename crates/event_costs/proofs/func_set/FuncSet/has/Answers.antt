use Rattle.std.specs.List.Sorted.{IsBinarySearchResult, IsSearchInRange, IsStrictlyIncreasing}
use Rattle.std.specs.Ordering.{nat_cmp}
use Rattle.std.specs.Prelude.{is_ok}
use Rattle.std.proofs.Common.{◌≡◌, List, length, subst, ◌∙◌, rules}
use Rattle.std.proofs.lemmas.List.Sorted.{answers_always}
use Rattle.event_costs.specs.FuncSet.{is_among, numbers}
use Rattle.event_costs.specs.declared.numbers.FuncId.{FuncId}
use Rattle.event_costs.proofs.FuncSetLemmas.{among_tells, found_among}
use Rattle.event_costs.proofs.func_set.FuncSet.has.Goals as goal

-- what the search answers
found : (c : goal.After-is_ok) → is_ok c.binary_search_by_key.result ≡ is_among c.args.self.now c.args.func
found c =
    let facts = c.binary_search_by_key.ensures in
    let by_key = facts.position (λ (f : FuncId). f.0) (answers_always _ _ _ (λ f a r g called. search rules)) in
    let is = c.deref.ensures.value ∙ c.self.view_is in
    let rise = subst (λ (fs : List FuncId). IsStrictlyIncreasing (numbers fs)) c.self.view_is c.self.invariant in
    found_among c.args.self.now rise c.args.func c.binary_search_by_key.result
    (subst (λ (fs : List FuncId). IsSearchInRange c.binary_search_by_key.result (length fs)) is facts.bound)
    (subst (λ (fs : List FuncId). IsBinarySearchResult (λ (f : FuncId). nat_cmp f.0 c.args.func.0) fs
    c.binary_search_by_key.result) is by_key)

pub returns-clause-among : goal.returns-clause-among
returns-clause-among c = c.is_ok.ensures.value ∙ found c

pub returns-clause-found : goal.returns-clause-found
returns-clause-found c = among_tells c.is_ok.result c.args.self.now c.args.func (c.is_ok.ensures.value ∙ found c)
