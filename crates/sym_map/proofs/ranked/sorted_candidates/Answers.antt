use Rattle.std.proofs.Common.{◌≡◌, ℕ, List, map, subst, arith, rules}
use Rattle.std.specs.Ordering.{is_lt}
use Rattle.std.specs.List.Sorted.{IsPermutation, IsStableBy}
use Rattle.std.proofs.lemmas.Fn.{always_returns_same}
use Rattle.std.proofs.lemmas.List.Sorted.{IsPermutation-map, length_permutation}
use Rattle.sym_map.specs.inner.Naming.{NamedSymbol, NumberedSymbol, is_preferred}
use Rattle.sym_map.specs.inner.Ranking.{named_in}
use Rattle.sym_map.proofs.Numbers.{sorted_map}
use Rattle.sym_map.proofs.MappedSorts.{stable_map}
use Rattle.sym_map.proofs.Members.{Alike, Alike-permutation, All-alike}
use Rattle.sym_map.proofs.Preference.{preferred_weak, sorted_alike, stable_alike}
use Rattle.sym_map.proofs.RankOrder.{is_before, before_weak, preferred_weak_in, ranks_agree, IsWithin}
use Rattle.sym_map.proofs.ranked.sorted_candidates.Goals as goal

pub returns-clause-all : goal.returns-clause-all
returns-clause-all c =
    let rs : List NumberedSymbol = c.in_ok-ranked.field-0.ranked.items in
    let names : List (List ℕ) = c.in_ok-ranked.field-0.names in
    let sorted : List NumberedSymbol = c.sort_by.new.self.items in
    subst (λ (cs : List NamedSymbol). IsPermutation cs (map (named_in names) sorted)) c.in_ok-ranked.ensures.all
    (IsPermutation-map (named_in names) rs sorted c.sort_by.ensures.permutation)

pub returns-clause-sorted : goal.returns-clause-sorted
returns-clause-sorted c =
    let rs : List NumberedSymbol = c.in_ok-ranked.field-0.ranked.items in
    let names : List (List ℕ) = c.in_ok-ranked.field-0.names in
    let named : NumberedSymbol → NamedSymbol = named_in names in
    let sorted : List NumberedSymbol = c.sort_by.new.self.items in
    sorted_map named is_preferred sorted
    (sorted_alike (λ (x y : NumberedSymbol). is_preferred (named x) (named y)) is_before (preferred_weak_in names) rs
    sorted c.sort_by.ensures.permutation
    (ranks_agree names c.in_ok-ranked.ensures.rise rs c.in_ok-ranked.ensures.each)
    (c.in_ok-sort_by.ensures.sorted is_before before_weak
    (always_returns_same _ (λ a r. is_lt r ≡ is_before a.0.now a.1.0.now) _
    (λ a r f' k. (search rules, search rules)))))

pub returns-clause-stable : goal.returns-clause-stable
returns-clause-stable c =
    let rs : List NumberedSymbol = c.in_ok-ranked.field-0.ranked.items in
    let names : List (List ℕ) = c.in_ok-ranked.field-0.names in
    let named : NumberedSymbol → NamedSymbol = named_in names in
    let sorted : List NumberedSymbol = c.sort_by.new.self.items in
    subst (λ (cs : List NamedSymbol). IsStableBy is_preferred cs (map named sorted)) c.in_ok-ranked.ensures.all
    (stable_map named is_preferred preferred_weak rs sorted c.sort_by.ensures.permutation
    (stable_alike (λ (x y : NumberedSymbol). is_preferred (named x) (named y)) is_before (preferred_weak_in names) rs
    sorted c.sort_by.ensures.permutation
    (ranks_agree names c.in_ok-ranked.ensures.rise rs c.in_ok-ranked.ensures.each)
    (c.in_ok-sort_by.ensures.stable is_before before_weak
    (always_returns_same _ (λ a r. is_lt r ≡ is_before a.0.now a.1.0.now) _
    (λ a r f' k. (search rules, search rules))))))

pub returns-clause-each : goal.returns-clause-each
returns-clause-each c =
    let rs : List NumberedSymbol = c.in_ok-ranked.field-0.ranked.items in
    let names : List (List ℕ) = c.in_ok-ranked.field-0.names in
    let alike : Alike rs c.sort_by.new.self.items =
    Alike-permutation rs c.sort_by.new.self.items c.sort_by.ensures.permutation in
    All-alike (IsWithin names) rs c.sort_by.new.self.items (λ x. ((alike x).1, (alike x).0))
    c.in_ok-ranked.ensures.each

pub returns-clause-few : goal.returns-clause-few
returns-clause-few c =
    let same = length_permutation c.in_ok-ranked.field-0.ranked.items c.sort_by.new.self.items c.sort_by.ensures.permutation in
    omega (arith, same, c.in_ok-ranked.ensures.few)
