use Rattle.std.proofs.Common.{◌≡◌, ℕ, List, length, sym, subst, rules}
use Rattle.std.specs.Ordering.{is_lt}
use Rattle.std.proofs.lemmas.Fn.{always_returns_same}
use Rattle.std.proofs.lemmas.List.{length-map}
use Rattle.name_numbers.specs.Texts.{text_at, texts_at}
use Rattle.name_numbers.specs.inner.NameOrder.{by_front, AreAllNumbers}
use Rattle.name_numbers.proofs.NameOrder.{front_weak, sorted_by_name, one_front, numbers_permuted, fronts_permuted}
use Rattle.name_numbers.proofs.name_order.in_order.Goals as goal

pub returns-clause-sorted : goal.returns-clause-sorted
returns-clause-sorted c =
    let names : List (List ℕ) = texts_at c.args.texts.now c.args.places.now in
    let common : List ℕ = c.args.common.now in
    let order = c.in_ok-order.order.items in
    let sorted = c.sort_unstable_by.new.self.items in
    let moved = c.sort_unstable_by.ensures.permutation in
    let all : AreAllNumbers (length names) sorted =
    subst (λ n. AreAllNumbers n sorted) (sym (length-map c.args.places.now (text_at c.args.texts.now)))
    (numbers_permuted (length c.args.places.now) order sorted moved c.in_ok-order.ensures.all) in
    sorted_by_name names common c.requires.begin sorted all.below
    (fronts_permuted names (length common) order sorted moved c.in_ok-order.ensures.fronts)
    (c.sort_unstable_by.ensures.sorted (λ x y. is_lt (by_front names (length common) x y))
    (front_weak names (length common))
    (always_returns_same _ (λ a r. is_lt r ≡ is_lt (by_front names (length common) a.0.now a.1.0.now)) _
    (λ a r f' k. (search rules, search rules))))

pub returns-clause-all : goal.returns-clause-all
returns-clause-all c =
    numbers_permuted (length c.args.places.now) c.in_ok-order.order.items c.sort_unstable_by.new.self.items
    c.sort_unstable_by.ensures.permutation c.in_ok-order.ensures.all

pub returns-clause-one_front : goal.returns-clause-one_front
returns-clause-one_front c =
    let names : List (List ℕ) = texts_at c.args.texts.now c.args.places.now in
    one_front names (length c.args.common.now) c.sort_unstable_by.new.self.items
    (fronts_permuted names (length c.args.common.now) c.in_ok-order.order.items c.sort_unstable_by.new.self.items
    c.sort_unstable_by.ensures.permutation c.in_ok-order.ensures.fronts)
