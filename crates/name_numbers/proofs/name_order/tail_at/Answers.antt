use Rattle.std.proofs.Common.{◌≡◌, ◌<◌, get_or, [], length, drop, sym, ap, ◌∙◌, arith}
use Rattle.std.proofs.lemmas.Bool.Decides.{nat_tests}
use Rattle.std.proofs.lemmas.List.{get_or-map}
use Rattle.name_numbers.specs.Texts.{text_at}
use Rattle.name_numbers.proofs.NameRanks.{behind_text}
use Rattle.name_numbers.proofs.name_order.tail_at.Goals as goal

pub returns-in-Some-clause-text : goal.returns-in-Some-clause-text
returns-in-Some-clause-text c = λ bytes all.
    let place = c.in-Some.place.now in
    let lookup = c.in-Some.ensures.lookup in
    let is : place ≡ get_or c.args.places.now c.args.number place = lookup.1 in
    let some = lookup.0 in
    let lt : c.args.number < length c.args.places.now = grind (arith, nat_tests, some) in
    ap (text_at bytes) c.behind.ensures
    ∙ behind_text bytes place c.args.skip
    ∙ ap (drop c.args.skip) (ap (text_at bytes) is
    ∙ sym (get_or-map (text_at bytes) c.args.places.now c.args.number place [] lt))
