use Rattle.std.proofs.Common.{◌∷◌, ◌≤◌, length, ap, sym, subst, ◌∙◌}
use Rattle.std.specs.Prelude.{slice_get}
use Rattle.std.proofs.lemmas.List.{get_or_default}
use Rattle.name_numbers.proofs.Members.{Alike, Alike-trans, Alike-inserted}
use Rattle.name_numbers.proofs.Rising.{is_number, numbers_without, number_inserted}
use Rattle.name_numbers.proofs.numbering.numbered_with.Goals as goal

pub returns-clause-same : goal.returns-clause-same
returns-clause-same g c =
    let place = c.partition_point-place.result in
    Alike-trans c.in_ok-keys.field-0.keys.items c.insert.new.self.items (c.args.last ∷ c.args.all.items)
    c.in_ok-keys.ensures.same
    (subst (λ xs. Alike xs (c.args.last ∷ c.args.all.items)) (sym c.in_ok-insert.ensures.items)
    (Alike-inserted c.args.last c.args.all.items place))

pub returns-clause-each : goal.returns-clause-each
returns-clause-each g c =
    let place = c.partition_point-place.result in
    let numbers = c.in_ok-keys.field-0.numbers.items in
    let within : place ≤ length c.args.all.items = subst (λ xs. place ≤ length xs) c.deref.ensures.value
    c.partition_point-place.ensures.bound in
    rw c.remove-last.ensures.items
    (numbers_without c.in_ok-keys.field-0.keys.items c.args.all.items numbers place c.args.last within
    (rw (← c.in_ok-insert.ensures.items) c.in_ok-keys.ensures.each))

pub returns-clause-last : goal.returns-clause-last
returns-clause-last g c =
    let place = c.partition_point-place.result in
    let keys = c.in_ok-keys.field-0.keys.items in
    let all = c.args.all.items in
    let numbers = c.in_ok-keys.field-0.numbers.items in
    let within : place ≤ length all = subst (λ xs. place ≤ length xs) c.deref.ensures.value
    c.partition_point-place.ensures.bound in
    let each = rw c.in_ok-insert.ensures.items at c.in_ok-keys.ensures.each in
    let inside = is_number keys all numbers place c.args.last within each in
    ap (slice_get keys) (c.remove-last.ensures.value ∙ get_or_default numbers place c.remove-last.result 0 inside)
    ∙ number_inserted keys all numbers place c.args.last within each
