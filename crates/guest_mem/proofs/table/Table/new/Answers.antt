use Rattle.std.proofs.Common.{ℕ, ◌≡◌, ◌∙◌, ap}
use Rattle.std.specs.Prelude.{None}
use Rattle.guest_mem.specs.inner.Table.{at_place}
use Rattle.guest_mem.proofs.Counts.{full-none}
use Rattle.guest_mem.proofs.table.Table.new.Goals as goal

pub invariant_of-result-clause-whole : goal.invariant_of-result-clause-whole
invariant_of-result-clause-whole c = λ q x e.
    let none : at_place c.add_places.new.places.items q ≡ None = c.add_places.ensures.kept q
    ∙ ap (λ xs. at_place xs q) c.in_ok-places.ensures.items in
    cc

pub invariant_of-result-clause-counted : goal.invariant_of-result-clause-counted
invariant_of-result-clause-counted c =
    full-none c.add_places.new.places.items
    (λ q. c.add_places.ensures.kept q ∙ ap (λ xs. at_place xs q) c.in_ok-places.ensures.items)
