use Rattle.std.proofs.Common.{◌≡◌, ◌+◌, ◌∙◌, ap, arith}
use Rattle.std.specs.Prelude.{None, is_some, slice_set}
use Rattle.std.specs.Int.{from_bool}
use Rattle.guest_mem.specs.inner.Page.{IsWhole}
use Rattle.guest_mem.specs.inner.Table.{full_places}
use Rattle.guest_mem.proofs.Places.{each-set}
use Rattle.guest_mem.proofs.Counts.{full-taken}
use Rattle.guest_mem.proofs.table.Table.take.Goals as goal

pub invariant_of-self-clause-whole : goal.invariant_of-self-clause-whole
invariant_of-self-clause-whole c = each-set IsWhole c.args.self.now.places.items c.args.place _ c.args.self.now.whole
    (λ x e. let h = c.take-page.ensures.after in cc)

taken : (c : goal.After-from) → full_places (slice_set c.args.self.now.places.items c.args.place c.take-page.new.self)
    + c.from.result ≡ c.args.self.now.mapped
taken c =
    full-taken c.args.self.now.places.items c.args.place c.args.self.now.mapped c.from.result c.take-page.new.self
    c.index_mut.result.now c.requires (omega arith) c.index_mut.ensures.value c.take-page.ensures.after
    (c.from.ensures ∙ ap from_bool (c.is_some.ensures ∙ ap is_some c.take-page.ensures.value)) c.args.self.now.counted

pub overflow_sub-self : goal.overflow_sub-self
overflow_sub-self c = omega (arith, taken c)

pub invariant_of-self-clause-counted : goal.invariant_of-self-clause-counted
invariant_of-self-clause-counted c = omega (arith, taken c)
