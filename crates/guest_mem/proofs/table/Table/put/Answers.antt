use Rattle.std.proofs.Common.{◌≡◌, ◌<◌, ◌≤◌, ◌+◌, length, not, subst, ◌∙◌, sym, ap, refl, arith}
use Rattle.std.specs.Prelude.{Some, is_some}
use Rattle.std.specs.Int.{from_bool}
use Rattle.std.proofs.lemmas.Option.{same_Some}
use Rattle.guest_mem.specs.inner.Page.{IsWhole}
use Rattle.guest_mem.proofs.Places.{each-set}
use Rattle.guest_mem.proofs.Counts.{full-put, full-most, from_bool-most}
use Rattle.guest_mem.proofs.Gaps.{gaps-set}
use Rattle.guest_mem.proofs.table.Table.put.Goals as goal

pub invariant_of-self-clause-whole : goal.invariant_of-self-clause-whole
invariant_of-self-clause-whole c = each-set IsWhole c.args.self.now.places.items c.args.place _ c.args.self.now.whole
    (λ x e. subst IsWhole (same_Some _ _ e) c.requires.whole)

pub overflow_add-self : goal.overflow_add-self
overflow_add-self c =
    let most = full-most c.args.self.now.places.items in
    let counted = c.args.self.now.counted in
    omega (arith, most, counted, from_bool-most c.is_none.result, c.from.ensures)

pub invariant_of-self-clause-counted : goal.invariant_of-self-clause-counted
invariant_of-self-clause-counted c =
    full-put c.args.self.now.places.items c.args.place c.args.self.now.mapped c.from.result c.args.page
    c.index.result.now c.is_none.result c.requires.within
    (omega arith) c.index.ensures c.is_none.ensures c.from.ensures c.args.self.now.counted

pub invariant_of-self-clause-seen : goal.invariant_of-self-clause-seen
invariant_of-self-clause-seen c =
    gaps-set c.args.self.now.places.items c.args.place (Some c.args.page) c.index.result.now c.args.self.now.gaps
    (omega arith) c.index.ensures (λ _. refl) c.args.self.now.seen
