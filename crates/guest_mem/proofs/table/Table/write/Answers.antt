use Rattle.std.proofs.Common.{subst, sym, ap, refl, arith}
use Rattle.std.specs.Prelude.{Some, is_some}
use Rattle.std.proofs.lemmas.Option.{same_Some}
use Rattle.guest_mem.specs.inner.Page.{IsWhole}
use Rattle.guest_mem.proofs.Places.{each-set}
use Rattle.guest_mem.proofs.Counts.{full-kept}
use Rattle.guest_mem.proofs.Gaps.{gaps-set}
use Rattle.guest_mem.proofs.table.Table.write.Goals as goal

pub invariant_of-self-clause-whole : goal.invariant_of-self-clause-whole
invariant_of-self-clause-whole c = each-set IsWhole c.args.self.now.places.items c.args.place _ c.args.self.now.whole
    (λ x e. subst IsWhole (same_Some _ _ e) c.write.ensures.whole)

pub invariant_of-self-in-None-clause-whole : goal.invariant_of-self-in-None-clause-whole
invariant_of-self-in-None-clause-whole c =
    each-set IsWhole c.args.self.now.places.items c.args.place _ c.args.self.now.whole
    (λ x e. let none = c.in-None.is in cc)

pub invariant_of-self-clause-counted : goal.invariant_of-self-clause-counted
invariant_of-self-clause-counted c =
    full-kept c.args.self.now.places.items c.args.place c.args.self.now.mapped
    (Some c.write.new.self) c.index_mut.result.now (omega arith) c.index_mut.ensures.value
    (sym (ap is_some c.in-Some.is)) c.args.self.now.counted

pub invariant_of-self-in-None-clause-counted : goal.invariant_of-self-in-None-clause-counted
invariant_of-self-in-None-clause-counted c =
    full-kept c.args.self.now.places.items c.args.place c.args.self.now.mapped c.index_mut.result.now
    c.index_mut.result.now (omega arith) c.index_mut.ensures.value refl c.args.self.now.counted

pub invariant_of-self-clause-seen : goal.invariant_of-self-clause-seen
invariant_of-self-clause-seen c =
    gaps-set c.args.self.now.places.items c.args.place (Some c.write.new.self) c.index_mut.result.now
    c.args.self.now.gaps (omega arith) c.index_mut.ensures.value (λ _. refl) c.args.self.now.seen

pub invariant_of-self-in-None-clause-seen : goal.invariant_of-self-in-None-clause-seen
invariant_of-self-in-None-clause-seen c =
    gaps-set c.args.self.now.places.items c.args.place c.index_mut.result.now c.index_mut.result.now
    c.args.self.now.gaps (omega arith) c.index_mut.ensures.value (λ e. e) c.args.self.now.seen
