use Rattle.std.proofs.Common.{◌≡◌, ◌∙◌, sym, ap, true≢false, slice_get}
use Rattle.key_tables.proofs.MixedLemmas.{none_first, none_other}
use Rattle.key_tables.proofs.table.Table.find.Goals as goal

pub returns-in_err-first-clause-none : goal.returns-in_err-first-clause-none
returns-in_err-first-clause-none c =
    let t = c.self.inside in
    rw (c.from_residual.ensures, ← c.self.view_is)
    (none_first t.texts.items c.args.text.now t.firsts t.others c.self.invariant
    (sym (rw c.requires at c.in_err-first.ensures.value)))

pub returns-in_err-other-clause-none : goal.returns-in_err-other-clause-none
returns-in_err-other-clause-none c =
    let t = c.self.inside in
    rw (c.from_residual-in_err-other.ensures, ← c.self.view_is)
    (none_other t.texts.items c.args.text.now t.firsts t.others c.self.invariant c.in_ok-first.field-0.now
    (sym (rw c.requires at c.in_ok-first.ensures.value))
    (λ at. true≢false (sym (c.stands_at.ensures.1 (rw c.deref.ensures.value at)) ∙ c.if-stands_at.false))
    (λ n is at. absurd (cc (c.in_err-other.ensures.value, is))))

pub returns-else-stands_at-2-clause-none : goal.returns-else-stands_at-2-clause-none
returns-else-stands_at-2-clause-none c =
    let t = c.self.inside in
    rw (← c.self.view_is)
    (none_other t.texts.items c.args.text.now t.firsts t.others c.self.invariant c.in_ok-first.field-0.now
    (sym (rw c.requires at c.in_ok-first.ensures.value))
    (λ at. true≢false (sym (c.stands_at.ensures.1 (rw c.deref.ensures.value at)) ∙ c.if-stands_at.false))
    (λ n is at. let other : c.in_ok-other.field-0.now ≡ n = cc (c.in_ok-other.ensures.value, is) in
    true≢false (sym (c.stands_at-2.ensures.1
    (rw c.deref-2.ensures.value (ap (slice_get t.texts.items) other ∙ at))) ∙ c.if-stands_at-2.false)))
