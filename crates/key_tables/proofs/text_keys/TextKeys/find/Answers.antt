use Rattle.std.proofs.Common.{◌≡◌, ◌<◌, sym, ap, ◌∙◌, true≢false, length, slice_get, slice_index_or}
use Rattle.key_tables.proofs.FirstLemmas.{none_first, none_other}
use Rattle.key_tables.proofs.text_keys.TextKeys.find.Goals as goal

pub returns-in_err-first-clause-none : goal.returns-in_err-first-clause-none
returns-in_err-first-clause-none g c =
    let t = c.self.inside in
    let none : g.K.TextKey.latest c.args.key.now < length t.firsts.items
    → slice_index_or t.firsts.items (g.K.TextKey.latest c.args.key.now) 0 < length t.keys.items → ⊥
    = rw (c.deref.ensures.value, c.latest.ensures, c.len.ensures, t.keys.ok.0) at c.in_err-first.ensures.none in
    rw (c.from_residual.ensures, ← c.self.view_is)
    (none_first g.K.Ord.cmp g.met.K.Eq.laws g.met.K.Ord.matches_eq g.met.K.Key.exact g.K.TextKey.latest t.keys.items c.args.key.now t.firsts.items
    t.others c.self.invariant none)

pub returns-in_err-other-clause-none : goal.returns-in_err-other-clause-none
returns-in_err-other-clause-none g c =
    let t = c.self.inside in
    let first : c.in_ok-first.first ≡ slice_index_or t.firsts.items (g.K.TextKey.latest c.args.key.now) 0
    = rw (← c.deref.ensures.value, ← c.latest.ensures) c.in_ok-first.ensures.first in
    rw (c.from_residual-in_err-other.ensures, ← c.self.view_is)
    (none_other g.K.Ord.cmp g.met.K.Eq.laws g.met.K.Ord.matches_eq g.met.K.Key.exact g.K.TextKey.latest t.keys.items c.args.key.now t.firsts.items
    t.others c.self.invariant c.stands_at.result (rw (c.deref-2.ensures.value, first) at c.stands_at.ensures)
    c.if-stands_at.false (λ n is at. absurd (cc (c.in_err-other.ensures.value, is))))

pub returns-else-stands_at-2-clause-none : goal.returns-else-stands_at-2-clause-none
returns-else-stands_at-2-clause-none g c =
    let t = c.self.inside in
    let first : c.in_ok-first.first ≡ slice_index_or t.firsts.items (g.K.TextKey.latest c.args.key.now) 0
    = rw (← c.deref.ensures.value, ← c.latest.ensures) c.in_ok-first.ensures.first in
    rw (← c.self.view_is)
    (none_other g.K.Ord.cmp g.met.K.Eq.laws g.met.K.Ord.matches_eq g.met.K.Key.exact g.K.TextKey.latest t.keys.items c.args.key.now t.firsts.items
    t.others c.self.invariant c.stands_at.result (rw (c.deref-2.ensures.value, first) at c.stands_at.ensures)
    c.if-stands_at.false
    (λ n is at.
    let other : c.in_ok-other.field-0.now ≡ n = cc (c.in_ok-other.ensures.value, is) in
    true≢false (sym (c.stands_at-2.ensures.1
    (rw (c.deref-3.ensures.value) (ap (slice_get t.keys.items) other ∙ at))) ∙ c.if-stands_at-2.false)))
