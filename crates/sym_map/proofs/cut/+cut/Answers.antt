use Rattle.std.proofs.Common.{◌/◌, length, subst, List}
use Rattle.std.proofs.lemmas.Result.{IfOk-weaker}
use Rattle.sym_map.specs.declared.range.Range.{Range}
use Rattle.sym_map.specs.declared.range.Span.{Span}
use Rattle.sym_map.specs.inner.Spans.{IsCutOf, IsMergeOf}
use Rattle.sym_map.proofs.Spans.{cut_of_parts}
use Rattle.sym_map.proofs.cut.+cut.Goals as goal

pub returns-in_ok-below-in_default : goal.returns-in_ok-below-in_default
returns-in_ok-below-in_default t c =
    let above : List Range = c.in_ok-above-in_default.above.items in
    let below : List Range = c.in_ok-below-in_default.below.items in
    let top = subst (λ (xs : List Span). IsCutOf xs above) c.split_at.ensures.front c.in_ok-above-in_default.ensures in
    let bottom = subst (λ (xs : List Span). IsCutOf xs below) c.split_at.ensures.back
    c.in_ok-below-in_default.ensures in
    IfOk-weaker c.merge.result (λ ranges. IsMergeOf c.deref.result.now c.deref-in_default.result.now ranges.items)
    (λ ranges. IsCutOf c.args.spans.now ranges.items)
    (λ ranges m.
    cut_of_parts c.args.spans.now (length c.args.spans.now / 2) above below ranges.items top bottom
    (subst (λ (xs : List Range). IsMergeOf xs below ranges.items) c.deref.ensures.value
    (subst (λ (ys : List Range). IsMergeOf c.deref.result.now ys ranges.items) c.deref-in_default.ensures.value m)))
    c.merge.ensures
