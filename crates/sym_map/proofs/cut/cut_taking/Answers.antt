use Rattle.std.proofs.Common.{◌/◌, ◌∙◌, List, subst}
use Rattle.std.proofs.lemmas.Result.{IfOk-weaker}
use Rattle.sym_map.specs.declared.range.Range.{Range}
use Rattle.sym_map.specs.declared.range.Span.{Span}
use Rattle.sym_map.specs.inner.Spans.{IsCutOf, IsMergeOf}
use Rattle.sym_map.proofs.Spans.{cut_of_parts}
use Rattle.sym_map.proofs.cut.cut_taking.Goals as goal

pub returns : goal.returns
returns c =
    let above : List Range = c.in_ok-above.above.items in
    let below : List Range = c.in_ok-below.below.items in
    let top = subst (λ (xs : List Span). IsCutOf xs above)
    (c.deref-2.ensures.value ∙ c.shrink_to_fit.ensures.items ∙ c.in_ok-bottom.ensures.items) c.in_ok-above.ensures in
    let bottom = subst (λ (xs : List Span). IsCutOf xs below) (c.deref-3.ensures.value ∙ c.in_ok-bottom.ensures.tail)
    c.in_ok-below.ensures in
    IfOk-weaker c.merge.result (λ ranges. IsMergeOf c.deref-4.result.now c.deref-5.result.now ranges.items)
    (λ ranges. IsCutOf c.args.spans.items ranges.items)
    (λ ranges m.
    cut_of_parts c.args.spans.items (c.len.result / 2) above below ranges.items top bottom
    (subst (λ (xs : List Range). IsMergeOf xs below ranges.items) c.deref-4.ensures.value
    (subst (λ (ys : List Range). IsMergeOf c.deref-4.result.now ys ranges.items) c.deref-5.ensures.value m)))
    c.merge.ensures
