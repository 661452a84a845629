use Rattle.std.proofs.Common.{ℕ, ◌<◌, ◌≤◌, List, take, sym, subst, ⊎_elim, arith}
use Rattle.sym_map.specs.declared.range.Cover.{Cover}
use Rattle.sym_map.specs.declared.range.Range.{Range}
use Rattle.sym_map.specs.declared.range.Cover.TheVariants as what
use Rattle.sym_map.specs.inner.Spans.{reach, IsPassed, IsNextStart}
use Rattle.std.specs.Prelude.{Some}
use Rattle.sym_map.proofs.Ranges.{later, reach-push, Rise-push, merged_more}
use Rattle.sym_map.proofs.merge.merge.Goals as goal

origin : Range
origin = record { start = 0; cover = what.Nothing }

-- the next start isn't below what was reached
not_below : (above below : List Range) (i j : ℕ) (x y : Cover) (low start : ℕ) → IsPassed above i x low
    → IsPassed below j y low → IsNextStart above i below j (Some start) → low ≤ start
not_below above below i j x y low start xs ys next =
    ⊎_elim
    (λ e. let a = xs.ahead origin e.0 in let b = e.1 origin in omega arith)
    (λ e. let a = ys.ahead origin e.0 in let b = e.1 origin in omega arith)
    next.2

pub pass-top-requires-clause-passed : goal.pass-top-requires-clause-passed
pass-top-requires-clause-passed c =
    let so = c.ranges-2.invariant in
    let next = c.in-Some.ensures in
    later c.args.above.now c.ranges-2.top.next c.ranges-2.top.cover
    (reach c.ranges-2.merged.items) c.in-Some.start so.above
    (not_below c.args.above.now c.args.below.now c.ranges-2.top.next c.ranges-2.bottom.next c.ranges-2.top.cover
    c.ranges-2.bottom.cover (reach c.ranges-2.merged.items) c.in-Some.start so.above so.below next)
    next.0

pub pass-bottom-requires-clause-passed : goal.pass-bottom-requires-clause-passed
pass-bottom-requires-clause-passed c =
    let so = c.ranges-2.invariant in
    let next = c.in-Some.ensures in
    later c.args.below.now c.ranges-2.bottom.next c.ranges-2.bottom.cover
    (reach c.ranges-2.merged.items) c.in-Some.start so.below
    (not_below c.args.above.now c.args.below.now c.ranges-2.top.next c.ranges-2.bottom.next c.ranges-2.top.cover
    c.ranges-2.bottom.cover (reach c.ranges-2.merged.items) c.in-Some.start so.above so.below next)
    next.1

pub ranges-2-smaller : goal.ranges-2-smaller
ranges-2-smaller c =
    let next = c.in-Some.ensures in
    let top = c.pass-top.ensures in
    let bottom = c.pass-bottom.ensures in
    let a : c.ranges-2.top.next ≤ c.pass-top.result.next = top.further in
    let b : c.ranges-2.bottom.next ≤ c.pass-bottom.result.next = bottom.further in
    let p = top.passed.within in
    let q = bottom.passed.within in
    ⊎_elim
    (λ e. let more : c.ranges-2.top.next < c.pass-top.result.next =
    top.begins origin e.0 (e.1 origin) in omega (arith, a, b, p, q, more))
    (λ e. let more : c.ranges-2.bottom.next < c.pass-bottom.result.next =
    bottom.begins origin e.0 (e.1 origin) in omega (arith, a, b, p, q, more))
    next.2

pub ranges-2-preserved : goal.ranges-2-preserved
ranges-2-preserved c =
    let so = c.ranges-2.invariant in
    let top = c.pass-top.ensures in
    let bottom = c.pass-bottom.ensures in
    let r : Range = record { start = c.in-Some.start; cover = c.or_below.result } in
    let merged : List Range = c.ranges-2.merged.items in
    let low : reach merged ≤ c.in-Some.start =
    not_below c.args.above.now c.args.below.now c.ranges-2.top.next c.ranges-2.bottom.next c.ranges-2.top.cover
    c.ranges-2.bottom.cover (reach merged) c.in-Some.start so.above so.below c.in-Some.ensures in
    rw c.in_ok-push.ensures.items (record {
      rise = Rise-push merged r so.rise low;
      within = let reached = reach-push merged r in omega arith;
      above = subst (λ n. IsPassed c.args.above.now c.pass-top.result.next c.pass-top.result.cover n)
          (sym (reach-push merged r)) top.passed;
      below = subst (λ n. IsPassed c.args.below.now c.pass-bottom.result.next c.pass-bottom.result.cover n)
          (sym (reach-push merged r)) bottom.passed;
      same = merged_more merged (take c.ranges-2.top.next c.args.above.now)
          (take c.ranges-2.bottom.next c.args.below.now) (take c.pass-top.result.next c.args.above.now)
          (take c.pass-bottom.result.next c.args.below.now) r c.pass-top.result.cover c.pass-bottom.result.cover
          c.or_below.ensures so.same top.here bottom.here top.before bottom.before;
    })
