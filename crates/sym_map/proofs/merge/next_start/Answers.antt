use Rattle.std.proofs.Common.{◌≡◌, ap, sym, ◌∙◌, inl, inr, ⊎_elim, get_or, arith}
use Rattle.sym_map.specs.declared.range.Range.{Range}
use Rattle.sym_map.proofs.Ranges.{one_is_least}
use Rattle.sym_map.proofs.merge.next_start.Goals as goal

pub returns-in-Some-Some : goal.returns-in-Some-Some
returns-in-Some-Some c =
    let l = c.in-Some-Some.ensures.lookup in
    let m = c.in-Some-Some.ensures'.lookup in
    let x = c.in-Some-Some.x.now in
    let y = c.in-Some-Some.y.now in (
      (λ d lt. let e : x.start ≡ (get_or c.args.above.now c.args.above_next d).start =
          ap (λ (r : Range). r.start) (l.3.1 d) in omega (arith, c.min.ensures)),
      (λ d lt. let e : y.start ≡ (get_or c.args.below.now c.args.below_next d).start =
          ap (λ (r : Range). r.start) (m.3.1 d) in omega (arith, c.min.ensures)),
      ⊎_elim
          (λ e. inl (l.3.0, (λ d. sym (ap (λ (r : Range). r.start) (l.3.1 d)) ∙ e)))
          (λ e. inr (m.3.0, (λ d. sym (ap (λ (r : Range). r.start) (m.3.1 d)) ∙ e)))
          (one_is_least x.start y.start c.min.result c.min.ensures),
    )
