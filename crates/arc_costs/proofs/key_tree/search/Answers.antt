use Rattle.std.proofs.Common.{◌+◌, ◌*◌, ◌<◌, length, sym, ap, ◌∙◌, arith, refl}
use Rattle.std.specs.Map.{keys_of}
use Rattle.std.proofs.lemmas.List.{length-map}
use Rattle.arc_costs.specs.inner.Tree.{Differs, Ends}
use Rattle.arc_costs.proofs.EntryLemmas.{at_own_key, place_at}
use Rattle.arc_costs.proofs.TreeLemmas.{comes_next, differs_there, element, goes_next, goes_nowhere, looked, passes, stands}
use Rattle.arc_costs.proofs.TreeLemmas.{stops_here}
use Rattle.arc_costs.proofs.key_tree.search.Goals as goal
use Rattle.arc_costs.proofs.key_tree.search.Goals.{After-digit, After-digit-2, Else-eq, In-places, Then-follower-eq0}

pub places-init : goal.places-init
places-init g c = record {
  comes = refl;
  goes = λ k lt. absurd (omega arith);
  passed = λ k lt q at. absurd (omega arith);
}

within : (g : _) (c : In-places g) → c.places.at < length c.args.rows.now
within g c =
    let long = length-map c.args.rows.now (λ e. e.0) in
    let test = c.places-test.true in
    let at =
    stands g.K.PartialEq.eq g.K.Digits.digit g.met.K.Digits.few (keys_of c.args.rows.now) c.args.next.now c.requires
    c.args.key.now c.places.place c.places.at c.places.invariant.comes c.places.invariant.goes
    (omega (arith, long, test)) in
    omega (arith, at, long)

pub bounds-rows-at : goal.bounds-rows-at
bounds-rows-at g c = within g c

pub offset_bounds-rows-at : goal.offset_bounds-rows-at
offset_bounds-rows-at g c = let at = within g c in omega (arith, at)

pub returns-then-eq-clause-found : goal.returns-then-eq-clause-found
returns-then-eq-clause-found g c =
    let same = g.K.PartialEq.eq in
    let row = c.index-rows-at.result in
    place_at same c.args.key.now c.args.rows.now c.places.at row.1
    (at_own_key same c.args.key.now g.met.K.Eq.laws c.args.rows.now c.places.at row
    (element c.args.rows.now c.places.at row c.index-rows-at.is
    (within g (goal.at.returns-then-eq-clause-found g c).In-places))
    (ap (λ e. same c.args.key.now e.0) c.index-rows-at.is ∙ sym c.eq.ensures ∙ c.if-eq.true) c.requires.apart)

other : (g : _) (c : Else-eq g) → Differs g.K.PartialEq.eq c.args.key.now (keys_of c.args.rows.now) c.places.at
other g c =
    differs_there g.K.PartialEq.eq c.args.key.now c.args.rows.now c.places.at c.index-rows-at.result
    (element c.args.rows.now c.places.at c.index-rows-at.result c.index-rows-at.is
    (within g (goal.at.overflow_mul-way g c).In-places))
    (ap (λ e. g.K.PartialEq.eq c.args.key.now e.0) c.index-rows-at.is ∙ sym c.eq.ensures ∙ c.if-eq.false)

ways_fit : (g : _) (c : After-digit g) → 4 * c.places.at + c.digit.result < length c.args.next.now
ways_fit g c =
    let at = within g (goal.at.overflow_add-way g c).In-places in
    let long = length-map c.args.rows.now (λ e. e.0) in
    let next = c.requires.long in
    let few = g.met.K.Digits.few c.args.key.now c.places.place in
    let digit = c.digit.ensures in
    omega (arith, at, long, next, few, digit)

pub overflow_mul-way : goal.overflow_mul-way
overflow_mul-way g c =
    let at = within g (goal.at.overflow_mul-way g c).In-places in
    let long = length-map c.args.rows.now (λ e. e.0) in
    let next = c.requires.long in
    omega (arith, at, long, next)

pub overflow_add-way : goal.overflow_add-way
overflow_add-way g c = let w = ways_fit g c in omega (arith, w)

pub offset_bounds-next-way : goal.offset_bounds-next-way
offset_bounds-next-way g c = let w = ways_fit g c in omega (arith, w)

pub bounds-next-way : goal.bounds-next-way
bounds-next-way g c = ways_fit g (goal.at.bounds-next-way g c).After-digit

ended : (g : _) (c : Then-follower-eq0 g) → Ends c.args.next.now (g.K.Digits.digit c.args.key.now)
    (Differs g.K.PartialEq.eq c.args.key.now (keys_of c.args.rows.now)) (4 * c.places.at + c.digit.result)
ended g c =
    stops_here g.K.PartialEq.eq g.K.Digits.digit g.met.K.Digits.few (keys_of c.args.rows.now) c.args.next.now c.requires
    c.args.key.now c.places.place c.places.at c.places.invariant.comes c.places.invariant.goes
    c.places.invariant.passed (other g (goal.at.returns-then-follower-eq0-clause-end g c).Else-eq) c.digit.result c.digit.ensures c.if-follower-eq0.true

pub returns-then-follower-eq0-clause-none : goal.returns-then-follower-eq0-clause-none
returns-then-follower-eq0-clause-none g c =
    looked g.K.PartialEq.eq g.K.Digits.digit g.met.K.Digits.few (keys_of c.args.rows.now) c.args.next.now c.requires
    c.args.key.now g.met.K.Digits.exact _ (ended g c) c.args.rows.now refl

pub returns-then-follower-eq0-clause-end : goal.returns-then-follower-eq0-clause-end
returns-then-follower-eq0-clause-end g c = ended g c

pub places-preserved : goal.places-preserved
places-preserved g c =
    let same = g.K.PartialEq.eq in
    let digit = g.K.Digits.digit in
    let few = g.met.K.Digits.few in
    let keys = keys_of c.args.rows.now in
    let here = other g (goal.at.places-preserved g c).Else-eq in
    record {
      comes =
          comes_next same digit few keys c.args.next.now c.requires c.args.key.now c.places.place c.places.at
          c.places.invariant.comes c.places.invariant.goes c.places.invariant.passed c.digit.result c.digit.ensures;
      goes =
          goes_next same digit few keys c.args.next.now c.requires c.args.key.now c.places.place c.places.at
          c.places.invariant.comes c.places.invariant.goes c.places.invariant.passed c.digit.result c.digit.ensures
          (omega (arith, c.if-follower-eq0.false));
      passed =
          passes same digit few keys c.args.next.now c.requires c.args.key.now c.places.place c.places.at
          c.places.invariant.comes c.places.invariant.goes c.places.invariant.passed here;
    }

nowhere_left : (g : _) (c : After-digit-2 g) → Ends c.args.next.now (g.K.Digits.digit c.args.key.now)
    (Differs g.K.PartialEq.eq c.args.key.now (keys_of c.args.rows.now)) c.digit-2.result
nowhere_left g c =
    let long = length-map c.args.rows.now (λ e. e.0) in
    goes_nowhere g.K.PartialEq.eq g.K.Digits.digit g.met.K.Digits.few (keys_of c.args.rows.now) c.args.next.now
    c.requires c.args.key.now c.places.place c.places.at c.places.invariant.comes c.places.invariant.goes
    (omega (arith, long, c.places-test.false)) c.digit-2.result c.digit-2.ensures

pub returns-clause-none : goal.returns-clause-none
returns-clause-none g c =
    looked g.K.PartialEq.eq g.K.Digits.digit g.met.K.Digits.few (keys_of c.args.rows.now) c.args.next.now c.requires
    c.args.key.now g.met.K.Digits.exact _ (nowhere_left g c) c.args.rows.now refl

pub returns-clause-end : goal.returns-clause-end
returns-clause-end g c = nowhere_left g c
