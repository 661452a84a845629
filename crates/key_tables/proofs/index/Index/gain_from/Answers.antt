use Rattle.std.proofs.Common.{arith, take, ap, length}
use Rattle.std.proofs.lemmas.List.{length-take-le}
use Rattle.key_tables.proofs.IndexLemmas.{gained_more, place_is}
use Rattle.key_tables.proofs.MissingLemmas.{length_missing}
use Rattle.key_tables.proofs.index.Index.gain_from.Goals as goal

pub place_or_added-requires : goal.place_or_added-requires
place_or_added-requires g c =
    let first = take c.others.other-index c.args.others.now in
    omega (
      arith,
      c.requires.fits,
      c.others-test.true,
      ap length c.others.invariant.added,
      length_missing g.K.PartialEq.eq c.args.own.now first,
      length-take-le c.others.other-index c.args.others.now c.others.auto.other-index-end,
    )

pub others-preserved : goal.others-preserved
others-preserved g c =
    let own = c.args.own.now in
    let known = place_is g.K.Ord.cmp g.met.K.Eq.laws g.met.K.Ord.matches_eq g.met.K.Key.exact own c.args.self.now.places
    c.other-item.result c.requires.found c.place_of-place.result c.place_of-place.ensures in
    let more = gained_more g.met.K.Eq.laws own c.args.others.now c.others.added.items c.others.numbers.items
    c.others.other-index c.other-item.result c.others-test.true c.other-item.is c.others.invariant.added
    c.others.invariant.numbers c.place_of-place.result known.0 known.1 c.in_ok-number.number
    c.place_or_added.new.added.items c.in_ok-number.ensures.known c.in_ok-number.ensures.added in
    record { added = more.0; numbers = rw c.in_ok-push.ensures.items more.1 }
