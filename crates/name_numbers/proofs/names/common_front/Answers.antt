use Rattle.std.proofs.Common.{ℕ, List, take, sym, ap, subst, ◌∙◌, arith}
use Rattle.std.specs.Prelude.{All}
use Rattle.std.specs.Cmp.Lexicographic.{bytes_decides}
use Rattle.std.proofs.lemmas.List.{take_all}
use Rattle.name_numbers.specs.declared.text_place.TextPlace.{TextPlace}
use Rattle.name_numbers.specs.Texts.{text_at}
use Rattle.name_numbers.specs.inner.Places.{BeginsWith}
use Rattle.name_numbers.proofs.NameRanks.{begin_more, begin_shorter, begins_alike}
use Rattle.name_numbers.proofs.names.common_front.Goals as goal
use Rattle.name_numbers.proofs.names.common_front.Goals.{then-not-starts_with, else-not-starts_with}

abbrev none : TextPlace
none = record { start = 0; end = 0 }

pub places-preserved : goal.places-preserved
places-preserved c =
    let bytes : List ℕ = c.args.texts.now in
    let common : List ℕ = c.places.common.now in
    elim c.if-not-starts_with.branch [
      | then-not-starts_with w ↦
          let same = rw c.text_at-text.ensures at w.common_len.ensures.same in
          rw (ap (λ r. r.now) w.common-is)
          (begin_more bytes (take w.common_len.result common) c.args.places.now c.places.place-index none
          c.places-test.true
          (begin_shorter bytes common w.common_len.result (take c.places.place-index c.args.places.now)
          w.common_len.ensures.within c.places.invariant)
          (begins_alike common _ w.common_len.result w.common_len.ensures.within same))
      | else-not-starts_with w ↦
          let yes = sym (rw c.text_at-text.ensures at c.starts_with.ensures.value) ∙ w.if-not-starts_with.false in
          rw (ap (λ r. r.now) w.common-is)
          (begin_more bytes common c.args.places.now c.places.place-index none c.places-test.true c.places.invariant
          (sym ((bytes_decides common _).0 yes)))
    ]

pub returns : goal.returns
returns c =
    subst (All (λ (p : TextPlace). BeginsWith c.places.common.now (text_at c.args.texts.now p)))
    (take_all c.places.place-index c.args.places.now (omega (arith, c.places-test.false))) c.places.invariant
