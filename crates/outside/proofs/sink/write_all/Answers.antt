use Rattle.std.proofs.Common.{◌+◌, ◌-◌, ◌<◌, ◌++◌, length-drop, ◌∷◌, [], Ok, false, refl, sym, subst, ◌∙◌, length, drop, arith}
use Rattle.std.proofs.lemmas.List.{take_all}
use Rattle.outside.proofs.WriteLemmas.{taken_goes_on, rest_of_rest, count_within}
use Rattle.outside.proofs.JournalLemmas.{AreTaken, all_taken, is_nothing, is_something, taken_on, tells_nothing_more, tells_refused, tells_then}
use Rattle.outside.proofs.WriteLemmas.{taken_nothing}
use Rattle.outside.proofs.sink.write_all.Goals as goal

pub pieces-preserved : goal.pieces-preserved
pieces-preserved g c =
    let place = c.pieces.invariant.place in
    let told = c.pieces.invariant.told in
    let answer = c.in_ok-count.ensures.answer in
    let bytes = c.args.bytes.now in
    let rest = c.pieces.rest.now in
    let count = c.in_ok-count.count in
    let some : 0 < length rest = is_something c.pieces.rest.now c.is_empty.result c.is_empty.ensures c.pieces-test.true in
    record {
      place = (
        place.0 + count,
        count_within bytes rest place.0 count place.1 place.2 answer.0,
        rest_of_rest bytes rest place.0 count place.2,
        taken_goes_on (g.S.Sink.taken c.args.sink.now) (g.S.Sink.taken c.pieces.sink)
            (g.S.Sink.taken c.write.new.self) bytes rest place.0 count place.2 place.3 answer.2,
      );
      same = c.in_ok-count.ensures.rises_at_failure (refl {a = false}) ∙ c.pieces.invariant.same;
      told = (
        told.0 ++ record { piece = rest; answer = Ok count } ∷ [],
        subst (AreTaken bytes (told.0 ++ record { piece = rest; answer = Ok count } ∷ []))
            (sym (take_all (length rest - count) (drop count rest)
            (let e = length-drop count rest in omega arith)))
            (taken_on bytes told.0 rest count (answer.1 some) answer.0 told.1),
        tells_then (g.S.Sink.writes c.args.sink.now) (g.S.Sink.writes c.pieces.sink) (g.S.Sink.writes c.write.new.self)
            told.0 (record { piece = rest; answer = Ok count } ∷ []) told.2 c.in_ok-count.ensures.told,
      );
    }

pub pieces-init : goal.pieces-init
pieces-init g c = record {
  place = (0, omega arith, refl, taken_nothing (g.S.Sink.taken c.args.sink.now));
  same = refl;
  told = ([], refl, tells_nothing_more (g.S.Sink.writes c.args.sink.now));
}

pub returns-in_err-count-clause-told : goal.returns-in_err-count-clause-told
returns-in_err-count-clause-told g c =
    let told = c.pieces.invariant.told in
    tells_refused (g.S.Sink.writes c.args.sink.now) (g.S.Sink.writes c.pieces.sink) (g.S.Sink.writes c.write.new.self)
    c.args.bytes.now c.pieces.rest.now told.0 c.in_err-count.field-0.0 c.from_residual.result c.from_residual.ensures.1
    told.1 told.2 c.in_err-count.ensures.told

pub returns-clause-told : goal.returns-clause-told
returns-clause-told g c =
    let told = c.pieces.invariant.told in (
      told.0,
      all_taken c.args.bytes.now told.0 tt
          (subst (AreTaken c.args.bytes.now told.0)
          (is_nothing c.pieces.rest.now c.is_empty.result c.is_empty.ensures c.pieces-test.false) told.1),
      told.2,
    )
