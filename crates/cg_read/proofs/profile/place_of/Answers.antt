use Rattle.std.proofs.Common.{◌≡◌, ◌∙◌, sym, ap, refl, Some, length}
use Rattle.std.proofs.lemmas.Option.{slice_get_read}
use Rattle.std.proofs.lemmas.Slice.Eq.{bytes_eq-Decides}
use Rattle.cg_read.proofs.profile.place_of.Goals as goal

pub returns-then-eq-clause-found : goal.returns-then-eq-clause-found
returns-then-eq-clause-found c =
    let same : c.args.wanted.now ≡ c.index-texts-place.result
    = (bytes_eq-Decides c.args.wanted.now c.as_bytes.result.now).0 (sym c.eq.ensures ∙ c.if-eq.true)
    ∙ c.as_bytes.ensures in
    slice_get_read c.args.texts.now
    (length c.args.texts.now) c.texts.place c.index-texts-place.result refl c.texts-test.true c.index-texts-place.is
    ∙ ap Some (sym same)
