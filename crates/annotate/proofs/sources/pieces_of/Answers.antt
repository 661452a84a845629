use Rattle.std.proofs.Common.{rules, tests, ◌≡◌, ◌==◌, subst}
use Rattle.std.specs.List.{slice_split}
use Rattle.std.specs.Result.{IfOk}
use Rattle.std.specs.Vec.{vec_items}
use Rattle.std.proofs.lemmas.Iterator.Consumers.{map_from_collect}
use Rattle.std.proofs.lemmas.Iterator.Splits.{YieldsList-from_slice_split}
use Rattle.annotate.specs.inner.SourceRows.{pieces}
use Rattle.annotate.proofs.sources.pieces_of.Goals as goal

pub returns : goal.returns
returns c =
    subst (λ r. IfOk r (λ w. pieces (vec_items w)
    ≡ slice_split (λ byte. byte == 0x0a) c.args.text.now)) c.in_ok-collect.was
    (map_from_collect _ c.collect.ensures.ran
    (YieldsList-from_slice_split _ (λ byte. byte == 0x0a) c.args.text.now c.split.ensures.rest
    c.split.ensures.done c.split.ensures.closure (λ x r q k. search (rules, tests))))
