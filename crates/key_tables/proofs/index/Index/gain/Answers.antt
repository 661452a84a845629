use Rattle.std.proofs.Common.{◌≡◌, ◌++◌}
use Rattle.std.proofs.lemmas.Result.{IfOk-weaker}
use Rattle.key_tables.specs.Keys.{AreApart, missing}
use Rattle.key_tables.proofs.MissingLemmas.{missing_apart}
use Rattle.key_tables.proofs.TableLemmas.{decides}
use Rattle.key_tables.proofs.index.Index.gain.Goals as goal

pub returns-clause-apart : goal.returns-clause-apart
returns-clause-apart g c =
    let own = c.args.own.now in
    let others = c.args.others.now in
    IfOk-weaker c.gain_from.result (λ it. it.added.items ≡ missing g.K.PartialEq.eq own others)
    (λ it. AreApart (own ++ it.added.items))
    (λ it is. rw is
    (missing_apart (decides g.met.K.Eq.laws g.met.K.Key.exact) own others c.requires.own c.requires.others))
    c.gain_from.ensures.added
