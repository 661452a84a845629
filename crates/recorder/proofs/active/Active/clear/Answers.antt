use Rattle.std.proofs.Common.{arith, refl}
use Rattle.recorder.proofs.ActiveLemmas.{clear_others}
use Rattle.recorder.proofs.active.Active.clear.Goals as goal

pub returns-in-Some-clause-others : goal.returns-in-Some-clause-others
returns-in-Some-clause-others c =
    clear_others c.args.self.now.words.items c.args.thread c.in-Some.word.now (omega (arith, c.in-Some.ensures.variant.0 refl))
    c.in-Some.ensures.value
