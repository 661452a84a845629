use Rattle.std.proofs.Common.{arith, refl}
use Rattle.recorder.proofs.ActiveLemmas.{past_words, set_others, set_own}
use Rattle.recorder.proofs.active.Active.mark.Goals as goal

pub returns-in-Some-clause-own : goal.returns-in-Some-clause-own
returns-in-Some-clause-own c =
    set_own c.args.self.now.words.items c.args.thread c.in-Some.word.now (omega (arith, c.in-Some.ensures.variant.0 refl))
    c.in-Some.ensures.value

pub returns-in-Some-clause-others : goal.returns-in-Some-clause-others
returns-in-Some-clause-others c =
    set_others c.args.self.now.words.items c.args.thread c.in-Some.word.now (omega (arith, c.in-Some.ensures.variant.0 refl))
    c.in-Some.ensures.value

pub returns-in_default-clause-own : goal.returns-in_default-clause-own
returns-in_default-clause-own c =
    past_words c.args.self.now.words.items c.args.thread (grind (arith, c.get_mut.ensures.variant, c.in_default.is))
