-- The word is that of the generator's place, and the generator goes on to the next.
use Rattle.std.proofs.Common.{ℕ, ◌%◌, ap, ◌∙◌}
use Rattle.rand_pcg.specs.Lcg.{Lcg}
use Rattle.demo_make.proofs.Words.{after-next, random_below-of}
use Rattle.demo_make.proofs.draws.draw.Goals as goal

pub returns-clause-drawn : goal.returns-clause-drawn
returns-clause-drawn c = λ size i e.
    ap (λ (t : ℕ × Lcg). t.0 % c.args.limit) c.next_word.ensures ∙ random_below-of c.args.words.now c.args.limit size i e

pub returns-clause-next : goal.returns-clause-next
returns-clause-next c = λ size i e.
    ap (λ (t : ℕ × Lcg). t.1) c.next_word.ensures ∙ after-next c.args.words.now size i e
