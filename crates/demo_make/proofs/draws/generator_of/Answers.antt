-- Before its first word the generator is as it was made.
use Rattle.std.proofs.Common.{ℕ, sym, ap, ◌∙◌}
use Rattle.rand_core.specs.Pcg32Seed.{pcg32_seed}
use Rattle.rand_pcg.specs.Pcg.{multiplier_64, pcg32_of_seed}
use Rattle.rand_pcg.proofs.LcgLemmas.{advance_zero}
use Rattle.demo_make.specs.Draws.{generator}
use Rattle.demo_make.proofs.draws.generator_of.Goals as goal

pub returns : goal.returns
unfolding generator
returns c =
    c.seed_from_u64.ensures ∙ ap (λ (n : ℕ). pcg32_of_seed (pcg32_seed 16 n)) c.from.ensures
    ∙ sym (advance_zero 64 multiplier_64 (pcg32_of_seed (pcg32_seed 16 c.args.size)))
