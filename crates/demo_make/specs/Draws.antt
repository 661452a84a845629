-- What is drawn for a program of a size: the words of the generator Lcg64Xsh32 of the crate rand_pcg, made by
-- `seed_from_u64` of the size.
use Rattle.std.specs.Prelude.{ℕ, ◌+◌, ◌*◌, ◌%◌}
use Rattle.rand_core.specs.Pcg32Seed.{pcg32_seed}
use Rattle.rand_pcg.specs.Lcg.{Lcg, advance}
use Rattle.rand_pcg.specs.Pcg.{multiplier_64, pcg32, pcg32_of_seed}
use Rattle.demo_make.specs.declared.draws.Choice.{Choice}

-- the generator of a size, after so many words
unfoldable pub generator : ℕ → ℕ → Lcg
generator size words = advance 64 multiplier_64 words (pcg32_of_seed (pcg32_seed 16 size))

-- one of its words, counted from 0, modulo a limit
unfoldable pub random_below : ℕ → ℕ → ℕ → ℕ
random_below limit size i = (pcg32 (generator size i)).0 % limit

-- Three words are drawn for each of the functions f0 to f31, in this order: the two functions that it calls, and the
-- counter that it raises.
abbrev pub choice : ℕ → ℕ → Choice
choice size k = record {
  first = random_below 32 size (3 * k);
  second = random_below 32 size (3 * k + 1);
  counter = 4 * random_below 512 size (3 * k + 2);
}
