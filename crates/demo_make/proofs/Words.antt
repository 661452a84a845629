-- The words of a generator, one after another.
use Rattle.std.proofs.Common.{◌≡◌, ℕ, zero, suc, ◌+◌, ◌%◌, refl, ap, ◌∙◌, add-one}
use Rattle.rand_pcg.specs.Lcg.{Lcg, advance, next, next_state, state_after}
use Rattle.rand_pcg.specs.Pcg.{multiplier_64, pcg32, pcg32_of_seed}
use Rattle.rand_core.specs.Pcg32Seed.{pcg32_seed}
use Rattle.demo_make.specs.Draws.{random_below, generator}

-- a step behind others
state-last : (w m p n s : ℕ) → next_state w m p (state_after w m p n s) ≡ state_after w m p (suc n) s
unfolding state_after
state-last w m p zero s = refl
state-last w m p (suc n) s = state-last w m p n (next_state w m p s)

next-last : (w m n : ℕ) (g : Lcg) → next w m (advance w m n g) ≡ advance w m (n + 1) g
next-last w m n g =
    let step : next_state w m g.increment (state_after w m g.increment n g.state)
    ≡ state_after w m g.increment (n + 1) g.state =
    rw (add-one n) (state-last w m g.increment n g.state) in
    ap (λ (s : ℕ). record g { state = s }) step

-- one word more
pub generator-next : (size i : ℕ) → (pcg32 (generator size i)).1 ≡ generator size (i + 1)
unfolding generator
generator-next size i = next-last 64 multiplier_64 i (pcg32_of_seed (pcg32_seed 16 size))

pub after-next : (g : Lcg) (size i : ℕ) → g ≡ generator size i → (pcg32 g).1 ≡ generator size (i + 1)
after-next g size i e = ap (λ (h : Lcg). (pcg32 h).1) e ∙ generator-next size i

pub random_below-of : (g : Lcg) (limit size i : ℕ) → g ≡ generator size i → (pcg32 g).0 % limit ≡ random_below limit size i
unfolding random_below
random_below-of g limit size i e = ap (λ (h : Lcg). (pcg32 h).0 % limit) e
