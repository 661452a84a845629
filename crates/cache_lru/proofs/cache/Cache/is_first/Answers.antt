use Rattle.std.proofs.Common.{ℕ, List, ◌*◌, ◌++◌, ◌||◌, ◌∙◌, false, not, ap, refl, sym, subst, arith}
use Rattle.cache_lru.specs.History.{misses}
use Rattle.cache_lru.specs.Lines.{StandsFor}
use Rattle.cache_lru.proofs.RecencyLemmas.{blocks_of-one}
use Rattle.std.proofs.Math.Nat.{div-mul-le_self}
use Rattle.cache_lru.proofs.cache.Cache.is_first.Goals as goal

-- ---- the bytes lie in the newest block

pub returns-then-is_within-clause-hit : goal.returns-then-is_within-clause-hit
returns-then-is_within-clause-hit c =
    λ yes shape history stands.
    let touched =
    blocks_of-one _ shape c.args.addr c.args.len _ _ c.requires.some stands.same_shape refl refl
    (c.is_within.ensures.alike c.if-is_within.true) in
    ap (misses shape history) touched
    ∙ ap (λ b. not b || false) (c.is_within.ensures.hit c.if-is_within.true shape history stands)

pub returns-then-is_within-clause-stands : goal.returns-then-is_within-clause-stands
returns-then-is_within-clause-stands c =
    λ yes shape history stands.
    let touched =
    blocks_of-one _ shape c.args.addr c.args.len _ _ c.requires.some stands.same_shape refl refl
    (c.is_within.ensures.alike c.if-is_within.true) in
    subst (λ (bs : List ℕ). StandsFor shape c.args.self.now (history ++ bs)) (sym touched)
    (c.is_within.ensures.stands c.if-is_within.true shape history stands)

-- ---- they lie in another one

pub stands_first-requires-clause-fits : goal.stands_first-requires-clause-fits
stands_first-requires-clause-fits c =
    let line = c.args.self.now.shape.line in
    let below = div-mul-le_self c.args.addr line in
    let is = ap (λ (n : ℕ). n * line) c.block-block.ensures.value in
    omega (arith, below, is)

pub returns-clause-hit : goal.returns-clause-hit
returns-clause-hit c =
    λ yes shape history stands.
    let touched =
    blocks_of-one _ shape c.args.addr c.args.len _ _ c.requires.some stands.same_shape
    c.block-block.ensures.value c.block.ensures.value c.if-block.false in
    ap (misses shape history) touched ∙ ap (λ b. not b || false) (c.stands_first.ensures.hit yes shape history stands)

pub returns-clause-stands : goal.returns-clause-stands
returns-clause-stands c =
    λ yes shape history stands.
    let touched =
    blocks_of-one _ shape c.args.addr c.args.len _ _ c.requires.some stands.same_shape
    c.block-block.ensures.value c.block.ensures.value c.if-block.false in
    subst (λ (bs : List ℕ). StandsFor shape c.args.self.now (history ++ bs)) (sym touched)
    (c.stands_first.ensures.stands yes shape history stands)
