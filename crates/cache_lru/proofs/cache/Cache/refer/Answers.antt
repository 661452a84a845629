use Rattle.std.proofs.Common.{◌≡◌, ◌+◌, ℕ, List, [], ◌∷◌, ◌++◌, ◌||◌, ap, ap₂, sym, subst, ◌∙◌, arith}
use Rattle.std.proofs.Math.Bool.{or-false}
use Rattle.std.proofs.lemmas.List.{append_assoc}
use Rattle.cache_lru.specs.History.{misses}
use Rattle.cache_lru.specs.Lines.{StandsFor}
use Rattle.cache_lru.proofs.ShapeLemmas.{last_block}
use Rattle.cache_lru.proofs.RecencyLemmas.{blocks_of-one, blocks_of-two}
use Rattle.cache_lru.proofs.cache.Cache.refer.Goals as goal

-- ---- the access touches one block

pub returns-then-last-first-clause-miss : goal.returns-then-last-first-clause-miss
returns-then-last-first-clause-miss c =
    λ shape history stands. let touched =
    blocks_of-one _ shape c.args.addr c.args.len _ _ c.requires.some stands.same_shape
    c.block-first.ensures.value c.block-last.ensures.value c.if-last-first.true in
    c.refer_block.ensures.miss shape history stands ∙ sym (or-false _) ∙ ap (misses shape history) (sym touched)

pub returns-then-last-first-clause-stands : goal.returns-then-last-first-clause-stands
returns-then-last-first-clause-stands c =
    λ shape history stands. let touched =
    blocks_of-one _ shape c.args.addr c.args.len _ _ c.requires.some stands.same_shape
    c.block-first.ensures.value c.block-last.ensures.value c.if-last-first.true in
    subst (λ (bs : List ℕ). StandsFor shape c.refer_block.new.self (history ++ bs)) (sym touched)
    (c.refer_block.ensures.stands shape history stands)

-- ---- it touches two

pub returns-clause-miss : goal.returns-clause-miss
returns-clause-miss c =
    λ shape history stands.
    let last = last_block _ c.args.addr c.args.len c.block-first.ensures.geometry c.requires.some c.requires.few in
    let next : c.block-last.result ≡ c.block-first.result + 1 =
    omega (arith, last, c.block-first.ensures.value, c.block-last.ensures.value, c.if-last-first.false) in
    let touched =
    blocks_of-two _ shape c.args.addr c.args.len _ _ c.requires.some stands.same_shape
    c.block-first.ensures.value c.block-last.ensures.value next in
    let between = c.refer_block-2.ensures.stands shape history stands in
    ap₂ ◌||◌ (c.refer_block-2.ensures.miss shape history stands)
    (c.refer_other.ensures.miss shape (history ++ c.block-first.result ∷ []) between ∙ sym (or-false _))
    ∙ ap (misses shape history) (sym touched)

pub returns-clause-stands : goal.returns-clause-stands
returns-clause-stands c =
    λ shape history stands.
    let last = last_block _ c.args.addr c.args.len c.block-first.ensures.geometry c.requires.some c.requires.few in
    let next : c.block-last.result ≡ c.block-first.result + 1 =
    omega (arith, last, c.block-first.ensures.value, c.block-last.ensures.value, c.if-last-first.false) in
    let touched =
    blocks_of-two _ shape c.args.addr c.args.len _ _ c.requires.some stands.same_shape
    c.block-first.ensures.value c.block-last.ensures.value next in
    let between = c.refer_block-2.ensures.stands shape history stands in
    subst (λ (h : List ℕ). StandsFor shape c.refer_other.new.self h)
    (append_assoc history (c.block-first.result ∷ []) (c.block-last.result ∷ [])
    ∙ ap (λ bs. history ++ bs) (sym touched))
    (c.refer_other.ensures.stands shape (history ++ c.block-first.result ∷ []) between)
