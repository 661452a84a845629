use Rattle.std.proofs.Common.{◌≡◌, ◌≤◌, ◌<◌, true, List, ℕ, ◌∷◌, [], ◌++◌, sym, subst, ◌∙◌, arith}
use Rattle.std.proofs.lemmas.Bool.{leb-true}
use Rattle.std.proofs.lemmas.Nat.{mod_below}
use Rattle.cache_lru.specs.History.{hits}
use Rattle.cache_lru.specs.Shape.{block_of, set_of, sets_of}
use Rattle.cache_lru.specs.Lines.{Cache, StandsFor}
use Rattle.cache_lru.proofs.LineLemmas.{still_first}
use Rattle.cache_lru.proofs.RecencyLemmas.{first-hits, first-stands}
use Rattle.cache_lru.proofs.ShapeLemmas.{block_below, some_sets}
use Rattle.cache_lru.proofs.cache.Cache.is_within.Goals as goal

pub returns-then-self-first-clause-alike : goal.returns-then-self-first-clause-alike
returns-then-self-first-clause-alike c =
    λ yes.
    let high : c.args.last ≤ c.self.inside.end = leb-true c.args.last c.self.inside.end yes in
    subst (λ (k : Cache). block_of k.shape c.args.last ≡ block_of k.shape c.args.first) c.self.view_is
    (c.self.invariant.span c.args.last (omega arith) high
    ∙ sym (c.self.invariant.span c.args.first c.if-self-first.true (omega arith)))

pub returns-then-self-first-clause-hit : goal.returns-then-self-first-clause-hit
returns-then-self-first-clause-hit c =
    λ yes shape history stands.
    let s = c.self.inside.shape in
    let block = block_of s c.args.first in
    let lines : List ℕ = c.self.inside.lines.items in
    let high : c.args.last ≤ c.self.inside.end = leb-true c.args.last c.self.inside.end yes in
    let least = c.self.invariant.geometry.assoc_least in
    let below = block_below s c.args.first c.self.invariant.geometry (omega arith) in
    let within : set_of s block < sets_of s = mod_below block (sets_of s) (some_sets s c.self.invariant.geometry) in
    let there = still_first s c.self.inside.newest block lines c.self.invariant.first
    (c.self.invariant.span c.args.first c.if-self-first.true (omega arith)) below in
    subst (λ (k : Cache). hits shape history (block_of k.shape c.args.first) ≡ true) c.self.view_is
    (first-hits s lines block below (omega arith) within there shape history
    (subst (λ (k : Cache). StandsFor shape k history) (sym c.self.view_is) stands))

pub returns-then-self-first-clause-stands : goal.returns-then-self-first-clause-stands
returns-then-self-first-clause-stands c =
    λ yes shape history stands.
    let s = c.self.inside.shape in
    let block = block_of s c.args.first in
    let lines : List ℕ = c.self.inside.lines.items in
    let high : c.args.last ≤ c.self.inside.end = leb-true c.args.last c.self.inside.end yes in
    let least = c.self.invariant.geometry.assoc_least in
    let below = block_below s c.args.first c.self.invariant.geometry (omega arith) in
    let within : set_of s block < sets_of s = mod_below block (sets_of s) (some_sets s c.self.invariant.geometry) in
    let there = still_first s c.self.inside.newest block lines c.self.invariant.first
    (c.self.invariant.span c.args.first c.if-self-first.true (omega arith)) below in
    subst (λ (k : Cache). StandsFor shape k (history ++ block_of k.shape c.args.first ∷ [])) c.self.view_is
    (first-stands s lines block below (omega arith) within there shape history
    (subst (λ (k : Cache). StandsFor shape k history) (sym c.self.view_is) stands))
