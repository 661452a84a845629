use Rattle.std.proofs.Common.{◌<◌, List, ℕ, ◌∷◌, [], ◌++◌, sym, subst, arith}
use Rattle.std.proofs.lemmas.Bool.{eqb-true}
use Rattle.std.proofs.lemmas.Nat.{mod_below}
use Rattle.cache_lru.specs.Shape.{set_of, sets_of}
use Rattle.cache_lru.specs.Lines.{Cache, StandsFor}
use Rattle.cache_lru.proofs.LineLemmas.{still_first}
use Rattle.cache_lru.proofs.RecencyLemmas.{first-hits, first-stands}
use Rattle.cache_lru.proofs.ShapeLemmas.{some_sets}
use Rattle.cache_lru.proofs.cache.Cache.is_newest.Goals as goal

pub returns-clause-hit : goal.returns-clause-hit
returns-clause-hit c =
    λ yes shape history stands.
    let s = c.self.inside.shape in
    let lines : List ℕ = c.self.inside.lines.items in
    let within : set_of s c.args.block < sets_of s
    = mod_below c.args.block (sets_of s) (some_sets s c.self.invariant.geometry) in
    let there = still_first s c.self.inside.newest c.args.block lines c.self.invariant.first
    (eqb-true c.args.block c.self.inside.newest yes)
    c.requires in
    first-hits s lines c.args.block c.requires (let least = c.self.invariant.geometry.assoc_least in omega arith)
    within there shape history (subst (λ (k : Cache). StandsFor shape k history) (sym c.self.view_is) stands)

pub returns-clause-stands : goal.returns-clause-stands
returns-clause-stands c =
    λ yes shape history stands.
    let s = c.self.inside.shape in
    let lines : List ℕ = c.self.inside.lines.items in
    let within : set_of s c.args.block < sets_of s
    = mod_below c.args.block (sets_of s) (some_sets s c.self.invariant.geometry) in
    let there = still_first s c.self.inside.newest c.args.block lines c.self.invariant.first
    (eqb-true c.args.block c.self.inside.newest yes)
    c.requires in
    subst (λ (k : Cache). StandsFor shape k (history ++ c.args.block ∷ [])) c.self.view_is
    (first-stands s lines c.args.block c.requires (let least = c.self.invariant.geometry.assoc_least in omega arith)
    within there shape history (subst (λ (k : Cache). StandsFor shape k history) (sym c.self.view_is) stands))
