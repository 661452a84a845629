use Rattle.std.proofs.Common.{◌≡◌, ◌*◌, ◌<◌, List, ℕ, ◌∷◌, [], ◌++◌, get_or, length, ap, sym, subst, ◌^◌, arith}
use Rattle.std.specs.Prelude.{Some, slice_get}
use Rattle.std.proofs.lemmas.Nat.{mod_below, row_fits}
use Rattle.cache_lru.specs.Shape.{IsGeometry, Shape, set_of, sets_of}
use Rattle.cache_lru.specs.Lines.{Cache, StandsFor, lines_of}
use Rattle.cache_lru.proofs.LineLemmas.{first_there}
use Rattle.cache_lru.proofs.RecencyLemmas.{first-hits, first-stands}
use Rattle.cache_lru.proofs.ShapeLemmas.{block_between, line_bits_below, some_sets}
use Rattle.cache_lru.proofs.cache.Cache.stands_first.Goals as goal

pub index-first-requires : goal.index-first-requires
index-first-requires c =
    let s = c.self.inside.shape in
    let within : set_of s c.args.block < sets_of s
    = mod_below c.args.block (sets_of s) (some_sets s c.self.invariant.geometry) in
    let fits = row_fits (set_of s c.args.block) s.assoc (sets_of s) s.assoc within (omega arith) in
    let least = c.self.invariant.geometry.assoc_least in
    rw (c.assoc.ensures, c.self.invariant.mask c.args.block) (omega (arith, fits, least, c.self.invariant.count))

-- ---- it is looked for in its set

-- the block that was read where its set begins stands first there
read_first : (s : Shape) (lines : List ℕ) (block read : ℕ) → IsGeometry s → length lines ≡ sets_of s * s.assoc
    → read ≡ get_or lines (set_of s block * s.assoc) read → read ≡ block
    → slice_get (lines_of s.assoc (set_of s block) lines) 0 ≡ Some block
read_first s lines block read geometry count held is =
    let within : set_of s block < sets_of s = mod_below block (sets_of s) (some_sets s geometry) in
    let least = geometry.assoc_least in
    let fits = row_fits (set_of s block) s.assoc (sets_of s) s.assoc within (omega arith) in
    first_there s.assoc (set_of s block) block lines (omega arith) (omega (arith, fits, least, count))
    (subst (λ (b : ℕ). b ≡ get_or lines (set_of s block * s.assoc) b) is held)

pub overflow_shl-self : goal.overflow_shl-self
overflow_shl-self c = line_bits_below _ c.self.inside.line_bits c.self.invariant.geometry c.self.invariant.shift

pub returns-clause-hit : goal.returns-clause-hit
returns-clause-hit c =
    λ yes shape history stands.
    let s = c.self.inside.shape in
    let lines : List ℕ = c.self.inside.lines.items in
    let least = c.self.invariant.geometry.assoc_least in
    let within : set_of s c.args.block < sets_of s
    = mod_below c.args.block (sets_of s) (some_sets s c.self.invariant.geometry) in
    first-hits s lines c.args.block c.requires.below (omega arith) within
    (read_first s lines c.args.block c.index-first.result.now c.self.invariant.geometry c.self.invariant.count
    (rw (c.assoc.ensures, c.self.invariant.mask c.args.block) at c.index-first.ensures) c.if-first-block.false)
    shape history (subst (λ (k : Cache). StandsFor shape k history) (sym c.self.view_is) stands)

pub returns-clause-stands : goal.returns-clause-stands
returns-clause-stands c =
    λ yes shape history stands.
    let s = c.self.inside.shape in
    let lines : List ℕ = c.self.inside.lines.items in
    let least = c.self.invariant.geometry.assoc_least in
    let within : set_of s c.args.block < sets_of s
    = mod_below c.args.block (sets_of s) (some_sets s c.self.invariant.geometry) in
    subst (λ (k : Cache). StandsFor shape k (history ++ c.args.block ∷ [])) c.self.view_is
    (first-stands s lines c.args.block c.requires.below (omega arith) within
    (read_first s lines c.args.block c.index-first.result.now c.self.invariant.geometry c.self.invariant.count
    (rw (c.assoc.ensures, c.self.invariant.mask c.args.block) at c.index-first.ensures) c.if-first-block.false)
    shape history (subst (λ (k : Cache). StandsFor shape k history) (sym c.self.view_is) stands))

-- ---- it is the newest from here on

pub invariant_of-self : goal.invariant_of-self
invariant_of-self c =
    record {
      geometry = c.self.invariant.geometry;
      shift = c.self.invariant.shift;
      mask = c.self.invariant.mask;
      count = c.self.invariant.count;
      first = λ full. read_first c.self.inside.shape c.self.inside.lines.items c.args.block c.index-first.result.now
          c.self.invariant.geometry c.self.invariant.count
          (rw (c.assoc.ensures, c.self.invariant.mask c.args.block) at c.index-first.ensures) c.if-first-block.false;
      span = λ addr low high.
          let s = c.self.inside.shape in
          let least = c.self.invariant.geometry.line_least in
          let shifted : c.args.block * 2 ^ c.self.inside.line_bits ≡ c.args.block * s.line
          = ap (λ (n : ℕ). c.args.block * n) (sym c.self.invariant.shift) in
          let fits : c.args.block * s.line < 2 ^ 32
          = subst (λ (k : Cache). c.args.block * k.shape.line < 2 ^ 32) (sym c.self.view_is) c.requires.fits in
          let most = c.saturating_add-self-inside.ensures in
          block_between s c.args.block addr (omega (arith, shifted, fits, low))
          (omega (arith, shifted, fits, low, high, most, c.line.ensures, least));
    }
