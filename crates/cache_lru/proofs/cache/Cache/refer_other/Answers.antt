use Rattle.std.proofs.Common.{◌≡◌, ◌+◌, ◌*◌, ◌<◌, ◌≤◌, List, ℕ, ◌∷◌, [], ◌++◌, not}
use Rattle.std.proofs.Common.{length, ap, sym, subst, ◌∙◌, arith, rules}
use Rattle.std.specs.Prelude.{◌==◌, slice_get}
use Rattle.std.proofs.lemmas.Bool.{ne_eqb}
use Rattle.std.proofs.lemmas.Nat.{row_fits, mod_below}
use Rattle.std.proofs.lemmas.List.{with_items_is}
use Rattle.cache_lru.specs.Shape.{sets_of, set_of}
use Rattle.cache_lru.specs.Lines.{StandsFor, Cache, empty_line, lines_of}
use Rattle.cache_lru.specs.inner.Layout.{IsLaidOut, to_front}
use Rattle.cache_lru.proofs.LineLemmas.{first-to_front, length-lines_of}
use Rattle.cache_lru.proofs.ShapeLemmas.{some_sets}
use Rattle.cache_lru.proofs.RecencyLemmas.{list_any-hits, StandsFor-push}
use Rattle.cache_lru.proofs.cache.Cache.refer_other.Goals as goal

pub touch_set-place-requires-clause-within : goal.touch_set-place-requires-clause-within
touch_set-place-requires-clause-within c =
    let s = c.self.inside.shape in
    let within : set_of s c.args.block < sets_of s
    = mod_below c.args.block (sets_of s) (some_sets s c.self.invariant.geometry) in
    rw (c.assoc-assoc.ensures, c.self.invariant.mask c.args.block, c.deref_mut.ensures.value, c.self.invariant.count)
    (row_fits (set_of s c.args.block) s.assoc (sets_of s) s.assoc within (omega arith))

pub returns-clause-miss : goal.returns-clause-miss
returns-clause-miss c =
    λ shape history stands. let s = c.self.inside.shape in
    let within : set_of s c.args.block < sets_of s
    = mod_below c.args.block (sets_of s) (some_sets s c.self.invariant.geometry) in
    let held = subst (λ (k : Cache). StandsFor shape k history) (sym c.self.view_is) stands in
    ap (λ n. c.touch_set-place.result == n) c.assoc-assoc.ensures
    ∙ (rw (c.assoc-assoc.ensures, c.self.invariant.mask c.args.block, c.deref_mut.ensures.value)
    at c.touch_set-place.ensures.miss)
    ∙ ap not
    (list_any-hits s c.self.inside.lines.items c.args.block
    (ne_eqb empty_line c.args.block (λ e. omega arith)) shape history held within)

pub returns-clause-stands : goal.returns-clause-stands
returns-clause-stands c =
    λ shape history stands. let s = c.self.inside.shape in
    let within : set_of s c.args.block < sets_of s
    = mod_below c.args.block (sets_of s) (some_sets s c.self.invariant.geometry) in
    let held = subst (λ (k : Cache). StandsFor shape k history) (sym c.self.view_is) stands in
    let now = c.touch_set-place.new.lines in
    subst (λ (ls : List ℕ). StandsFor shape (record { shape = s; lines = ls }) (history ++ c.args.block ∷ []))
    (sym (with_items_is c.self.inside.lines now (search rules)))
    (StandsFor-push s c.self.inside.lines.items c.args.block (ne_eqb empty_line c.args.block (λ e. omega arith)) now
    (let least = c.self.invariant.geometry.assoc_least in omega arith) within
    (rw (c.assoc-assoc.ensures, c.self.invariant.mask c.args.block, c.deref_mut.ensures.value)
    at c.touch_set-place.ensures.touched)
    (rw (c.assoc-assoc.ensures, c.self.invariant.mask c.args.block, c.deref_mut.ensures.value)
    at c.touch_set-place.ensures.others)
    shape history held)

-- ---- it stands first from now on

pub invariant_of-self : goal.invariant_of-self
invariant_of-self c =
    let s = c.self.inside.shape in
    let lines : List ℕ = c.self.inside.lines.items in
    let now = c.touch_set-place.new.lines in
    let within : set_of s c.args.block < sets_of s
    = mod_below c.args.block (sets_of s) (some_sets s c.self.invariant.geometry) in
    let fits : set_of s c.args.block * s.assoc + s.assoc ≤ length lines
    = rw c.self.invariant.count (row_fits (set_of s c.args.block) s.assoc (sets_of s) s.assoc within (omega arith)) in
    let touched : lines_of s.assoc (set_of s c.args.block) now
    ≡ to_front c.args.block (lines_of s.assoc (set_of s c.args.block) lines)
    = (rw (c.assoc-assoc.ensures, c.self.invariant.mask c.args.block, c.deref_mut.ensures.value)
    at c.touch_set-place.ensures.touched) in
    let long = length-lines_of s.assoc (set_of s c.args.block) lines fits in
    let some : 0 < length (lines_of s.assoc (set_of s c.args.block) lines)
    = (let least = c.self.invariant.geometry.assoc_least in omega arith) in
    subst (λ (ls : List ℕ). IsLaidOut s c.self.inside.line_bits c.self.inside.set_mask c.args.block 4294967295 0 ls)
    (sym (with_items_is c.self.inside.lines now (search rules)))
    (record {
      geometry = c.self.invariant.geometry;
      shift = c.self.invariant.shift;
      mask = c.self.invariant.mask;
      count = c.touch_set-place.ensures.same_length ∙ ap (length {A = ℕ}) c.deref_mut.ensures.value
          ∙ c.self.invariant.count;
      first = λ full. ap (λ (ls : List ℕ). slice_get ls 0) touched
          ∙ first-to_front c.args.block (lines_of s.assoc (set_of s c.args.block) lines) some;
      span = λ addr low high. absurd (omega arith);
    })
