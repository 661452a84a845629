-- What a cache keeps, and which histories that stands for.
use Rattle.std.specs.Prelude.{◌≡◌, ℕ, ◌*◌, ◌-◌, ◌^◌, ◌<◌, List, ◌++◌, take, drop, replicate}
use Rattle.cache_lru.specs.Shape.{Shape, sets_of}
use Rattle.cache_lru.specs.History.{newest_first}

-- the geometry, and the block in each line, set after set
pub record Cache : Type 0 where
  pub shape : Shape
  pub lines : List ℕ

-- what stands in an empty line: no block, since a block has 16 bytes or more
abbrev pub empty_line : ℕ
empty_line = 2 ^ 32 - 1

-- the lines of a set
abbrev pub lines_of : ℕ → ℕ → List ℕ → List ℕ
lines_of assoc set lines = take assoc (drop (set * assoc) lines)

-- so many lines with these blocks in front
abbrev pub filled_lines : ℕ → List ℕ → List ℕ
filled_lines assoc blocks = take assoc (blocks ++ replicate assoc empty_line)

-- A cache of this shape stands for a history where each set has in its lines its newest blocks, the newest first.
pub record StandsFor (shape : Shape) (cache : Cache) (history : List ℕ) : Type 0 where
  pub same_shape : cache.shape ≡ shape
  pub newest : (set : ℕ) → set < sets_of cache.shape
      → lines_of cache.shape.assoc set cache.lines ≡ filled_lines cache.shape.assoc (newest_first cache.shape set history)
