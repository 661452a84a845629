-- How a cache keeps its lines, and the predictors their tables.
use Rattle.std.specs.Prelude.{◌≡◌, ◌≢◌, ◌≤◌, ℕ, ◌*◌, ◌%◌, ◌^◌, ◌==◌, List, [], ◌∷◌, length, take, slice_get, Some}
use Rattle.std.specs.Prelude.{bit_and, if◌then◌else◌}
use Rattle.cache_lru.specs.Shape.{Shape, IsGeometry, block_of, set_of, sets_of}
use Rattle.cache_lru.specs.Lines.{empty_line, lines_of}

-- the block that was moved to the front last stands first in its set; none does where this is an empty line
abbrev pub IsFirst : Shape → ℕ → List ℕ → Type 0
IsFirst shape newest lines =
    newest ≢ empty_line → slice_get (lines_of shape.assoc (set_of shape newest) lines) 0 ≡ Some newest

-- What a cache of this shape has beside it: the line length as a shift, the number of sets as a mask, the newest block,
-- addresses of it from one up to another, and the lines.
pub record IsLaidOut (shape : Shape) (line_bits set_mask newest start end : ℕ) (lines : List ℕ) : Type 0 where
  pub geometry : IsGeometry shape
  pub shift : shape.line ≡ 2 ^ line_bits
  pub mask : (n : ℕ) → bit_and n set_mask ≡ n % sets_of shape
  pub count : length lines ≡ sets_of shape * shape.assoc
  pub first : IsFirst shape newest lines
  pub span : (addr : ℕ) → start ≤ addr → addr ≤ end → block_of shape addr ≡ newest

-- the blocks but for the first that is this one
abbrev pub without : ℕ → List ℕ → List ℕ
without block [] = []
without block (other ∷ blocks) = if other == block then blocks else other ∷ without block blocks

-- the lines of a set once this block was referred to
abbrev pub to_front : ℕ → List ℕ → List ℕ
to_front block lines = take (length lines) (block ∷ without block lines)

-- the counters of conditional branches, and the targets of indirect ones
pub record AreTables (counts addresses : List ℕ) : Type 0 where
  pub counters : length counts ≡ 16384
  pub targets : length addresses ≡ 512
