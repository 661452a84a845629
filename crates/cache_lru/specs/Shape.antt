-- What a cache looks like: its size, its associativity and its line length, and the numbers that follow from them.
use Rattle.std.specs.Prelude.{◌≡◌, ℕ, ◌*◌, ◌/◌, ◌%◌, ◌≤◌}
use Rattle.std.specs.Int.{IsPowerOfTwo}

-- the size and the line length are in bytes; the associativity is the number of lines of a set
pub record Shape : Type 0 where
  pub size : ℕ
  pub assoc : ℕ
  pub line : ℕ

-- the most bytes of a cache
abbrev pub most_size : ℕ
most_size = 67108864

-- a line of 16 to 1,024 bytes, 1 to 64 lines a set, and at most 64 MiB; the line and the number of sets are powers of
-- two
pub record IsGeometry (shape : Shape) : Type 0 where
  pub line_is_power : IsPowerOfTwo shape.line
  pub line_least : 16 ≤ shape.line
  pub line_most : shape.line ≤ 1024
  pub assoc_least : 1 ≤ shape.assoc
  pub assoc_most : shape.assoc ≤ 64
  pub size_most : shape.size ≤ most_size
  pub size_is : (sets : ℕ) × IsPowerOfTwo sets × (shape.size ≡ shape.assoc * shape.line * sets)

-- the number of sets
abbrev pub sets_of : Shape → ℕ
sets_of shape = shape.size / (shape.assoc * shape.line)

-- the block of an address
abbrev pub block_of : Shape → ℕ → ℕ
block_of shape addr = addr / shape.line

-- the set of a block
abbrev pub set_of : Shape → ℕ → ℕ
set_of shape block = block % sets_of shape
