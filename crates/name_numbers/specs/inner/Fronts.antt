-- The first bytes of a text as one number.
use Rattle.std.specs.Prelude.{◌≡◌, ℕ, zero, suc, ◌+◌, ◌*◌, ◌<◌, List, slice_index_or}

-- the byte at a place, and zero behind the end
abbrev pub byte_at : List ℕ → ℕ → ℕ
byte_at bytes place = slice_index_or bytes place 0

-- the first bytes, so many, as a number with the first of them highest
unfoldable pub front_of : List ℕ → ℕ → ℕ
front_of bytes zero = 0
front_of bytes (suc n) = front_of bytes n * 256 + byte_at bytes n

-- the number is that of the first bytes, and these are bytes
pub record IsFront (bytes : List ℕ) (n front : ℕ) : Type 0 where
  pub number : front ≡ front_of bytes n
  pub small : (k : ℕ) → k < n → byte_at bytes k < 256
