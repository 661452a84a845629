-- Readers of bytes. A reader gives what stands at the front of a list of bytes and the bytes that
-- follow, or nothing where the front is damaged.
use Rattle.std.specs.Prelude.{Bool, ℕ, zero, suc, ◌+◌, ◌==◌, nat_lt, if◌then◌else◌, List, [], ◌∷◌, length, take, drop}
use Rattle.std.specs.Prelude.{position, Option, Some, None, option_and_then, option_map}
use Rattle.byteorder.specs.Endian.{little_number}

-- goes on with what was read; damage stays damage
infixl 10 ◌>>=◌
abbrev pub ◌>>=◌ : {A B : Type 0} → Option A → (A → Option B) → Option B
read >>= next = option_and_then next read

-- so many values, one after the other
abbrev pub many_at : {X : Type 0} → (List ℕ → Option (X × List ℕ)) → ℕ → List ℕ → Option (List X × List ℕ)
many_at read zero bytes = Some ([], bytes)
many_at read (suc count) bytes = do
  first ← read bytes
  others ← many_at read count first.1
  Some (first.0 ∷ others.0, others.1)

-- the bytes in front
unfoldable pub bytes_at : ℕ → List ℕ → Option (List ℕ × List ℕ)
bytes_at count bytes = if nat_lt (length bytes) count then None else Some (take count bytes, drop count bytes)

-- the number in so many bytes, the lowest first
unfoldable pub number_at : ℕ → List ℕ → Option (ℕ × List ℕ)
number_at size bytes = if nat_lt (length bytes) size then None else Some (little_number size bytes, drop size bytes)

-- the bytes up to the first one that passes, and the bytes behind it
unfoldable pub up_to : (ℕ → Bool) → List ℕ → Option (List ℕ × List ℕ)
up_to ends bytes = option_map (λ i. (take i bytes, drop (i + 1) bytes)) (position ends bytes)

-- a text that ends with a zero byte, without that byte
abbrev pub text_at : List ℕ → Option (List ℕ × List ℕ)
text_at bytes = up_to (λ b. b == 0) bytes
