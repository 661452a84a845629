-- Numbers of variable length (DWARF 5, 7.6).
use Rattle.std.specs.Prelude.{ℕ, ◌+◌, ◌-◌, ◌*◌, ◌^◌, ◌%◌, nat_lt, nat_le, Bool, true, false, if◌then◌else◌, List, []}
use Rattle.std.specs.Prelude.{◌∷◌, length, take, drop, slice_index, position, Option, Some, None, option_map, ℤ, pos}
use Rattle.std.specs.Prelude.{negsuc}
use Rattle.dwarf_line.specs.Bytes.{◌>>=◌}

-- The bytes of such a number: each but the last has its high bit set.
unfoldable pub groups_at : List ℕ → Option (List ℕ × List ℕ)
groups_at bytes = option_map (λ i. (take (i + 1) bytes, drop (i + 1) bytes)) (position (λ b. nat_lt b 128) bytes)

-- a byte's low seven bits, or their complement
abbrev pub digit_of : Bool → ℕ → ℕ
digit_of flipped byte = if flipped then 127 - byte % 128 else byte % 128

-- the number with these digits, the lowest first
abbrev pub number_of : Bool → List ℕ → ℕ
number_of flipped [] = 0
number_of flipped (byte ∷ bytes) = digit_of flipped byte + 128 * number_of flipped bytes

-- whether the sign bit is set, which is the second highest bit of the last byte
abbrev pub is_negative : List ℕ → Bool
is_negative groups = nat_le 64 (slice_index groups (length groups - 1))

-- An unsigned number. One beyond 64 bits is damage.
unfoldable pub uleb128_at : List ℕ → Option (ℕ × List ℕ)
uleb128_at bytes = do
  groups ← groups_at bytes
  if nat_lt (number_of false groups.0) (2 ^ 64) then Some (number_of false groups.0, groups.1) else None

-- The number in two's complement: where the sign bit is set it is -1 less the number of the flipped bits.
abbrev pub signed_of : List ℕ → ℤ
signed_of groups = if is_negative groups then negsuc (number_of true groups) else pos (number_of false groups)

-- A signed number. One beyond 64 bits, which has more than 63 bits beside its sign, is damage.
unfoldable pub sleb128_at : List ℕ → Option (ℤ × List ℕ)
sleb128_at bytes = do
  groups ← groups_at bytes
  if nat_lt (number_of (is_negative groups.0) groups.0) (2 ^ 63) then Some (signed_of groups.0, groups.1) else None
