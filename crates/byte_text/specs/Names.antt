-- The cleaned form of a name, in which it stands in files and messages.
use Rattle.std.specs.Prelude.{ℕ, ◌+◌, Bool, not, ◌&&◌, ◌||◌, ◌==◌, nat_le, if◌then◌else◌, List, [], ◌∷◌, length, map}
use Rattle.std.specs.Prelude.{codes}
use Rattle.std.specs.List.{enumerate_from}

-- a printable ASCII character, the space included
abbrev pub is_printable : ℕ → Bool
is_printable byte = nat_le 0x20 byte && nat_le byte 0x7e

-- a byte stays as it is where it is printable and no space at an end
abbrev pub stays : ℕ → ℕ → ℕ → Bool
stays len place byte = is_printable byte && not (byte == 0x20 && (place == 0 || place + 1 == len))

-- any other byte becomes a question mark
abbrev pub clean_byte : ℕ → ℕ → ℕ → ℕ
clean_byte len place byte = if stays len place byte then byte else 0x3f

-- what stands for a name that isn't known
abbrev pub unknown : List ℕ
unknown = codes "???"

abbrev pub clean_name : List ℕ → List ℕ
clean_name [] = unknown
clean_name (byte ∷ bytes) =
    let name = byte ∷ bytes in map (λ p. clean_byte (length name) p.0 p.1) (enumerate_from 0 name)
