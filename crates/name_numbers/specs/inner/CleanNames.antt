-- Names that are cleaned in the bytes of a part of a file.
use Rattle.std.specs.Prelude.{◌≡◌, ℕ, ◌-◌, ◌≤◌, Bool, true, ◌||◌, ◌==◌, if◌then◌else◌, List, [], ◌∷◌, length, map, take, slice_index}
use Rattle.byte_text.specs.Names.{is_printable}
use Rattle.name_numbers.specs.declared.text_place.TextPlace.{TextPlace}
use Rattle.name_numbers.specs.Texts.{text_at}

-- a byte that isn't printable becomes a question mark
abbrev pub printed_byte : ℕ → ℕ
printed_byte byte = if is_printable byte then byte else 0x3f

-- the cleaned form has other bytes than these: the name is empty, or has a space at an end
abbrev pub is_changed : List ℕ → Bool
is_changed [] = true
is_changed (byte ∷ bytes) =
    let name = byte ∷ bytes in (byte == 0x20) || (slice_index name (length name - 1) == 0x20)

-- the place lies in the part
abbrev pub IsWithin : TextPlace → TextPlace → Type 0
IsWithin part place = (part.start ≤ place.start) × (place.end ≤ part.end)

-- the bytes begin with the part of the file, each byte printed
abbrev pub IsPrinted : List ℕ → TextPlace → List ℕ → Type 0
IsPrinted file part bytes = take (part.end - part.start) bytes ≡ map printed_byte (text_at file part)

-- others come behind
abbrev pub Grows : List ℕ → List ℕ → Type 0
Grows before bytes = take (length before) bytes ≡ before
