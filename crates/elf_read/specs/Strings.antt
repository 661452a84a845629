-- Parts of the file, and the strings of a string table (gABI, String Table).
use Rattle.std.specs.Prelude.{ℕ, ◌+◌, ◌≤◌, List, length, nat_lt, ◌==◌, slice_range, if◌then◌else◌}
use Rattle.std.specs.List.{position_or_len}
use Rattle.elf_read.specs.declared.text.Range.{Range}

-- the part lies in the file
abbrev pub IsPart : List ℕ → Range → Type 0
IsPart bytes part = (part.start ≤ part.end) × (part.end ≤ length bytes)

-- the bytes of a part
abbrev pub part_of : List ℕ → Range → List ℕ
part_of bytes part = slice_range bytes part.start part.end

-- no bytes
abbrev pub nothing : Range
nothing = record { start = 0; end = 0 }

-- how many bytes stand before the first zero byte, or before the end where there is none
abbrev pub string_len : List ℕ → ℕ
string_len bytes = position_or_len (λ c. c == 0) bytes

-- the string at a place of a table of strings, and nothing where the place isn't in the table
unfoldable pub string_at : List ℕ → Range → ℕ → Range
string_at bytes strings place =
    let start = strings.start + place in
    if nat_lt start strings.end
    then record { start = start; end = start + string_len (slice_range bytes start strings.end) }
    else nothing
