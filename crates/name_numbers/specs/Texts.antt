-- Texts by the places where they stand in bytes.
use Rattle.std.specs.Prelude.{ℕ, ◌≤◌, List, length, map, slice_range}
use Rattle.name_numbers.specs.declared.text_place.TextPlace.{TextPlace}

-- the place is one in the bytes
abbrev pub IsInFile : List ℕ → TextPlace → Type 0
IsInFile bytes place = (place.start ≤ place.end) × (place.end ≤ length bytes)

-- what stands at the place
abbrev pub text_at : List ℕ → TextPlace → List ℕ
text_at bytes place = slice_range bytes place.start place.end

abbrev pub texts_at : List ℕ → List TextPlace → List (List ℕ)
texts_at bytes places = map (text_at bytes) places
