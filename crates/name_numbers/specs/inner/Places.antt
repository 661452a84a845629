-- Places of texts, and texts that begin alike.
use Rattle.std.specs.Prelude.{◌≡◌, ℕ, ◌+◌, ◌-◌, min, List, length, take}
use Rattle.std.specs.Ordering.{nat_cmp, ordering_then}
use Rattle.std.specs.declared.cmp.Ordering.{Ordering}
use Rattle.name_numbers.specs.declared.text_place.TextPlace.{TextPlace}

abbrev pub by_place : TextPlace → TextPlace → Ordering
by_place x y = ordering_then (nat_cmp x.start y.start) (nat_cmp x.end y.end)

-- no bytes
abbrev pub nowhere : TextPlace
nowhere = record { start = 0; end = 0 }

-- the place without so many bytes at its front, or without all if there are fewer
abbrev pub behind : ℕ → TextPlace → TextPlace
behind skip place = record { start = place.start + min skip (place.end - place.start); end = place.end }

-- the text begins with the other
abbrev pub BeginsWith : List ℕ → List ℕ → Type 0
BeginsWith common text = take (length common) text ≡ common
