-- Where ids are looked up.
use Rattle.std.specs.Prelude.{ℕ, ◌-◌, nat_lt, Bool, false, if◌then◌else◌, List, slice_get, Option, None, Some}
use Rattle.std.specs.BTreeMap.{get}
use Rattle.std.specs.Cmp.Lexicographic.{slice_cmp}
use Rattle.std.specs.Ordering.{nat_cmp}
use Rattle.std.specs.Str.{bytes_eq}
use Rattle.cg_lines.specs.Numbers.{number_of}
use Rattle.cg_read.specs.declared.ids.CountedId.{CountedId}
use Rattle.cg_read.specs.declared.ids.Ids.{Ids}
use Rattle.cg_lines.specs.declared.number.Number.{Number}
use Rattle.cg_lines.specs.declared.number.Number.TheVariants.{Fits, TooLarge}

-- the place of an id that writes this number
abbrev pub place_before : Option Number → Option ℕ
place_before None = None
place_before (Some TooLarge) = None
place_before (Some (Fits n)) = if nat_lt n 1 then None else Some (n - 1)

abbrev pub place_of : List ℕ → Option ℕ
place_of id = place_before (number_of id)

abbrev pub at_place : List CountedId → Option ℕ → Option CountedId
at_place counted None = None
at_place counted (Some place) = slice_get counted place

abbrev pub is_same : List ℕ → Option CountedId → Bool
is_same id None = false
is_same id (Some counted) = bytes_eq counted.id id

-- the number of the same id, or else this one
abbrev pub number_or : List ℕ → Option CountedId → Option ℕ → Option ℕ
number_or id None other = other
number_or id (Some counted) other = if bytes_eq counted.id id then Some counted.number else other

abbrev pub other_number : Ids → List ℕ → Option ℕ
other_number ids id = get (slice_cmp nat_cmp) ids.others id

-- the number of the text that an id stands for
unfoldable pub number_in : Ids → List ℕ → Option ℕ
number_in ids id = number_or id (at_place ids.slots.items (place_of id)) (other_number ids id)
