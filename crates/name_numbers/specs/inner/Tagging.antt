-- Keys with places.
use Rattle.std.specs.Prelude.{◌≡◌, ℕ, List, Some, All, Contains, length, slice_get, slice_index}
use Rattle.name_numbers.specs.declared.numbering.Tagged.{Tagged}

-- what is tagged with the same place is the same key
abbrev pub HaveOneKeyEach : {K : Type 0} → List (Tagged K) → Type 0
HaveOneKeyEach {K} tagged = (x y : Tagged K) → Contains tagged x → Contains tagged y → x.place ≡ y.place → x.key ≡ y.key

-- Each number stands at the place of a key: it is the key's place among all of them.
pub record NumberTagged {K : Type 0} (keys : List K) (numbers : List ℕ) (tagged : List (Tagged K)) : Type 0 where
  pub as_many : length numbers ≡ length tagged
  pub each : All (λ (t : Tagged K). slice_get keys (slice_index numbers t.place) ≡ Some t.key) tagged
