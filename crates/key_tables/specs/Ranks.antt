-- Texts by their ranks.
use Rattle.std.specs.Prelude.{◌≡◌, ℕ, ◌<◌, List, [], length, slice_index, slice_index_or}
use Rattle.std.specs.Cmp.Lexicographic.{slice_cmp}
use Rattle.std.specs.Ordering.{nat_cmp}
use Rattle.std.specs.declared.cmp.Ordering.{Ordering}

-- texts by their bytes
abbrev pub text_order : List ℕ → List ℕ → Ordering
text_order = slice_cmp nat_cmp

-- the ranks are in the order of the texts
pub record AreTextRanks (texts : List (List ℕ)) (ranks : List ℕ) : Type 0 where
  pub size : length ranks ≡ length texts
  pub order : (i j : ℕ) → i < length texts → j < length texts
      → nat_cmp (slice_index ranks i) (slice_index ranks j)
      ≡ text_order (slice_index_or texts i []) (slice_index_or texts j [])
