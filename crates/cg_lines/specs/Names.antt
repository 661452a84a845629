-- Names that stand in a line.
use Rattle.std.specs.Prelude.{ℕ, Bool, true, not, ◌&&◌, List, [], ◌∷◌}
use Rattle.std.specs.List.{list_any}
use Rattle.std.specs.Cmp.Lexicographic.{pointwise}
use Rattle.std.specs.Str.{bytes_eq}

-- how many event names a profile may have
abbrev pub most_events : ℕ
most_events = 64

abbrev pub has_text : List (List ℕ) → List ℕ → Bool
has_text texts t = list_any (bytes_eq t) texts

-- the names differ
abbrev pub is_distinct : List (List ℕ) → Bool
is_distinct [] = true
is_distinct (name ∷ names) = not (list_any (λ other. bytes_eq other name) names) && is_distinct names

-- the same names in the same order
abbrev pub same_names : List (List ℕ) → List (List ℕ) → Bool
same_names xs ys = pointwise bytes_eq xs ys
