-- What holds of the parts of a table: the entries of its map, and the newest row beside it.
use Rattle.std.specs.Prelude.{◌≡◌, ℕ, Bool, List, ◌++◌, Option, None, IfSome, is_some, if◌then◌else◌}
use Rattle.std.specs.List.{AllByRecursion}
use Rattle.std.specs.Map.{lookup}
use Rattle.std.specs.Option.{option_to_list}
use Rattle.arc_costs.specs.Contents.{Entries}

module _ {K A : Type 0} where
  -- each amount is whole
  abbrev pub AllWhole : (A → Type 0) → List (K × A) → Type 0
  AllWhole is_whole entries = AllByRecursion (λ e. is_whole e.1) entries

  abbrev pub all_rows : List (K × A) → Option (K × A) → List (K × A)
  all_rows known newest = known ++ option_to_list newest

  -- a new key takes the slot where it is empty
  abbrev pub table_entries : List (K × A) → Option (K × A) → ℕ → Entries K A
  table_entries known newest ahead =
      record { rows = all_rows known newest; room = if is_some newest then 0 else 1; ahead = ahead }

  pub record IsSound (same : K → K → Bool) (is_whole : A → Type 0) (known : List (K × A))
      (newest : Option (K × A)) : Type 0 where
    -- the newest row's key isn't in the map
    pub apart : IfSome newest (λ row. lookup (same row.0) known ≡ None)
    -- each amount is whole
    pub whole : AllWhole is_whole (all_rows known newest)
