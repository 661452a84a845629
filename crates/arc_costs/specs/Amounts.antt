-- Amounts by key, as pairs of a key and its amount: each key once, in order of first addition.
use Rattle.std.specs.Prelude.{Bool, List, map, unwrap_or}
use Rattle.std.specs.Map.{lookup}
use Rattle.arc_costs.specs.Rows as rows

module _ {K A : Type 0} where
  abbrev pub key_of : K × A → K
  key_of row = row.0

  -- every row with its key and nothing
  abbrev pub clear_amounts : A → List (K × A) → List (K × A)
  clear_amounts nothing entries = map (λ e. (e.0, nothing)) entries

  module _ (same : K → K → Bool) where
    abbrev pub has_key : K → List (K × A) → Bool
    has_key = rows.has_row key_of same

    -- what a key has: nothing where it has no row
    abbrev pub amount_at : A → List (K × A) → K → A
    amount_at nothing entries k = unwrap_or (lookup (same k) entries) nothing

    -- the rows after an amount is added at a key
    abbrev pub add_amount : (A → A → A) → List (K × A) → K → A → List (K × A)
    add_amount plus entries k amount =
        rows.add_row key_of same (λ row new. (row.0, plus row.1 new.1)) entries (k, amount)
