-- Rows with keys: lists in order of first addition, in which each key has one row.
use Rattle.std.specs.Prelude.{ℕ, Bool, if◌then◌else◌, List, [], ◌∷◌, fold, sum_by}
use Rattle.std.specs.List.{list_any}
use Rattle.event_costs.specs.Keys.{ArcKey, Place}

-- the cost of a place
pub record LineRow : Type 0 where
  pub place : Place
  pub cost : List ℕ

-- the calls of an arc, and the cost of its frames
pub record ArcRow : Type 0 where
  pub arc : ArcKey
  pub calls : ℕ
  pub cost : List ℕ

module _ {R K : Type 0} (key : R → K) (same : K → K → Bool) where
  -- a row has this key
  abbrev pub has_row : K → List R → Bool
  has_row k rows = list_any (λ r. same k (key r)) rows

  -- the sum of a number over the rows of a key
  abbrev pub sum_at : (R → ℕ) → K → List R → ℕ
  sum_at number k rows = sum_by (λ r. if same k (key r) then number r else 0) rows

  module _ (plus : R → R → R) where
    -- the rows after one is added: it is added to the row of its key where there is one, and else it comes last
    abbrev pub add_row : List R → R → List R
    add_row [] new = new ∷ []
    add_row (r ∷ rs) new = if same (key new) (key r) then plus r new ∷ rs else r ∷ add_row rs new

    -- the rows after each of a list is added in turn
    abbrev pub add_rows : List R → List R → List R
    add_rows rows news = fold add_row rows news
