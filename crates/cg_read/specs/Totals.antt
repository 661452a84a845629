-- Sums over the self rows of a profile.
use Rattle.std.specs.Prelude.{ℕ, ◌^◌, ◌<◌, ◌≤◌, List, slice_index, sum_by}
use Rattle.cg_read.specs.Profiles.{Contents}
use Rattle.cg_read.specs.declared.rows.SelfRow.{SelfRow}

-- the sum of the costs at a place
abbrev pub column_sum : List SelfRow → ℕ → ℕ
column_sum rows place = sum_by (λ row. slice_index row.cost place) rows

-- the total of an event, by its place
abbrev pub total : Contents → ℕ → ℕ
total p event = column_sum p.self_rows event

-- of so many places, this is the first whose sum passes 2^64 - 1
pub record IsFirstOver (rows : List SelfRow) (places place : ℕ) : Type 0 where
  pub within : place < places
  pub too_large : 2 ^ 64 ≤ column_sum rows place
  pub first : (p : ℕ) → p < place → column_sum rows p < 2 ^ 64
