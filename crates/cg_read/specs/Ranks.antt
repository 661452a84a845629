-- Functions by the ranks of their texts.
use Rattle.std.specs.Prelude.{◌≡◌, ℕ, ◌<◌, List, length, slice_index_or}
use Rattle.std.specs.Ordering.{nat_cmp}
pub use Rattle.key_tables.specs.Ranks.{text_order}
use Rattle.cg_read.specs.Profiles.{function_at}
use Rattle.cg_read.specs.declared.function_numbers.FunctionNumbers.{FunctionNumbers}
use Rattle.cg_read.specs.declared.rows.FuncKey.{FuncKey}

abbrev pub rank_at : List FunctionNumbers → ℕ → FunctionNumbers
rank_at ranks n = slice_index_or ranks n (record { object = 0; file = 0; name = 0 })

-- Of any two of the functions, these numbers are in the order of these texts.
abbrev pub CompareAlike : List FuncKey → List FunctionNumbers → (FuncKey → List ℕ) → (FunctionNumbers → ℕ) → Type 0
CompareAlike functions ranks text rank = (f g : ℕ) → f < length functions → g < length functions
    → nat_cmp (rank (rank_at ranks f)) (rank (rank_at ranks g))
    ≡ text_order (text (function_at functions f)) (text (function_at functions g))

-- each function has numbers that are in the order of its texts
pub record AreRanks (functions : List FuncKey) (ranks : List FunctionNumbers) : Type 0 where
  pub size : length ranks ≡ length functions
  pub object : CompareAlike functions ranks (λ f. f.object) (λ r. r.object)
  pub file : CompareAlike functions ranks (λ f. f.file) (λ r. r.file)
  pub name : CompareAlike functions ranks (λ f. f.name) (λ r. r.name)
