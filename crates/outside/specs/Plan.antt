-- Which calls of a folder or a sink in memory are to fail.
use Rattle.std.specs.Prelude.{ℕ, ◌+◌, ◌-◌, ◌^◌, ◌==◌, min, Bool, List, if◌then◌else◌}
use Rattle.std.specs.List.{list_any}

-- the numbers of the calls that fail, and how many calls there were
pub record Plan : Type 0 where
  pub fails : List ℕ
  pub calls : ℕ

-- one more, as far as 64 bits count
abbrev pub one_more : ℕ → ℕ
one_more n = min (n + 1) (2 ^ 64 - 1)

-- the next call is to fail: calls count from 1
abbrev pub next_fails : Plan → Bool
next_fails p = list_any (λ n. n == one_more p.calls) p.fails

-- once one more call was made
abbrev pub after_call : Plan → Plan
after_call p = record p { calls = one_more p.calls }

-- the count of faults after a call that fails or not
abbrev pub count_after : Bool → ℕ → ℕ
count_after fails count = if fails then one_more count else count
