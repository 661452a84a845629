-- What contracts see of a sink that takes few bytes at a time.
use Rattle.std.specs.Prelude.{ℕ, List}

-- the bytes taken so far, and the count of faults
pub record DripState : Type 0 where
  pub taken : List ℕ
  pub faults : ℕ
