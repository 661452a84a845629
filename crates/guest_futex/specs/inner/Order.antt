-- The order of the waits, and where those of an address stand among them.
use Rattle.std.specs.Prelude.{ℕ, ◌≤◌, List, [], ◌∷◌, ◌++◌, filter, nat_lt, length, take, drop}
use Rattle.guest_futex.specs.Waits.{Wait, EachWaitsOnce}

-- the addresses rise, from this one on
abbrev pub IsRising : ℕ → List Wait → Type 0
IsRising least [] = Unit {0}
IsRising least (wait ∷ waits) = (least ≤ wait.addr) × IsRising wait.addr waits

-- the waits at lower addresses, and those at higher ones
abbrev pub lower : ℕ → List Wait → List Wait
lower addr waits = filter (λ wait. nat_lt wait.addr addr) waits

abbrev pub higher : ℕ → List Wait → List Wait
higher addr waits = filter (λ wait. nat_lt addr wait.addr) waits

-- the waits with so many of them, from a place on, behind all others
abbrev pub turned : ℕ → ℕ → List Wait → List Wait
turned start count waits = take start waits ++ (drop count (drop start waits) ++ take count (drop start waits))

-- what holds of all that wait
pub record IsInOrder (waits : List Wait) : Type 0 where
  pub rising : IsRising 0 waits
  pub once : EachWaitsOnce waits
  pub few : length waits ≤ 65535
