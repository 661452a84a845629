-- Names of functions, as symbols bear them (gABI, String Table).
use Rattle.std.specs.Prelude.{◌≡◌, ◌≢◌, ℕ, List, [], false, nat_eq, codes}
use Rattle.std.specs.List.{All, starts_with}

-- a text that a zero byte may end
abbrev pub HasNoZero : List ℕ → Type 0
HasNoZero text = All (λ b. b ≢ 0) text

-- a function's name: not empty, and no mark of an assembler
pub record IsName (name : List ℕ) : Type 0 where
  pub not_empty : name ≢ []
  pub no_mark : starts_with nat_eq name (codes "$") ≡ false
  pub not_local : starts_with nat_eq name (codes ".L") ≡ false
  pub no_zero : HasNoZero name
