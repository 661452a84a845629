-- Two profiles joined.
use Rattle.std.specs.Prelude.{◌≡◌, ℕ, Bool, ◌||◌, nat_lt, if◌then◌else◌, List, ◌++◌, length, map}
use Rattle.std.specs.List.{starts_with}
use Rattle.std.specs.Str.{bytes_eq}
use Rattle.cg_read.specs.Profiles.{Contents, same_function, NamedSelf, NamedCall, named_self_rows, named_call_rows}
use Rattle.cg_read.specs.Meaning.{or_else, padded}
pub use Rattle.key_tables.specs.Keys.{missing}

-- one list of names is a prefix of the other
abbrev pub agree : List (List ℕ) → List (List ℕ) → Bool
agree xs ys = starts_with bytes_eq xs ys || starts_with bytes_eq ys xs

-- the longer of two lists, the first where they are equally long
abbrev pub longer : List (List ℕ) → List (List ℕ) → List (List ℕ)
longer xs ys = if nat_lt (length xs) (length ys) then ys else xs

-- rows with 0 for the costs that they lack of so many
abbrev pub padded_self : ℕ → NamedSelf → NamedSelf
padded_self events row = record row { cost = padded events row.cost }

abbrev pub padded_call : ℕ → NamedCall → NamedCall
padded_call events row = record row { cost = padded events row.cost }

-- The new profile is the old one with the other's rows after its own. It has the longer list of events, and a row with
-- fewer costs has 0 for the rest. Equal functions are one function, and equal files one file.
pub record IsJoined (old other new : Contents) : Type 0 where
  pub events : new.events ≡ longer old.events other.events
  -- the old command, or else the other one
  pub command : new.command ≡ or_else old.command other.command
  pub functions : new.functions ≡ old.functions ++ missing same_function old.functions other.functions
  pub files : new.files ≡ old.files ++ missing bytes_eq old.files other.files
  pub self_rows : named_self_rows new
      ≡ map (padded_self (length new.events)) (named_self_rows old ++ named_self_rows other)
  pub call_rows : named_call_rows new
      ≡ map (padded_call (length new.events)) (named_call_rows old ++ named_call_rows other)
