-- What files read as, joined in their order.
use Rattle.std.specs.Prelude.{◌≡◌, ℕ, List, [], ◌∷◌, None}
use Rattle.cg_read.specs.Merge.{IsJoined}
use Rattle.cg_read.specs.Profiles.{Contents, contents}
use Rattle.cg_read.specs.AddressReading.{ReadsLines}

-- a profile of these events without a row
abbrev pub no_rows : List (List ℕ) → Contents
no_rows events = contents events None [] [] [] []

-- Each file's bytes read as a profile, and the joined one is the first with theirs joined to it, one after another.
abbrev pub Joins : Contents → List (List ℕ) → Contents → Type 0
Joins first [] joined = joined ≡ first
Joins first (bytes ∷ files) joined =
    (read : Contents) × (next : Contents) × ReadsLines bytes read × IsJoined first read next × Joins next files joined
