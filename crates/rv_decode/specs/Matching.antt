-- Which words a row takes, and when two rows share none.
use Rattle.std.specs.Prelude.{◌≡◌, ◌≢◌, ℕ, Bool, ◌==◌, bit_and}
use Rattle.rv_decode.specs.declared.row.Row.{Row}

-- the word's bits under the row's mask are the row's bits
abbrev pub Matches : ℕ → Row → Type 0
Matches word row = bit_and word row.mask ≡ row.bits

-- the same as a test
abbrev pub matches : ℕ → Row → Bool
matches word row = bit_and word row.mask == row.bits

-- the rows' bits differ where both masks look
abbrev pub Differ : Row → Row → Type 0
Differ r s = bit_and r.bits s.mask ≢ bit_and s.bits r.mask
