-- The place at which the instruction of an address is kept.
use Rattle.std.specs.Prelude.{ℕ, ◌/◌, ◌%◌}

-- one of 65,536, by the address's word
abbrev pub place_of : ℕ → ℕ
place_of pc = pc / 4 % 65536
