-- The fields of a word and its signed immediates (RISC-V unprivileged manual, 2.2 and 2.3).
use Rattle.std.specs.Prelude.{ℕ, ◌+◌, ◌-◌, ◌*◌, ◌/◌, ◌%◌, ◌^◌, nat_lt, ℤ, pos, negsuc, if◌then◌else◌}

-- the number in the len bits from bit low up
abbrev pub field : ℕ → ℕ → ℕ → ℕ
field low len word = word / 2 ^ low % 2 ^ len

abbrev pub rd : ℕ → ℕ
rd word = field 7 5 word

abbrev pub rs1 : ℕ → ℕ
rs1 word = field 15 5 word

abbrev pub rs2 : ℕ → ℕ
rs2 word = field 20 5 word

-- a number in two's complement, whose sign bit has the weight sign: n, or n - 2 * sign
abbrev pub twos_complement : ℕ → ℕ → ℤ
twos_complement sign n = if nat_lt n sign then pos n else negsuc (2 * sign - 1 - n)

-- a number of so many bits, read as a signed one
abbrev pub signed : ℕ → ℕ → ℤ
signed bits n = twos_complement (2 ^ (bits - 1)) n

abbrev pub imm_i : ℕ → ℤ
imm_i word = signed 12 (field 20 12 word)

abbrev pub imm_s : ℕ → ℤ
imm_s word = signed 12 (field 25 7 word * 2 ^ 5 + field 7 5 word)

abbrev pub imm_b : ℕ → ℤ
imm_b word =
    signed 13 (field 31 1 word * 2 ^ 12 + field 7 1 word * 2 ^ 11 + field 25 6 word * 2 ^ 5 + field 8 4 word * 2)

abbrev pub imm_u : ℕ → ℤ
imm_u word = signed 32 (field 12 20 word * 2 ^ 12)

abbrev pub imm_j : ℕ → ℤ
imm_j word =
    signed 21 (field 31 1 word * 2 ^ 20 + field 12 8 word * 2 ^ 12 + field 20 1 word * 2 ^ 11 + field 21 10 word * 2)
