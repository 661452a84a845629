-- Registers hold numbers below 2 ^ 32, and arithmetic is that of whole numbers modulo 2 ^ 32
-- (RISC-V unprivileged manual, chapters RV32I and M).
--     signed n            the register's number in two's complement
--     wrapped z           the whole number z modulo 2 ^ 32
--     extended bits n     the low so many bits of n with their sign extended to 32
use Rattle.std.specs.Prelude.{ℕ, ◌-◌, ◌*◌, ◌/◌, ◌%◌, ◌^◌, ◌==◌, Bool, if◌then◌else◌, ℤ, pos, negsuc, ◌-ℤ◌, ◌*ℤ◌}
use Rattle.std.specs.Prelude.{int_div, int_lt, int_rem}
use Rattle.std.specs.Int.{int_shr}
use Rattle.rv_decode.specs.Fields as fields

abbrev pub signed : ℕ → ℤ
signed n = fields.signed 32 n

-- negsuc n is -(n + 1)
abbrev pub wrapped : ℤ → ℕ
wrapped (pos n) = n % 2 ^ 32
wrapped (negsuc n) = 2 ^ 32 - 1 - n % 2 ^ 32

abbrev pub extended : ℕ → ℕ → ℕ
extended bits n = wrapped (fields.signed bits (n % 2 ^ bits))

-- 1 or 0
abbrev pub flag : Bool → ℕ
flag b = if b then 1 else 0

-- ---- RV32I

unfoldable pub difference : ℕ → ℕ → ℕ
difference a b = wrapped (pos a -ℤ pos b)

-- shifts take the low five bits of the amount
abbrev pub shifted_left : ℕ → ℕ → ℕ
shifted_left a amount = a * 2 ^ (amount % 32) % 2 ^ 32

abbrev pub shifted_right : ℕ → ℕ → ℕ
shifted_right a amount = a / 2 ^ (amount % 32)

-- the sign is copied into the upper bits: the quotient is rounded down
unfoldable pub shifted_right_signed : ℕ → ℕ → ℕ
shifted_right_signed a amount = wrapped (int_shr (signed a) (amount % 32))

-- ---- M

-- the upper 32 bits of the product of signed by signed, signed by unsigned and unsigned by unsigned
unfoldable pub high_signed : ℕ → ℕ → ℕ
high_signed a b = wrapped (int_shr (signed a *ℤ signed b) 32)

unfoldable pub high_mixed : ℕ → ℕ → ℕ
high_mixed a b = wrapped (int_shr (signed a *ℤ pos b) 32)

unfoldable pub high_unsigned : ℕ → ℕ → ℕ
high_unsigned a b = a * b / 2 ^ 32

-- quotients are rounded toward zero. By 0 the quotient has all bits set, and the remainder is the dividend.
-- -2 ^ 31 by -1 gives 2 ^ 31, which is -2 ^ 31 again, and leaves 0
unfoldable pub quotient_signed : ℕ → ℕ → ℕ
quotient_signed a b = if b == 0 then 2 ^ 32 - 1 else wrapped (int_div (signed a) (signed b))

unfoldable pub quotient_unsigned : ℕ → ℕ → ℕ
quotient_unsigned a b = if b == 0 then 2 ^ 32 - 1 else a / b

unfoldable pub remainder_signed : ℕ → ℕ → ℕ
remainder_signed a b = if b == 0 then a else wrapped (int_rem (signed a) (signed b))

unfoldable pub remainder_unsigned : ℕ → ℕ → ℕ
remainder_unsigned a b = if b == 0 then a else a % b

-- ---- A

-- the lesser and the greater as signed numbers
abbrev pub least_signed : ℕ → ℕ → ℕ
least_signed a b = if int_lt (signed a) (signed b) then a else b

abbrev pub greatest_signed : ℕ → ℕ → ℕ
greatest_signed a b = if int_lt (signed a) (signed b) then b else a
