-- Numbers as a profile writes them.
use Rattle.std.specs.Prelude.{ℕ, ◌^◌, Bool, ◌&&◌, not, ◌==◌, nat_eq, nat_lt, if◌then◌else◌, List, length, drop, codes}
use Rattle.std.specs.Prelude.{Option, None, Some}
use Rattle.std.specs.Char.{is_digit}
use Rattle.std.specs.List.{list_all, starts_with}
use Rattle.std.specs.Str.Parse.{digits_value}
use Rattle.cg_lines.specs.declared.number.Number.{Number}
use Rattle.cg_lines.specs.declared.number.Number.TheVariants.{Fits, TooLarge}

-- numbers have 64 bits
abbrev pub checked_number : ℕ → Number
checked_number n = if nat_lt n (2 ^ 64) then Fits n else TooLarge

-- one digit or more in this radix, and nothing else
abbrev pub is_numeral : ℕ → List ℕ → Bool
is_numeral radix digits = not (length digits == 0) && list_all (λ c. is_digit c radix) digits

abbrev pub numeral : ℕ → List ℕ → Option Number
numeral radix digits = if is_numeral radix digits then Some (checked_number (digits_value radix digits)) else None

-- a number is decimal digits, or 0x and hexadecimal digits
abbrev pub number_of : List ℕ → Option Number
number_of word = if starts_with nat_eq word (codes "0x") then numeral 16 (drop 2 word) else numeral 10 word

abbrev pub value_of : Number → Option ℕ
value_of (Fits n) = Some n
value_of TooLarge = None

abbrev pub in_range : ℕ → Option ℕ
in_range n = if nat_lt n (2 ^ 64) then Some n else None
