-- Words of memory in a text.
use Rattle.std.specs.Prelude.{ℕ, ◌/◌, ◌%◌, ◌^◌, false, List, [], ◌∷◌, ◌++◌, codes, map}
use Rattle.std.specs.Fmt.{digit_glyph}

-- the lower-case hexadecimal digit of a number below 16
abbrev pub hex_digit : ℕ → ℕ
hex_digit n = digit_glyph false n

-- a word of 32 bits: 0x and eight hexadecimal digits
unfoldable pub hex : ℕ → List ℕ
hex word =
    codes "0x"
    ++ map (λ place. hex_digit (word / 16 ^ place % 16)) (7 ∷ 6 ∷ 5 ∷ 4 ∷ 3 ∷ 2 ∷ 1 ∷ 0 ∷ [])
