-- What the VALUE of an option may be, and what it means.
use Rattle.std.specs.Prelude.{ℕ, zero, suc, ◌^◌, ◌*◌, ◌==◌, ◌&&◌, ◌||◌, Bool, true, false, nat_le, nat_lt}
use Rattle.std.specs.Prelude.{if◌then◌else◌, Option, Some, None, length, is_some}
use Rattle.std.specs.List.{after_first, before_first, list_all}
use Rattle.std.specs.Option.{option_map_or}
use Rattle.std.specs.Str.Parse.{digits_value, without_leading_plus}
use Rattle.cache_lru.specs.Shape.{Shape, most_size}
use Rattle.sorted_words.specs.Sorting.{Text, is_among}
use Rattle.command_words.specs.Table.{Kind, AnyText, Sized, Number, Cache, OneOf}

abbrev pub is_digit : ℕ → Bool
is_digit byte = nat_le 48 byte && nat_le byte 57

-- decimal digits, one at least, with an optional `+` before them
abbrev pub is_numeral : Text → Bool
is_numeral text = nat_lt 0 (length (without_leading_plus text)) && list_all is_digit (without_leading_plus text)

abbrev pub value_of : Text → ℕ
value_of text = digits_value 10 (without_leading_plus text)

-- the number that a text writes, where it is below the limit
abbrev pub number_below : ℕ → Text → Option ℕ
number_below limit text = if is_numeral text && nat_lt (value_of text) limit then Some (value_of text) else None

-- numbers of 64 and of 32 bits
abbrev pub number : Text → Option ℕ
number = number_below (2 ^ 64)

abbrev pub small_number : Text → Option ℕ
small_number = number_below (2 ^ 32)

-- the test passes a number below the bound
unfoldable pub any_below : ℕ → (ℕ → Bool) → Bool
any_below zero test = false
any_below (suc n) test = test n || any_below n test

-- What a cache may look like, as a test: the line and the number of sets are powers of two, and 2^26 bytes are the
-- most.
unfoldable pub is_geometry : Shape → Bool
is_geometry shape =
    any_below 27 (λ k. shape.line == 2 ^ k) && nat_le 16 shape.line && nat_le shape.line 1024 && nat_le 1 shape.assoc
    && nat_le shape.assoc 64 && nat_le shape.size most_size
    && any_below 27 (λ k. shape.size == shape.assoc * shape.line * 2 ^ k)

-- what stands before the first comma (44), and behind it
abbrev pub part : Text → Text
part text = before_first (λ byte. byte == 44) text

abbrev pub others : Text → Text
others text = after_first (λ byte. byte == 44) text

abbrev pub shape_if : Shape → Option Shape
shape_if shape = if is_geometry shape then Some shape else None

abbrev pub shape_with : Option ℕ → Option ℕ → Option ℕ → Option Shape
shape_with (Some size) (Some assoc) (Some line) = shape_if (record { size = size; assoc = assoc; line = line })
shape_with _ _ _ = None

-- the shape that `SIZE,ASSOC,LINE` writes
abbrev pub shape_of : Text → Option Shape
shape_of text =
    shape_with (small_number (part text)) (small_number (part (others text))) (small_number (others (others text)))

abbrev pub is_between : ℕ → ℕ → ℕ → Bool
is_between least most n = nat_le least n && nat_le n most

-- the option may have this VALUE
abbrev pub accepts : Kind → Text → Bool
accepts AnyText text = true
accepts (Sized least most) text = nat_le least (length text) && option_map_or (nat_le (length text)) most true
accepts (Number least most) text = option_map_or (is_between least most) (number text) false
accepts Cache text = is_some (shape_of text)
accepts (OneOf words) text = is_among words text
