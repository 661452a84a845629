-- The arguments of a program, as lists of bytes, and their place at the top of the stack.
use Rattle.std.specs.Prelude.{ℕ, ◌+◌, ◌-◌, ◌^◌, ◌<◌, ◌≡◌, min, List, [], ◌∷◌, ◌++◌, length, take, map, sum_by, flat_map}
use Rattle.std.specs.List.{range_with_len}

-- how many bytes the arguments need, each with a zero byte at its end
unfoldable pub arguments_len : List (List ℕ) → ℕ
arguments_len args = sum_by (λ a. length a + 1) args

-- how many bytes there are for the arguments
abbrev pub arguments_limit : ℕ
arguments_limit = 65536

-- the arguments need more bytes than there are for them. Their number is given, as far as it fits 64 bits
abbrev pub NeedsTooMany : List (List ℕ) → ℕ → Type 0
NeedsTooMany args len = (len ≡ min (arguments_len args) (2 ^ 64 - 1)) × (arguments_limit < len)

-- the arguments in order, each with a zero byte at its end
unfoldable pub arguments_bytes : List (List ℕ) → List ℕ
arguments_bytes args = flat_map (λ a. a ++ 0 ∷ []) args

-- sixteen bytes stand at the top of the stack, for AT_RANDOM
abbrev pub sixteen_start : ℕ
sixteen_start = 0x7fff_fff0

abbrev pub sixteen_bytes : List ℕ
sixteen_bytes = range_with_len 0 16

-- the address of the first byte of the arguments, which end where the sixteen bytes begin
abbrev pub arguments_start : List (List ℕ) → ℕ
arguments_start args = sixteen_start - arguments_len args

-- the address of each argument: it begins after those before it
unfoldable pub argument_addresses : List (List ℕ) → List ℕ
argument_addresses args = map (λ k. arguments_start args + arguments_len (take k args)) (range_with_len 0 (length args))
