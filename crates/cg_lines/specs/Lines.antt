-- Lines, words and what their ends lose.
use Rattle.std.specs.Prelude.{ℕ, ◌-◌, Bool, true, false, ◌||◌, ◌==◌, List, [], ◌∷◌, length, take, drop, filter, Option}
use Rattle.std.specs.Prelude.{None, Some}
use Rattle.std.specs.Borrow.{Bor}
use Rattle.std.specs.List.{prefix_len, suffix_len, slice_split}
use Rattle.std.specs.Str.Lines.{strip_carriage_return}

-- a space or a tab
abbrev pub is_blank : ℕ → Bool
is_blank byte = byte == 32 || byte == 9

abbrev pub is_space : ℕ → Bool
is_space byte = byte == 32

-- without the elements at the front that pass the test
abbrev pub without_front : (ℕ → Bool) → List ℕ → List ℕ
without_front test bytes = drop (prefix_len test bytes) bytes

-- without spaces and tabs at both ends
abbrev pub trim : List ℕ → List ℕ
trim bytes =
    let rest = without_front is_blank bytes in take (length rest - suffix_len is_blank rest) rest

-- without a carriage return at the end, and then without spaces and tabs at both ends
abbrev pub strip : List ℕ → List ℕ
strip line = trim (strip_carriage_return line)

-- the parts between separators
abbrev pub parts : ℕ → List ℕ → List (List ℕ)
parts separator bytes = slice_split (λ byte. byte == separator) bytes

-- the parts that are left, where there is a rest
abbrev pub parts_left : ℕ → Option (Bor (List ℕ)) → List (List ℕ)
parts_left separator None = []
parts_left separator (Some rest) = parts separator rest.now

-- lines end at a line feed or at the end
abbrev pub lines : List ℕ → List (List ℕ)
lines bytes = parts 10 bytes

abbrev pub is_some_word : List ℕ → Bool
is_some_word [] = false
is_some_word (_ ∷ _) = true

-- words are separated by spaces
abbrev pub words : List ℕ → List (List ℕ)
words text = filter is_some_word (parts 32 text)
