-- How the words of a command line are sorted into a command, its options and values.
use Rattle.std.specs.Prelude.{ℕ, Bool, not, ◌||◌, ◌==◌, nat_eq, List, [], ◌∷◌, Option, Some, None, codes, drop, find}
use Rattle.std.specs.Prelude.{filter, map, option_and_then, option_map, if◌then◌else◌}
use Rattle.std.specs.List.{after_first, before_first, list_any, starts_with}
use Rattle.std.specs.Str.{bytes_eq}

abbrev pub Text : Type 0
Text = List ℕ

-- a command: its name, and the names of its options
pub record Syntax : Type 0 where
  pub name : Text
  pub options : List Text

-- what stands in the words after the command: options, each a NAME with its VALUE, and values
pub record SortedCommand : Type 0 where
  pub options : List (Text × Text)
  pub values : List Text

abbrev pub is_among : List Text → Text → Bool
is_among names name = list_any (λ known. bytes_eq known name) names

-- the VALUEs that an option was given, in their order
abbrev pub uses : Text → List (Text × Text) → List Text
uses name options = map (λ given. given.1) (filter (λ given. bytes_eq given.0 name) options)

-- a word that doesn't begin with `-`, and the word `-`
abbrev pub is_value : Text → Bool
is_value word = not (starts_with nat_eq word (codes "-")) || bytes_eq word (codes "-")

-- what a word is, read by itself
pub data Word : Type 0 where
  -- `--`
  end : Word
  value : Word
  -- `--NAME`, whose VALUE is the next word
  apart : Text → Word
  -- `--NAME=VALUE`
  joined : Text → Text → Word
  -- anything else
  fault : Word

-- VALUE is all that follows the first `=` (61)
abbrev pub name_of : Text → Text
name_of text = before_first (λ byte. byte == 61) text

-- what follows `--`, where NAME is one of the command's
abbrev pub option_word : List Text → Text → Word
option_word names text =
    if is_among names (name_of text)
    then (if list_any (λ byte. byte == 61) text then joined (name_of text) (after_first (λ byte. byte == 61) text)
    else apart (name_of text))
    else fault

abbrev pub word_of : List Text → Text → Word
word_of names word =
    if bytes_eq word (codes "--") then end
    else (if is_value word then value
    else (if starts_with nat_eq word (codes "--") then option_word names (drop 2 word) else fault))

abbrev pub with_option : Text → Text → Option SortedCommand → Option SortedCommand
with_option name word = option_map {T = SortedCommand} (λ rest. record rest { options = (name, word) ∷ rest.options })

-- `rest` is how the words behind this one are read, where that NAME waits for its VALUE
abbrev pub sorted_word : Word → Text → List Text → (Option Text → Option SortedCommand) → Option SortedCommand
sorted_word end word words rest = Some (record { options = []; values = words })
sorted_word value word words rest =
    option_map {T = SortedCommand} (λ sorted. record sorted { values = word ∷ sorted.values }) (rest None)
sorted_word (apart name) word words rest = rest (Some name)
sorted_word (joined name text) word words rest = with_option name text (rest None)
sorted_word fault word words rest = None

-- The words after the command are read in their order, up to the first `--`, behind which every word is a value. A NAME
-- that waits takes the next word as its VALUE, if that is a value.
abbrev pub sort_words : List Text → List Text → Option Text → Option SortedCommand
sort_words names [] None = Some (record { options = []; values = [] })
sort_words names [] (Some name) = None
sort_words names (word ∷ words) None = sorted_word (word_of names word) word words (sort_words names words)
sort_words names (word ∷ words) (Some name) =
    if is_value word then with_option name word (sort_words names words None) else None

-- the command of this name
abbrev pub syntax_named : List Syntax → Text → Option Syntax
syntax_named commands name = find (λ command. bytes_eq command.name name) commands

-- The first word is passed over, the second is the name of a command.
abbrev pub sorting : List Syntax → List Text → Option (Syntax × SortedCommand)
sorting commands (own ∷ name ∷ words) =
    option_and_then (λ command. option_map (λ rest. (command, rest)) (sort_words command.options words None))
    (syntax_named commands name)
sorting commands _ = None
