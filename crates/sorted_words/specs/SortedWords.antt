-- What a command was given.
use Rattle.std.specs.Prelude.{◌≡◌, Bool, true, not, ◌==◌, List, length, find, Option, None, Some, option_map, unwrap_or}
use Rattle.std.specs.Prelude.{[]}
use Rattle.std.specs.List.{list_all}
use Rattle.std.specs.Str.{bytes_eq}
use Rattle.sorted_words.specs.Sorting.{SortedCommand, Syntax, Text, is_among, uses}

-- the name of the command, the VALUEs under each name, and the values
pub record SortedWords : Type 0 where
  pub command : Text
  pub options : List (Text × List Text)
  pub values : List Text

-- what stands under this name, where something does
abbrev pub find_values : Text → List (Text × List Text) → Option (List Text)
find_values name options = option_map (λ entry. entry.1) (find (λ entry. bytes_eq entry.0 name) options)

abbrev pub or_none : Option (List Text) → List Text
or_none texts = unwrap_or texts []

-- the VALUEs under this name
abbrev pub under : Text → List (Text × List Text) → List Text
under name options = or_none (find_values name options)

-- the words were sorted so, as the VALUEs under the name of each of these options
pub record IsSortedAs (names : List Text) (sorted : SortedCommand) (given : SortedWords) : Type 0 where
  pub options : (name : Text) → is_among names name ≡ true → under name given.options ≡ uses name sorted.options
  pub values : given.values ≡ sorted.values

-- what the words were sorted into, where they were
abbrev pub IsSorting : Option (Syntax × SortedCommand) → Option SortedWords → Type 0
IsSorting None None = Unit {0}
IsSorting (Some (syntax, sorted)) (Some given) = (given.command ≡ syntax.name) × IsSortedAs syntax.options sorted given
IsSorting _ _ = ⊥

-- no option's name is empty
abbrev pub has_named_options : Syntax → Bool
has_named_options command = list_all (λ name. not (length name == 0)) command.options
