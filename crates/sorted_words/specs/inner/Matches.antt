-- What `clap` found for a command, as plain data.
use Rattle.std.specs.Prelude.{List, map}
use Rattle.clap.specs.Walk.{Row}
use Rattle.sorted_words.specs.SortedWords.{SortedWords, under}
use Rattle.sorted_words.specs.Sorting.{Text}
use Rattle.sorted_words.specs.inner.Builder.{values_id}

abbrev pub entries : List Row → List (Text × List Text)
entries rows = map (λ row. (row.id, row.values)) rows

abbrev pub sorted_words_of : Text → List Row → SortedWords
sorted_words_of command rows = record { command = command; options = entries rows; values = under values_id (entries rows) }
