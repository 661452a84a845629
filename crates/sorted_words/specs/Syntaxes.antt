-- The code's commands as data.
use Rattle.std.specs.Prelude.{map}
use Rattle.sorted_words.specs.Sorting.{Syntax}
use Rattle.sorted_words.specs.declared.syntax.Syntax as code

abbrev pub syntax_of : code.Syntax → Syntax
syntax_of syntax = record { name = syntax.name.now; options = map (λ name. name.now) syntax.options.items }
