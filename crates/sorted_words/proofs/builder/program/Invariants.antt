use Rattle.std.proofs.Common.{◌≡◌, map, take}
use Rattle.clap.specs.Simple.{app_of}
use Rattle.sorted_words.specs.Syntaxes.{syntax_of}
use Rattle.sorted_words.specs.inner.Builder.{app}
use Rattle.sorted_words.proofs.builder.program.Given as goal

abbrev pub invariant-loop-syntax : goal.invariant-loop-syntax
invariant-loop-syntax l = app_of l.program ≡ app (map syntax_of (take l.syntax-index l.commands))
