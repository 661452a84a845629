-- The fronts of strings, by which names are told apart without a look at the whole of them.
use Rattle.std.specs.Prelude.{ℕ, ◌+◌, min}
use Rattle.elf_read.specs.declared.text.Range.{Range}

-- at most the first n bytes of a part
abbrev pub front_of : ℕ → Range → Range
front_of n part = record { start = part.start; end = min part.end (part.start + n) }
