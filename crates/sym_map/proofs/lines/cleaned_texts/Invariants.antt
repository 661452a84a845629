use Rattle.std.proofs.Common.{◌≡◌, take, map}
use Rattle.sym_map.specs.inner.Lines.{cleaned_file}
use Rattle.sym_map.proofs.lines.cleaned_texts.Given as goal

abbrev pub invariant-numbers : goal.invariant-numbers
invariant-numbers l = l.texts.items ≡ map (cleaned_file l.rows.files) (take l.number-index l.numbers)
