use Rattle.std.proofs.Common.{◌≡◌, map, take}
use Rattle.name_numbers.specs.inner.CleanNames.{printed_byte}
use Rattle.name_numbers.proofs.clean_names.printed_text.Given as goal

abbrev pub invariant-text : goal.invariant-text
invariant-text l = l.bytes.items ≡ map printed_byte (take l.byte-index l.text)
