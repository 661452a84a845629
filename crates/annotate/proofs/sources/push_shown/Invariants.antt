use Rattle.std.proofs.Common.{◌≡◌, map, take}
use Rattle.annotate.specs.Sources.{shown_byte}
use Rattle.annotate.proofs.sources.push_shown.Given as goal

abbrev pub invariant-bytes : goal.invariant-bytes
invariant-bytes l = l.shown.items ≡ map shown_byte (take l.byte-index l.line)
