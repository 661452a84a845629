use Rattle.std.proofs.Common.{◌≡◌, map, take, length}
use Rattle.std.specs.List.{enumerate_from}
use Rattle.byte_text.specs.Names.{clean_byte}
use Rattle.byte_text.proofs.name.clean_name.Given as goal

abbrev pub invariant-bytes : goal.invariant-bytes
invariant-bytes l =
    l.bytes.items ≡ map (λ p. clean_byte (length l.name) p.0 p.1) (take l.place (enumerate_from 0 l.name))
