use Rattle.std.proofs.Common.{◌≡◌, ◌++◌, codes, flat_map, map, take}
use Rattle.std.specs.Prelude.{string_bytes}
use Rattle.profile_run.proofs.parts.command_line.Given as goal

abbrev pub invariant-arguments : goal.invariant-arguments
invariant-arguments l =
    l.text ≡ l.initial.text ++ flat_map (λ t. codes " " ++ t) (map string_bytes (take l.arg-index l.rest))
