-- What the functions so far count.
use Rattle.std.proofs.Common.{◌≡◌, ◌+◌, ◌^◌, length, min, take}
use Rattle.std.specs.List.{sum_by}
use Rattle.prog_make.proofs.conditions.functions_len.Given as goal

abbrev pub invariant-functions : goal.invariant-functions
invariant-functions l = l.len ≡ min (2 ^ 31) (sum_by (λ f. length f.name + 1024) (take l.function-index l.functions))
