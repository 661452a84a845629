-- What is written, with the names still to come, is the whole.
use Rattle.std.proofs.Common.{◌≡◌, ◌++◌, drop}
use Rattle.std.specs.List.{flat_map}
use Rattle.prog_make.specs.inner.Strings.{with_zero, name_strings}
use Rattle.prog_make.proofs.strings.push_names.Given as goal

abbrev pub invariant-functions : goal.invariant-functions
invariant-functions l = l.out ++ flat_map (λ f. with_zero f.name) (drop l.function-index l.functions)
    ≡ l.fn.out ++ name_strings l.functions
