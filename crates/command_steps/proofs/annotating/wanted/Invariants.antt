use Rattle.std.proofs.Common.{◌≡◌, take, map}
use Rattle.profile_files.specs.WantedFile.{with_limit}
use Rattle.command_steps.specs.Annotate.{profile_limit}
use Rattle.command_steps.proofs.annotating.wanted.Given as goal

abbrev pub invariant-names : goal.invariant-names
invariant-names l = l.files.items
    ≡ map (with_limit profile_limit) (map (λ name. name.now) (take l.name-index l.names))
