use Rattle.std.proofs.Common.{◌≡◌, take, map, string_bytes}
use Rattle.profile_files.specs.WantedFile.{with_limit}
use Rattle.profile_files.proofs.wanted.with_limit.Given as goal

abbrev pub invariant-names : goal.invariant-names
invariant-names l = l.files.items ≡ map (λ name. with_limit l.limit (string_bytes name)) (take l.name-index l.names)
