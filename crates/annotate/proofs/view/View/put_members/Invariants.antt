use Rattle.std.proofs.Common.{◌≡◌, ◌++◌, codes, take, flat_map}
use Rattle.annotate.specs.Functions.{self_and_name}
use Rattle.annotate.proofs.view.View.put_members.Given as goal

abbrev pub invariant-members : goal.invariant-members
invariant-members l = l.text ≡ l.initial.text
    ++ flat_map (λ f. codes "  - | " ++ self_and_name l.self.profile.now f) (take l.function-index l.members)
