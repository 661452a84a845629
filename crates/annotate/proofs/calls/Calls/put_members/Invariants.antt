use Rattle.std.proofs.Common.{◌≡◌, ◌++◌, take, flat_map}
use Rattle.annotate.specs.Calls.{calls_of}
use Rattle.annotate.proofs.calls.Calls.put_members.Given as goal

abbrev pub invariant-members : goal.invariant-members
invariant-members l = l.text ≡ l.initial.text
    ++ flat_map (calls_of l.self.view.now.profile.now l.self.view.now.groups.now
    l.self.view.now.functions.now l.tree) (take l.function-index l.members)
