use Rattle.std.proofs.Common.{◌≡◌, ◌++◌, take, flat_map}
use Rattle.annotate.specs.Calls.{calls_of}
use Rattle.report_rows.specs.Orders.{members}
use Rattle.annotate.proofs.calls.Calls.put_groups.Given as goal

abbrev pub invariant-groups : goal.invariant-groups
invariant-groups l = l.text ≡ l.initial.text
    ++ flat_map (calls_of l.self.view.now.profile.now l.self.view.now.groups.now
    l.self.view.now.functions.now l.tree) (flat_map (members l.self.view.now.groups.now l.self.view.now.functions.now)
    (take l.group-index l.shown))
