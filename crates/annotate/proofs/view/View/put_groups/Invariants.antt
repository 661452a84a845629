use Rattle.std.proofs.Common.{◌≡◌, ◌++◌, ◌+◌, ◌≤◌, take, flat_map, get_or, count_by}
use Rattle.annotate.specs.Functions.{group_text, is_large}
use Rattle.report_rows.specs.Orders.{numbers}
use Rattle.annotate.proofs.view.View.put_groups.Given as goal

abbrev pub invariant-groups : goal.invariant-groups
invariant-groups l = record {
  text : l.text ≡ l.initial.text ++ flat_map (λ i. group_text l.self.profile.now l.self.groups.now l.self.costs.now
      l.self.functions.now (count_by (is_large l.self.groups.now l.self.functions.now) (take i l.shown) + 1)
      (get_or l.shown i 0)) (numbers l.group-index);
  cycles : l.cycles ≡ count_by (is_large l.self.groups.now l.self.functions.now) (take l.group-index l.shown);
  small : l.cycles ≤ l.group-index;
}
