use Rattle.std.proofs.Common.{map, sym, ap, subst, ◌∙◌}
use Rattle.call_graph.specs.Groups.{IsNumbering, TellCycles}
use Rattle.call_graph.specs.Reach.{Steps}
use Rattle.call_graph.specs.inner.Pass.{IsFinished, group_in}
use Rattle.call_graph.specs.inner.Rows.{StayWithin, lists}
use Rattle.call_graph.proofs.GroupLemmas.{is_group}
use Rattle.call_graph.proofs.GroupingLemmas.{stay_within, numbered_by_pass, of_all}
use Rattle.call_graph.proofs.grouping.groups_of.Goals as goal

pub pass_over-requires : goal.pass_over-requires
pass_over-requires c =
    subst (λ rows. StayWithin (lists rows)) (sym c.deref.ensures.value) (stay_within c.in_ok-callees.ensures c.requires)

pub cycles_of-requires-clause-numbered : goal.cycles_of-requires-clause-numbered
cycles_of-requires-clause-numbered c =
    let finished =
    subst (λ rows. IsFinished (lists rows) c.in_ok-pass.pass) c.deref.ensures.value c.in_ok-pass.ensures in
    of_all (numbered_by_pass c.in_ok-callees.ensures c.in_ok-pass.pass c.deref-3.result.now finished
    (c.deref-3.ensures.value ∙ c.in_ok-number.ensures ∙ ap (map group_in) c.deref-2.ensures.value))

pub returns-clause-groups : goal.returns-clause-groups
returns-clause-groups c =
    let finished =
    subst (λ rows. IsFinished (lists rows) c.in_ok-pass.pass) c.deref.ensures.value c.in_ok-pass.ensures in
    let numbered = numbered_by_pass c.in_ok-callees.ensures c.in_ok-pass.pass c.in_ok-number.number.items finished
    (c.in_ok-number.ensures ∙ ap (map group_in) c.deref-2.ensures.value) in
    record {
      numbered = subst (λ k. IsNumbering c.args.functions (Steps c.args.arcs.now) c.in_ok-number.number.items k)
          (sym c.in_ok-cyclic.ensures.count) numbered;
      cycles =
          subst (λ number. TellCycles (Steps c.args.arcs.now) number c.in_ok-cyclic.cyclic.items)
          c.deref-3.ensures.value c.in_ok-cyclic.ensures.cycles;
    }

pub returns-clause-tests : goal.returns-clause-tests
returns-clause-tests c = λ group. is_group (returns-clause-groups c) c.requires group
