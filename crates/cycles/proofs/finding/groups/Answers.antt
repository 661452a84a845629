use Rattle.std.proofs.Common.{◌≡◌, length, map, All, sym, ap, subst, ◌∙◌}
use Rattle.call_graph.specs.Groups.{IsWithin}
use Rattle.cg_read.specs.Profiles.{IsProfile}
use Rattle.cycles.specs.Costs.{arc_of}
use Rattle.cycles.proofs.CountLemmas.{arcs_within}
use Rattle.cycles.proofs.finding.groups.Goals as goal

pub groups_of-requires : goal.groups_of-requires
groups_of-requires c =
    let p = c.args.profile.now in
    let functions : c.len.result ≡ length p.functions = c.len.ensures
    ∙ ap (λ q. length q.functions) c.profile.view_is in
    let rows = c.deref.ensures.value ∙ ap (λ q. q.call_rows) c.profile.view_is in
    let arcs = c.deref-2.ensures.value ∙ c.in_ok-arcs.ensures ∙ ap (map arc_of) rows in
    subst (λ n. All (IsWithin n) c.deref-2.result.now) (sym functions)
    (subst (All (IsWithin (length p.functions))) (sym arcs)
    (arcs_within p (subst IsProfile c.profile.view_is c.profile.invariant)))
