use Rattle.std.proofs.Common.{◌+◌, ◌^◌, ◌∷◌, [], ◌++◌, List, sym, ◌∙◌, ap, subst, arith}
use Rattle.arc_costs.specs.Arcs.{ArcsStandFor, arc_sum, cost_of_arc}
use Rattle.arc_costs.specs.Rows.{ArcRow}
use Rattle.cases.specs.Within.{IsWithin}
use Rattle.cases.proofs.WithinLemmas.{all_within, uncalled}
use Rattle.cases.proofs.adding.add.Goals as goal

pub add_arc-requires-clause-fits : goal.add_arc-requires-clause-fits
add_arc-requires-clause-fits c =
    λ event.
    let now = ap (arc_sum event c.args.arc.now) c.add_line.ensures.arcs in
    omega (arith, now, c.requires.within.arc_costs event c.args.arc.now, c.requires.small event)

pub count_call-requires-clause-fits : goal.count_call-requires-clause-fits
count_call-requires-clause-fits c =
    let old = c.args.tables.now in
    let added = subst (λ arcs. (additions : List ArcRow) → ArcsStandFor arcs additions
    → ArcsStandFor c.add_arc.new.self.arcs (additions ++ cost_of_arc c.args.arc.now c.args.cost.now ∷ []))
    c.add_line.ensures.arcs c.add_arc.ensures.stands in
    let few = uncalled old.lines c.add_line.new.self.lines old.arcs c.add_arc.new.self.arcs c.add_arc.new.self.arcs
    c.args.place c.args.arc.now c.args.cost.now c.add_line.ensures.stands added c.requires.small
    (2 ^ 62) c.requires.within c.args.arc.now in
    omega (arith, few)

pub returns-clause-within : goal.returns-clause-within
returns-clause-within c =
    λ limit within.
    let old = c.args.tables.now in
    let added = subst (λ arcs. (additions : List ArcRow) → ArcsStandFor arcs additions
    → ArcsStandFor c.add_arc.new.self.arcs (additions ++ cost_of_arc c.args.arc.now c.args.cost.now ∷ []))
    c.add_line.ensures.arcs c.add_arc.ensures.stands in
    let all = all_within old.lines c.add_line.new.self.lines old.arcs c.add_arc.new.self.arcs c.count_call.new.self.arcs
    c.args.place c.args.arc.now c.args.cost.now c.add_line.ensures.stands added c.requires.small limit within
    c.count_call.ensures.stands in
    subst (λ lines. IsWithin (limit + 2 ^ 32) lines c.count_call.new.self.arcs)
    (sym (c.count_call.ensures.lines ∙ c.add_arc.ensures.lines)) all
