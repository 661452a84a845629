use Rattle.std.proofs.Common.{refl, arith}
use Rattle.cases.proofs.WithinLemmas.{stand_themselves}
use Rattle.cases.proofs.tables.merged.Goals as goal

pub merge-requires-clause-line_costs : goal.merge-requires-clause-line_costs
merge-requires-clause-line_costs c =
    λ event place.
    let same = c.in_ok-other.ensures.lines_stand c.in_ok-after.field-0.tables.lines (λ e p. refl) event place in
    omega (
      arith,
      same,
      c.in_ok-after.ensures.within.line_costs event place,
      c.in_ok-after.ensures.limit,
      c.in_ok-bounded.ensures.within.line_costs event place,
      c.in_ok-bounded.ensures.limit,
    )

pub merge-requires-clause-arc_costs : goal.merge-requires-clause-arc_costs
merge-requires-clause-arc_costs c =
    λ event arc.
    let arcs = c.in_ok-after.field-0.tables.arcs in
    let same = (c.in_ok-other.ensures.arcs_stand arcs (stand_themselves arcs)).costs event arc in
    omega (
      arith,
      same,
      c.in_ok-after.ensures.within.arc_costs event arc,
      c.in_ok-after.ensures.limit,
      c.in_ok-bounded.ensures.within.arc_costs event arc,
      c.in_ok-bounded.ensures.limit,
    )

pub merge-requires-clause-calls : goal.merge-requires-clause-calls
merge-requires-clause-calls c =
    λ arc.
    let arcs = c.in_ok-after.field-0.tables.arcs in
    let same = (c.in_ok-other.ensures.arcs_stand arcs (stand_themselves arcs)).calls arc in
    omega (
      arith,
      same,
      c.in_ok-after.ensures.within.calls arc,
      c.in_ok-after.ensures.limit,
      c.in_ok-bounded.ensures.within.calls arc,
      c.in_ok-bounded.ensures.limit,
    )
