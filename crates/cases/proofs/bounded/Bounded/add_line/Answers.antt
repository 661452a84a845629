use Rattle.std.proofs.Common.{refl, ap, arith}
use Rattle.arc_costs.specs.Arcs.{arc_sum, call_sum}
use Rattle.arc_costs.specs.Lines.{line}
use Rattle.cases.proofs.WithinLemmas.{line_within}
use Rattle.cases.proofs.bounded.Bounded.add_line.Goals as goal

pub returns-clause-within : goal.returns-clause-within
returns-clause-within c = record {
  line_costs = λ event other.
      let now = c.add_line.ensures.stands c.args.self.now.tables.lines (λ e p. refl) event other in
      let more = line_within c.args.self.now.tables.lines (line c.args.place c.args.cost.now) event other in
      omega (arith, now, more, c.requires.within.line_costs event other, c.requires.small event);
  arc_costs = λ event arc.
      let now = ap (arc_sum event arc) c.add_line.ensures.arcs in
      omega (arith, now, c.requires.within.arc_costs event arc);
  calls = λ arc.
      let now = ap (call_sum arc) c.add_line.ensures.arcs in omega (arith, now, c.requires.within.calls arc);
}
