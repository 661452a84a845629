use Rattle.std.proofs.Common.{refl, ap, arith}
use Rattle.event_costs.specs.Costs.{event_kinds}
use Rattle.arc_costs.specs.Arcs.{ArcsStandFor, call_of_arc}
use Rattle.arc_costs.specs.Lines.{line_sum}
use Rattle.arc_costs.proofs.RowLemmas.{zero_replicate}
use Rattle.cases.proofs.WithinLemmas.{arc_within, calls_within}
use Rattle.cases.proofs.bounded.Bounded.count_call.Goals as goal

pub returns-clause-within : goal.returns-clause-within
returns-clause-within c =
    let old = c.args.self.now.tables.arcs in
    let itself : ArcsStandFor old old = record { calls = λ a. refl; costs = λ e a. refl } in
    let stands = c.count_call.ensures.stands old itself in
    let none = zero_replicate event_kinds in
    record {
      line_costs = λ event place.
          let now = ap (line_sum event place) c.count_call.ensures.lines in
          omega (arith, now, c.requires.within.line_costs event place);
      arc_costs = λ event other.
          let now = stands.costs event other in
          let more = arc_within old (call_of_arc c.args.arc) event other in
          omega (arith, now, more, c.requires.within.arc_costs event other, none event);
      calls = λ other.
          let now = stands.calls other in
          let more = calls_within old (call_of_arc c.args.arc) other in
          omega (arith, now, more, c.requires.within.calls other);
    }
