use Rattle.std.proofs.Common.{Some, ap, refl}
use Rattle.event_costs.specs.Arcs.{Pushed}
use Rattle.event_costs.specs.Keys.{ArcKey}
use Rattle.arc_costs.specs.Arcs.{has_arc}
use Rattle.recorder.proofs.TellingLemmas.{at_most_one, row_told}
use Rattle.recorder.proofs.teller.TellerArcSink.pushed.Goals as goal

pub returns : goal.returns
returns c = record {
  loan = refl;
  rows =
      row_told c.args.self.now.rows.now c.count_call.new.self
      (Pushed c.args.arc.now) c.count_call.ensures.arcs c.count_call.ensures.lines
      c.count_call.ensures.keys c.count_call.ensures.stands c.count_call.ensures.line_room
      (at_most_one
      (has_arc c.args.arc.now c.args.self.now.rows.now.arcs) c.args.self.now.rows.now.arc_room
      c.count_call.new.self.arc_room c.count_call.ensures.arc_room);
  watched = refl;
  noted = ap (λ (a : ArcKey). record c.args.self.now.noted { pushed = Some a.callee }) c.arc.view_is;
}
