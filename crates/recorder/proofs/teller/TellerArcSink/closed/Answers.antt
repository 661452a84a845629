use Rattle.std.proofs.Common.{refl, ap, ◌∙◌, ◌||◌, arith}
use Rattle.event_costs.specs.Arcs.{Closed}
use Rattle.event_costs.specs.FuncSet.{is_among}
use Rattle.event_costs.specs.Keys.{ArcKey}
use Rattle.arc_costs.specs.Arcs.{has_arc}
use Rattle.recorder.proofs.SumLemmas.{own_cost}
use Rattle.recorder.proofs.TellingLemmas.{none_used, row_told}
use Rattle.recorder.proofs.teller.TellerArcSink.closed.Goals as goal

pub add_arc-requires-clause-fits : goal.add_arc-requires-clause-fits
add_arc-requires-clause-fits c =
    λ kind. omega (arith, c.requires.costs kind c.args.arc.now, own_cost kind c.args.arc.now c.args.cost.now)

pub returns : goal.returns
returns c = record {
  loan = refl;
  rows =
      row_told c.args.self.now.rows.now c.add_arc.new.self
      (Closed c.args.arc.now c.args.cost.now) c.add_arc.ensures.arcs c.add_arc.ensures.lines
      c.add_arc.ensures.keys c.add_arc.ensures.stands c.add_arc.ensures.line_room
      (none_used
      (has_arc c.args.arc.now c.args.self.now.rows.now.arcs) c.args.self.now.rows.now.arc_room
      c.add_arc.new.self.arc_room c.requires.keyed.0 c.add_arc.ensures.arc_room);
  watched = refl;
  noted = ap (λ b. record c.args.self.now.noted { left = c.args.self.now.noted.left || b })
      (c.has.ensures.among ∙ ap (λ (a : ArcKey). is_among c.args.self.now.watched.now a.callee) c.arc.view_is);
}
