use Rattle.std.proofs.Common.{◌-◌, ◌∷◌, [], Option, arith, length, refl, subst, sym}
use Rattle.std.specs.Option.{option_map_or}
use Rattle.event_costs.specs.Arcs.{Closed}
use Rattle.event_costs.specs.Keys.{ArcKey}
use Rattle.arc_costs.specs.Arcs.{has_arc}
use Rattle.recorder.specs.inner.Tellers.{CanTell, RowsAfterTellings}
use Rattle.ctx_costs.proofs.NumberedLemmas.{less_one}
use Rattle.ctx_costs.proofs.Others.{none_used, own_cost, row_told}
use Rattle.ctx_costs.proofs.closing.ClosingArcSink.closed.Goals as goal
use Rattle.ctx_costs.proofs.closing.ClosingArcSink.closed.Goals.{In-Some}

-- what is told by numbers
can : (c : In-Some) → CanTell c.args.self.now.rows.now (Closed c.in-Some.between c.args.cost.now ∷ [])
can c =
    subst (λ (o : Option ArcKey). CanTell c.args.self.now.rows.now (option_map_or (λ key. Closed key c.args.cost.now ∷ []) o []))
    (sym c.in-Some.ensures) c.requires.0

pub add_arc-requires-clause-fits : goal.add_arc-requires-clause-fits
add_arc-requires-clause-fits c = λ event.
    omega (
      arith,
      (can (goal.at.add_arc-requires-clause-fits c).In-Some).costs event c.in-Some.between,
      own_cost event c.in-Some.between c.args.cost.now,
    )

pub returns-in-Some : goal.returns-in-Some
returns-in-Some c =
    let rows = c.args.self.now.rows.now in
    let between = c.in-Some.between in
    record {
      loan = refl;
      rows =
          subst (λ (o : Option ArcKey). RowsAfterTellings rows (option_map_or (λ key. Closed key c.args.cost.now ∷ []) o [])
          c.add_arc.new.self) c.in-Some.ensures
          (row_told rows c.add_arc.new.self (Closed between c.args.cost.now) c.add_arc.ensures.arcs c.add_arc.ensures.lines
          c.add_arc.ensures.keys c.add_arc.ensures.stands c.add_arc.ensures.line_room
          (none_used (has_arc between rows.arcs) rows.arc_room c.add_arc.new.self.arc_room
          (can (goal.at.returns-in-Some c).In-Some).keyed.0 c.add_arc.ensures.arc_room));
      numbers =
          less_one c.args.arc.now between c.args.cost.now c.args.self.now.numbers.now _
          (length c.args.self.now.numbers.now - 1) c.in-Some.ensures refl refl;
      pushed = refl;
    }
