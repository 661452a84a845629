use Rattle.std.proofs.Common.{◌-◌, ◌∷◌, ◌∙◌, ◌≡◌, List, [], Option, ap, arith, is_ok, length, refl, rules, subst, sym, true}
use Rattle.std.specs.Option.{option_map_or}
use Rattle.event_costs.specs.Arcs.{Closed}
use Rattle.event_costs.specs.Keys.{ArcKey}
use Rattle.arc_costs.specs.Arcs.{ArcsStandFor, arc_sum}
use Rattle.arc_costs.specs.Rows.{ArcRow}
use Rattle.recorder.specs.Notes.{rows_of_tellings}
use Rattle.ctx_costs.specs.inner.Tellings.{AddsRows, HaveRoom}
use Rattle.ctx_costs.proofs.NumberedLemmas.{less_one}
use Rattle.ctx_costs.proofs.Others.{own_cost}
use Rattle.ctx_costs.proofs.closing.OpeningArcSink.closed.Goals as goal

pub add_arc-requires-clause-fits : goal.add_arc-requires-clause-fits
add_arc-requires-clause-fits c = λ event.
    let rows = c.args.self.now.rows.now in
    let between = c.in-Some.between in
    let ok : is_ok c.args.self.now.memory ≡ true = search rules in
    let room : HaveRoom rows (rows_of_tellings (Closed between c.args.cost.now ∷ []))
    = subst (λ (o : Option ArcKey). HaveRoom rows (rows_of_tellings (option_map_or (λ key. Closed key c.args.cost.now ∷ []) o [])))
    (sym c.in-Some.ensures) (c.requires.0 ok) in
    omega (
      arith,
      room event between,
      own_cost event between c.args.cost.now,
      ap (arc_sum event between) c.reserve.ensures.arcs,
    )

pub returns-in-Ok : goal.returns-in-Ok
returns-in-Ok c =
    let rows = c.args.self.now.rows.now in
    let between = c.in-Some.between in
    record {
      loan = refl;
      memory = λ ok. ok;
      rows = λ ok.
          subst (λ (o : Option ArcKey). AddsRows rows (rows_of_tellings (option_map_or (λ key. Closed key c.args.cost.now ∷ []) o []))
          c.add_arc.new.self) c.in-Some.ensures
          (record {
            lines = c.add_arc.ensures.lines ∙ c.reserve.ensures.lines;
            stands = λ additions stand. c.add_arc.ensures.stands additions
                (subst (λ (rs : List ArcRow). ArcsStandFor rs additions) (sym c.reserve.ensures.arcs) stand);
          });
      numbers = λ ok.
          less_one c.args.arc.now between c.args.cost.now c.args.self.now.numbers.now _
          (length c.args.self.now.numbers.now - 1) c.in-Some.ensures refl refl;
    }
