-- Tables after several tellings.
use Rattle.std.proofs.Common.{◌≡◌, Bool, true, false, ◌||◌, List, [], ◌∷◌, ◌++◌, refl, sym, ap}
use Rattle.std.proofs.Common.{◌∙◌, arith}
use Rattle.std.proofs.lemmas.List.Sums.{fold-append}
use Rattle.event_costs.specs.Arcs.{Telling}
use Rattle.event_costs.specs.Keys.{ArcKey}
use Rattle.arc_costs.specs.Arcs.{add_arc, add_arcs, has_arc}
use Rattle.arc_costs.specs.Contents.{Contents}
use Rattle.event_costs.specs.Order.{same_arc}
use Rattle.arc_costs.specs.Rows.{ArcRow}
use Rattle.recorder.specs.Notes.{rows_of_tellings}
use Rattle.recorder.specs.inner.Tellers.{RowsAfterTellings}
use Rattle.recorder.specs.inner.TellerLaws.{count_pushes-append, telling_calls-append, telling_costs-append, rows_of_tellings-append}

or_assoc : (a b c : Bool) → (a || b) || c ≡ a || (b || c)
or_assoc true b c = refl
or_assoc false b c = refl

pub has_arc-append : (arc : ArcKey) (rs qs : List ArcRow) → has_arc arc (rs ++ qs) ≡ has_arc arc rs || has_arc arc qs
has_arc-append arc [] qs = refl
has_arc-append arc (r ∷ rs) qs =
    ap (λ b. same_arc arc r.arc || b) (has_arc-append arc rs qs)
    ∙ sym (or_assoc (same_arc arc r.arc) (has_arc arc rs) (has_arc arc qs))

-- one list of tellings after another
pub told_on : (old mid new : Contents) (ts us : List Telling) → RowsAfterTellings old ts mid → RowsAfterTellings mid us new
    → RowsAfterTellings old (ts ++ us) new
told_on old mid new ts us one more = record {
  arcs = more.arcs ∙ ap (λ (rs : List ArcRow). add_arcs rs (rows_of_tellings us)) one.arcs
      ∙ sym (ap (add_arcs old.arcs) (rows_of_tellings-append ts us)
      ∙ fold-append add_arc old.arcs (rows_of_tellings ts) (rows_of_tellings us));
  lines = more.lines ∙ one.lines;
  costs = λ kind arc. let all = telling_costs-append kind arc ts us in
      omega (arith, all, one.costs kind arc, more.costs kind arc);
  calls = λ arc. let all = telling_calls-append arc ts us in omega (arith, all, one.calls arc, more.calls arc);
  keys = λ arc. more.keys arc ∙ ap (λ b. b || has_arc arc (rows_of_tellings us)) (one.keys arc)
      ∙ or_assoc (has_arc arc old.arcs) (has_arc arc (rows_of_tellings ts)) (has_arc arc (rows_of_tellings us))
      ∙ ap (λ b. has_arc arc old.arcs || b)
      (sym (ap (has_arc arc) (rows_of_tellings-append ts us) ∙ has_arc-append arc (rows_of_tellings ts) (rows_of_tellings us)));
  line_room = more.line_room ∙ one.line_room;
  arc_room = let all = count_pushes-append ts us in omega (arith, all, one.arc_room, more.arc_room);
}
