-- What a teller's trait asks: it takes a front of what it takes, and the rest after a telling.
use Rattle.std.proofs.Common.{◌≡◌, get_or, ℕ, ◌+◌, Bool, ◌||◌, List, [], ◌∷◌, ◌++◌, refl, ap, ◌∙◌, arith}
use Rattle.std.specs.List.{AllByRecursion}
use Rattle.event_costs.specs.Arcs.{Telling, Pushed, Closed}
use Rattle.event_costs.specs.Keys.{ArcKey}
use Rattle.arc_costs.specs.Arcs.{arc_of, arc_sum, call_sum, has_arc}
use Rattle.arc_costs.specs.Contents.{Contents}
use Rattle.event_costs.specs.Order.{same_arc}
use Rattle.arc_costs.specs.Rows.{ArcRow}
use Rattle.arc_costs.proofs.RowLemmas.{sum_at-append}
use Rattle.recorder.specs.Notes.{row_of_telling, rows_of_tellings}
use Rattle.recorder.specs.inner.Tellers.{CanTell, count_pushes, IsKeyed, RowsAfterTellings, Tells}
use Rattle.recorder.specs.declared.teller.Teller.{Teller}

pub arc_sum-append : (kind : ℕ) (arc : ArcKey) (rs qs : List ArcRow)
    → arc_sum kind arc (rs ++ qs) ≡ arc_sum kind arc rs + arc_sum kind arc qs
arc_sum-append kind arc rs qs = sum_at-append arc_of same_arc (λ (r : ArcRow). get_or r.cost kind 0) arc rs qs

pub call_sum-append : (arc : ArcKey) (rs qs : List ArcRow) → call_sum arc (rs ++ qs) ≡ call_sum arc rs + call_sum arc qs
call_sum-append arc rs qs = sum_at-append arc_of same_arc (λ (r : ArcRow). r.calls) arc rs qs

pub rows_of_tellings-append : (ts us : List Telling) → rows_of_tellings (ts ++ us) ≡ rows_of_tellings ts ++ rows_of_tellings us
rows_of_tellings-append [] us = refl
rows_of_tellings-append (t ∷ ts) us = ap (λ (rs : List ArcRow). row_of_telling t ∷ rs) (rows_of_tellings-append ts us)

pub count_pushes-append : (ts us : List Telling) → count_pushes (ts ++ us) ≡ count_pushes ts + count_pushes us
count_pushes-append [] us = omega arith
count_pushes-append (Pushed arc ∷ ts) us = let more = count_pushes-append ts us in omega arith
count_pushes-append (Closed arc cost ∷ ts) us = count_pushes-append ts us

keyed_front : (arcs : List ArcRow) (ts us : List Telling) → AllByRecursion (IsKeyed arcs) (ts ++ us)
    → AllByRecursion (IsKeyed arcs) ts
keyed_front arcs [] us all = tt
keyed_front arcs (t ∷ ts) us all = (all.0, keyed_front arcs ts us all.1)

pub telling_costs-append : (kind : ℕ) (arc : ArcKey) (ts us : List Telling)
    → arc_sum kind arc (rows_of_tellings (ts ++ us)) ≡ arc_sum kind arc (rows_of_tellings ts) + arc_sum kind arc (rows_of_tellings us)
telling_costs-append kind arc ts us = ap (arc_sum kind arc) (rows_of_tellings-append ts us)
    ∙ arc_sum-append kind arc (rows_of_tellings ts) (rows_of_tellings us)

pub telling_calls-append : (arc : ArcKey) (ts us : List Telling)
    → call_sum arc (rows_of_tellings (ts ++ us)) ≡ call_sum arc (rows_of_tellings ts) + call_sum arc (rows_of_tellings us)
telling_calls-append arc ts us = ap (call_sum arc) (rows_of_tellings-append ts us)
    ∙ call_sum-append arc (rows_of_tellings ts) (rows_of_tellings us)

pub takes_front : (rows : Contents) (ts us : List Telling) → CanTell rows (ts ++ us) → CanTell rows ts
takes_front rows ts us can = record {
  room = let more = count_pushes-append ts us in omega (arith, more, can.room);
  keyed = keyed_front rows.arcs ts us can.keyed;
  costs = λ kind arc. let more = telling_costs-append kind arc ts us in omega (arith, more, can.costs kind arc);
  calls = λ arc. let more = telling_calls-append arc ts us in omega (arith, more, can.calls arc);
}

still_keyed : (old new : List ArcRow) (added : ArcKey → Bool) → ((arc : ArcKey)
    → has_arc arc new ≡ has_arc arc old || added arc)
    → (ts : List Telling) → AllByRecursion (IsKeyed old) ts → AllByRecursion (IsKeyed new) ts
still_keyed old new added keys [] all = tt
still_keyed old new added keys (Pushed arc ∷ ts) all = (tt, still_keyed old new added keys ts all.1)
still_keyed old new added keys (Closed arc cost ∷ ts) all =
    (keys arc ∙ ap (λ b. b || added arc) all.0, still_keyed old new added keys ts all.1)

pub takes_rest : (old new : Contents) (t : Telling) (ts : List Telling) → CanTell old (t ∷ ts)
    → RowsAfterTellings old (t ∷ []) new → CanTell new ts
takes_rest old new t ts can told = record {
  room = let more = count_pushes-append (t ∷ []) ts in omega (arith, more, can.room, told.arc_room);
  keyed = still_keyed old.arcs new.arcs (λ arc. has_arc arc (rows_of_tellings (t ∷ []))) told.keys ts can.keyed.1;
  costs = λ kind arc. let more = telling_costs-append kind arc (t ∷ []) ts in
      omega (arith, more, can.costs kind arc, told.costs kind arc);
  calls = λ arc. let more = telling_calls-append arc (t ∷ []) ts in omega (arith, more, can.calls arc, told.calls arc);
}

pub teller_takes_front : (teller : Teller) (ts us : List Telling) → CanTell teller.rows.now (ts ++ us)
    → CanTell teller.rows.now ts
teller_takes_front teller ts us can = takes_front teller.rows.now ts us can

pub teller_takes_rest : (old new : Teller) (t : Telling) (ts : List Telling) → CanTell old.rows.now (t ∷ ts)
    → Tells old t new → CanTell new.rows.now ts
teller_takes_rest old new t ts can told = takes_rest old.rows.now new.rows.now t ts can told.rows
