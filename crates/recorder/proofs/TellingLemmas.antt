-- Tables and tellers after tellings.
use Rattle.std.proofs.Common.{◌≡◌, ℕ, ◌+◌, ◌≤◌, Bool, true, false, ◌||◌, List, [], ◌∷◌, ◌++◌, fold, refl, sym, ap}
use Rattle.std.proofs.Common.{subst, ◌∙◌, arith, if◌then◌else◌}
use Rattle.event_costs.specs.Arcs.{Telling, TakesAll}
use Rattle.event_costs.specs.Keys.{ArcKey}
use Rattle.event_costs.specs.declared.numbers.FuncId.{FuncId}
use Rattle.event_costs.specs.declared.outcome.Noted.{Noted}
use Rattle.arc_costs.specs.Arcs.{ArcsStandFor, add_arc, add_arcs, has_arc}
use Rattle.arc_costs.specs.Contents.{Contents}
use Rattle.event_costs.specs.Order.{same_arc}
use Rattle.arc_costs.specs.Rows.{ArcRow}
use Rattle.recorder.specs.Notes.{row_of_telling, rows_of_tellings}
use Rattle.recorder.specs.inner.Tellers.{count_pushes, noted_more, RowsAfterTellings, Tells}
use Rattle.recorder.specs.inner.TellerLaws.{arc_sum-append, call_sum-append, count_pushes-append, telling_calls-append}
use Rattle.recorder.specs.inner.TellerLaws.{telling_costs-append}
use Rattle.recorder.specs.declared.teller.Teller.{Teller}

or_swap : (a b : Bool) → a || b ≡ b || (a || false)
or_swap true true = refl
or_swap true false = refl
or_swap false true = refl
or_swap false false = refl

-- one row more
pub row_told : (old new : Contents) (t : Telling) → new.arcs ≡ add_arc old.arcs (row_of_telling t) → new.lines ≡ old.lines
    → ((other : ArcKey) → has_arc other new.arcs ≡ same_arc other (row_of_telling t).arc || has_arc other old.arcs)
    → ((additions : List ArcRow) → ArcsStandFor old.arcs additions
    → ArcsStandFor new.arcs (additions ++ row_of_telling t ∷ []))
    → new.line_room ≡ old.line_room → old.arc_room ≤ new.arc_room + count_pushes (t ∷ []) → RowsAfterTellings old (t ∷ []) new
row_told old new t arcs lines keys stands line_room arc_room =
    let all = stands old.arcs (record { calls = λ arc. refl; costs = λ kind arc. refl }) in
    record {
      arcs = arcs;
      lines = lines;
      costs = λ kind arc. all.costs kind arc ∙ arc_sum-append kind arc old.arcs (row_of_telling t ∷ []);
      calls = λ arc. all.calls arc ∙ call_sum-append arc old.arcs (row_of_telling t ∷ []);
      keys = λ arc. keys arc ∙ or_swap (same_arc arc (row_of_telling t).arc) (has_arc arc old.arcs);
      line_room = line_room;
      arc_room = arc_room;
    }

pub at_most_one : (b : Bool) (old new : ℕ) → new + (if b then 0 else 1) ≡ old → old ≤ new + 1
at_most_one true old new is = omega arith
at_most_one false old new is = omega arith

pub none_used : (b : Bool) (old new : ℕ) → b ≡ true → new + (if b then 0 else 1) ≡ old → old ≤ new + 0
none_used true old new there is = omega arith
none_used false old new there is = absurd (cc)

-- the tables after no telling, and after more
or_none : (b : Bool) → b ≡ b || false
or_none true = refl
or_none false = refl

pub none_told : (rows : Contents) → RowsAfterTellings rows [] rows
none_told rows = record {
  arcs = refl;
  lines = refl;
  costs = λ kind arc. omega arith;
  calls = λ arc. omega arith;
  keys = λ arc. or_none (has_arc arc rows.arcs);
  line_room = refl;
  arc_room = omega arith;
}

or_assoc : (a b c : Bool) → (a || (b || false)) || c ≡ a || (b || c)
or_assoc true b c = refl
or_assoc false true c = refl
or_assoc false false c = refl

pub more_told : (old mid new : Contents) (t : Telling) (ts : List Telling) → RowsAfterTellings old (t ∷ []) mid
    → RowsAfterTellings mid ts new → RowsAfterTellings old (t ∷ ts) new
more_told old mid new t ts one more = record {
  arcs = more.arcs ∙ ap (λ (rs : List ArcRow). add_arcs rs (rows_of_tellings ts)) one.arcs;
  lines = more.lines ∙ one.lines;
  costs = λ kind arc. let all = telling_costs-append kind arc (t ∷ []) ts in
      omega (arith, all, one.costs kind arc, more.costs kind arc);
  calls = λ arc. let all = telling_calls-append arc (t ∷ []) ts in omega (arith, all, one.calls arc, more.calls arc);
  keys = λ arc. more.keys arc ∙ ap (λ b. b || has_arc arc (rows_of_tellings ts)) (one.keys arc)
      ∙ or_assoc (has_arc arc old.arcs) (same_arc arc (row_of_telling t).arc) (has_arc arc (rows_of_tellings ts));
  line_room = more.line_room ∙ one.line_room;
  arc_room = let all = count_pushes-append (t ∷ []) ts in omega (arith, all, one.arc_room, more.arc_room);
}

-- a teller that was told all of a list
pub record TellsAll (old : Teller) (ts : List Telling) (new : Teller) : Type 0 where
  pub loan : new.rows.ghost_name ≡ old.rows.ghost_name
  pub rows : RowsAfterTellings old.rows.now ts new.rows.now
  pub watched : new.watched.now ≡ old.watched.now
  pub noted : new.noted ≡ fold (noted_more old.watched.now) old.noted ts

pub tells_all : (old new : Teller) (ts : List Telling) → TakesAll Tells old ts new → TellsAll old ts new
tells_all old new [] told =
    subst (λ (n : Teller). TellsAll old [] n) told
    (record { loan = refl; rows = none_told old.rows.now; watched = refl; noted = refl })
tells_all old new (t ∷ ts) told =
    let mid = told.0 in
    let one = told.1 in
    let more = tells_all mid new ts told.2 in
    record {
      loan = more.loan ∙ one.loan;
      rows = more_told old.rows.now mid.rows.now new.rows.now t ts one.rows more.rows;
      watched = more.watched ∙ one.watched;
      noted = more.noted ∙ ap (λ (w : List FuncId). fold (noted_more w) mid.noted ts) one.watched
          ∙ ap (λ (n : Noted). fold (noted_more old.watched.now) n ts) one.noted;
    }

-- the tables that a teller leaves
pub rows_left : (old new : Teller) (ts us : List Telling) (rows : Contents) → TellsAll old ts new → ts ≡ us
    → rows ≡ new.rows.now → RowsAfterTellings old.rows.now us rows
rows_left old new ts us rows all same is =
    subst (λ (vs : List Telling). RowsAfterTellings old.rows.now vs rows) same
    (subst (λ (r : Contents). RowsAfterTellings old.rows.now ts r) (sym is) all.rows)

-- what it has noted
pub noted_left : (old new : Teller) (ts us : List Telling) → TellsAll old ts new → ts ≡ us
    → new.noted ≡ fold (noted_more old.watched.now) old.noted us
noted_left old new ts us all same = all.noted
    ∙ ap (λ (vs : List Telling). fold (noted_more old.watched.now) old.noted vs) same
