-- The rows of a thread are those that a state has of it.
use Rattle.std.proofs.Common.{◌≡◌, inl, inr, ℕ, ◌+◌, Bool, true, List, [], ◌∷◌, ◌++◌, All, filter, get_or, length}
use Rattle.std.proofs.Common.{map, sym, ap, subst, ◌∙◌, arith}
use Rattle.std.specs.List.Sorted.{IsSortedBy}
use Rattle.std.proofs.lemmas.List.{get_or-map, length-map}
use Rattle.event_costs.specs.Costs.{IsWhole, event_kinds}
use Rattle.event_costs.specs.Keys.{ArcKey}
use Rattle.event_costs.specs.declared.numbers.ThreadNo.{ThreadNo}
use Rattle.shadow_stack.specs.Frames.{closings}
use Rattle.arc_costs.specs.Arcs as arcs
use Rattle.arc_costs.specs.Contents.{Listed}
use Rattle.arc_costs.specs.Lines as lines
use Rattle.event_costs.specs.Order as order
use Rattle.arc_costs.specs.Rows.{ArcRow, LineRow}
use Rattle.recorder.specs.Laws.{IsIn}
use Rattle.recorder.specs.Notes.{rows_of_tellings}
use Rattle.recorder.specs.Standing.{IsCutOf}
use Rattle.recorder.specs.inner.TellerLaws.{arc_sum-append, call_sum-append}
use Rattle.ctx_costs.proofs.Others.{closings_calls, closings_costs, in_filter, contains_from_in, true_of_or}
use Rattle.recorder.proofs.ArcRowLemmas as plain_arcs
use Rattle.recorder.proofs.LineLemmas as plain
use Rattle.arc_costs.proofs.RiseLemmas as rise
use Rattle.contexts.specs.Contexts.{Context, AreDistinct}
use Rattle.ctx_rows.specs.Telling.{rows_in, rows_of_track}
use Rattle.ctx_rows.specs.Rows.{CtxListed, arc_of, place_of}
use Rattle.ctx_rows.specs.Sums.{arc_order, place_order, same_arc, same_place}
use Rattle.ctx_rows.specs.States.{CtxState, Track, track}
use Rattle.ctx_costs.specs.inner.Naming.{AreNamedRows}
use Rattle.ctx_costs.specs.inner.Tracks.{IsSound}
use Rattle.ctx_rows.specs.Tracks.{IsArcOf, account_of}
use Rattle.ctx_costs.proofs.FoundLemmas as found_rows
use Rattle.ctx_rows.proofs.OrderLemmas as ties
use Rattle.ctx_rows.proofs.RisingLemmas as rising
use Rattle.ctx_costs.proofs.SoundLemmas.{closings_key, same_ends}
use Rattle.ctx_costs.proofs.TellingLemmas.{has_arc-append}

all_in : {X : Type 0} (P : X → Type 0) (xs : List X) (x : X) → All P xs → IsIn xs x → P x
all_in P xs x all there =
    let has = contains_from_in xs x there in subst P has.2 (all has.0 x has.1)

some_in : {X : Type 0} (test : X → Bool) (xs : List X) (x : X) → filter test xs ≡ xs → IsIn xs x → test x ≡ true
some_in test xs x is there = (in_filter test xs x (subst (λ ys. IsIn ys x) (sym is) there)).1

-- rows that are sorted by what they are named
pub sorted_map : {X Y : Type 0} (f : X → Y) (lt : Y → Y → Bool) (xs : List X) → IsSortedBy (λ a b. lt (f a) (f b)) xs
    → IsSortedBy lt (map f xs)
sorted_map f lt [] sorted = λ k d low less. absurd (omega (arith, less))
sorted_map f lt (x ∷ xs) sorted = λ k d low less.
    let size = length-map (x ∷ xs) f in
    let one : get_or (map f (x ∷ xs)) k d ≡ f (get_or (x ∷ xs) k x)
    = get_or-map f (x ∷ xs) k x d (omega (arith, size, less)) in
    let two : get_or (map f (x ∷ xs)) (k + 1) d ≡ f (get_or (x ∷ xs) (k + 1) x)
    = get_or-map f (x ∷ xs) (k + 1) x d (omega (arith, size, less)) in
    ap (λ y. lt y (get_or (map f (x ∷ xs)) k d)) two ∙ ap (lt (f (get_or (x ∷ xs) (k + 1) x))) one
    ∙ sorted k x low (omega (arith, size, less))

module _ (callers : ℕ) (cs : List Context) (t : Track) (sound : IsSound callers cs t) (distinct : AreDistinct cs)
    (found : Listed) (cut : IsCutOf (account_of t) found) (whole_lines : All (λ r. IsWhole r.cost) found.lines)
    (whole_arcs : All (λ r. IsWhole r.cost) found.arcs) where
  abbrev all_arcs : List ArcRow
  all_arcs = t.arcs ++ rows_of_tellings (closings t.total t.frames)

  arcs_range : (arc : ArcKey) → arcs.has_arc arc all_arcs ≡ true → IsArcOf (length cs) arc
  arcs_range arc there =
      elim (true_of_or (arcs.has_arc arc t.arcs) (arcs.has_arc arc (rows_of_tellings (closings t.total t.frames)))
      (sym (has_arc-append arc t.arcs (rows_of_tellings (closings t.total t.frames))) ∙ there))
      as (λ _. IsArcOf (length cs) arc) [
        | inl before ↦ sound.arcs arc before
        | inr closed ↦
            (let k = closings_key t.arcs t.total t.frames arc sound.sums.keyed closed in
            same_ends (length cs) arc k.0 k.2 (sound.arcs k.0 k.1))
      ]

  arc_costs : (kind : ℕ) (arc : ArcKey) → arcs.arc_sum kind arc found.arcs ≡ arcs.arc_sum kind arc all_arcs
  arc_costs kind arc =
      let both = arc_sum-append kind arc t.arcs (rows_of_tellings (closings t.total t.frames)) in
      let open_ones = closings_costs kind t.total arc t.frames sound.sums.starts in
      omega (arith, cut.arcs kind arc, both, open_ones)

  arc_calls : (arc : ArcKey) → arcs.call_sum arc found.arcs ≡ arcs.call_sum arc all_arcs
  arc_calls arc =
      let both = call_sum-append arc t.arcs (rows_of_tellings (closings t.total t.frames)) in
      let open_ones = closings_calls t.total arc t.frames in
      omega (arith, cut.calls arc, both, open_ones)

  lines_rise : rise.Rises order.place_order plain.place_total plain.place_only (map lines.place_of found.lines)
  lines_rise =
      rise.rises_from order.place_order plain.place_total plain.place_only (map lines.place_of found.lines)
      cut.lines_rise

  arcs_rise : rise.Rises order.arc_order plain_arcs.arc_total plain_arcs.arc_only (map arcs.arc_of found.arcs)
  arcs_rise =
      rise.rises_from order.arc_order plain_arcs.arc_total plain_arcs.arc_only (map arcs.arc_of found.arcs)
      cut.arcs_rise

  some_lines : (r : LineRow) → IsIn found.lines r → lines.is_some_line r ≡ true
  some_lines r there = some_in lines.is_some_line found.lines r cut.some_lines there

  some_arcs : (r : ArcRow) → IsIn found.arcs r → arcs.is_some_arc r ≡ true
  some_arcs r there = some_in arcs.is_some_arc found.arcs r cut.some_arcs there

  wholes : (r : LineRow) → IsIn found.lines r → length r.cost ≡ event_kinds
  wholes r there = all_in (λ (p : LineRow). length p.cost ≡ event_kinds) found.lines r whole_lines there

  whole_ones : (r : ArcRow) → IsIn found.arcs r → length r.cost ≡ event_kinds
  whole_ones r there = all_in (λ (p : ArcRow). length p.cost ≡ event_kinds) found.arcs r whole_arcs there

  module _ (named : CtxListed) (are : AreNamedRows cs found named) where
    named_lines : named.lines ≡ (rows_of_track cs t).lines
    named_lines =
        found_rows.lines_are cs distinct t.lines found.lines named.lines sound.lines cut.lines lines_rise
        some_lines wholes
        are.lines
        (rising.rises_once place_of same_place place_order ties.place_total ties.place_only ties.place_alike
        ties.place_itself named.lines are.lines_rise
        (λ x there. found_rows.once cs distinct t.lines found.lines named.lines sound.lines cut.lines
        lines_rise some_lines
        wholes are.lines x there))

    named_arcs : named.arcs ≡ (rows_of_track cs t).arcs
    named_arcs =
        found_rows.arcs_are cs distinct all_arcs found.arcs named.arcs arcs_range arc_costs arc_calls
        arcs_rise some_arcs
        whole_ones are.arcs
        (rising.rises_once arc_of same_arc arc_order ties.arc_total ties.arc_only ties.arc_alike
        ties.arc_itself named.arcs
        are.arcs_rise
        (λ x there. found_rows.arc_once cs distinct all_arcs found.arcs named.arcs arcs_range arc_costs
        arc_calls arcs_rise
        some_arcs whole_ones are.arcs x there))

    pub rows_are : named ≡ rows_of_track cs t
    rows_are = λ i. record { lines = named_lines i; arcs = named_arcs i }

-- the rows of a state
pub state_rows : (w : CtxState) (thread : ThreadNo) (t : Track) (named : CtxListed) → track w thread ≡ t
    → named ≡ rows_of_track w.contexts t → named ≡ rows_in w thread
unfolding rows_in
state_rows w thread t named is same = same ∙ ap (λ (u : Track). rows_of_track w.contexts u) (sym is)
