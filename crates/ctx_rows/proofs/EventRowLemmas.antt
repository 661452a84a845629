-- The rows of a thread are those of its events.
use Rattle.std.proofs.Common.{◌≡◌, ◌≢◌, inl, inr, ℕ, Bool, true}
use Rattle.std.proofs.Common.{List, ◌++◌}
use Rattle.std.proofs.Common.{filter, flat_map, get_or, map, sum_by}
use Rattle.std.proofs.Common.{ap, sym, ◌∙◌, arith, if◌then◌else◌}
use Rattle.std.proofs.lemmas.List.{map-append}
use Rattle.sym_map.specs.SymbolMap.{SymbolMap}
use Rattle.shadow_stack.specs.Frames.{closings}
use Rattle.shadow_stack.specs.Traces.{EventOnStack}
use Rattle.ctx_rows.proofs.Others.{sum_at-append, either, in_filter, to_filter}
use Rattle.ctx_rows.proofs.Others.{kind_within, some_kind}
use Rattle.recorder.specs.Laws.{IsIn}
use Rattle.recorder.specs.Notes.{rows_of_tellings}
use Rattle.arc_costs.specs.Keys.{by_kind, risen}
use Rattle.arc_costs.proofs.RiseLemmas as rise
use Rattle.recorder.proofs.RowLemmas as row
use Rattle.contexts.specs.Contexts.{Context}
use Rattle.ctx_rows.specs.Rows.{arc_of, arc_sum, arc_with, arcs_at, call_sum, ctx_rows_of}
use Rattle.ctx_rows.specs.Rows.{is_some_arc, is_some_line, line_sum}
use Rattle.ctx_rows.specs.Rows.{line_with, place_of}
use Rattle.ctx_rows.specs.Sums.{CtxArcKey, CtxPlace, arc_calls, arc_cost, counts_at}
use Rattle.ctx_rows.specs.Sums.{same_arc, self_cost}
use Rattle.ctx_rows.specs.declared.rows.CtxArc.{CtxArc}
use Rattle.ctx_rows.specs.declared.rows.CtxLine.{CtxLine}
use Rattle.ctx_rows.proofs.FoldedLemmas.{arcs, by_context, inside, places}
use Rattle.ctx_rows.proofs.ShareLemmas as share
use Rattle.ctx_rows.proofs.ShareLemmas.{Keys, Naming, rows_shared, shared_in}
use Rattle.ctx_rows.specs.Telling.{named_arc, named_line, rows_of_track}
use Rattle.ctx_rows.specs.States.{Track}
use Rattle.ctx_rows.proofs.OpenSums as opened
use Rattle.ctx_rows.proofs.TrackedLemmas.{IsTracked}

-- ---- rows of two lists of keys

module _ {Row K : Type 0} (keys : Keys K) (key : Row → K) (at as_well : K → Row) (some : Row → Bool)
    (same_rows : (k : K) → at k ≡ as_well k) (ks qs : List K)
    (there : (k : K) → some (as_well k) ≡ true → IsIn ks k × IsIn qs k) where
  abbrev kept_of : List K → List K
  kept_of us = filter (λ k. some (as_well k)) (risen keys.order us)

  rises : (us : List K) → rise.Rises keys.order keys.total keys.only (kept_of us)
  rises us =
      row.filtered key keys.same keys.order keys.total keys.only keys.alike keys.itself as_well some (risen keys.order us) (rise.risen_rises keys.order keys.total keys.only us)

  moves : (us vs : List K) → ((k : K) → some (as_well k) ≡ true → IsIn vs k) → (k : K) → IsIn (kept_of us) k
      → IsIn (kept_of vs) k
  moves us vs in_vs k inside =
      let r = in_filter (λ u. some (as_well u)) (risen keys.order us) k inside in
      to_filter (λ u. some (as_well u)) (risen keys.order vs) k (rise.in_risen keys.order keys.total keys.only vs k (in_vs k r.1)) r.1

  pub same_filtered : filter some (map at (risen keys.order ks)) ≡ filter some (map as_well (risen keys.order qs))
  same_filtered =
      (λ i. filter some (map (λ k. same_rows k i) (risen keys.order ks)))
      ∙ sym (row.map_filter key keys.same keys.order keys.total keys.only keys.alike keys.itself as_well some (risen keys.order ks))
      ∙ ap (map as_well)
      (rise.one_list keys.order keys.total keys.only (kept_of ks) (kept_of qs) (rises ks) (rises qs)
      (moves ks qs (λ k is. (there k is).1)) (moves qs ks (λ k is. (there k is).0)))
      ∙ row.map_filter key keys.same keys.order keys.total keys.only keys.alike keys.itself as_well some (risen keys.order qs)

-- ---- the rows

module _ (callers : ℕ) (cs : List Context) (syms : SymbolMap) (xs : List EventOnStack) (t : Track)
    (tracked : IsTracked callers cs syms xs t) where
  abbrev all_lines : List CtxLine
  all_lines = map (named_line cs) t.lines

  abbrev all_arcs : List CtxArc
  all_arcs = map (named_arc cs) (t.arcs ++ rows_of_tellings (closings t.total t.frames))

  abbrev n : Naming CtxPlace CtxArcKey
  n = by_context callers syms

  line_there : (p : CtxPlace) → is_some_line (line_with (λ kind q. self_cost callers syms kind q xs) p) ≡ true
      → IsIn (map place_of all_lines) p × IsIn (map (counts_at callers syms) xs) p
  line_there p is =
      let kind = some_kind (by_kind (λ kind. self_cost callers syms kind p xs)) is in
      let some = kind_within (λ j. self_cost callers syms j p xs) kind.0 kind.1 in
      let number : CtxLine → ℕ = λ r. get_or r.cost kind.0 0 in (
        shared_in places (map place_of all_lines)
            (λ test. sum_by (λ r. if test (place_of r) then number r else 0) all_lines)
            (rows_shared places place_of number all_lines) p (λ none. some (sym (tracked.lines kind.0 p) ∙ none)),
        shared_in places (map (counts_at callers syms) xs) (λ test. share.line_total n kind.0 test xs)
            (share.lines_shared n xs places kind.0) p some,
      )

  line_rows : (rows_of_track cs t).lines ≡ (ctx_rows_of callers syms xs).lines
  unfolding ctx_rows_of
  line_rows =
      same_filtered places place_of
      (line_with (λ kind p. line_sum kind p all_lines)) (line_with (λ kind p. self_cost callers syms kind p xs))
      is_some_line (λ p i. record {
        ctx = p.ctx;
        file = p.file;
        line = p.line;
        cost = by_kind (λ kind. tracked.lines kind p i);
      }) (map place_of all_lines) (map (counts_at callers syms) xs) line_there

  parts : all_arcs ≡ map (named_arc cs) t.arcs ++ map (named_arc cs) (rows_of_tellings (closings t.total t.frames))
  parts = map-append (named_arc cs) t.arcs (rows_of_tellings (closings t.total t.frames))

  costs_are : (kind : ℕ) (k : CtxArcKey) → arc_sum kind k all_arcs ≡ arc_cost callers kind k xs
  costs_are kind k =
      let both = ap (arc_sum kind k) parts
      ∙ sum_at-append arc_of same_arc (λ (r : CtxArc). get_or r.cost kind 0) k (map (named_arc cs) t.arcs)
      (map (named_arc cs) (rows_of_tellings (closings t.total t.frames))) in
      let open_ones = opened.closings_costs cs kind t.total k t.frames tracked.starts in
      omega (arith, both, open_ones, tracked.arcs kind k)

  calls_are : (k : CtxArcKey) → call_sum k all_arcs ≡ arc_calls callers syms k xs
  calls_are k =
      let both = ap (call_sum k) parts
      ∙ sum_at-append arc_of same_arc (λ (r : CtxArc). r.calls) k (map (named_arc cs) t.arcs)
      (map (named_arc cs) (rows_of_tellings (closings t.total t.frames))) in
      let none = opened.closings_calls cs t.total k t.frames in
      omega (arith, both, none, tracked.calls k)

  abbrev arc_as : CtxArcKey → CtxArc
  arc_as = arc_with (λ k. arc_calls callers syms k xs) (λ kind k. arc_cost callers kind k xs)

  arc_in : (number : CtxArc → ℕ) (k : CtxArcKey)
      → sum_by (λ r. if same_arc k (arc_of r) then number r else 0) all_arcs ≢ 0 → IsIn (map arc_of all_arcs) k
  arc_in number k some =
      shared_in arcs (map arc_of all_arcs) (λ test. sum_by (λ r. if test (arc_of r) then number r else 0) all_arcs)
      (rows_shared arcs arc_of number all_arcs) k some

  abbrev keys : List CtxArcKey
  keys = flat_map (arcs_at callers syms) xs

  arc_there : (k : CtxArcKey) → is_some_arc (arc_as k) ≡ true → IsIn (map arc_of all_arcs) k × IsIn keys k
  arc_there k is = elim (either (arc_calls callers syms k xs) (by_kind (λ kind. arc_cost callers kind k xs)) is) as
      (λ _. IsIn (map arc_of all_arcs) k × IsIn keys k) [
        | inl calls ↦ (
          arc_in (λ (r : CtxArc). r.calls) k (λ none. calls (sym (calls_are k) ∙ none)),
          shared_in arcs keys (λ test. share.call_total n test xs)
              (share.calls_shared n xs arcs (arcs_at callers syms) (inside callers syms)) k calls,
        )
        | inr cost ↦
            (let kind = some_kind (by_kind (λ j. arc_cost callers j k xs)) cost in
            let some = kind_within (λ j. arc_cost callers j k xs) kind.0 kind.1 in (
              arc_in (λ (r : CtxArc). get_or r.cost kind.0 0) k (λ none. some (sym (costs_are kind.0 k) ∙ none)),
              shared_in arcs keys (λ test. share.arc_total n kind.0 test xs)
                  (share.arcs_shared n xs arcs (arcs_at callers syms) (inside callers syms) kind.0) k some,
            ))
      ]

  arc_rows : (rows_of_track cs t).arcs ≡ (ctx_rows_of callers syms xs).arcs
  unfolding ctx_rows_of
  arc_rows =
      same_filtered arcs arc_of
      (arc_with (λ k. call_sum k all_arcs) (λ kind k. arc_sum kind k all_arcs)) arc_as is_some_arc (λ k i. record {
        caller = k.caller;
        callee = k.callee;
        file = k.file;
        line = k.line;
        calls = calls_are k i;
        cost = by_kind (λ kind. costs_are kind k i);
      }) (map arc_of all_arcs) keys arc_there

  pub rows_are : rows_of_track cs t ≡ ctx_rows_of callers syms xs
  rows_are = λ i. record { lines = line_rows i; arcs = arc_rows i }
