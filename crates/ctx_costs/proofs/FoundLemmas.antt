-- The rows by context of a thread are those that were counted by number, named and sorted.
use Rattle.std.proofs.Common.{◌≡◌, ◌≢◌, ℕ, ◌==◌, ◌&&◌, ◌||◌, Bool, true, false, List, [], ◌∷◌}
use Rattle.std.proofs.Common.{Option, None, Some, filter, get_or, length, map, refl, ap, sym, subst, ◌∙◌, inl, inr}
use Rattle.std.proofs.Common.{if◌then◌else◌}
use Rattle.std.specs.Prelude.{IsPermutation}
use Rattle.std.proofs.lemmas.List.Sorted.{IsPermutation-sym, sum_by-IsPermutation}
use Rattle.event_costs.specs.Costs.{event_kinds}
use Rattle.event_costs.specs.Keys.{ArcKey, Place}
use Rattle.arc_costs.specs.Arcs as arcs
use Rattle.arc_costs.specs.Lines as lines
use Rattle.event_costs.specs.Order as order
use Rattle.arc_costs.specs.Rows as rows
use Rattle.arc_costs.specs.Rows.{ArcRow, LineRow}
use Rattle.recorder.specs.Laws.{IsIn}
use Rattle.arc_costs.specs.Keys.{by_kind, risen}
use Rattle.recorder.proofs.LineLemmas as plain
use Rattle.recorder.proofs.ArcRowLemmas as plain_arcs
use Rattle.arc_costs.proofs.KindLemmas.{cost_is}
use Rattle.arc_costs.proofs.RiseLemmas as rise
use Rattle.recorder.proofs.RowLemmas as row
use Rattle.ctx_costs.proofs.Others.{from_map, at_apart}
use Rattle.contexts.specs.Contexts.{Context, context_at, AreDistinct}
use Rattle.ctx_rows.specs.Telling.{named_arc, named_line}
use Rattle.ctx_rows.specs.Rows.{arc_of, arc_sum, arc_with, call_sum, is_some_arc, is_some_line, line_sum, line_with}
use Rattle.ctx_rows.specs.Rows.{place_of}
use Rattle.ctx_rows.specs.Sums.{CtxArcKey, CtxPlace, arc_order, place_order, same_arc, same_place}
use Rattle.ctx_rows.specs.Tracks.{IsNumber}
use Rattle.ctx_rows.specs.declared.rows.CtxArc.{CtxArc}
use Rattle.ctx_rows.specs.declared.rows.CtxLine.{CtxLine}
use Rattle.ctx_rows.proofs.NamedLemmas as named
use Rattle.ctx_rows.proofs.OrderLemmas as ties
use Rattle.ctx_rows.proofs.RisingLemmas as rising

-- a row's key is one of its list
pub has_row_of : {R K : Type 0} (key : R → K) (same : K → K → Bool) (itself : (k : K) → same k k ≡ true)
    (rs : List R) (r : R)
    → IsIn rs r → rows.has_row key same (key r) rs ≡ true
has_row_of key same itself [] r there = elim there [ ]
has_row_of key same itself (q ∷ qs) r (inl is) =
    ap (λ b. b || rows.has_row key same (key r) qs) (ap (λ p. same (key r) (key p)) is ∙ itself (key r))
has_row_of key same itself (q ∷ qs) r (inr there) =
    later (same (key r) (key q)) (rows.has_row key same (key r) qs) (has_row_of key same itself qs r there)
  where
    later : (a b : Bool) → b ≡ true → a || b ≡ true
    later true b is = refl
    later false b is = is

module _ (cs : List Context) (distinct : AreDistinct cs) where
  rename : Place → CtxPlace
  rename p = record { ctx = context_at cs p.func; file = p.file; line = p.line }

  place_apart : (a b : Place) → IsNumber (length cs) a.func → IsNumber (length cs) b.func
      → same_place (record { ctx = context_at cs a.func; file = a.file; line = a.line })
      (record { ctx = context_at cs b.func; file = b.file; line = b.line }) ≡ order.same_place a b
  place_apart a b one two =
      ap (λ c. c && (a.file.0 == b.file.0 && a.line == b.line)) (at_apart cs a.func.0 b.func.0 distinct one two)

  module _ (all found : List LineRow) (lined : List CtxLine)
      (range : (place : Place) → lines.has_line place all ≡ true → IsNumber (length cs) place.func)
      (sums : (kind : ℕ) (place : Place) → lines.line_sum kind place found ≡ lines.line_sum kind place all)
      (found_rise : rise.Rises order.place_order plain.place_total plain.place_only (map lines.place_of found))
      (found_some : (r : LineRow) → IsIn found r → lines.is_some_line r ≡ true)
      (found_whole : (r : LineRow) → IsIn found r → length r.cost ≡ event_kinds)
      (moved : IsPermutation (map (named_line cs) found) lined) where
    all_in : (r : LineRow) → IsIn all r → IsNumber (length cs) r.place.func
    all_in r there =
        range r.place (has_row_of lines.place_of order.same_place plain.place_itself all r there)

    own_sum : (kind : ℕ) (r : LineRow) → IsIn found r → lines.line_sum kind r.place found ≡ get_or r.cost kind 0
    own_sum kind r there =
        row.sum_own lines.place_of order.same_place order.place_order plain.place_total plain.place_only
        plain.place_alike plain.place_itself (λ q. get_or q.cost kind 0) found found_rise r there

    pub found_in : (r : LineRow) → IsIn found r → IsNumber (length cs) r.place.func
    found_in r there =
        let kind = plain.some_kind r.cost (found_some r there) in
        let passes =
        plain.some_passes (λ (q : LineRow). order.same_place r.place q.place)
        (λ (q : LineRow). get_or q.cost kind.0 0) all
        (λ none. kind.1 (sym (own_sum kind.0 r there) ∙ sums kind.0 r.place ∙ none)) in
        subst (λ (p : Place). IsNumber (length cs) p.func) (sym (plain.place_alike r.place passes.0.place passes.2))
        (all_in passes.0 passes.1)

    abbrev name : LineRow → CtxLine
    name = named_line cs

    from_found : (c : CtxLine) → IsIn lined c → (r : LineRow) × IsIn found r × (name r ≡ c)
    from_found c there =
        from_map name found c (named.in_permutation lined (map name found) c
        (IsPermutation-sym (map name found) lined moved) there)

    pub once : (c : CtxLine) → IsIn lined c
        → rising.many place_of same_place place_order ties.place_total ties.place_only ties.place_alike
        ties.place_itself
        (place_of c) lined ≡ 1
    once c there =
        let r = from_found c there in
        ap (λ (d : CtxLine). rows.sum_at place_of same_place (λ q. 1) (place_of d) lined) (sym r.2)
        ∙ sum_by-IsPermutation (λ q. if same_place (place_of (name r.0)) (place_of q) then 1 else 0)
        (map name found) lined moved
        ∙ named.named_sum lines.place_of order.same_place name
        (λ (p : Place). record { ctx = context_at cs p.func; file = p.file; line = p.line })
        place_of same_place place_order ties.place_total ties.place_only ties.place_alike ties.place_itself
        (λ (p : Place). IsNumber (length cs) p.func) (λ q. refl) place_apart (λ (i : ℕ) (q : LineRow). 1)
        (λ (i : ℕ) (q : CtxLine). 1) (λ i q. refl) 0 r.0.place (found_in r.0 r.1) found (λ q inside. found_in q inside)
        ∙ row.sum_own lines.place_of order.same_place order.place_order plain.place_total plain.place_only
        plain.place_alike plain.place_itself (λ q. 1) found found_rise r.0 r.1

    pub lines_are : rise.Rises place_order ties.place_total ties.place_only (map place_of lined)
        → lined ≡ filter is_some_line
        (map (line_with (λ kind p. line_sum kind p (map name all))) (risen place_order (map place_of (map name all))))
    lines_are rises =
        named.named_are lines.place_of order.same_place name
        (λ (p : Place). record { ctx = context_at cs p.func; file = p.file; line = p.line })
        place_of same_place place_order ties.place_total ties.place_only ties.place_alike ties.place_itself
        (λ (p : Place). IsNumber (length cs) p.func) (λ q. refl) place_apart
        (λ (kind : ℕ) (q : LineRow). get_or q.cost kind 0) (λ (kind : ℕ) (q : CtxLine). get_or q.cost kind 0)
        (λ kind q. refl) all found lined (λ q inside. all_in q inside) (λ q inside. found_in q inside) moved rises sums
        (line_with (λ kind p. line_sum kind p (map name all))) is_some_line is_at some_in has_some some_at
      where
        some_in : (c : CtxLine) → IsIn lined c → is_some_line c ≡ true
        some_in c there =
            let r = from_found c there in
            ap is_some_line (sym r.2) ∙ found_some r.0 r.1

        whole : (c : CtxLine) → IsIn lined c → length c.cost ≡ event_kinds
        whole c there =
            let r = from_found c there in
            ap (λ (d : CtxLine). length d.cost) (sym r.2) ∙ found_whole r.0 r.1

        is_at : (c : CtxLine) → IsIn lined c
            → ((kind : ℕ) → get_or c.cost kind 0 ≡ line_sum kind (place_of c) (map name all))
            → c ≡ line_with (λ kind p. line_sum kind p (map name all)) (place_of c)
        is_at c there each = λ i. record {
          ctx = c.ctx;
          file = c.file;
          line = c.line;
          cost = cost_is c.cost (λ kind. line_sum kind (place_of c) (map name all)) (whole c there) each i;
        }

        has_some : (c : CtxLine) → IsIn lined c → (kind : ℕ) × (get_or c.cost kind 0 ≢ 0)
        has_some c there = plain.some_kind c.cost (some_in c there)

        some_at : (k : CtxPlace) → is_some_line (line_with (λ kind p. line_sum kind p (map name all)) k) ≡ true
            → (kind : ℕ) × (line_sum kind k (map name all) ≢ 0)
        some_at k is =
            let f : ℕ → ℕ = λ kind. line_sum kind k (map name all) in
            let kind = plain.some_kind (by_kind f) is in
            (kind.0, plain.kind_within f kind.0 kind.1)

  ends_apart : (a b : ArcKey) → IsNumber (length cs) a.caller × IsNumber (length cs) a.callee
      → IsNumber (length cs) b.caller × IsNumber (length cs) b.callee
      → same_arc (record {
        caller = context_at cs a.caller;
        file = a.file;
        line = a.line;
        callee = context_at cs a.callee;
      })
      (record { caller = context_at cs b.caller; file = b.file; line = b.line; callee = context_at cs b.callee })
      ≡ order.same_arc a b
  ends_apart a b one two =
      (λ i. at_apart cs a.caller.0 b.caller.0 distinct one.0 two.0 i
      && (a.file.0 == b.file.0 && (a.line == b.line && at_apart cs a.callee.0 b.callee.0 distinct one.1 two.1 i)))

  -- what an arc's row counts: its calls, and the cost of each kind
  abbrev number : Option ℕ → ArcRow → ℕ
  number None r = r.calls
  number (Some kind) r = get_or r.cost kind 0

  abbrev cnumber : Option ℕ → CtxArc → ℕ
  cnumber None c = c.calls
  cnumber (Some kind) c = get_or c.cost kind 0

  alike_numbers : (i : Option ℕ) (r : ArcRow) → cnumber i (named_arc cs r) ≡ number i r
  alike_numbers None r = refl
  alike_numbers (Some kind) r = refl

  abbrev InRange : ArcKey → Type 0
  InRange a = IsNumber (length cs) a.caller × IsNumber (length cs) a.callee

  abbrev renamed : ArcKey → CtxArcKey
  renamed a = record { caller = context_at cs a.caller; file = a.file; line = a.line; callee = context_at cs a.callee }

  module _ (all found : List ArcRow) (arced : List CtxArc)
      (range : (arc : ArcKey) → arcs.has_arc arc all ≡ true → InRange arc)
      (costs : (kind : ℕ) (arc : ArcKey) → arcs.arc_sum kind arc found ≡ arcs.arc_sum kind arc all)
      (calls : (arc : ArcKey) → arcs.call_sum arc found ≡ arcs.call_sum arc all)
      (found_rise : rise.Rises order.arc_order plain_arcs.arc_total plain_arcs.arc_only (map arcs.arc_of found))
      (found_some : (r : ArcRow) → IsIn found r → arcs.is_some_arc r ≡ true)
      (found_whole : (r : ArcRow) → IsIn found r → length r.cost ≡ event_kinds)
      (moved : IsPermutation (map (named_arc cs) found) arced) where
    sums : (i : Option ℕ) (k : ArcKey) → rows.sum_at arcs.arc_of order.same_arc (number i) k found
        ≡ rows.sum_at arcs.arc_of order.same_arc (number i) k all
    sums None k = calls k
    sums (Some kind) k = costs kind k

    arc_all_in : (r : ArcRow) → IsIn all r → InRange r.arc
    arc_all_in r there = range r.arc (has_row_of arcs.arc_of order.same_arc plain_arcs.arc_itself all r there)

    -- a number of a row is its arc's sum
    arc_own_sum : (i : Option ℕ) (r : ArcRow) → IsIn found r
        → rows.sum_at arcs.arc_of order.same_arc (number i) r.arc found ≡ number i r
    arc_own_sum i r there =
        row.sum_own arcs.arc_of order.same_arc order.arc_order plain_arcs.arc_total plain_arcs.arc_only
        plain_arcs.arc_alike plain_arcs.arc_itself (number i) found found_rise r there

    -- a row that isn't all 0 has a number that isn't
    some_number : (r : ArcRow) → IsIn found r → (i : Option ℕ) × (number i r ≢ 0)
    some_number r there = elim (plain_arcs.either r.calls r.cost (found_some r there)) as
        (λ _. (i : Option ℕ) × (number i r ≢ 0)) [
          | inl called ↦ (None, called)
          | inr cost ↦ (let kind = plain.some_kind r.cost cost in (Some kind.0, kind.1))
        ]

    pub arc_found_in : (r : ArcRow) → IsIn found r → InRange r.arc
    arc_found_in r there =
        let i = some_number r there in
        let passes =
        plain.some_passes (λ (q : ArcRow). order.same_arc r.arc q.arc) (number i.0) all
        (λ none. i.1 (sym (arc_own_sum i.0 r there) ∙ sums i.0 r.arc ∙ none)) in
        subst InRange (sym (plain_arcs.arc_alike r.arc passes.0.arc passes.2)) (arc_all_in passes.0 passes.1)

    arc_from_found : (c : CtxArc) → IsIn arced c → (r : ArcRow) × IsIn found r × (named_arc cs r ≡ c)
    arc_from_found c there =
        from_map (named_arc cs) found c
        (named.in_permutation arced (map (named_arc cs) found) c
        (IsPermutation-sym (map (named_arc cs) found) arced moved)
        there)

    pub arc_once : (c : CtxArc) → IsIn arced c
        → rising.many arc_of same_arc arc_order ties.arc_total ties.arc_only ties.arc_alike ties.arc_itself
        (arc_of c) arced
        ≡ 1
    arc_once c there =
        let r = arc_from_found c there in
        ap (λ (d : CtxArc). rows.sum_at arc_of same_arc (λ q. 1) (arc_of d) arced) (sym r.2)
        ∙ sum_by-IsPermutation (λ q. if same_arc (arc_of (named_arc cs r.0)) (arc_of q) then 1 else 0)
        (map (named_arc cs) found) arced moved
        ∙ named.named_sum arcs.arc_of order.same_arc (named_arc cs) renamed arc_of same_arc arc_order ties.arc_total
        ties.arc_only ties.arc_alike ties.arc_itself InRange (λ q. refl) ends_apart (λ (i : ℕ) (q : ArcRow). 1)
        (λ (i : ℕ) (q : CtxArc). 1) (λ i q. refl) 0 r.0.arc (arc_found_in r.0 r.1) found
        (λ q inside. arc_found_in q inside)
        ∙ row.sum_own arcs.arc_of order.same_arc order.arc_order plain_arcs.arc_total plain_arcs.arc_only
        plain_arcs.arc_alike plain_arcs.arc_itself (λ q. 1) found found_rise r.0 r.1

    abbrev cost_at : ℕ → CtxArcKey → ℕ
    cost_at kind k = arc_sum kind k (map (named_arc cs) all)

    abbrev calls_at : CtxArcKey → ℕ
    calls_at k = call_sum k (map (named_arc cs) all)

    pub arcs_are : rise.Rises arc_order ties.arc_total ties.arc_only (map arc_of arced)
        → arced ≡ filter is_some_arc
        (map (arc_with calls_at cost_at) (risen arc_order (map arc_of (map (named_arc cs) all))))
    arcs_are rises =
        named.named_are arcs.arc_of order.same_arc (named_arc cs) renamed arc_of same_arc arc_order ties.arc_total
        ties.arc_only ties.arc_alike ties.arc_itself InRange (λ q. refl) ends_apart number cnumber
        alike_numbers all found
        arced (λ q inside. arc_all_in q inside) (λ q inside. arc_found_in q inside) moved rises sums
        (arc_with calls_at cost_at) is_some_arc is_at some_in has_some some_at
      where
        some_in : (c : CtxArc) → IsIn arced c → is_some_arc c ≡ true
        some_in c there =
            let r = arc_from_found c there in
            ap is_some_arc (sym r.2) ∙ found_some r.0 r.1

        whole : (c : CtxArc) → IsIn arced c → length c.cost ≡ event_kinds
        whole c there =
            let r = arc_from_found c there in
            ap (λ (d : CtxArc). length d.cost) (sym r.2) ∙ found_whole r.0 r.1

        is_at : (c : CtxArc) → IsIn arced c
            → ((i : Option ℕ) → cnumber i c ≡ rows.sum_at arc_of same_arc (cnumber i) (arc_of c)
            (map (named_arc cs) all))
            → c ≡ arc_with calls_at cost_at (arc_of c)
        is_at c there each = λ i. record {
          caller = c.caller;
          callee = c.callee;
          file = c.file;
          line = c.line;
          calls = each None i;
          cost = cost_is c.cost (λ kind. cost_at kind (arc_of c)) (whole c there) (λ kind. each (Some kind)) i;
        }

        has_some : (c : CtxArc) → IsIn arced c → (i : Option ℕ) × (cnumber i c ≢ 0)
        has_some c there = elim (plain_arcs.either c.calls c.cost (some_in c there)) as
            (λ _. (i : Option ℕ) × (cnumber i c ≢ 0)) [
              | inl called ↦ (None, called)
              | inr cost ↦ (let kind = plain.some_kind c.cost cost in (Some kind.0, kind.1))
            ]

        some_at : (k : CtxArcKey) → is_some_arc (arc_with calls_at cost_at k) ≡ true
            → (i : Option ℕ) × (rows.sum_at arc_of same_arc (cnumber i) k (map (named_arc cs) all) ≢ 0)
        some_at k is = elim (plain_arcs.either (calls_at k) (by_kind (λ kind. cost_at kind k)) is) as
            (λ _. (i : Option ℕ) × (rows.sum_at arc_of same_arc (cnumber i) k (map (named_arc cs) all) ≢ 0)) [
              | inl called ↦ (None, called)
              | inr cost ↦
                  (let kind = plain.some_kind (by_kind (λ j. cost_at j k)) cost in
                  (Some kind.0, plain.kind_within (λ j. cost_at j k) kind.0 kind.1))
            ]
