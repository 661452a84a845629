-- The rows of a part, which are written function by function, in the order of their lists.
use Rattle.std.proofs.Common.{◌≡◌, ℕ, zero, suc, ◌<◌, ◌≤◌, Bool, true, false, ◌==◌, cond, List, [], ◌∷◌, ◌++◌, length}
use Rattle.std.proofs.Common.{flat_map, map, refl, sym, ap, ◌∙◌, arith, All, Ordering}
use Rattle.std.specs.List.{AllByRecursion, filter}
use Rattle.std.specs.List.Sorted.{IsNonDecreasingBy, IsStrictlySortedBy}
use Rattle.std.specs.Ordering.{MatchOrdering, nat_cmp, ordering_then}
use Rattle.std.specs.declared.cmp.Ordering.TheVariants.{Less, Equal, Greater}
use Rattle.std.proofs.lemmas.Cmp.{ranked}
use Rattle.std.proofs.lemmas.List.{map-append}
use Rattle.std.proofs.lemmas.List.Concat.{flat_map-append}
use Rattle.std.proofs.lemmas.List.Elements.{All-from_recursion}
use Rattle.event_costs.specs.Keys.{ArcKey, Place}
use Rattle.arc_costs.specs.Arcs.{arc_of}
use Rattle.arc_costs.specs.Contents.{Listed}
use Rattle.arc_costs.specs.Lines.{place_of}
use Rattle.event_costs.specs.Order.{arc_order, place_order}
use Rattle.arc_costs.specs.Rows.{ArcRow, LineRow}
use Rattle.sym_map.specs.SymbolMap.{SymbolMap}
use Rattle.cg_format.specs.Part.{AreKnown}
use Rattle.cg_format.specs.Rows.{all_rows, below, by_function, is_row_of}
use Rattle.cg_format.specs.declared.head.PartHead.{PartHead}
use Rattle.cg_format.specs.declared.row.Row.{Row}
use Rattle.cg_format.specs.declared.row.Row.TheVariants.{Line, Arc}
use Rattle.cg_format.proofs.RowLemmas.{grouped}
use Rattle.once_each.specs.Texts.{named_arc, named_line}
use Rattle.reads_back.specs.Rows.{arcs_read, lines_read, naming}
use Rattle.reads_back.proofs.EntryLemmas.{calls_of, selfs_of}

pub flat_map_twice : {X Y : Type 0} (f : X → List Y) (g : ℕ → List X) (ks : List ℕ)
    → flat_map f (flat_map g ks) ≡ flat_map (λ k. flat_map f (g k)) ks
flat_map_twice f g [] = refl
flat_map_twice f g (k ∷ ks) =
    flat_map-append f (g k) (flat_map g ks) ∙ ap (λ ys. flat_map f (g k) ++ ys) (flat_map_twice f g ks)

pub flat_map_mapped : {X Y : Type 0} (f : X → Y) (g : ℕ → List X) (ks : List ℕ)
    → flat_map (λ k. map f (g k)) ks ≡ map f (flat_map g ks)
flat_map_mapped f g [] = refl
flat_map_mapped f g (k ∷ ks) =
    ap (λ ys. map f (g k) ++ ys) (flat_map_mapped f g ks) ∙ sym (map-append f (g k) (flat_map g ks))

pub flat_map_alike : {Y : Type 0} (f g : ℕ → List Y) → ((k : ℕ) → f k ≡ g k) → (ks : List ℕ)
    → flat_map f ks ≡ flat_map g ks
flat_map_alike f g same [] = refl
flat_map_alike f g same (k ∷ ks) =
    ap (λ ys. ys ++ flat_map f ks) (same k) ∙ ap (λ ys. g k ++ ys) (flat_map_alike f g same ks)

-- Order

pub first_less : (a b : ℕ) (rest : Ordering) → ordering_then (nat_cmp a b) rest ≡ Less → a ≤ b
first_less a b rest e = go (nat_cmp a b) (ranked a b (nat_cmp a b) refl) e
  where
    go : (r : Ordering) → MatchOrdering r (a < b) (a ≡ b) (b < a) → ordering_then r rest ≡ Less → a ≤ b
    go Less less f = omega arith
    go Equal same f = omega arith
    go Greater more f = absurd (cc)

module _ {R K : Type 0} (key : R → K) (number : K → ℕ) (order : K → K → Ordering)
    (up : (a b : K) → order a b ≡ Less → number a ≤ number b) where
  above : (x : R) (xs : List R) → AllByRecursion (λ y. order (key x) y ≡ Less) (map key xs)
      → AllByRecursion (λ (y : R). number (key x) ≤ number (key y)) xs
  above x [] all = tt
  above x (y ∷ ys) all = (up (key x) (key y) all.0, above x ys all.1)

  rises : (xs : List R) → IsStrictlySortedBy order (map key xs) → IsNonDecreasingBy (λ (x : R). number (key x)) xs
  unfolding IsStrictlySortedBy
  rises [] sorted i j d le lt = absurd (omega arith)
  rises (x ∷ xs) sorted zero zero d le lt = omega arith
  rises (x ∷ xs) sorted zero (suc j) d le lt =
      All-from_recursion (λ (y : R). number (key x) ≤ number (key y)) xs (above x xs sorted.0) j d (omega arith)
  rises (x ∷ xs) sorted (suc i) zero d le lt = absurd (omega arith)
  rises (x ∷ xs) sorted (suc i) (suc j) d le lt = rises xs sorted.1 i j d (omega arith) (omega arith)

abbrev line_at : ℕ → LineRow → Bool
line_at k row = row.place.func.0 == k

abbrev arc_at : ℕ → ArcRow → Bool
arc_at k row = row.arc.caller.0 == k

lines_grouped : (n : ℕ) (lines : List LineRow) → IsStrictlySortedBy place_order (map place_of lines)
    → All (λ (row : LineRow). row.place.func.0 < n) lines
    → lines ≡ flat_map (λ k. filter (line_at k) lines) (below n)
lines_grouped n lines sorted small =
    grouped (λ (row : LineRow). row.place.func.0) n lines
    (rises place_of (λ (p : Place). p.func.0) place_order
    (λ a b less. first_less a.func.0 b.func.0
    (ordering_then (nat_cmp a.file.0 b.file.0) (nat_cmp a.line b.line)) less) lines sorted) small

arcs_grouped : (n : ℕ) (arcs : List ArcRow) → IsStrictlySortedBy arc_order (map arc_of arcs)
    → All (λ (row : ArcRow). row.arc.caller.0 < n) arcs
    → arcs ≡ flat_map (λ k. filter (arc_at k) arcs) (below n)
arcs_grouped n arcs sorted small =
    grouped (λ (row : ArcRow). row.arc.caller.0) n arcs
    (rises arc_of (λ (a : ArcKey). a.caller.0) arc_order
    (λ a b less. first_less a.caller.0 b.caller.0
    (ordering_then (nat_cmp a.file.0 b.file.0)
    (ordering_then (nat_cmp a.line b.line) (nat_cmp a.callee.0 b.callee.0))) less) arcs sorted) small

-- The rows of a function

module _ (head : PartHead) (m : SymbolMap) (k : ℕ) where
  selfs_arcs : (arcs : List ArcRow) → flat_map (selfs_of head m) (filter (is_row_of k) (map Arc arcs)) ≡ []
  selfs_arcs [] = refl
  selfs_arcs (row ∷ arcs) = go (is_row_of k (Arc row)) (selfs_arcs arcs)
    where
      go : (b : Bool) → flat_map (selfs_of head m) (filter (is_row_of k) (map Arc arcs)) ≡ []
          → flat_map (selfs_of head m)
          (cond b (Arc row ∷ filter (is_row_of k) (map Arc arcs)) (filter (is_row_of k) (map Arc arcs))) ≡ []
      go true rest = rest
      go false rest = rest

  selfs_lines : (lines : List LineRow) (more : List Row) → flat_map (selfs_of head m) (filter (is_row_of k) more) ≡ []
      → flat_map (selfs_of head m) (filter (is_row_of k) (map Line lines ++ more))
      ≡ map (named_line (naming head m)) (filter (line_at k) lines)
  selfs_lines [] more none = none
  selfs_lines (row ∷ lines) more none = go (line_at k row) (selfs_lines lines more none)
    where
      go : (b : Bool) → flat_map (selfs_of head m) (filter (is_row_of k) (map Line lines ++ more))
          ≡ map (named_line (naming head m)) (filter (line_at k) lines)
          → flat_map (selfs_of head m)
          (cond b (Line row ∷ filter (is_row_of k) (map Line lines ++ more)) (filter (is_row_of k) (map Line lines ++ more)))
          ≡ map (named_line (naming head m)) (cond b (row ∷ filter (line_at k) lines) (filter (line_at k) lines))
      go true rest = ap (λ rows. named_line (naming head m) row ∷ rows) rest
      go false rest = rest

  calls_arcs : (arcs : List ArcRow) → flat_map (calls_of head m) (filter (is_row_of k) (map Arc arcs))
      ≡ map (named_arc (naming head m)) (filter (arc_at k) arcs)
  calls_arcs [] = refl
  calls_arcs (row ∷ arcs) = go (arc_at k row) (calls_arcs arcs)
    where
      go : (b : Bool) → flat_map (calls_of head m) (filter (is_row_of k) (map Arc arcs))
          ≡ map (named_arc (naming head m)) (filter (arc_at k) arcs)
          → flat_map (calls_of head m)
          (cond b (Arc row ∷ filter (is_row_of k) (map Arc arcs)) (filter (is_row_of k) (map Arc arcs)))
          ≡ map (named_arc (naming head m)) (cond b (row ∷ filter (arc_at k) arcs) (filter (arc_at k) arcs))
      go true rest = ap (λ rows. named_arc (naming head m) row ∷ rows) rest
      go false rest = rest

  calls_lines : (lines : List LineRow) (more : List Row)
      → flat_map (calls_of head m) (filter (is_row_of k) (map Line lines ++ more))
      ≡ flat_map (calls_of head m) (filter (is_row_of k) more)
  calls_lines [] more = refl
  calls_lines (row ∷ lines) more = go (line_at k row) (calls_lines lines more)
    where
      go : (b : Bool) → flat_map (calls_of head m) (filter (is_row_of k) (map Line lines ++ more))
          ≡ flat_map (calls_of head m) (filter (is_row_of k) more)
          → flat_map (calls_of head m)
          (cond b (Line row ∷ filter (is_row_of k) (map Line lines ++ more)) (filter (is_row_of k) (map Line lines ++ more)))
          ≡ flat_map (calls_of head m) (filter (is_row_of k) more)
      go true rest = rest
      go false rest = rest

-- All rows

pub lines_in_order : (head : PartHead) (m : SymbolMap) (rows : Listed) → AreKnown m rows
    → IsStrictlySortedBy place_order (map place_of rows.lines)
    → flat_map (selfs_of head m) (by_function (length m.functions) (all_rows rows)) ≡ lines_read head m rows.lines
lines_in_order head m rows known sorted =
    let ks : List ℕ = below (length m.functions) in
    flat_map_twice (selfs_of head m) (λ k. filter (is_row_of k) (all_rows rows)) ks
    ∙ flat_map_alike (λ k. flat_map (selfs_of head m) (filter (is_row_of k) (all_rows rows)))
    (λ k. map (named_line (naming head m)) (filter (line_at k) rows.lines))
    (λ k. selfs_lines head m k rows.lines (map Arc rows.arcs) (selfs_arcs head m k rows.arcs)) ks
    ∙ flat_map_mapped (named_line (naming head m)) (λ k. filter (line_at k) rows.lines) ks
    ∙ ap (map (named_line (naming head m)))
    (sym (lines_grouped (length m.functions) rows.lines sorted (λ i d lt. (known.lines i d lt).function)))

pub arcs_in_order : (head : PartHead) (m : SymbolMap) (rows : Listed) → AreKnown m rows
    → IsStrictlySortedBy arc_order (map arc_of rows.arcs)
    → flat_map (calls_of head m) (by_function (length m.functions) (all_rows rows)) ≡ arcs_read head m rows.arcs
arcs_in_order head m rows known sorted =
    let ks : List ℕ = below (length m.functions) in
    flat_map_twice (calls_of head m) (λ k. filter (is_row_of k) (all_rows rows)) ks
    ∙ flat_map_alike (λ k. flat_map (calls_of head m) (filter (is_row_of k) (all_rows rows)))
    (λ k. map (named_arc (naming head m)) (filter (arc_at k) rows.arcs))
    (λ k. calls_lines head m k rows.lines (map Arc rows.arcs) ∙ calls_arcs head m k rows.arcs) ks
    ∙ flat_map_mapped (named_arc (naming head m)) (λ k. filter (arc_at k) rows.arcs) ks
    ∙ ap (map (named_arc (naming head m)))
    (sym (arcs_grouped (length m.functions) rows.arcs sorted (λ i d lt. (known.arcs i d lt).caller)))
