-- Rows by where they stand.
use Rattle.std.proofs.Common.{◌≡◌, ℕ, ◌-◌, ◌<◌, ◌≤◌, ◌==◌, Bool, true, false, cond, List, [], ◌∷◌, ◌++◌, get_or}
use Rattle.std.proofs.Common.{length, map, flat_map, All, refl, ap, sym, subst, ◌∙◌, arith, length-append}
use Rattle.std.specs.List.{filter, range_with_len}
use Rattle.std.specs.List.Sorted.{IsNonDecreasingBy, IsPermutation, IsStableByKey}
use Rattle.std.specs.Ordering.{nat_cmp}
use Rattle.std.proofs.lemmas.List.{get_or-append_right, get_or-map, get_or_append_left, length-map, map-append}
use Rattle.std.proofs.lemmas.List.Elements.{All-map}
use Rattle.std.proofs.lemmas.List.FromFn.{fill_by_all, get_or-range_with_len, length-range_with_len}
use Rattle.std.proofs.lemmas.List.Sorted.{All-permutation}
use Rattle.sym_map.specs.SymbolMap.{SymbolMap}
use Rattle.arc_costs.specs.Contents.{Listed}
use Rattle.arc_costs.specs.Rows.{ArcRow, LineRow}
use Rattle.cg_format.specs.Rows.{below, function_of}
use Rattle.cg_format.proofs.RowLemmas.{sorted_by_groups}
use Rattle.addr_rows.specs.EventRows.{located_arc, located_line, located_rows}
use Rattle.addr_rows.specs.Texts.{all_rows, by_function, is_row_of, plain_row}
use Rattle.addr_rows.specs.declared.row.AddrRow.{AddrRow}
use Rattle.addr_rows.specs.declared.row.AddrRow.TheVariants.{Arc, Line}
use Rattle.addr_rows.specs.declared.row.RowRef.{RowRef}
use Rattle.addr_rows.specs.inner.Refs.{no_row, ref_to, row_at, row_of}

module _ (m : SymbolMap) (rows : Listed) where
  pub line_at : (i : ℕ) (row : LineRow) → i < length rows.lines → row ≡ get_or rows.lines i row
      → Line (located_line m row) ≡ row_at (all_rows (located_rows m rows)) i
  line_at i row lt at = grind (
    arith,
    get_or_append_left,
    length-map,
    get_or-map Line (map (located_line m) rows.lines) i (located_line m row) no_row,
    get_or-map (located_line m) rows.lines i row (located_line m row),
  )

  pub arc_at : (i : ℕ) (row : ArcRow) → i < length (all_rows (located_rows m rows)) → length rows.lines ≤ i
      → row ≡ get_or rows.arcs (i - length rows.lines) row
      → Arc (located_arc m row) ≡ row_at (all_rows (located_rows m rows)) i
  arc_at i row lt le at = grind (
    arith,
    get_or-append_right,
    length-append,
    length-map,
    get_or-map Arc (map (located_arc m) rows.arcs) (i - length rows.lines) (located_arc m row) no_row,
    get_or-map (located_arc m) rows.arcs (i - length rows.lines) row (located_arc m row),
  )

abbrev function : RowRef → ℕ
function place = place.function

abbrev made : ℕ → RowRef
made n = record { function = n; index = 0 }

abbrev is_at : ℕ → RowRef → Bool
is_at n place = place.function == n

-- the places of rows, and these in another order
module _ (rows : List AddrRow) (listed sorted : List RowRef)
    (is : listed ≡ map (ref_to rows) (range_with_len 0 (length rows))) (same : IsPermutation listed sorted) where
  sorted_all : (P : RowRef → Type 0) → ((k : ℕ) → k < length rows → P (ref_to rows k)) → All P sorted
  sorted_all P each =
      let numbers = range_with_len 0 (length rows) in
      All-permutation P listed sorted same
      (subst (All P) (sym is) (All-map P (ref_to rows) numbers (λ k d lt.
      let small : k < length rows = subst (λ l. k < l) (length-range_with_len 0 (length rows)) lt in
      let at : k ≡ get_or numbers k d = omega (arith, get_or-range_with_len 0 (length rows) k d small) in
      subst (λ i. P (ref_to rows i)) at (each k small))))

  pub within : All (λ place. place.index < length rows) sorted
  within = sorted_all (λ place. place.index < length rows) (λ k lt. lt)

  choose : (b : Bool) (x : RowRef) (xs : List RowRef) (ys : List AddrRow) → map (row_of rows) xs ≡ ys
      → map (row_of rows) (cond b (x ∷ xs) xs) ≡ cond b (row_of rows x ∷ ys) ys
  choose true x xs ys e = ap (λ l. row_of rows x ∷ l) e
  choose false x xs ys e = e

  -- the rows of a function
  kept : (n : ℕ) (numbers : List ℕ)
      → map (row_of rows) (filter (is_at n) (map (ref_to rows) numbers))
      ≡ filter (is_row_of n) (map (row_at rows) numbers)
  kept n [] = refl
  kept n (i ∷ numbers) =
      choose (is_row_of n (row_at rows i)) (ref_to rows i) (filter (is_at n) (map (ref_to rows) numbers))
      (filter (is_row_of n) (map (row_at rows) numbers)) (kept n numbers)

  kept_all : (n : ℕ) → map (row_of rows) (filter (is_at n) listed) ≡ filter (is_row_of n) rows
  kept_all n =
      ap (λ l. map (row_of rows) (filter (is_at n) l)) is ∙ kept n (range_with_len 0 (length rows))
      ∙ ap (filter (is_row_of n)) (sym (fill_by_all (row_at rows) rows (length rows) no_row refl (λ k lt. refl)))

  grouped : (ns : List ℕ) → map (row_of rows) (flat_map (λ n. filter (is_at n) listed) ns)
      ≡ flat_map (λ n. filter (is_row_of n) rows) ns
  grouped [] = refl
  grouped (n ∷ ns) =
      let rest = flat_map (λ n. filter (is_at n) listed) ns in
      map-append (row_of rows) (filter (is_at n) listed) rest
      ∙ ap (λ l. l ++ map (row_of rows) rest) (kept_all n)
      ∙ ap (λ l. filter (is_row_of n) rows ++ l) (grouped ns)

  pub ordered : (functions : ℕ) → IsStableByKey function nat_cmp listed sorted → IsNonDecreasingBy function sorted
      → All (λ row. (function_of (plain_row row)).0 < functions) rows
      → map (row_of rows) sorted ≡ by_function functions rows
  ordered functions stable rise small =
      ap (map (row_of rows)) (sorted_by_groups function made (λ n. refl) functions listed sorted stable rise
      (sorted_all (λ place. place.function < functions) (λ k lt. small k no_row lt)))
      ∙ grouped (below functions)
