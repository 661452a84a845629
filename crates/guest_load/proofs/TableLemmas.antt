-- Tables of pages, and the memory that they are.
use Rattle.std.proofs.Common.{◌≡◌, ℕ, zero, suc, ◌+◌, ◌-◌, ◌*◌, ◌/◌, ◌<◌, ◌≤◌, ◌^◌, ◌⊎◌, Bool, true, false, cond, refl}
use Rattle.std.proofs.Common.{sym, ◌∙◌, ap, arith, List, [], ◌++◌, length, take, drop, replicate, get_or, inl, inr}
use Rattle.std.specs.Prelude.{Option, Some, None, slice_index_or, is_some, nat_lt, nat_le, ◌&&◌}
use Rattle.std.specs.Ordering.{nat_cmp}
use Rattle.std.specs.Cmp.{nat_cmp_total}
use Rattle.std.specs.FinMap as map
use Rattle.std.proofs.lemmas.Bool.{cases_lt, cases_Bool, cond-true, cond-false, lt-ltb, le-ltb}
use Rattle.std.proofs.lemmas.Bool.Decides.{nat_tests}
use Rattle.std.proofs.lemmas.List.{get_or-take, get_or_past, get_or-drop, length-take, take_at, take_rest}
use Rattle.guest_mem.specs.Memory.{Cell, memory_of, in_range, count_below, page_count, granted_permission, zero_range}
use Rattle.guest_mem.proofs.Memories.{get-memory_of, get_past, memory_of-same, memory_of-changed}
use Rattle.guest_mem.proofs.Counts.{count-same}
use Rattle.guest_load.specs.inner.Stages.{blank, table_cell}

-- ---- lists of which a front is taken

get_or-take_or : {X : Type 0} (xs : List X) (n p : ℕ) (d : X)
    → get_or (take n xs) p d ≡ cond (nat_lt p n) (get_or xs p d) d
get_or-take_or xs n p d =
    elim (cases_lt p n) [
      | inl below ↦ get_or-take n xs p d below ∙ sym (cond-true _ _ _ (lt-ltb p n below))
      | inr past ↦ get_or_past (take n xs) p d (omega (arith, length-take n xs))
          ∙ sym (cond-false _ _ _ (le-ltb p n past))
    ]

pub get_or-none : (n p : ℕ) → let nothing : Option ℕ = None in get_or (replicate n nothing) p nothing ≡ nothing
get_or-none zero p = refl
get_or-none (suc n) zero = refl
get_or-none (suc n) (suc p) = get_or-none n p

-- ---- runs of pages

abbrev HasRun : List (Option ℕ) → ℕ → ℕ → Option ℕ → Type 0
HasRun table page count permission = (k : ℕ) → k < count → slice_index_or (drop page table) k None ≡ permission

-- from a slice that begins with it
pub run_from : (table : List (Option ℕ)) (page count : ℕ) (permission : Option ℕ)
    → slice_index_or table page None ≡ permission
    → ((k : ℕ) → k < count → slice_index_or (take (length table - page) (drop page table)) k None
    ≡ slice_index_or (take (length table - page) (drop page table)) 0 None) → HasRun table page count permission
run_from table page count permission first same k h =
    ap (λ t. get_or t k None) (sym (take_rest table page)) ∙ same k h ∙ ap (λ t. get_or t 0 None) (take_rest table page)
    ∙ get_or-drop page table 0 None
    ∙ (let place : page + 0 ≡ page = omega arith in ap (λ i. get_or table i None) place) ∙ first

-- the front of a table that is longer by a run
run_more : (table : List (Option ℕ)) (page count p : ℕ) (permission : Option ℕ) → HasRun table page count permission
    → slice_index_or (take (page + count) table) p None
    ≡ cond (nat_le page p && nat_lt p (page + count)) permission (slice_index_or (take page table) p None)
run_more table page count p permission run =
    get_or-take_or table (page + count) p None ∙ split (cases_lt p page) (cases_lt p (page + count))
    ∙ ap (cond (nat_le page p && nat_lt p (page + count)) permission) (sym (get_or-take_or table page p None))
  where
    here : page ≤ p → p < page + count → get_or table p None ≡ permission
    here from to =
        let place : page + (p - page) ≡ p = omega arith in
        ap (λ i. get_or table i None) (sym place) ∙ sym (get_or-drop page table (p - page) None)
        ∙ run (p - page) (omega arith)

    split : (p < page) ⊎ (page ≤ p) → (p < page + count) ⊎ (page + count ≤ p)
        → cond (nat_lt p (page + count)) (get_or table p None) None
        ≡ cond (nat_le page p && nat_lt p (page + count)) permission (cond (nat_lt p page) (get_or table p None) None)
    split (inl before) _ = grind (arith, nat_tests)
    split (inr from) (inl to) = let e = here from to in grind (arith, nat_tests)
    split (inr from) (inr past) = grind (arith, nat_tests)

-- a run of pages of zeros
pub table_run : (table : List (Option ℕ)) (page count permission : ℕ) → HasRun table page count (Some permission)
    → zero_range (memory_of (table_cell (take page table))) (page * 4096) (count * 4096) permission
    ≡ memory_of (table_cell (take (page + count) table))
unfolding zero_range table_cell
table_run table page count permission run =
    sym (memory_of-changed (table_cell (take page table)) (table_cell (take (page + count) table)) (page * 4096)
    (count * 4096) _ (λ q h.
    ap blank (run_more table page count (q / 4096) (Some permission) run)
    ∙ pushed q (nat_le page (q / 4096) && nat_lt (q / 4096) (page + count)) (in_range (page * 4096) (count * 4096) q)
    (grind (arith, nat_tests))))
  where
    pushed : (q : ℕ) (b c : Bool) → b ≡ c
        → blank (cond b (Some permission) (slice_index_or (take page table) (q / 4096) None))
        ≡ cond c (Some (record { byte = 0; permission = granted_permission permission }))
        (blank (slice_index_or (take page table) (q / 4096) None))
    pushed q true true same = refl
    pushed q true false same = cc
    pushed q false true same = cc
    pushed q false false same = refl

-- a run without pages
pub table_gap : (table : List (Option ℕ)) (page count : ℕ) → HasRun table page count None
    → memory_of (table_cell (take page table)) ≡ memory_of (table_cell (take (page + count) table))
unfolding table_cell
table_gap table page count run =
    memory_of-same _ _ (λ q h. ap blank (sym (run_more table page count (q / 4096) None run ∙ gap (q / 4096))))
  where
    before : (p : ℕ) → page ≤ p → slice_index_or (take page table) p None ≡ None
    before p from = get_or_past (take page table) p None (omega (arith, length-take page table))

    gap : (p : ℕ) → cond (nat_le page p && nat_lt p (page + count)) None (slice_index_or (take page table) p None)
        ≡ slice_index_or (take page table) p None
    gap p = elim (cases_lt p page)
        [ inl h ↦ grind (arith, nat_tests) | inr h ↦ (let e = before p h in grind (arith, nat_tests)) ]

-- no page
pub table_empty : map.empty ≡ memory_of (table_cell [])
unfolding table_cell
table_empty = map.same_map nat_cmp_total map.nat_cmp-IsAntisymmetric map.empty (memory_of (table_cell []))
    (λ q. map.get-empty nat_cmp q ∙ sym
    (elim (cases_lt q (2 ^ 32)) [
      | inl h ↦ get-memory_of (table_cell []) q h
      | inr h ↦ get_past
          (table_cell []) q h
    ]))

-- ---- how many pages there are

pub page_count-memory_of : (f : ℕ → Option Cell)
    → page_count (memory_of f) ≡ count_below (λ p. is_some (f (p * 4096))) (2 ^ 20)
unfolding page_count
page_count-memory_of f = count-same _ _ (2 ^ 20) (λ p h. ap is_some (get-memory_of f (p * 4096) (omega arith)))

abbrev one : Bool → ℕ
one b = cond b 1 0

-- where one test passes, so does the other
pub count-le : (f g : ℕ → Bool) (n : ℕ) → ((p : ℕ) → f p ≡ true → g p ≡ true) → count_below f n ≤ count_below g n
unfolding count_below
count-le f g zero more = omega arith
count-le f g (suc n) more =
    let before = count-le f g n more in
    elim (cases_Bool (f n)) [
      | inl passes ↦ (let there = more n passes in omega (arith, before, ap one passes, ap one there))
      | inr fails ↦ omega (arith, before, ap one fails)
    ]

-- the front of a table has no more pages than the table
pub front_pages : (table : List (Option ℕ)) (n : ℕ)
    → page_count (memory_of (table_cell (take n table))) ≤ page_count (memory_of (table_cell table))
unfolding table_cell
front_pages table n =
    omega (
      arith,
      page_count-memory_of (table_cell (take n table)),
      page_count-memory_of (table_cell table),
      count-le (λ p. is_some (table_cell (take n table) (p * 4096))) (λ p. is_some (table_cell table (p * 4096)))
          (2 ^ 20) (λ p. kept (p * 4096 / 4096)),
    )
  where
    chosen : (b : Bool) (o : Option ℕ) → is_some (blank (cond b o None)) ≡ true → is_some (blank o) ≡ true
    chosen true o h = h
    chosen false o h = cc

    kept : (p : ℕ) → is_some (blank (slice_index_or (take n table) p None)) ≡ true
        → is_some (blank (slice_index_or table p None)) ≡ true
    kept p h = chosen (nat_lt p n) (slice_index_or table p None)
        (ap (λ o. is_some (blank o)) (sym (get_or-take_or table n p None)) ∙ h)

-- ---- a table that is written through a `&mut`

pub written_back : {X : Type 0} (n : ℕ) (new old : List X) → length new ≡ n
    → take n (new ++ drop (length new) old) ≡ new
written_back n new old is = take_at new (drop (length new) old) n is
