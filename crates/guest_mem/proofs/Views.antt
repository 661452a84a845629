-- The memory that pages are: what the bytes of one page are in it, and what it becomes where pages change.
use Rattle.std.proofs.Common.{◌≡◌, ℕ, zero, ◌+◌, ◌-◌, ◌*◌, ◌/◌, ◌%◌, ◌<◌, ◌≤◌, ◌^◌, Bool, true, false, cond, refl, sym}
use Rattle.std.proofs.Common.{◌∙◌, ap, arith, List, ◌++◌, length, get_or, inl, inr, take, drop, replicate}
use Rattle.std.specs.Prelude.{Option, Some, None, nat_lt, nat_le, ◌&&◌, slice_index, slice_get}
use Rattle.std.specs.Option.{option_map, option_and_then, ForSome}
use Rattle.std.specs.FinMap as map
use Rattle.std.proofs.lemmas.Bool.{cases_lt, cases_eq, cond-true, cond-false, lt-ltb, eq-eqb, ne_eqb, and_parts}
use Rattle.std.proofs.lemmas.Bool.{leb-true, cases_Bool}
use Rattle.std.proofs.lemmas.Bool.Decides.{nat_tests}
use Rattle.std.proofs.lemmas.List.{get_or-take, get_or-drop, length-take, length-drop, get_or_append_left}
use Rattle.std.proofs.lemmas.List.{get_or-append_right, get_or-replicate, length-replicate, length-append}
use Rattle.std.proofs.lemmas.Option.{slice_get-get_or}
use Rattle.guest_mem.specs.Memory.{Cell, memory_of, in_range, change_at, with_byte, with_permission, cell_allows}
use Rattle.guest_mem.specs.Memory.{cell_byte, allows, granted_permission, allows_at, may, byte_at, bytes_at, write_at, zero_range}
use Rattle.guest_mem.specs.Memory.{unmap_at, protect_at}
use Rattle.guest_mem.specs.inner.Page.{PageValue, IsWhole, AreWhole, patched, zeros, zero_page, written_where}
use Rattle.guest_mem.specs.inner.Page.{protected_page, page_allows, cell_in, cells, memory_of_pages}
use Rattle.guest_mem.specs.inner.Table.{Alters, AltersRange}
use Rattle.guest_mem.proofs.Memories.{get-memory_of, memory_of-changed}
use Rattle.guest_mem.proofs.Ranges.{may-from, may_fails, bytes_at-is}

-- ---- the bytes of one page

pub cell_in-whole : (page : PageValue) (i : ℕ) → IsWhole page → i < 4096
    → cell_in i page ≡ Some (record { byte = get_or page.bytes i 0; permission = page.permission })
cell_in-whole page i whole h =
    let within : i < length page.bytes = omega (arith, whole.whole) in
    ap (option_map (λ b. record { byte = b; permission = page.permission })) (slice_get-get_or page.bytes i 0 within)

pub cells_at : (pages : ℕ → Option PageValue) (q : ℕ) (page : PageValue) → pages (q / 4096) ≡ Some page → IsWhole page
    → cells pages q ≡ Some (record { byte = get_or page.bytes (q % 4096) 0; permission = page.permission })
cells_at pages q page is whole =
    ap (option_and_then (cell_in (q % 4096))) is ∙ cell_in-whole page (q % 4096) whole (omega arith)

pub cells_none : (pages : ℕ → Option PageValue) (q : ℕ) → pages (q / 4096) ≡ None → cells pages q ≡ None
cells_none pages q is = ap (option_and_then (cell_in (q % 4096))) is

cell_allows-page : (pages : ℕ → Option PageValue) (want q : ℕ) (o : Option PageValue) → pages (q / 4096) ≡ o
    → ForSome o IsWhole → cell_allows want (cells pages q) ≡ page_allows want o
cell_allows-page pages want q None is whole = ap (cell_allows want) (cells_none pages q is)
cell_allows-page pages want q (Some page) is whole = ap (cell_allows want) (cells_at pages q page is (whole page refl))

pub allowed-page : (pages : ℕ → Option PageValue) (want q : ℕ) → AreWhole pages → q < 2 ^ 32
    → allows_at (memory_of_pages pages) want q ≡ page_allows want (pages (q / 4096))
unfolding allows_at memory_of_pages
allowed-page pages want q whole h =
    ap (λ b. b && cell_allows want (map.get (memory_of (cells pages)) q)) (lt-ltb q (2 ^ 32) h)
    ∙ ap (cell_allows want) (get-memory_of (cells pages) q h)
    ∙ cell_allows-page pages want q (pages (q / 4096)) refl (whole (q / 4096))

pub may-page : (pages : ℕ → Option PageValue) (want q n : ℕ) → AreWhole pages → q < 2 ^ 32 → 0 < n → q % 4096 + n ≤ 4096
    → may (memory_of_pages pages) want q n ≡ page_allows want (pages (q / 4096))
may-page pages want q n whole h some fits =
    elim (cases_Bool (page_allows want (pages (q / 4096)))) [
      | inl given ↦ may-from _ want q n
          (λ k l. let same : (q + k) / 4096 ≡ q / 4096 = omega arith in
          allowed-page pages want (q + k) whole (omega arith) ∙ ap (λ p. page_allows want (pages p)) same ∙ given)
          ∙ sym given
      | inr refused ↦ may_fails _ want q n 0 some
          (let same : (q + 0) / 4096 ≡ q / 4096 = omega arith in allowed-page pages want (q + 0) whole (omega arith)
          ∙ ap (λ p. page_allows want (pages p)) same ∙ refused) ∙ sym refused
    ]

pub byte_at-page : (pages : ℕ → Option PageValue) (q : ℕ) (page : PageValue) → pages (q / 4096) ≡ Some page
    → IsWhole page → q < 2 ^ 32 → byte_at (memory_of_pages pages) q ≡ get_or page.bytes (q % 4096) 0
unfolding byte_at memory_of_pages
byte_at-page pages q page is whole h = ap cell_byte (get-memory_of (cells pages) q h ∙ cells_at pages q page is whole)

pub byte_at-none : (pages : ℕ → Option PageValue) (q : ℕ) → pages (q / 4096) ≡ None → q < 2 ^ 32
    → byte_at (memory_of_pages pages) q ≡ 0
unfolding byte_at memory_of_pages
byte_at-none pages q is h = ap cell_byte (get-memory_of (cells pages) q h ∙ cells_none pages q is)

pub bytes_at-page : (pages : ℕ → Option PageValue) (q n : ℕ) (page : PageValue) → pages (q / 4096) ≡ Some page
    → IsWhole page → q < 2 ^ 32 → q % 4096 + n ≤ 4096
    → bytes_at (memory_of_pages pages) q n ≡ take n (drop (q % 4096) page.bytes)
bytes_at-page pages q n page is whole h fits =
    let part : List ℕ = take n (drop (q % 4096) page.bytes) in
    let long : length part ≡ n = simp (length-take, length-drop) (omega (arith, whole.whole)) in
    ap (bytes_at (memory_of_pages pages) q) (sym long) ∙ bytes_at-is (memory_of_pages pages) q part (λ k l.
    let below : k < n = omega (arith, long) in
    let page_same : (q + k) / 4096 ≡ q / 4096 = omega arith in
    let place_same : (q + k) % 4096 ≡ q % 4096 + k = omega arith in
    byte_at-page pages (q + k) page (ap pages page_same ∙ is) whole (omega arith)
    ∙ ap (λ i. get_or page.bytes i 0) place_same
    ∙ sym (get_or-take n (drop (q % 4096) page.bytes) k 0 below ∙ get_or-drop (q % 4096) page.bytes k 0))

-- ---- a write within one page

get_or-patched_after : (old : List ℕ) (i : ℕ) (bs : List ℕ) (j : ℕ) → i + length bs ≤ length old → j < length old
    → i ≤ j → get_or (bs ++ drop (i + length bs) old) (j - i) 0
    ≡ cond (in_range i (length bs) j) (get_or bs (j - i) 0) (get_or old j 0)
get_or-patched_after old i bs j fits h after =
    elim (cases_lt j (i + length bs)) [
      | inl within ↦ get_or_append_left bs (drop (i + length bs) old) 0 (j - i) (omega arith)
          ∙ sym (let inside : in_range i (length bs) j ≡ true = grind (arith, nat_tests) in cond-true _ _ _ inside)
      | inr past ↦ get_or-append_right bs (drop (i + length bs) old) (length bs) (j - i) 0 refl (omega arith)
          ∙ get_or-drop (i + length bs) old (j - i - length bs) 0
          ∙ (let place : i + length bs + (j - i - length bs) ≡ j = omega arith in ap (λ k. get_or old k 0) place)
          ∙ sym (let outside : in_range i (length bs) j ≡ false = grind (arith, nat_tests) in cond-false _ _ _ outside)
    ]

get_or-patched : (old : List ℕ) (i : ℕ) (bs : List ℕ) (j : ℕ) → i + length bs ≤ length old → j < length old
    → get_or (patched old i bs) j 0 ≡ cond (in_range i (length bs) j) (get_or bs (j - i) 0) (get_or old j 0)
get_or-patched old i bs j fits h =
    elim (cases_lt j i) [
      | inl before ↦ get_or_append_left (take i old) (bs ++ drop (i + length bs) old) 0 j
          (simp length-take (omega arith)) ∙ get_or-take i old j 0 before
          ∙ sym (let outside : in_range i (length bs) j ≡ false = grind (arith, nat_tests) in cond-false _ _ _ outside)
      | inr after ↦ get_or-append_right (take i old) (bs ++ drop (i + length bs) old) i j 0
          (simp length-take (omega arith)) after ∙ get_or-patched_after old i bs j fits h after
    ]

cell_in-written : (page : PageValue) (i j : ℕ) (bs : List ℕ) → IsWhole page → i + length bs ≤ 4096 → j < 4096
    → cell_in j (record { permission = page.permission; bytes = patched page.bytes i bs })
    ≡ cond (in_range i (length bs) j) (option_map (with_byte (get_or bs (j - i) 0)) (cell_in j page))
    (cell_in j page)
cell_in-written page i j bs whole fits h =
    let long : length (patched page.bytes i bs) ≡ 4096
    = simp (length-append, length-take, length-drop) (omega (arith, whole.whole)) in
    let within : j < length (patched page.bytes i bs) = omega (arith, long) in
    ap (option_map (λ b. record { byte = b; permission = page.permission }))
    (slice_get-get_or (patched page.bytes i bs) j 0 within
    ∙ ap Some (get_or-patched page.bytes i bs j (omega (arith, whole.whole)) (omega (arith, whole.whole))))
    ∙ choose (in_range i (length bs) j)
  where
    choose : (b : Bool)
        → Some (record { byte = cond b (get_or bs (j - i) 0) (get_or page.bytes j 0); permission = page.permission })
        ≡ cond b (option_map (with_byte (get_or bs (j - i) 0)) (cell_in j page)) (cell_in j page)
    choose true = sym (ap (option_map (with_byte (get_or bs (j - i) 0))) (cell_in-whole page j whole h))
    choose false = sym (cell_in-whole page j whole h)

moved : (b b' : Bool) (x y : ℕ) (c : Option Cell) → b ≡ b' → (b' ≡ true → x ≡ y)
    → cond b (option_map (with_byte x) c) c ≡ cond b' (option_map (with_byte y) c) c
moved b true x y c e same = cond-true b _ _ e ∙ ap (λ z. option_map (with_byte z) c) (same refl)
moved b false x y c e same = cond-false b _ _ e

pub from_range : (a n q : ℕ) → in_range a n q ≡ true → a ≤ q
from_range a n q inside = leb-true a q (and_parts (nat_le a q) (nat_lt q (a + n)) inside).0

-- the page of q with bs from q on
pub memory_of_pages-written : (old new : ℕ → Option PageValue) (want q : ℕ) (bs : List ℕ) → AreWhole old → q < 2 ^ 32
    → q % 4096 + length bs ≤ 4096 → page_allows want (old (q / 4096)) ≡ true
    → Alters old new (q / 4096) (option_map (written_where want (q % 4096) bs) (old (q / 4096)))
    → memory_of_pages new ≡ write_at (memory_of_pages old) q bs
unfolding memory_of_pages write_at
memory_of_pages-written old new want q bs whole h fits given change =
    memory_of-changed (cells old) (cells new) q (length bs) (λ r. option_map (with_byte (slice_index bs (r - q))))
    (λ r l. elim (cases_eq (r / 4096) (q / 4096)) [
      | inl same ↦ (
          let is : new (r / 4096) ≡ option_map (written_where want (q % 4096) bs) (old (r / 4096)) =
          change (r / 4096) ∙ cond-true _ _ _ (eq-eqb _ _ same)
          ∙ ap (λ p. option_map (written_where want (q % 4096) bs) (old p)) (sym same) in
          let range : in_range (q % 4096) (length bs) (r % 4096) ≡ in_range q (length bs) r
          = grind (arith, nat_tests) in
          let place : q ≤ r → r % 4096 - q % 4096 ≡ r - q = λ le. omega arith in
          written_cells want q bs r (old (r / 4096)) (new (r / 4096)) fits
          (ap (λ p. page_allows want (old p)) same ∙ given) (whole (r / 4096)) is
          ∙ moved (in_range (q % 4096) (length bs) (r % 4096)) (in_range q (length bs) r) _ _ (cells old r) range
          (λ inside. ap (slice_index bs) (place (from_range q (length bs) r inside))))
      | inr other ↦ (let outside : in_range q (length bs) r ≡ false = grind (arith, nat_tests) in
          ap (option_and_then (cell_in (r % 4096))) (change (r / 4096) ∙ cond-false _ _ _ (ne_eqb _ _ other))
          ∙ sym (cond-false _ _ _ outside))
    ])
  where
    written_cells : (want q : ℕ) (bs : List ℕ) (r : ℕ) (o n : Option PageValue) → q % 4096 + length bs ≤ 4096
        → page_allows want o ≡ true → ForSome o IsWhole → n ≡ option_map (written_where want (q % 4096) bs) o
        → option_and_then (cell_in (r % 4096)) n
        ≡ cond (in_range (q % 4096) (length bs) (r % 4096))
        (option_map (with_byte (get_or bs (r % 4096 - q % 4096) 0)) (option_and_then (cell_in (r % 4096)) o))
        (option_and_then (cell_in (r % 4096)) o)
    written_cells want q bs r None n fits given whole is = cc
    written_cells want q bs r (Some page) n fits given whole is =
        ap (option_and_then (cell_in (r % 4096))) (is ∙ ap Some (cond-true (allows want page.permission) _ page given))
        ∙ cell_in-written page (q % 4096) (r % 4096) bs (whole page refl) fits (omega arith)

-- ---- pages that change whole

pub memory_of_pages-changed : (old new : ℕ → Option PageValue) (first n : ℕ) (f : Option PageValue → Option PageValue)
    (g : Option Cell → Option Cell) → AreWhole old → AltersRange old new first n f
    → ((i : ℕ) (o : Option PageValue) → ForSome o IsWhole → i < 4096
    → option_and_then (cell_in i) (f o) ≡ g (option_and_then (cell_in i) o))
    → memory_of_pages new ≡ change_at (memory_of_pages old) (first * 4096) (n * 4096) (λ _. g)
unfolding memory_of_pages
memory_of_pages-changed old new first n f g whole change cell =
    memory_of-changed (cells old) (cells new) (first * 4096) (n * 4096) (λ _. g) (λ q h.
    let range : in_range first n (q / 4096) ≡ in_range (first * 4096) (n * 4096) q = grind (arith, nat_tests) in
    ap (option_and_then (cell_in (q % 4096)))
    (change (q / 4096) ∙ ap (λ b. cond b (f (old (q / 4096))) (old (q / 4096))) range)
    ∙ each (in_range (first * 4096) (n * 4096) q) q)
  where
    each : (b : Bool) (q : ℕ) → option_and_then (cell_in (q % 4096)) (cond b (f (old (q / 4096))) (old (q / 4096)))
        ≡ cond b (g (cells old q)) (cells old q)
    each true q = cell (q % 4096) (old (q / 4096)) (whole (q / 4096)) (omega arith)
    each false q = refl

zero_at : (i : ℕ) → i < 4096 → slice_get zeros i ≡ Some 0
unfolding zeros
zero_at i h =
    let within : i < length (replicate 4096 zero) = omega (arith, length-replicate 4096 zero) in
    slice_get-get_or (replicate 4096 zero) i 0 within ∙ ap Some (get_or-replicate 4096 i 0 0 h)

zero_cell : (permission i : ℕ) → i < 4096
    → cell_in i (zero_page permission) ≡ Some (record { byte = 0; permission = granted_permission permission })
zero_cell permission i h = ap (option_map (λ b. record { byte = b; permission = granted_permission permission })) (zero_at i h)

pub memory_of_pages-zeroed : (old new : ℕ → Option PageValue) (first n permission : ℕ) → AreWhole old
    → AltersRange old new first n (λ _. Some (zero_page permission))
    → memory_of_pages new ≡ zero_range (memory_of_pages old) (first * 4096) (n * 4096) permission
unfolding zero_range
memory_of_pages-zeroed old new first n permission whole change =
    memory_of_pages-changed old new first n (λ _. Some (zero_page permission)) _ whole change
    (λ i o is h. zero_cell permission i h)

pub memory_of_pages-unmapped : (old new : ℕ → Option PageValue) (first n : ℕ) → AreWhole old
    → AltersRange old new first n (λ _. None)
    → memory_of_pages new ≡ unmap_at (memory_of_pages old) (first * 4096) (n * 4096)
unfolding unmap_at
memory_of_pages-unmapped old new first n whole change =
    memory_of_pages-changed old new first n (λ _. None) _ whole change (λ i o is h. refl)

pub memory_of_pages-protected : (old new : ℕ → Option PageValue) (first n permission : ℕ) → AreWhole old
    → AltersRange old new first n (option_map (protected_page permission))
    → memory_of_pages new ≡ protect_at (memory_of_pages old) (first * 4096) (n * 4096) permission
unfolding protect_at
memory_of_pages-protected old new first n permission whole change =
    memory_of_pages-changed old new first n (option_map (protected_page permission)) _ whole change
    (protected_cell permission)
  where
    protected_cell : (permission i : ℕ) (o : Option PageValue) → ForSome o IsWhole → i < 4096
        → option_and_then (cell_in i) (option_map (protected_page permission) o)
        ≡ option_map (with_permission (granted_permission permission)) (option_and_then (cell_in i) o)
    protected_cell permission i None is h = refl
    protected_cell permission i (Some page) is h = twice (slice_get page.bytes i)
      where
        twice : (o : Option ℕ) → option_map (λ b. record { byte = b; permission = granted_permission permission }) o
            ≡ option_map (with_permission (granted_permission permission))
            (option_map (λ b. record { byte = b; permission = page.permission }) o)
        twice None = refl
        twice (Some b) = refl
