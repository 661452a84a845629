-- What loads and stores give, within a page and across pages.
use Rattle.std.proofs.Common.{◌≡◌, ℕ, ◌+◌, ◌/◌, ◌%◌, ◌<◌, ◌≤◌, ◌^◌, true, false, refl, sym, ◌∙◌, ap, arith, List, []}
use Rattle.std.proofs.Common.{◌∷◌, length, get_or, take, drop, inl, inr}
use Rattle.std.specs.Prelude.{Option, Some, None}
use Rattle.std.specs.Option.{option_map, option_and_then}
use Rattle.std.specs.Int.{from_le_bytes, w16, w32}
use Rattle.std.proofs.lemmas.Bool.{cases_Bool, cases_eq, cond-true, cond-false, eq-eqb, ne_eqb}
use Rattle.std.proofs.lemmas.List.{drop_more}
use Rattle.guest_mem.specs.Memory.{Memory, allows, may, byte_at, bytes_at, number_of, load_at, write_at, store_at}
use Rattle.guest_mem.specs.Memory.{SameElsewhere}
use Rattle.guest_mem.specs.inner.Page.{PageValue, AreWhole, page_allows, written_where, cells, cell_in, memory_of_pages}
use Rattle.guest_mem.specs.inner.Table.{Alters}
use Rattle.guest_mem.proofs.Memories.{memory_of-same}
use Rattle.guest_mem.proofs.Ranges.{may-written, bytes_at-written}
use Rattle.guest_mem.proofs.Laws.{elsewhere-written, elsewhere-by}
use Rattle.guest_mem.proofs.Views.{may-page, bytes_at-page, memory_of_pages-written}
use Rattle.guest_mem.proofs.Spans.{may_read}

-- ---- loads

pub loaded_bytes : (m : Memory) (want q n v : ℕ) → may m want q n ≡ true → v ≡ number_of (bytes_at m q n)
    → Some v ≡ load_at m want q n
unfolding load_at
loaded_bytes m want q n v ok is = ap Some is ∙ sym (cond-true _ _ _ ok)

pub loaded_refused : (m : Memory) (want q n : ℕ) → may m want q n ≡ false → None ≡ load_at m want q n
unfolding load_at
loaded_refused m want q n refused = sym (cond-false _ _ _ refused)

pub loaded-page : (pages : ℕ → Option PageValue) (m : Memory) (want q n v : ℕ) (page : PageValue) → AreWhole pages
    → memory_of_pages pages ≡ m → pages (q / 4096) ≡ Some page → allows want page.permission ≡ true → q < 2 ^ 32 → 0 < n
    → q % 4096 + n ≤ 4096
    → v ≡ number_of (take n (drop (q % 4096) page.bytes)) → Some v ≡ load_at m want q n
loaded-page pages m want q n v page whole is there given below some fits value =
    loaded_bytes (memory_of_pages pages) want q n v
    (may-page pages want q n whole below some fits ∙ ap (page_allows want) there ∙ given)
    (value ∙ ap number_of (sym (bytes_at-page pages q n page there (whole (q / 4096) page there) below fits)))
    ∙ ap (λ o. load_at o want q n) is

pub loaded-no_page : (pages : ℕ → Option PageValue) (m : Memory) (want q n : ℕ) → AreWhole pages
    → memory_of_pages pages ≡ m → page_allows want (pages (q / 4096)) ≡ false → q < 2 ^ 32 → 0 < n → q % 4096 + n ≤ 4096
    → None ≡ load_at m want q n
loaded-no_page pages m want q n whole is refused below some fits =
    loaded_refused (memory_of_pages pages) want q n (may-page pages want q n whole below some fits ∙ refused)
    ∙ ap (λ o. load_at o want q n) is

pub number_of-one : (bytes : List ℕ) (i : ℕ) → i < length bytes → number_of (take 1 (drop i bytes)) ≡ get_or bytes i 0
number_of-one bytes i h = ap (λ ys. number_of (take 1 ys)) (drop_more bytes i 0 h) ∙ (omega arith)

pub word_of_bytes : (m : Memory) (a b0 b1 b2 b3 v : ℕ) → b0 ≡ byte_at m a → b1 ≡ byte_at m (a + 1)
    → b2 ≡ byte_at m (a + 2) → b3 ≡ byte_at m (a + 3) → v ≡ from_le_bytes w32 (b0 ∷ b1 ∷ b2 ∷ b3 ∷ [])
    → v ≡ number_of (bytes_at m a 4)
unfolding bytes_at
word_of_bytes m a b0 b1 b2 b3 v e0 e1 e2 e3 is =
    let two : byte_at m (a + 1 + 1) ≡ byte_at m (a + 2)
    = (let e : a + 1 + 1 ≡ a + 2 = omega arith in ap (byte_at m) e) in
    let three : byte_at m (a + 1 + 1 + 1) ≡ byte_at m (a + 3)
    = (let e : a + 1 + 1 + 1 ≡ a + 3 = omega arith in ap (byte_at m) e) in
    omega arith

pub half_of_bytes : (m : Memory) (a b0 b1 v : ℕ) → b0 ≡ byte_at m a → b1 ≡ byte_at m (a + 1)
    → v ≡ from_le_bytes w16 (b0 ∷ b1 ∷ []) → v ≡ number_of (bytes_at m a 2)
unfolding bytes_at
half_of_bytes m a b0 b1 v e0 e1 is = omega arith

-- ---- stores

unaltered : (old new : ℕ → Option PageValue) (want i place : ℕ) (bs : List ℕ) → page_allows want (old i) ≡ false
    → Alters old new i (option_map (written_where want place bs) (old i)) → (p : ℕ) → new p ≡ old p
unaltered old new want i place bs refused change p =
    elim (cases_eq p i) [
      | inl here ↦ change p ∙ cond-true _ _ _ (eq-eqb _ _ here) ∙ kept (old i) refused ∙ ap old (sym here)
      | inr other ↦ change p ∙ cond-false _ _ _ (ne_eqb _ _ other)
    ]
  where
    kept : (o : Option PageValue) → page_allows want o ≡ false → option_map (written_where want place bs) o ≡ o
    kept None refused = refl
    kept (Some page) refused = ap Some (cond-false (allows want page.permission) _ page refused)

memory_of_pages-same : (old new : ℕ → Option PageValue) → ((p : ℕ) → new p ≡ old p)
    → memory_of_pages new ≡ memory_of_pages old
unfolding memory_of_pages
memory_of_pages-same old new same =
    memory_of-same (cells new) (cells old) (λ q h. ap (option_and_then (cell_in (q % 4096))) (same (q / 4096)))

pub store_page : (old new : ℕ → Option PageValue) (q : ℕ) (bs : List ℕ) → AreWhole old → q < 2 ^ 32 → 0 < length bs
    → q % 4096 + length bs ≤ 4096
    → Alters old new (q / 4096) (option_map (written_where 2 (q % 4096) bs) (old (q / 4096)))
    → memory_of_pages new ≡ store_at (memory_of_pages old) q bs
unfolding store_at
store_page old new q bs whole below some fits change =
    let page = may-page old 2 q (length bs) whole below some fits in
    elim (cases_Bool (page_allows 2 (old (q / 4096)))) [
      | inl given ↦ memory_of_pages-written old new 2 q bs whole below fits given change
          ∙ sym (cond-true _ _ _ (page ∙ given))
      | inr refused ↦ memory_of_pages-same old new (unaltered old new 2 (q / 4096) (q % 4096) bs refused change)
          ∙ sym (cond-false _ _ _ (page ∙ refused))
    ]

pub stored_when : (m n : Memory) (a : ℕ) (bs : List ℕ) → may m 2 a (length bs) ≡ true → n ≡ write_at m a bs
    → n ≡ store_at m a bs
unfolding store_at
stored_when m n a bs ok is = is ∙ sym (cond-true _ _ _ ok)

pub stored_unless : (m n : Memory) (a : ℕ) (bs : List ℕ) → may m 2 a (length bs) ≡ false → n ≡ m → n ≡ store_at m a bs
unfolding store_at
stored_unless m n a bs refused is = is ∙ sym (cond-false _ _ _ refused)

pub refused_same : (m n : Memory) (a : ℕ) (bs : List ℕ) → may m 2 a (length bs) ≡ false → n ≡ store_at m a bs → n ≡ m
unfolding store_at
refused_same m n a bs refused is = is ∙ cond-false _ _ _ refused

-- ---- laws

pub elsewhere-stored : (m n : Memory) (a : ℕ) (bs : List ℕ) → n ≡ store_at m a bs → SameElsewhere m n a (length bs)
unfolding store_at
elsewhere-stored m n a bs is want other width apart =
    elim (cases_Bool (may m 2 a (length bs))) [
      | inl ok ↦ elsewhere-by m n (write_at m a bs) a (length bs) (is ∙ cond-true _ _ _ ok)
          (elsewhere-written m a bs) want other width apart
      | inr refused ↦ ap (λ o. load_at o want other width) (is ∙ cond-false _ _ _ refused)
    ]

pub reads_back : (pages : ℕ → Option PageValue) (m n : Memory) (a : ℕ) (bs : List ℕ) → AreWhole pages
    → memory_of_pages pages ≡ m → may m 2 a (length bs) ≡ true → n ≡ store_at m a bs
    → load_at n 1 a (length bs) ≡ Some (number_of bs)
unfolding store_at
reads_back pages m n a bs whole view ok is =
    let may_write : may (memory_of_pages pages) 2 a (length bs) ≡ true = ap (λ o. may o 2 a (length bs)) view ∙ ok in
    let readable : may m 1 a (length bs) ≡ true = ap (λ o. may o 1 a (length bs)) (sym view)
    ∙ may_read pages a (length bs) whole may_write in
    ap (λ o. load_at o 1 a (length bs)) (is ∙ cond-true _ _ _ ok)
    ∙ sym (loaded_bytes (write_at m a bs) 1 a (length bs) (number_of bs) (may-written m a bs 1 a (length bs) ∙ readable)
    (ap number_of (sym (bytes_at-written m 2 a bs ok))))
