-- Whole pages of a directory: how many there are, whether they all are, and an empty directory.
use Rattle.std.proofs.Common.{◌≡◌, ℕ, zero, suc, ◌+◌, ◌*◌, ◌/◌, ◌%◌, ◌<◌, ◌≤◌, ◌^◌, Bool, true, false, cond, refl, sym}
use Rattle.std.proofs.Common.{◌∙◌, ap, subst, arith, inl, inr}
use Rattle.std.specs.Prelude.{Option, Some, None, is_some, IsTrue, ◌↔◌, nat_lt, bit_and}
use Rattle.std.specs.Option.{ForSome, option_map}
use Rattle.std.specs.Ordering.{nat_cmp}
use Rattle.std.specs.Cmp.{nat_cmp_total}
use Rattle.std.specs.FinMap as map
use Rattle.std.proofs.lemmas.Bool.{cases_lt, cases_Bool, eq-eqb, and_from, and_parts}
use Rattle.std.proofs.lemmas.Nat.{and_le_r}
use Rattle.std.proofs.lemmas.Option.{same_Some}
use Rattle.std.proofs.lemmas.List.{length-replicate}
use Rattle.guest_mem.proofs.Permissions.{lawful_granted}
use Rattle.guest_mem.specs.Memory.{Cell, Memory, memory_of, in_range, zero_range, allows, cell_allows, allows_at, may}
use Rattle.guest_mem.specs.Memory.{count_below, page_count, page_mapped, pages_mapped}
use Rattle.guest_mem.specs.inner.Page.{PageValue, IsWhole, AreWhole, zero_page, zeros, protected_page, EachAllows}
use Rattle.guest_mem.specs.inner.Page.{page_allows, cells, memory_of_pages}
use Rattle.guest_mem.specs.inner.Directory.{page_at, page_total, missing_from}
use Rattle.guest_mem.specs.inner.Table.{AltersRange}
use Rattle.guest_mem.specs.declared.directory.Directory.{Directory}
use Rattle.guest_mem.proofs.Memories.{get-memory_of, get_past}
use Rattle.guest_mem.proofs.Ranges.{may-from, may_at}
use Rattle.guest_mem.proofs.Views.{cells_none, memory_of_pages-zeroed}
use Rattle.guest_mem.proofs.Counts.{page_count-is, page_mapped-is, count-same, count-none, count_filled}
use Rattle.guest_mem.proofs.Spans.{whole_pages, may-pages}

-- ---- how many pages there are

pub total_is : (d : Directory) → page_total d ≡ page_count (memory_of_pages (page_at d))
unfolding page_total
total_is d = sym (page_count-is (page_at d) (whole_pages d))

pub total_none : (d : Directory) → ((p : ℕ) → page_at d p ≡ None) → page_total d ≡ 0
unfolding page_total
total_none d none = count-none (λ p. is_some (page_at d p)) (2 ^ 20) (λ p. ap is_some (none p))

pub memory_of_none : (pages : ℕ → Option PageValue) → ((p : ℕ) → pages p ≡ None) → memory_of_pages pages ≡ map.empty
unfolding memory_of_pages
memory_of_none pages none =
    map.same_map nat_cmp_total map.nat_cmp-IsAntisymmetric (memory_of (cells pages)) map.empty
    (λ q. elim (cases_lt q (2 ^ 32)) [
      | inl h ↦ get-memory_of (cells pages) q h ∙ cells_none pages q (none (q / 4096)) ∙ sym (map.get-empty nat_cmp q)
      | inr h ↦ get_past (cells pages) q h ∙ sym (map.get-empty nat_cmp q)
    ])

pub total_same : (old new : Directory) → ((p : ℕ) → is_some (page_at new p) ≡ is_some (page_at old p))
    → page_total new ≡ page_total old
unfolding page_total
total_same old new same =
    count-same (λ p. is_some (page_at new p)) (λ p. is_some (page_at old p)) (2 ^ 20) (λ p h. same p)

-- another permission takes no page and adds none
pub range_same : (old new : ℕ → Option PageValue) (first n permission : ℕ)
    → AltersRange old new first n (option_map (protected_page permission)) → (p : ℕ) → is_some (new p) ≡ is_some (old p)
range_same old new first n permission change p = ap is_some (change p) ∙ kept (in_range first n p) (old p)
  where
    kept : (b : Bool) (o : Option PageValue) → is_some (cond b (option_map (protected_page permission) o) o) ≡ is_some o
    kept true None = refl
    kept true (Some page) = refl
    kept false o = refl

pub total_filled : (old new : Directory) (first n permission : ℕ)
    → AltersRange (page_at old) (page_at new) first n (λ _. Some (zero_page permission)) → first + n ≤ 2 ^ 20
    → page_total new ≡ page_total old + missing_from (page_at old) first n
unfolding page_total
total_filled old new first n permission change fits =
    count_filled (page_at old) (page_at new) first n (2 ^ 20) (zero_page permission) change fits

whole-zero_page : (permission : ℕ) → permission < 8 → IsWhole (zero_page permission)
unfolding zeros
whole-zero_page permission h = record { lawful = lawful_granted permission h; whole = length-replicate 4096 zero }

-- how many pages there would be after zeros were mapped
pub count_zeroed : (d : Directory) (m : Memory) (a n permission : ℕ) → memory_of_pages (page_at d) ≡ m → a % 4096 ≡ 0
    → a + n * 4096 ≤ 2 ^ 32 → permission < 8
    → page_count (zero_range m a (n * 4096) permission) ≡ page_total d + missing_from (page_at d) (a / 4096) n
unfolding page_total
count_zeroed d m a n permission is aligned fits h =
    let start : a / 4096 * 4096 ≡ a = omega arith in
    ap (λ o. page_count (zero_range o a (n * 4096) permission)) (sym is)
    ∙ ap (λ b. page_count (zero_range (memory_of_pages (page_at d)) b (n * 4096) permission)) (sym start)
    ∙ ap page_count (sym (memory_of_pages-zeroed (page_at d) new (a / 4096) n permission (whole_pages d) (λ q. refl)))
    ∙ page_count-is new whole
    ∙ count_filled (page_at d) new (a / 4096) n (2 ^ 20) (zero_page permission) (λ q. refl) (omega arith)
  where
    new : ℕ → Option PageValue
    new p = cond (in_range (a / 4096) n p) (Some (zero_page permission)) (page_at d p)

    whole : AreWhole new
    whole p = chosen (in_range (a / 4096) n p)
      where
        chosen : (b : Bool) → ForSome (cond b (Some (zero_page permission)) (page_at d p)) IsWhole
        chosen true page is = subst IsWhole (same_Some _ _ is) (whole-zero_page permission h)
        chosen false page is = whole_pages d p page is

-- ---- whether all of a range are

pub allows_nothing : (permission : ℕ) → allows 0 permission ≡ true
allows_nothing permission = eq-eqb (bit_and permission 0) 0 (omega (arith, and_le_r permission 0))

pub page_allows_nothing : (o : Option PageValue) → page_allows 0 o ≡ is_some o
page_allows_nothing None = refl
page_allows_nothing (Some page) = allows_nothing page.permission

pub mapped-from : (m : Memory) (a n : ℕ) → ((k : ℕ) → k < n → page_mapped m (a + k * 4096) ≡ true)
    → pages_mapped m a n ≡ true
unfolding pages_mapped
mapped-from m a zero each = refl
mapped-from m a (suc n) each =
    and_from _ _ (let e : a ≡ a + 0 * 4096 = omega arith in ap (page_mapped m) e ∙ each 0 (omega arith))
    (mapped-from m (a + 4096) n
    (λ k h. (let e : a + 4096 + k * 4096 ≡ a + suc k * 4096 = omega arith in ap (page_mapped m) e)
    ∙ each (suc k) (omega arith)))

pub mapped_at : (m : Memory) (a n : ℕ) → pages_mapped m a n ≡ true → (k : ℕ) → k < n
    → page_mapped m (a + k * 4096) ≡ true
unfolding pages_mapped
mapped_at m a zero all k h = absurd (omega arith)
mapped_at m a (suc n) all zero h = (let e : a + 0 * 4096 ≡ a = omega arith in ap (page_mapped m) e)
    ∙ (and_parts (page_mapped m a) _ all).0
mapped_at m a (suc n) all (suc k) h =
    (let e : a + suc k * 4096 ≡ a + 4096 + k * 4096 = omega arith in ap (page_mapped m) e)
    ∙ mapped_at m (a + 4096) n (and_parts (page_mapped m a) _ all).1 k (omega arith)

page_mapped-at : (pages : ℕ → Option PageValue) (a n k : ℕ) → AreWhole pages → a % 4096 ≡ 0 → a + n * 4096 ≤ 2 ^ 32
    → k < n → page_mapped (memory_of_pages pages) (a + k * 4096) ≡ page_allows 0 (pages (a / 4096 + k))
page_mapped-at pages a n k whole aligned fits h =
    let e : a + k * 4096 ≡ (a / 4096 + k) * 4096 = omega arith in
    ap (page_mapped (memory_of_pages pages)) e ∙ page_mapped-is pages (a / 4096 + k) whole (omega arith)
    ∙ sym (page_allows_nothing (pages (a / 4096 + k)))

pub pages_mapped-is : (pages : ℕ → Option PageValue) (a n : ℕ) (b : Bool) → AreWhole pages → a % 4096 ≡ 0
    → a + n * 4096 ≤ 2 ^ 32 → (IsTrue b ↔ EachAllows pages 0 (a / 4096) n)
    → b ≡ pages_mapped (memory_of_pages pages) a n
pages_mapped-is pages a n true whole aligned fits is =
    sym (mapped-from _ a n (λ k h. page_mapped-at pages a n k whole aligned fits h ∙ is.0 refl k h))
pages_mapped-is pages a n false whole aligned fits is =
    elim (cases_Bool (pages_mapped (memory_of_pages pages) a n)) [
      | inl all ↦
          (let wrong = is.1 (λ k h. sym (page_mapped-at pages a n k whole aligned fits h) ∙ mapped_at _ a n all k h) in
          cc)
      | inr refused ↦ sym refused
    ]

pub pages_mapped-bytes : (pages : ℕ → Option PageValue) (a n : ℕ) (b : Bool) → AreWhole pages → a % 4096 ≡ 0
    → a + n * 4096 ≤ 2 ^ 32 → (IsTrue b ↔ EachAllows pages 0 (a / 4096) n)
    → b ≡ may (memory_of_pages pages) 0 a (n * 4096)
unfolding may
pages_mapped-bytes pages a zero b whole aligned fits is = is.1 (λ k h. absurd (omega arith))
pages_mapped-bytes pages a (suc n) b whole aligned fits is =
    may-pages pages 0 a (suc n * 4096) (suc n) b whole (omega arith) fits (omega arith) is

-- what may be used in some way is mapped
pub may_nothing : (m : Memory) (want a n : ℕ) → may m want a n ≡ true → may m 0 a n ≡ true
unfolding allows_at
may_nothing m want a n ok = may-from m 0 a n (λ k h. weaker (a + k) (may_at m want a n ok k h))
  where
    mapped : (c : Option Cell) → cell_allows want c ≡ true → cell_allows 0 c ≡ true
    mapped None given = given
    mapped (Some c) given = allows_nothing c.permission

    weaker : (q : ℕ) → allows_at m want q ≡ true → allows_at m 0 q ≡ true
    weaker q given =
        let parts = and_parts (nat_lt q (2 ^ 32)) (cell_allows want (map.get m q)) given in
        and_from (nat_lt q (2 ^ 32)) (cell_allows 0 (map.get m q)) parts.0 (mapped (map.get m q) parts.1)
