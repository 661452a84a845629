-- Ranges of bytes over many pages, and what a store and a load of the same width make of a number.
use Rattle.std.proofs.Common.{◌≡◌, ℕ, ◌+◌, ◌-◌, ◌*◌, ◌/◌, ◌%◌, ◌<◌, ◌≤◌, ◌^◌, Bool, true, false, cond, refl, sym, ◌∙◌}
use Rattle.std.proofs.Common.{ap, arith, List, [], ◌∷◌, ◌++◌, length, get_or, inl, inr, max}
use Rattle.std.specs.Prelude.{Option, Some, None, nat_lt, IsTrue, ◌↔◌}
use Rattle.std.specs.Option.{option_map, ForSome}
use Rattle.std.specs.Int.{to_le_bytes, w16, w32}
use Rattle.std.specs.FinMap as map
use Rattle.std.proofs.lemmas.Bool.{cases_lt, cond-false, le-ltb, and_left, cases_Bool, and_parts, ltb-true}
use Rattle.std.proofs.lemmas.Bool.Decides.{nat_tests}
use Rattle.std.proofs.lemmas.List.{ext_get_or, length-append, get_or_append_left, get_or-append_right}
use Rattle.std.proofs.lemmas.Option.{option_and_then_some}
use Rattle.guest_mem.specs.Memory.{Cell, Memory, in_range, change_at, with_byte, cell_allows, allows_at, may, byte_at}
use Rattle.guest_mem.specs.Memory.{bytes_at, number_of, bytes_of, write_at}
use Rattle.guest_mem.specs.inner.Page.{PageValue, IsWhole, AreWhole, EachAllows, is_granted, page_allows}
use Rattle.guest_mem.specs.inner.Page.{memory_of_pages}
use Rattle.guest_mem.specs.inner.Table.{at_place}
use Rattle.guest_mem.specs.inner.Directory.{page_at}
use Rattle.guest_mem.specs.declared.directory.Directory.{Directory}
use Rattle.guest_mem.proofs.Memories.{memory_of-same}
use Rattle.guest_mem.proofs.Permissions.{read_where_written}
use Rattle.guest_mem.proofs.Ranges.{may-from, may_at, may_fails, length-bytes_at, get_or-bytes_at, get-written}
use Rattle.guest_mem.proofs.Ranges.{allowed-below}
use Rattle.guest_mem.proofs.Views.{allowed-page, from_range}

-- the pages of a directory are whole
pub whole_pages : (d : Directory) → AreWhole (page_at d)
unfolding page_at
whole_pages d p page is =
    option_and_then_some (λ t. at_place t.places.items (p % 1024)) (at_place d.tables.items (p / 1024)) page is
    (λ table at here. table.whole (p % 1024) page here)

-- ---- which ranges may be used

allowed_past : (m : Memory) (want q : ℕ) → 2 ^ 32 ≤ q → allows_at m want q ≡ false
unfolding allows_at
allowed_past m want q h = and_left (nat_lt q (2 ^ 32)) (cell_allows want (map.get m q)) (le-ltb q (2 ^ 32) h)

pub may_past : (m : Memory) (want a n : ℕ) → 0 < n → 2 ^ 32 < a + n → may m want a n ≡ false
may_past m want a n some past =
    may_fails m want a n (n - 1) (omega arith) (allowed_past m want (a + (n - 1)) (omega arith))

pub may_ends : (m : Memory) (want a n : ℕ) → may m want a n ≡ true → 0 < n → a + n ≤ 2 ^ 32
may_ends m want a n ok some =
    let last = allowed-below m want (a + (n - 1)) (may_at m want a n ok (n - 1) (omega arith)) in omega (arith, last)

-- a range may be used where its pages may
pub may-pages : (pages : ℕ → Option PageValue) (want a n count : ℕ) (b : Bool) → AreWhole pages → 0 < n → a + n ≤ 2 ^ 32
    → count ≡ (a + n - 1) / 4096 - a / 4096 + 1 → (IsTrue b ↔ EachAllows pages want (a / 4096) count)
    → b ≡ may (memory_of_pages pages) want a n
may-pages pages want a n count true whole some fits is each =
    sym (may-from _ want a n (λ k h.
    let step : a / 4096 + ((a + k) / 4096 - a / 4096) ≡ (a + k) / 4096 = omega arith in
    let within : (a + k) / 4096 - a / 4096 < count = omega arith in
    allowed-page pages want (a + k) whole (omega arith) ∙ ap (λ p. page_allows want (pages p)) (sym step)
    ∙ each.0 refl _ within))
may-pages pages want a n count false whole some fits is each =
    elim (cases_Bool (may (memory_of_pages pages) want a n)) [
      | inl all ↦ (let whole_range : EachAllows pages want (a / 4096) count = (λ k h.
          let at : ℕ = max a ((a / 4096 + k) * 4096) - a in
          let page : (a + at) / 4096 ≡ a / 4096 + k = omega arith in
          let within : at < n = omega arith in
          ap (λ p. page_allows want (pages p)) (sym page) ∙ sym (allowed-page pages want (a + at) whole (omega arith))
          ∙ may_at _ want a n all at within) in
          let wrong = each.1 whole_range in cc)
      | inr refused ↦ sym refused
    ]

-- what may be written may be read
pub may_read : (pages : ℕ → Option PageValue) (a n : ℕ) → AreWhole pages → may (memory_of_pages pages) 2 a n ≡ true
    → may (memory_of_pages pages) 1 a n ≡ true
may_read pages a n whole ok =
    may-from _ 1 a n (λ k h.
    let below = allowed-below _ 2 (a + k) (may_at _ 2 a n ok k h) in
    allowed-page pages 1 (a + k) whole below
    ∙ readable (pages ((a + k) / 4096)) (whole ((a + k) / 4096))
    (sym (allowed-page pages 2 (a + k) whole below) ∙ may_at _ 2 a n ok k h))
  where
    readable : (o : Option PageValue) → ForSome o IsWhole → page_allows 2 o ≡ true → page_allows 1 o ≡ true
    readable None is given = given
    readable (Some page) is given =
        let lawful : IsTrue (is_granted page.permission) = (is page refl).lawful in
        read_where_written page.permission
        (ltb-true page.permission 8 (and_parts (nat_lt page.permission 8) _ lawful).0) lawful given

-- ---- bytes and writes one after another

pub bytes_at-append : (m : Memory) (a n k : ℕ) → bytes_at m a (n + k) ≡ bytes_at m a n ++ bytes_at m (a + n) k
bytes_at-append m a n k =
    ext_get_or 0 _ _ (simp (length-append, length-bytes_at) refl) (λ i h.
    let within : i < n + k = omega (arith, length-bytes_at m a (n + k)) in
    get_or-bytes_at m a (n + k) i within ∙ sym (part i within))
  where
    part : (i : ℕ) → i < n + k → get_or (bytes_at m a n ++ bytes_at m (a + n) k) i 0 ≡ byte_at m (a + i)
    part i h = elim (cases_lt i n) [
      | inl before ↦ get_or_append_left (bytes_at m a n) (bytes_at m (a + n) k) 0 i
          (omega (arith, length-bytes_at m a n)) ∙ get_or-bytes_at m a n i before
      | inr after ↦ get_or-append_right (bytes_at m a n) (bytes_at m (a + n) k) n i 0 (length-bytes_at m a n) after
          ∙ get_or-bytes_at m (a + n) k (i - n) (omega arith)
          ∙ (let e : a + n + (i - n) ≡ a + i = omega arith in ap (byte_at m) e)
    ]

twice : (a q : ℕ) (xs ys : List ℕ) (c x : Option Cell)
    → x ≡ cond (in_range a (length xs) q) (option_map (with_byte (get_or xs (q - a) 0)) c) c
    → cond (in_range (a + length xs) (length ys) q) (option_map (with_byte (get_or ys (q - (a + length xs)) 0)) x) x
    ≡ cond (in_range a (length (xs ++ ys)) q) (option_map (with_byte (get_or (xs ++ ys) (q - a) 0)) c) c
twice a q xs ys c x e =
    elim (cases_lt q (a + length xs)) [
      | inl before ↦ (
          let outside : in_range (a + length xs) (length ys) q ≡ false = grind (arith, nat_tests) in
          let same : in_range a (length xs) q ≡ in_range a (length (xs ++ ys)) q = first_part a q xs ys before in
          cond-false _ _ _ outside ∙ e ∙ ap (λ b. cond b (option_map (with_byte (get_or xs (q - a) 0)) c) c) same
          ∙ chosen (in_range a (length (xs ++ ys)) q)
          (λ inside. sym
          (get_or_append_left xs ys 0 (q - a)
          (let le : a ≤ q = from_range a (length (xs ++ ys)) q inside in omega arith))))
      | inr after ↦ (
          let outside : in_range a (length xs) q ≡ false = grind (arith, nat_tests) in
          let same : in_range (a + length xs) (length ys) q ≡ in_range a (length (xs ++ ys)) q
          = last_part a q xs ys after in
          let place : q - (a + length xs) ≡ q - a - length xs = omega arith in
          let is : x ≡ c = e ∙ cond-false _ _ _ outside in
          ap (λ o. cond (in_range (a + length xs) (length ys) q)
          (option_map (with_byte (get_or ys (q - (a + length xs)) 0)) o) o) is
          ∙ ap (λ b. cond b (option_map (with_byte (get_or ys (q - (a + length xs)) 0)) c) c) same
          ∙ chosen (in_range a (length (xs ++ ys)) q)
          (λ inside. ap (λ k. get_or ys k 0) place
          ∙ sym (get_or-append_right xs ys (length xs) (q - a) 0 refl (omega arith))))
    ]
  where
    first_part : (a q : ℕ) (xs ys : List ℕ) → q < a + length xs
        → in_range a (length xs) q ≡ in_range a (length (xs ++ ys)) q
    first_part a q xs ys h = let long = length-append xs ys in grind (arith, nat_tests)

    last_part : (a q : ℕ) (xs ys : List ℕ) → a + length xs ≤ q
        → in_range (a + length xs) (length ys) q ≡ in_range a (length (xs ++ ys)) q
    last_part a q xs ys h = let long = length-append xs ys in grind (arith, nat_tests)

    chosen : (b : Bool) → {v w : ℕ} → (b ≡ true → v ≡ w)
        → cond b (option_map (with_byte v) c) c ≡ cond b (option_map (with_byte w) c) c
    chosen true e = ap (λ z. option_map (with_byte z) c) (e refl)
    chosen false e = refl

pub written-append : (m : Memory) (a : ℕ) (xs ys : List ℕ)
    → write_at (write_at m a xs) (a + length xs) ys ≡ write_at m a (xs ++ ys)
unfolding write_at change_at
written-append m a xs ys =
    memory_of-same _ _ (λ q h. twice a q xs ys (map.get m q) (map.get (write_at m a xs) q) (get-written m a xs q h))

-- ---- numbers

pub to_le_bytes-4 : (v : ℕ) → to_le_bytes w32 v ≡ bytes_of 4 v
to_le_bytes-4 v =
    let third : v / 65536 ≡ v / 256 / 256 = omega arith in
    let fourth : v / 16777216 ≡ v / 256 / 256 / 256 = omega arith in
    λ i. v % 256 ∷ v / 256 % 256 ∷ third i % 256 ∷ fourth i % 256 ∷ []

pub to_le_bytes-2 : (v : ℕ) → to_le_bytes w16 v ≡ bytes_of 2 v
to_le_bytes-2 v = refl

pub number_of-bytes_of_4 : (v : ℕ) → v < 2 ^ 32 → number_of (bytes_of 4 v) ≡ v
number_of-bytes_of_4 v h = omega arith

pub number_of-bytes_of_2 : (v : ℕ) → number_of (bytes_of 2 v) ≡ v % 65536
number_of-bytes_of_2 v = omega arith

pub number_of-bytes_of_1 : (v : ℕ) → number_of (bytes_of 1 v) ≡ v % 256
number_of-bytes_of_1 v = omega arith
