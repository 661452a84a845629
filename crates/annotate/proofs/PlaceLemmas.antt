-- The places at which entries stand, in order.
use Rattle.std.proofs.Common.{◌≡◌, ◌≢◌, ◌⊎◌, inl, inr, ℕ, zero, suc, ◌+◌, ◌<◌, ◌≤◌, ◌==◌, Bool, true, false, cond, ◌||◌}
use Rattle.std.proofs.Common.{List, [], ◌∷◌, length}
use Rattle.std.proofs.Common.{get_or, Vec, All, refl, ap, sym, subst, ◌∙◌, arith, Option, None, Some, slice_get}
use Rattle.std.proofs.Common.{flat_map}
use Rattle.std.specs.List.{filter, list_any, range_with_len, AllByRecursion}
use Rattle.std.specs.List.Sorted.{IsStrictlySortedBy}
use Rattle.std.specs.Ordering.{nat_cmp, is_eq}
use Rattle.std.specs.declared.cmp.Ordering.TheVariants.{Less}
use Rattle.std.proofs.lemmas.Bool.{cases_eq}
use Rattle.std.proofs.lemmas.Bool.Decides.{nat_tests}
use Rattle.std.specs.BTreeMap as tree
use Rattle.std.specs.Option.{is_some, option_map}
use Rattle.std.specs.declared.alloc.Global.{Global}
use Rattle.std.proofs.lemmas.Map.Keys.{sorted_head, sorted_tail}
use Rattle.std.proofs.lemmas.Map.Made.{is_some-lookup}
use Rattle.std.specs.Cmp.{nat_cmp_total}
use Rattle.std.proofs.lemmas.List.{get_or-map, get_or_default, length-map}
use Rattle.std.proofs.lemmas.List.Elements.{All-head, All-tail}
use Rattle.std.proofs.lemmas.List.Folds.{flat_map-map}
use Rattle.std.proofs.lemmas.Map.Entries.{btree_map_get_place}
use Rattle.report_rows.proofs.ListLemmas.{flat_map_agree}
use Rattle.report_rows.specs.Entries.{AreAtPlaces, EntryValue, Places, if_any, is_at, entry_values}
use Rattle.report_rows.specs.declared.entries.Entry.{Entry}

is_some-map : {X Y : Type 0} (f : X → Y) (o : Option X) → is_some (option_map f o) ≡ is_some o
is_some-map f None = refl
is_some-map f (Some x) = refl

below_if_less : (x y : ℕ) → nat_cmp x y ≡ Less → x < y
below_if_less x y e = grind (arith, nat_tests)

all_above : (k a : ℕ) (ks : List ℕ) → a ≤ k → AllByRecursion (λ y. nat_cmp k y ≡ Less) ks
    → AllByRecursion (λ y. a + 1 ≤ y) ks
all_above k a [] le all = tt
all_above k a (y ∷ ks) le all =
    let up = below_if_less k y all.0 in
    (omega (arith, le, up), all_above k a ks le all.1)

none_here : (a : ℕ) (ks : List ℕ) → AllByRecursion (λ y. a + 1 ≤ y) ks → list_any (λ k. a == k) ks ≡ false
none_here a [] all = refl
none_here a (y ∷ ks) all =
    let apart : (a == y) ≡ false = let le = all.0 in grind (arith, nat_tests) in
    ap (λ b. b || list_any (λ k. a == k) ks) apart ∙ none_here a ks all.1

has_here : (a k : ℕ) (ks : List ℕ) → k ≡ a → list_any (λ x. a == x) (k ∷ ks) ≡ true
has_here a k ks same =
    let yes : (a == k) ≡ true = grind (arith, nat_tests) in
    ap (λ b. b || list_any (λ x. a == x) ks) yes

past_head : (q k : ℕ) (ks : List ℕ) → k < q → list_any (λ x. q == x) (k ∷ ks) ≡ list_any (λ x. q == x) ks
past_head q k ks lt =
    let no : (q == k) ≡ false = grind (arith, nat_tests) in
    ap (λ b. b || list_any (λ x. q == x) ks) no

shifted : (a n : ℕ) (ks : List ℕ) → AllByRecursion (λ k. k < a + suc n) ks → AllByRecursion (λ k. k < (a + 1) + n) ks
shifted a n [] all = tt
shifted a n (k ∷ ks) all = let lt = all.0 in (omega (arith, lt), shifted a n ks all.1)

-- numbers that rise, and are those that pass from a on, are these numbers
pub rising_are : (has : ℕ → Bool) (n a : ℕ) (ks : List ℕ) → IsStrictlySortedBy nat_cmp ks
    → ((q : ℕ) → a ≤ q → list_any (λ x. q == x) ks ≡ has q) → AllByRecursion (λ k. a ≤ k) ks
    → AllByRecursion (λ k. k < a + n) ks → ks ≡ filter has (range_with_len a n)
rising_are has zero a [] rise same low high = refl
rising_are has zero a (k ∷ ks) rise same low high = absurd (omega (arith, low.0, high.0))
rising_are has (suc n) a [] rise same low high =
    rising_are has n (a + 1) [] rise (λ q le. same q (omega (arith, le))) tt tt
    ∙ ap (λ b. cond b (a ∷ filter has (range_with_len (a + 1) n)) (filter has (range_with_len (a + 1) n)))
    (same a (omega arith))
rising_are has (suc n) a (k ∷ ks) rise same low high =
    by (cases_eq k a)
    (λ is. rising_are has n (a + 1) ks (sorted_tail nat_cmp k ks rise)
    (λ q le. sym (past_head q k ks (omega (arith, le, is))) ∙ same q (omega (arith, le)))
    (all_above k a ks low.0 (sorted_head nat_cmp k ks rise)) (shifted a n ks high.1))
    (λ up. rising_are has n (a + 1) (k ∷ ks) rise (λ q le. same q (omega (arith, le)))
    (up, all_above k a ks low.0 (sorted_head nat_cmp k ks rise)) (shifted a n (k ∷ ks) high))
  where
    by : (k ≡ a) ⊎ (k ≢ a) → (k ≡ a → ks ≡ filter has (range_with_len (a + 1) n))
        → (a + 1 ≤ k → k ∷ ks ≡ filter has (range_with_len (a + 1) n)) → k ∷ ks ≡ filter has (range_with_len a (suc n))
    by (inl is) rest skip =
        let yes : has a ≡ true = sym (same a (omega arith)) ∙ has_here a k ks is in
        ap (λ x. x ∷ ks) is ∙ ap (λ ys. a ∷ ys) (rest is)
        ∙ sym (ap (λ b. cond b (a ∷ filter has (range_with_len (a + 1) n)) (filter has (range_with_len (a + 1) n))) yes)
    by (inr differ) rest skip =
        let up : a + 1 ≤ k = let le = low.0 in omega (arith, le, differ) in
        let no : has a ≡ false = sym (same a (omega arith))
        ∙ none_here a (k ∷ ks) (up, all_above k a ks low.0 (sorted_head nat_cmp k ks rise)) in
        skip up ∙ sym (ap (λ b. cond b (a ∷ filter has (range_with_len (a + 1) n))
        (filter has (range_with_len (a + 1) n))) no)

slice_get_there : {X : Type 0} (xs : List X) (i : ℕ) (x : X) → i < length xs → x ≡ get_or xs i x
    → slice_get xs i ≡ Some x
slice_get_there [] i x lt is = absurd (omega arith)
slice_get_there (y ∷ xs) zero x lt is = ap Some (sym is)
slice_get_there (y ∷ xs) (suc i) x lt is = slice_get_there xs i x (omega arith) is

-- Entries at their places

pub is_some-if_any : (ks : List EntryValue) (n : ℕ) → is_some (if_any (filter (is_at n) ks)) ≡ list_any (is_at n) ks
is_some-if_any [] n = refl
is_some-if_any (k ∷ ks) n = cases (is_at n k) (is_some-if_any ks n)
  where
    cases : (b : Bool) → is_some (if_any (filter (is_at n) ks)) ≡ list_any (is_at n) ks
        → is_some (if_any (cond b (k ∷ filter (is_at n) ks) (filter (is_at n) ks))) ≡ (b || list_any (is_at n) ks)
    cases true rest = refl
    cases false rest = rest

any_agree : (p q : ℕ → Bool) → ((x : ℕ) → p x ≡ q x) → (xs : List ℕ) → list_any p xs ≡ list_any q xs
any_agree p q same [] = refl
any_agree p q same (x ∷ xs) = ap (λ b. b || list_any p xs) (same x) ∙ ap (λ b. q x || b) (any_agree p q same xs)

nat_cmp-is : (x y : ℕ) → is_eq (nat_cmp x y) ≡ (x == y)
nat_cmp-is x y = grind (arith, nat_tests)

module _ (ks : List EntryValue) (places : Places) (stands : AreAtPlaces ks places) where
  has_place : (n : ℕ) → list_any (λ x. n == x) (tree.keys places) ≡ list_any (is_at n) ks
  has_place n =
      sym (any_agree (λ x. is_eq (nat_cmp n x)) (λ x. n == x) (λ x. nat_cmp-is n x) (tree.keys places))
      ∙ sym (is_some-lookup (λ x. is_eq (nat_cmp n x)) places.entries)
      ∙ sym (is_some-map (λ (entries : Vec Entry Global). entry_values entries.items) (tree.get nat_cmp places n))
      ∙ ap is_some (stands.exact n) ∙ is_some-if_any ks n

  pub said_is : (n : ℕ) (v : Vec Entry Global) → tree.get nat_cmp places n ≡ Some v → entry_values v.items ≡ filter (is_at n) ks
  said_is n v got = from (filter (is_at n) ks)
      (sym (ap (option_map (λ (w : Vec Entry Global). entry_values w.items)) got) ∙ stands.exact n)
    where
      from : (xs : List EntryValue) → Some (entry_values v.items) ≡ if_any xs → entry_values v.items ≡ xs
      from [] e = absurd (cc)
      from (x ∷ xs) e = cc

any_below : (n q : ℕ) (xs : List EntryValue) → All (λ k. k.at < n) xs → list_any (is_at q) xs ≡ true → q < n
any_below n q [] all e = absurd (cc)
any_below n q (x ∷ xs) all e =
    cases (x.at == q) refl (λ rest. any_below n q xs (All-tail (λ k. k.at < n) x xs all) rest)
  where
    cases : (b : Bool) → (x.at == q) ≡ b → (list_any (is_at q) xs ≡ true → q < n) → q < n
    cases true is later =
        let first : x.at < n = All-head (λ k. k.at < n) x xs all in
        let same : x.at ≡ q = grind (arith, nat_tests) in
        omega (arith, first, same)
    cases false is later = later (sym (ap (λ b. b || list_any (is_at q) xs) is) ∙ e)

or_true : (b : Bool) → (b || true) ≡ true
or_true true = refl
or_true false = refl

here_any : (keys : List ℕ) (i : ℕ) → i < length keys → list_any (λ x. get_or keys i 0 == x) keys ≡ true
here_any [] i lt = absurd (omega arith)
here_any (x ∷ xs) zero lt = ap (λ b. b || list_any (λ y. x == y) xs)
    (let e : (x == x) ≡ true = grind (arith, nat_tests) in e)
here_any (x ∷ xs) (suc i) lt =
    ap (λ b. (get_or xs i 0 == x) || b) (here_any xs i (omega arith)) ∙ or_true (get_or xs i 0 == x)

all_low : (keys : List ℕ) → AllByRecursion (λ k. 0 ≤ k) keys
all_low [] = tt
all_low (k ∷ keys) = (omega arith, all_low keys)

all_high : (n : ℕ) (xs : List ℕ) → All (λ q. q < n) xs → AllByRecursion (λ k. k < 0 + n) xs
all_high n [] all = tt
all_high n (x ∷ xs) all = (
  let lt : x < n = All-head (λ q. q < n) x xs all in omega (arith, lt),
  all_high n xs
      (All-tail (λ q. q < n) x xs all),
)

module _ (ks : List EntryValue) (places : Places) (stands : AreAtPlaces ks places) (n : ℕ)
    (below : All (λ k. k.at < n) ks) where
  abbrev keys : List ℕ
  keys = tree.keys places

  keys_below : All (λ q. q < n) keys
  keys_below i d lt =
      let any = sym (has_place ks places stands (get_or keys i 0)) ∙ here_any keys i lt in
      subst (λ q. q < n) (get_or_default keys i 0 d lt) (any_below n (get_or keys i 0) ks below any)

  keys_are : keys ≡ filter (λ m. list_any (is_at m) ks) (range_with_len 0 n)
  keys_are =
      rising_are (λ m. list_any (is_at m) ks) n 0 keys stands.ordered (λ q le. has_place ks places stands q)
      (all_low keys)
      (all_high n keys keys_below)

  -- the place of an entry of the map, and what stands there
  pub place_below : (i : ℕ) (e : ℕ × Vec Entry Global) → i < length places.entries → e ≡ get_or places.entries i e
      → e.0 < n
  place_below i e lt is =
      let at = get_or-map (λ (x : ℕ × Vec Entry Global). x.0) places.entries i e 0 lt in
      let size = length-map places.entries (λ (x : ℕ × Vec Entry Global). x.0) in
      let low = keys_below i 0 (omega (arith, lt, size)) in
      omega (arith, low, at, ap (λ (x : ℕ × Vec Entry Global). x.0) is)

  pub said_there : (i : ℕ) (e : ℕ × Vec Entry Global) → i < length places.entries → e ≡ get_or places.entries i e
      → entry_values e.1.items ≡ filter (is_at e.0) ks
  said_there i e lt is =
      said_is ks places stands e.0 e.1
      (btree_map_get_place nat_cmp_total places i e.0 e.1 stands.ordered
      (slice_get_there places.entries i e lt is))

  -- a text for each place at which entries stand
  pub place_texts : (g : ℕ → List EntryValue → List ℕ) → flat_map (λ e. g e.0 (entry_values e.1.items)) places.entries
      ≡ flat_map (λ m. g m (filter (is_at m) ks)) (filter (λ m. list_any (is_at m) ks) (range_with_len 0 n))
  place_texts g =
      flat_map_agree (λ e. g e.0 (entry_values e.1.items)) (λ e. g e.0 (filter (is_at e.0) ks)) places.entries
      (λ i d lt. ap (g (get_or places.entries i d).0)
      (said_there i (get_or places.entries i d) lt (get_or_default places.entries i d (get_or places.entries i d) lt)))
      ∙ sym (flat_map-map (λ m. g m (filter (is_at m) ks)) (λ (e : ℕ × Vec Entry Global). e.0) places.entries)
      ∙ ap (flat_map (λ m. g m (filter (is_at m) ks))) keys_are
