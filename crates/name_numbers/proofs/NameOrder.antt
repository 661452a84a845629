-- Names in the order of their bytes, and their numbers.
use Rattle.std.proofs.Common.{◌≡◌, ◌≢◌, ℕ, ◌+◌, ◌-◌, ◌<◌, ◌≤◌, List, [], ◌∷◌, ◌++◌, length, get_or, map, take, drop}
use Rattle.std.proofs.Common.{Some, zero, suc, refl, sym, ap, ◌∙◌, subst, Contains, ◌⊎◌, ⊎_elim, Ordering, option_map, arith}
use Rattle.std.specs.Prelude.{All, slice_get, slice_set}
use Rattle.std.specs.declared.cmp.Ordering.TheVariants.{Less, Equal, Greater}
use Rattle.std.specs.Cmp.{IsTotalOrder, IsStrictWeakOrder}
use Rattle.std.specs.Cmp.Lexicographic.{slice_cmp}
use Rattle.std.specs.Ordering.{nat_cmp, is_lt, ordering_then}
use Rattle.std.specs.List.Sorted.{IsPermutation, IsSortedBy}
use Rattle.std.proofs.lemmas.Cmp.{on_total, then_total, nat_cmp_total, nat_list_cmp_total}
use Rattle.std.proofs.lemmas.List.{length-map, length_push, get_or-map, get_or_append_left, get_or_push}
use Rattle.std.proofs.lemmas.List.{length-take-le, get_or-take, get_or_default, map_push, take_all}
use Rattle.std.proofs.lemmas.List.Elements.{All-contains, All-map, All-push, All-weaker}
use Rattle.std.proofs.lemmas.List.Elements.{Contains-append_left, Contains-push, Contains-push_cases}
use Rattle.std.proofs.lemmas.List.Sorted.{Contains-permutation, IsPermutation-map, length_permutation, ranks_by}
use Rattle.std.proofs.lemmas.Option.{slice_get-get_or, slice_get-map, slice_get_within, get_or_from_slice_get}
use Rattle.byte_text.specs.Ties.{same_texts}
use Rattle.name_numbers.specs.declared.name_order.Fronted.{Fronted}
use Rattle.name_numbers.specs.declared.numbering.Tagged.{Tagged}
use Rattle.name_numbers.specs.inner.Fronts.{front_of, IsFront}
use Rattle.name_numbers.specs.Keys.{NumberEach}
use Rattle.name_numbers.specs.declared.text_place.TextPlace.{TextPlace}
use Rattle.name_numbers.specs.inner.Places.{BeginsWith}
use Rattle.name_numbers.specs.Texts.{IsInFile, text_at, texts_at}
use Rattle.name_numbers.specs.inner.NameOrder.{name_of, name_in, tail_of, by_front, is_name_before}
use Rattle.name_numbers.specs.inner.NameOrder.{IsFronted, AreAllNumbers, HaveOneFrontEach}
use Rattle.name_numbers.specs.inner.Tagging.{HaveOneKeyEach}
use Rattle.name_numbers.proofs.Fronts.{fronts_decide}
use Rattle.name_numbers.proofs.NumberOrder.{sorted_map}
use Rattle.name_numbers.proofs.Members.{Alike-permutation, All-alike}
use Rattle.name_numbers.proofs.NameRanks.{cmp_behind, behind_common}
use Rattle.name_numbers.proofs.NumberOrder.{nested}
use Rattle.name_numbers.proofs.Tags.{IsGathered, IsKept, IsNumbered, key_of, place_of, none_gathered, again, another}
use Rattle.name_numbers.proofs.Tags.{one_key_each, all_within, numbers_moved}

abbrev number_of : Fronted → ℕ
number_of one = one.number

-- ---- names are in the order of their fronts

module _ (names : List (List ℕ)) (skip : ℕ) where
  front_total : IsTotalOrder (by_front names skip)
  front_total =
      then_total (on_total (λ (one : Fronted). one.front) nat_cmp_total)
      (on_total (λ (one : Fronted). tail_of names skip one.number) nat_list_cmp_total)

  pub front_weak : IsStrictWeakOrder (λ (x y : Fronted). is_lt (by_front names skip x y))
  front_weak = ranks_by front_total (λ (one : Fronted). one)

  pub one_front : (order : List Fronted) → All (IsFronted names skip) order → HaveOneFrontEach names order
  one_front order fronts x y here there same =
      (All-contains (IsFronted names skip) order x fronts here).number
      ∙ ap (λ (name : List ℕ). front_of (drop skip name) 8) same
      ∙ sym (All-contains (IsFronted names skip) order y fronts there).number

module _ (names : List (List ℕ)) (common : List ℕ) (begin : All (BeginsWith common) names) where
  tails_compare : (i j : ℕ) → i < length names → j < length names
      → slice_cmp nat_cmp (tail_of names (length common) i) (tail_of names (length common) j)
      ≡ slice_cmp nat_cmp (name_of names i) (name_of names j)
  tails_compare i j first second =
      sym (cmp_behind common (tail_of names (length common) i) (tail_of names (length common) j))
      ∙ (λ k. slice_cmp nat_cmp (behind_common common (name_of names i) (begin i [] first) k)
      (behind_common common (name_of names j) (begin j [] second) k))

  by_front_agrees : (x y : Fronted) → x.number < length names → y.number < length names
      → IsFronted names (length common) x → IsFronted names (length common) y
      → by_front names (length common) x y ≡ slice_cmp nat_cmp (name_in names x) (name_in names y)
  by_front_agrees x y first second here there =
      go (nat_cmp x.front y.front) refl ∙ tails_compare x.number y.number first second
    where
      s : List ℕ
      s = tail_of names (length common) x.number

      t : List ℕ
      t = tail_of names (length common) y.number

      decided : nat_cmp x.front y.front ≢ Equal → nat_cmp x.front y.front ≡ slice_cmp nat_cmp s t
      decided = fronts_decide s t 8 x.front y.front here there

      go : (o : Ordering) → nat_cmp x.front y.front ≡ o → ordering_then o (slice_cmp nat_cmp s t) ≡ slice_cmp nat_cmp s t
      go Equal e = refl
      go Less e = sym e ∙ decided (λ q. let P : Less ≡ Equal = sym e ∙ q in absurd (cc))
      go Greater e = sym e ∙ decided (λ q. let P : Greater ≡ Equal = sym e ∙ q in absurd (cc))

  pub sorted_by_name : (order : List Fronted) → All (λ (one : Fronted). one.number < length names) order
      → All (IsFronted names (length common)) order
      → IsSortedBy (λ (x y : Fronted). is_lt (by_front names (length common) x y)) order
      → IsSortedBy (is_name_before names) order
  sorted_by_name order below fronts sorted k d low high =
      ap is_lt (sym (by_front_agrees (get_or order (k + 1) d) (get_or order k d) (below (k + 1) d high)
      (below k d (omega arith)) (fronts (k + 1) d high) (fronts k d (omega arith)))) ∙ sorted k d low high

-- ---- a name that is the same as the one before

module _ (names : List (List ℕ)) (before : List Fronted) (one last : Fronted)
    (at : slice_get before (length before - 1) ≡ Some last) where
  name_there : slice_get (map (name_in names) before) (length before - 1) ≡ Some (name_in names last)
  name_there = slice_get-map (name_in names) before (length before - 1) ∙ ap (option_map (name_in names)) at

  same_name : {x y : List ℕ} → Some x ≡ Some y → x ≡ y
  same_name e = cc

  pub repeated : slice_get (map (name_in names) before) (length before - 1) ≡ Some (name_in names one)
      → name_in names last ≡ name_in names one
  repeated same = same_name (sym name_there ∙ same)

  pub repeats_where : name_in names last ≡ name_in names one
      → slice_get (map (name_in names) before) (length before - 1) ≡ Some (name_in names one)
  repeats_where same = name_there ∙ ap (λ (x : List ℕ). Some x) same

  pub repeated_front : HaveOneFrontEach names (before ++ one ∷ [])
      → slice_get (map (name_in names) before) (length before - 1) ≡ Some (name_in names one)
      → last.front ≡ one.front
  repeated_front alike same =
      let within : length before - 1 < length before = slice_get_within before (length before - 1) last at in
      alike last one
      (Contains-append_left before (one ∷ []) last
      (length before - 1, within, get_or_from_slice_get before (length before - 1) last last at))
      (Contains-push before one) (repeated same)

-- ---- all numbers

-- each has its place as its number
pub record AreInOrder (order : List Fronted) (count : ℕ) : Type 0 where
  pub as_many : length order ≡ count
  pub at : (k : ℕ) (d : Fronted) → k < count → (get_or order k d).number ≡ k

pub all_in_order : (order : List Fronted) (count : ℕ) → AreInOrder order count → AreAllNumbers count order
all_in_order order count so =
    let many = so.as_many in
    let long = length-map order number_of in
    let none : Fronted = record { front = 0; number = 0 } in
    record {
      as_many = many;
      below = λ k d lt. let at = so.at k d (omega (arith, many)) in omega (arith, at, many);
      all = λ k lt. (
        k,
        (omega (arith, long, many)),
        get_or-map number_of order k none k (omega (arith, many)) ∙ so.at k none lt,
      );
    }

pub fronted_more : (names : List (List ℕ)) (skip : ℕ) (order : List Fronted) (number front : ℕ)
    → All (IsFronted names skip) order → IsFront (tail_of names skip number) 8 front
    → All (IsFronted names skip) (order ++ record { front = front; number = number } ∷ [])
fronted_more names skip order number front all here =
    All-push (IsFronted names skip) order (record { front = front; number = number }) all here

pub in_order_more : (order : List Fronted) (count front : ℕ) → AreInOrder order count
    → AreInOrder (order ++ record { front = front; number = count } ∷ []) (count + 1)
in_order_more order count front so =
    let many = so.as_many in
    let one : Fronted = record { front = front; number = count } in
    record {
      as_many = length_push order one ∙ ap (λ n. n + 1) many;
      at = λ k d lt.
          ⊎_elim
          (λ (old : k < length order). ap number_of (get_or_append_left order (one ∷ []) d k old) ∙ so.at k d (omega arith))
          (λ (new : length order ≡ k). ap number_of (get_or_push order one d k new) ∙ sym many ∙ new)
          (let P : (k < length order) ⊎ (length order ≡ k) = either k (length order) (omega arith) in P);
    }
  where
    either : (a b : ℕ) → a < b + 1 → (a < b) ⊎ (b ≡ a)
    either a b lt = grind arith

pub numbers_permuted : (count : ℕ) (xs ys : List Fronted) → IsPermutation xs ys → AreAllNumbers count xs
    → AreAllNumbers count ys
numbers_permuted count xs ys moved so =
    record {
      as_many = length_permutation xs ys moved ∙ so.as_many;
      below = All-alike (λ (one : Fronted). one.number < count) xs ys
          (λ t. ((Alike-permutation xs ys moved t).1, (Alike-permutation xs ys moved t).0)) so.below;
      all = λ k lt. Contains-permutation (map number_of xs) (map number_of ys) k
          (IsPermutation-map number_of xs ys moved) (so.all k lt);
    }

pub fronts_permuted : (names : List (List ℕ)) (skip : ℕ) (xs ys : List Fronted) → IsPermutation xs ys
    → All (IsFronted names skip) xs → All (IsFronted names skip) ys
fronts_permuted names skip xs ys moved fronts =
    All-alike (IsFronted names skip) xs ys
    (λ t. ((Alike-permutation xs ys moved t).1, (Alike-permutation xs ys moved t).0)) fronts

-- ---- names that are gathered

length_zero : {X : Type 0} (xs : List X) → length xs ≡ 0 → xs ≡ []
length_zero [] e = refl
length_zero (x ∷ xs) e = absurd (omega arith)

abbrev tagged_in : List (List ℕ) → Fronted → Tagged (List ℕ)
tagged_in names one = record { key = name_in names one; place = one.number }

abbrev pub AreGathered : List (List ℕ) → List Fronted → ℕ → List (List ℕ) → List ℕ → Type 0
AreGathered names order i keys numbers =
    IsGathered (slice_cmp nat_cmp) nat_list_cmp_total same_texts (map (tagged_in names) order) i keys numbers

pub names_none : (names : List (List ℕ)) (order : List Fronted) (numbers : List ℕ) → length numbers ≡ length order
    → AreGathered names order 0 [] numbers
names_none names order numbers as_many =
    none_gathered (slice_cmp nat_cmp) nat_list_cmp_total same_texts (map (tagged_in names) order) numbers
    (as_many ∙ sym (length-map order (tagged_in names)))

module _ (names : List (List ℕ)) (order : List Fronted) (all : AreAllNumbers (length names) order) where
  kept : IsKept names (map (tagged_in names) order)
  kept =
      All-map (λ (t : Tagged (List ℕ)). slice_get names t.place ≡ Some t.key) (tagged_in names) order
      (All-weaker (λ (one : Fronted). one.number < length names)
      (λ (one : Fronted). slice_get names one.number ≡ Some (name_in names one))
      (λ one lt. slice_get-get_or names one.number [] lt) order all.below)

  pub numbered_all : (keys : List (List ℕ)) (numbers : List ℕ) → AreGathered names order (length order) keys numbers
      → NumberEach keys numbers names
  numbered_all keys numbers so =
      let ts : List (Tagged (List ℕ)) = map (tagged_in names) order in
      let long : length ts ≡ length order = length-map order (tagged_in names) in
      numbers_moved keys names numbers ts (long ∙ all.as_many) kept
      (λ k lt. subst (λ (ns : List ℕ). Contains ns k) (sym (nested (tagged_in names) place_of order)) (all.all k lt))
      (record {
        as_many = so.as_many;
        each = subst (All (IsNumbered keys numbers)) (take_all (length order) ts (omega (arith, long))) so.each;
      })

  module _ (i : ℕ) (keys : List (List ℕ)) (numbers : List ℕ) (one : Fronted) (lt : i < length order)
      (is : one ≡ get_or order i one) (so : AreGathered names order i keys numbers) where
    abbrev ts : List (Tagged (List ℕ))
    ts = map (tagged_in names) order

    long : length ts ≡ length order
    long = length-map order (tagged_in names)

    inside : i < length ts
    inside = omega (arith, long)

    stands : tagged_in names one ≡ get_or ts i (tagged_in names one)
    stands = ap (tagged_in names) is ∙ sym (get_or-map (tagged_in names) order i one (tagged_in names one) lt)

    one_key : HaveOneKeyEach ts
    one_key = one_key_each names ts kept

    within : All (λ (t : Tagged (List ℕ)). t.place < length ts) ts
    within = all_within names ts (length ts) (sym (long ∙ all.as_many)) kept

    -- the last one before it is the last of the keys
    last_before : (before : List Fronted) → before ≡ take i order
        → slice_get (map (name_in names) before) (length before - 1) ≡ slice_get keys (length keys - 1)
    last_before before e = go i refl
      where
        short : length before ≡ i
        short = ap length e ∙ length-take-le i order (omega arith)

        few : length keys ≤ i
        few = so.few

        go : (n : ℕ) → i ≡ n
            → slice_get (map (name_in names) before) (length before - 1) ≡ slice_get keys (length keys - 1)
        go zero z =
            let none : before ≡ [] = length_zero before (short ∙ z) in
            let no_key : keys ≡ [] = length_zero keys (omega (arith, few, z)) in
            ap (λ (xs : List Fronted). slice_get (map (name_in names) xs) (length xs - 1)) none
            ∙ sym (ap (λ (xs : List (List ℕ)). slice_get xs (length xs - 1)) no_key)
        go (suc j) next =
            let wide = length-map before (name_in names) in
            let n : length before - 1 ≡ j = omega (arith, short, next) in
            let below : j < i = omega (arith, next) in
            ap (slice_get (map (name_in names) before)) n
            ∙ slice_get-get_or (map (name_in names) before) j [] (omega (arith, wide, short, below))
            ∙ ap (λ (x : List ℕ). Some x) (get_or-map (name_in names) before j one [] (omega (arith, short, below))
            ∙ ap (λ (xs : List Fronted). name_in names (get_or xs j one)) e
            ∙ ap (name_in names) (get_or-take i order j one below)
            ∙ sym (ap key_of (get_or-map (tagged_in names) order j one (tagged_in names one) (omega (arith, below)))))
            ∙ sym (so.last j (tagged_in names one) (omega (arith, next)))

    pub name_again : (before : List Fronted) → before ≡ take i order
        → slice_get (map (name_in names) before) (length before - 1) ≡ Some (name_in names one)
        → AreGathered names order (i + 1) keys (slice_set numbers one.number (length keys - 1))
    name_again before e same =
        again (slice_cmp nat_cmp) nat_list_cmp_total same_texts ts i keys numbers (tagged_in names one) inside stands
        one_key within so (sym (last_before before e) ∙ same)

    pub another_name : (before : List Fronted) → before ≡ take i order → IsSortedBy (is_name_before names) order
        → slice_get (map (name_in names) before) (length before - 1) ≢ Some (name_in names one)
        → AreGathered names order (i + 1) (keys ++ name_in names one ∷ [])
        (slice_set numbers one.number (length (keys ++ name_in names one ∷ []) - 1))
    another_name before e sorted other =
        another (slice_cmp nat_cmp) nat_list_cmp_total same_texts ts i keys numbers (tagged_in names one) inside stands
        one_key within so
        (sorted_map (tagged_in names) (λ (x y : Tagged (List ℕ)). is_lt (slice_cmp nat_cmp x.key y.key)) order sorted)
        (λ same. other (last_before before e ∙ same))

    pub name_before : (before : List Fronted) → before ≡ take i order
        → slice_get (map (name_in names) before) (length before - 1) ≡ Some (name_in names one) → 1 ≤ length keys
    name_before before e same =
        let within : length keys - 1 < length keys =
        slice_get_within keys (length keys - 1) (name_in names one) (sym (last_before before e) ∙ same) in
        omega arith

-- those up to one are among all
up_to : (order : List Fronted) (i : ℕ) (d : Fronted) → i < length order → (x : Fronted)
    → Contains (take i order ++ get_or order i d ∷ []) x → Contains order x
up_to order i d lt x h =
    let short : length (take i order) ≡ i = length-take-le i order (omega arith) in
    ⊎_elim
    (λ (old : Contains (take i order) x).
    let a = old.1 in
    let below : old.0 < i = omega (arith, a, short) in
    (old.0, (omega (arith, below)), sym (get_or-take i order old.0 x below) ∙ old.2))
    (λ (new : get_or order i d ≡ x). (i, lt, get_or_default order i x d lt ∙ new))
    (Contains-push_cases (take i order) (get_or order i d) x h)

pub one_front_up_to : (names : List (List ℕ)) (order : List Fronted) (i : ℕ) (d : Fronted) → i < length order
    → HaveOneFrontEach names order → HaveOneFrontEach names (take i order ++ get_or order i d ∷ [])
one_front_up_to names order i d lt alike x y here there =
    alike x y (up_to order i d lt x here) (up_to order i d lt y there)

-- ---- the places of names that are gathered

pub record ArePlaced (bytes : List ℕ) (places : List TextPlace) (order : List Fronted) (i : ℕ) (keys : List TextPlace)
    (numbers : List ℕ) : Type 0 where
  pub gather : AreGathered (texts_at bytes places) order i (texts_at bytes keys) numbers
  pub in_file : All (IsInFile bytes) keys

pub none_placed : (bytes : List ℕ) (places : List TextPlace) (order : List Fronted) (numbers : List ℕ)
    → length numbers ≡ length order → ArePlaced bytes places order 0 [] numbers
none_placed bytes places order numbers as_many =
    record {
      gather = names_none (texts_at bytes places) order numbers as_many;
      in_file = λ k d lt. absurd (omega arith);
    }

module _ (bytes : List ℕ) (places : List TextPlace) (order : List Fronted)
    (numbered : AreAllNumbers (length places) order) where
  abbrev names : List (List ℕ)
  names = texts_at bytes places

  all_names : AreAllNumbers (length names) order
  all_names = subst (λ n. AreAllNumbers n order) (sym (length-map places (text_at bytes))) numbered

  pub placed_all : (i : ℕ) (keys : List TextPlace) (numbers : List ℕ) → i ≡ length order
      → ArePlaced bytes places order i keys numbers → NumberEach (texts_at bytes keys) numbers names
  placed_all i keys numbers end so =
      numbered_all names order all_names (texts_at bytes keys) numbers
      (subst (λ n. AreGathered names order n (texts_at bytes keys) numbers) end so.gather)

  module _ (i : ℕ) (keys : List TextPlace) (numbers : List ℕ) (d : Fronted) (lt : i < length order)
      (so : ArePlaced bytes places order i keys numbers) where
    abbrev one : Fronted
    one = get_or order i d

    is : one ≡ get_or order i one
    is = get_or_default order i d one lt

    pub some_placed : slice_get (map (name_in names) (take i order)) (length (take i order) - 1)
        ≡ Some (name_in names one) → 1 ≤ length keys
    some_placed same =
        let some : 1 ≤ length (texts_at bytes keys) =
        name_before names order all_names i (texts_at bytes keys) numbers one lt is so.gather (take i order) refl
        same in
        omega (arith, some, length-map keys (text_at bytes))

    pub placed_again : slice_get (map (name_in names) (take i order)) (length (take i order) - 1)
        ≡ Some (name_in names one)
        → ArePlaced bytes places order (i + 1) keys (slice_set numbers one.number (length keys - 1))
    placed_again same =
        record {
          gather = subst (λ n. AreGathered names order (i + 1) (texts_at bytes keys)
              (slice_set numbers one.number (n - 1))) (length-map keys (text_at bytes))
              (name_again names order all_names i (texts_at bytes keys) numbers one lt is so.gather (take i order) refl
              same);
          in_file = so.in_file;
        }

    pub placed_more : (p : TextPlace) → All (IsInFile bytes) places → IsSortedBy (is_name_before names) order
        → slice_get (map (name_in names) (take i order)) (length (take i order) - 1) ≢ Some (name_in names one)
        → ArePlaced bytes places order (i + 1) (keys ++ get_or places one.number p ∷ [])
        (slice_set numbers one.number (length (keys ++ get_or places one.number p ∷ []) - 1))
    placed_more p in_file sorted other =
        let below : one.number < length places = numbered.below i d lt in
        let place : TextPlace = get_or places one.number p in
        let name : name_in names one ≡ text_at bytes place =
        get_or-map (text_at bytes) places one.number p [] below in
        let more : texts_at bytes keys ++ name_in names one ∷ [] ≡ texts_at bytes (keys ++ place ∷ []) =
        ap (λ (x : List ℕ). texts_at bytes keys ++ x ∷ []) name ∙ sym (map_push (text_at bytes) keys place) in
        let long : length (texts_at bytes keys ++ name_in names one ∷ []) ≡ length (keys ++ place ∷ []) =
        ap length more ∙ length-map (keys ++ place ∷ []) (text_at bytes) in
        record {
          gather = subst (λ n. AreGathered names order (i + 1) (texts_at bytes (keys ++ place ∷ []))
              (slice_set numbers one.number (n - 1))) long
              (subst (λ (ks : List (List ℕ)). AreGathered names order (i + 1) ks (slice_set numbers one.number
              (length (texts_at bytes keys ++ name_in names one ∷ []) - 1))) more
              (another_name names order all_names i (texts_at bytes keys) numbers one lt is so.gather (take i order)
              refl sorted other));
          in_file = All-push (IsInFile bytes) keys place so.in_file (in_file one.number p below);
        }
