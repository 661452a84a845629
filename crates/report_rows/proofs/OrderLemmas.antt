-- Functions and groups in their orders.
use Rattle.std.proofs.Common.{◌≡◌, ◌≢◌, ◌⊎◌, inl, inr, ℕ, ◌+◌, ◌*◌, ◌<◌, ◌==◌, nat_le, Bool, true, false, cond, List}
use Rattle.std.proofs.Common.{[], ◌∷◌, ◌++◌, length}
use Rattle.std.proofs.Common.{get_or, set, take, map, Vec, All, refl, ap, sym, subst, ◌∙◌, zero-add, arith}
use Rattle.std.specs.List.{filter, IsDistinct}
use Rattle.std.specs.List.Sorted.{IsPermutation, IsSorted}
use Rattle.std.specs.Ordering.{is_lt, nat_cmp, ordering_then}
use Rattle.std.specs.declared.cmp.Ordering.{Ordering}
use Rattle.std.specs.declared.cmp.Ordering.TheVariants.{Less, Equal, Greater}
use Rattle.std.specs.declared.alloc.Global.{Global}
use Rattle.std.proofs.lemmas.Bool.{cases_eq}
use Rattle.std.proofs.lemmas.Bool.Decides.{nat_tests}
use Rattle.std.proofs.lemmas.List.{length-map, get_or-map, get_or_default, take_more, length-set, map-append, append-nil}
use Rattle.std.proofs.lemmas.List.Elements.{All-map, filter-append}
use Rattle.std.proofs.lemmas.List.FromFn.{length-range_with_len, get_or-range_with_len}
use Rattle.std.proofs.lemmas.List.Sorted.{All-permutation, IsPermutation-map, length_permutation}
use Rattle.std.proofs.lemmas.Map.Keys.{IsDistinct-from_apart, IsDistinct-IsPermutation, apart_from_distinct}
use Rattle.cg_read.specs.Profiles.{function_at}
use Rattle.cg_read.specs.Ranks.{AreRanks, rank_at}
use Rattle.cg_read.specs.declared.function_numbers.FunctionNumbers.{FunctionNumbers}
use Rattle.cg_read.specs.declared.rows.FuncKey.{FuncKey}
use Rattle.report_rows.specs.Orders.{IsArranged, cost_at, key_order, numbers, text_order}
use Rattle.report_rows.specs.declared.options.ReportOptions.{ReportOptions}
use Rattle.report_rows.specs.declared.order.NumberedFunction.{NumberedFunction}
use Rattle.report_rows.specs.declared.order.Rank.{Rank}
use Rattle.report_rows.specs.Ranks.{AreShown, is_enough, least_at, numbered_function, rank_of, rank_order}
use Rattle.report_rows.specs.Tables.{AreLists, list_at, lists}
use Rattle.report_rows.proofs.EntryLemmas.{list_at-set_same, list_at-set_other, list_at_read}
use Rattle.report_rows.proofs.ListLemmas.{filter_of_map, filter_agree_on, range_more}

-- Numbers from 0

pub numbers_below : (n : ℕ) → All (λ k. k < n) (numbers n)
numbers_below n k d lt =
    let size = length-range_with_len 0 n in
    omega (arith, get_or-range_with_len 0 n k d (omega (arith, lt, size)), lt, size)

numbers_differ : (n : ℕ) → IsDistinct (λ x y. x == y) (numbers n)
numbers_differ n = IsDistinct-from_apart (λ x y. x == y) (numbers n) (λ i j d less lt. apart i j d less lt)
  where
    apart : (i j d : ℕ) → i < j → j < length (numbers n) → (get_or (numbers n) i d == get_or (numbers n) j d) ≡ false
    apart i j d less lt =
        let size = length-range_with_len 0 n in
        let first = get_or-range_with_len 0 n i d (omega (arith, lt, less, size)) in
        let second = get_or-range_with_len 0 n j d (omega (arith, lt, size)) in
        let differ : get_or (numbers n) i d ≢ get_or (numbers n) j d = omega (arith, first, second, less) in
        grind (arith, nat_tests)

-- of numbers in another order each is below their number, and stands once
pub all_below : (n : ℕ) (order : List ℕ) → IsPermutation (numbers n) order → All (λ k. k < n) order
all_below n order same = All-permutation (λ k. k < n) (numbers n) order same (numbers_below n)

pub places_differ : (n : ℕ) (order : List ℕ) (i j : ℕ) → IsPermutation (numbers n) order → i < j → j < length order
    → get_or order i 0 ≢ get_or order j 0
places_differ n order i j same less lt =
    let flips : (x y : ℕ) → (x == y) ≡ (y == x) = λ x y. grind (arith, nat_tests) in
    let apart = apart_from_distinct (λ x y. x == y) order i j 0
    (IsDistinct-IsPermutation (λ x y. x == y) flips (numbers n) order same (numbers_differ n)) less lt in
    λ e. grind (arith, nat_tests)

-- Lists by a key

module _ {X : Type 0} (key : X → ℕ) where
  abbrev is_at : ℕ → X → Bool
  is_at n x = key x == n

  one_yes : (n : ℕ) (xs : List X) (x : X) → (key x == n) ≡ true
      → filter (is_at n) (xs ++ x ∷ []) ≡ filter (is_at n) xs ++ x ∷ []
  one_yes n xs x e = filter-append (is_at n) xs (x ∷ []) ∙ ap (λ b. filter (is_at n) xs ++ cond b (x ∷ []) []) e

  one_no : (n : ℕ) (xs : List X) (x : X) → (key x == n) ≡ false → filter (is_at n) (xs ++ x ∷ []) ≡ filter (is_at n) xs
  one_no n xs x e =
      filter-append (is_at n) xs (x ∷ []) ∙ ap (λ b. filter (is_at n) xs ++ cond b (x ∷ []) []) e
      ∙ append-nil (filter (is_at n) xs)

  pub lists_more : (count : ℕ) (xs : List X) (i : ℕ) (x d : X) (rows : List (Vec X Global)) (old v : Vec X Global)
      → i < length xs → x ≡ get_or xs i d → key x < count → AreLists count (λ n. filter (is_at n) (take i xs)) rows
      → old ≡ get_or rows (key x) old → v.items ≡ old.items ++ x ∷ []
      → AreLists count (λ n. filter (is_at n) (take (i + 1) xs)) (set rows (key x) v)
  lists_more count xs i x d rows old v lt is within stands read pushed = record {
    size = length-set rows (key x) v ∙ stands.size;
    exact = λ n below. at n below (cases_eq n (key x));
  }
    where
      more : take (i + 1) xs ≡ take i xs ++ x ∷ []
      more = take_more xs i d lt ∙ ap (λ y. take i xs ++ y ∷ []) (sym is)

      here : list_at (set rows (key x) v) (key x) ≡ filter (is_at (key x)) (take (i + 1) xs)
      here =
          let inside : key x < length rows = omega (arith, within, stands.size) in
          let yes : (key x == key x) ≡ true = grind (arith, nat_tests) in
          list_at-set_same rows (key x) v inside ∙ pushed
          ∙ ap (λ ys. ys ++ x ∷ []) (list_at_read rows (key x) old inside read ∙ stands.exact (key x) within)
          ∙ sym (ap (filter (is_at (key x))) more ∙ one_yes (key x) (take i xs) x yes)

      at : (n : ℕ) → n < count → (n ≡ key x) ⊎ (n ≢ key x)
          → list_at (set rows (key x) v) n ≡ filter (is_at n) (take (i + 1) xs)
      at n below (inl same) =
          let P : ℕ → Type 0 = λ m. list_at (set rows (key x) v) m ≡ filter (is_at m) (take (i + 1) xs) in
          subst P (sym same) here
      at n below (inr differ) =
          let no : (key x == n) ≡ false = grind (arith, nat_tests) in
          list_at-set_other rows (key x) n v differ ∙ stands.exact n below
          ∙ sym (ap (filter (is_at n)) more ∙ one_no n (take i xs) x no)

-- Keys that are made of numbers, once they are sorted

module _ {X : Type 0} (make : ℕ → X) (number : X → ℕ) (is : (n : ℕ) → number (make n) ≡ n)
    (before : X → X → Ordering) (order : ℕ → ℕ → Ordering) (count : ℕ)
    (weaker : (i j : ℕ) → i < count → j < count → is_lt (before (make i) (make j)) ≡ false
    → is_lt (order i j) ≡ false) where
  abbrev IsMade : X → Type 0
  IsMade x = (x ≡ make (number x)) × (number x < count)

  all_made : All IsMade (map make (numbers count))
  all_made =
      All-map IsMade make (numbers count) (λ k d lt.
      let n = get_or (numbers count) k d in
      (ap make (sym (is n)), subst (λ m. m < count) (sym (is n)) (numbers_below count k d lt)))

  numbers_made : (ns : List ℕ) → map number (map make ns) ≡ ns
  numbers_made [] = refl
  numbers_made (n ∷ ns) = ap (λ m. m ∷ map number (map make ns)) (is n) ∙ ap (λ ks. n ∷ ks) (numbers_made ns)

  pub arranged : (all sorted : List X) → all ≡ map make (numbers count) → IsPermutation all sorted
      → IsSorted before sorted → IsArranged order (numbers count) (map number sorted)
  arranged all sorted made same rise = record {
    same = subst (λ ks. IsPermutation ks (map number sorted))
        (ap (map number) made ∙ numbers_made (numbers count)) (IsPermutation-map number all sorted same);
    sorted = λ k d from lt. at k d lt;
  }
    where
      known : All IsMade sorted
      known = All-permutation IsMade all sorted same (subst (All IsMade) (sym made) all_made)

      at : (k d : ℕ) → k + 1 < length (map number sorted)
          → is_lt (order (get_or (map number sorted) (k + 1) d) (get_or (map number sorted) k d)) ≡ false
      at k d lt =
          let size = length-map sorted number in
          let first : k < length sorted = omega (arith, lt, size) in
          let second : k + 1 < length sorted = omega (arith, lt, size) in
          let x = get_or sorted (k + 1) (make 0) in
          let y = get_or sorted k (make 0) in
          let is_x = known (k + 1) (make 0) second in
          let is_y = known k (make 0) first in
          ap (λ f. is_lt (order f (get_or (map number sorted) k d)))
          (get_or-map number sorted (k + 1) (make 0) d second)
          ∙ ap (λ g. is_lt (order (number x) g)) (get_or-map number sorted k (make 0) d first)
          ∙ weaker (number x) (number y) is_x.1 is_y.1
          (ap (λ r. is_lt (before r (make (number y)))) (sym is_x.0) ∙ ap (λ r. is_lt (before x r)) (sym is_y.0)
          ∙ rise k (make 0) (omega arith) second)

-- Functions

without_last : (a b c d : Ordering) → is_lt (ordering_then a (ordering_then b (ordering_then c d))) ≡ false
    → is_lt (ordering_then a (ordering_then b c)) ≡ false
without_last Less b c d e = e
without_last Greater b c d e = refl
without_last Equal Less c d e = e
without_last Equal Greater c d e = refl
without_last Equal Equal Less d e = e
without_last Equal Equal Equal d e = refl
without_last Equal Equal Greater d e = refl

abbrev numbered_with : FunctionNumbers → ℕ → NumberedFunction
numbered_with r n = record { file = r.file; name = r.name; object = r.object; number = n }

-- a function where its ranks were read
pub numbered_at : (ranks : List FunctionNumbers) (i : ℕ) (d : FunctionNumbers) → i < length ranks
    → numbered_with (get_or ranks i d) i ≡ numbered_function ranks i
numbered_at ranks i d lt =
    ap (λ (q : FunctionNumbers). numbered_with q i)
    (get_or_default ranks i d (record { object = 0; file = 0; name = 0 }) lt)

abbrev pub numbered_order : NumberedFunction → NumberedFunction → Ordering
numbered_order x y =
    ordering_then (nat_cmp x.file y.file)
    (ordering_then (nat_cmp x.name y.name)
    (ordering_then (nat_cmp x.object y.object) (nat_cmp x.number y.number)))

abbrev order_of : List FuncKey → ℕ → ℕ → Ordering
order_of functions f g = key_order (function_at functions f) (function_at functions g)

same_order : (functions : List FuncKey) (ranks : List FunctionNumbers) → AreRanks functions ranks → (f g : ℕ)
    → f < length functions → g < length functions
    → ordering_then (nat_cmp (rank_at ranks f).file (rank_at ranks g).file)
    (ordering_then (nat_cmp (rank_at ranks f).name (rank_at ranks g).name)
    (nat_cmp (rank_at ranks f).object (rank_at ranks g).object))
    ≡ order_of functions f g
same_order functions ranks are f g at_f at_g =
    let f_key = function_at functions f in
    let g_key = function_at functions g in
    ap (λ o. ordering_then o (ordering_then (nat_cmp (rank_at ranks f).name (rank_at ranks g).name)
    (nat_cmp (rank_at ranks f).object (rank_at ranks g).object))) (are.file f g at_f at_g)
    ∙ ap (λ o. ordering_then (text_order f_key.file g_key.file)
    (ordering_then o (nat_cmp (rank_at ranks f).object (rank_at ranks g).object))) (are.name f g at_f at_g)
    ∙ ap (λ o. ordering_then (text_order f_key.file g_key.file)
    (ordering_then (text_order f_key.name g_key.name) o)) (are.object f g at_f at_g)

pub functions_arranged : (functions : List FuncKey) (ranks : List FunctionNumbers) (all sorted : List NumberedFunction)
    (order : List ℕ) → AreRanks functions ranks → all ≡ map (numbered_function ranks) (numbers (length ranks))
    → IsPermutation all sorted → IsSorted numbered_order sorted → order ≡ map (λ x. x.number) sorted
    → IsArranged (order_of functions) (numbers (length functions)) order
functions_arranged functions ranks all sorted order are made same rise is =
    subst (IsArranged (order_of functions) (numbers (length functions))) (sym is)
    (arranged (numbered_function ranks) (λ x. x.number) (λ n. refl) numbered_order (order_of functions) (length functions)
    (λ f g at_f at_g e.
    ap is_lt (sym (same_order functions ranks are f g at_f at_g))
    ∙ without_last (nat_cmp (rank_at ranks f).file (rank_at ranks g).file)
    (nat_cmp (rank_at ranks f).name (rank_at ranks g).name)
    (nat_cmp (rank_at ranks f).object (rank_at ranks g).object) (nat_cmp f g) e)
    all sorted (made ∙ ap (λ n. map (numbered_function ranks) (numbers n)) are.size) same rise)

-- Groups

abbrev pub ranks_order : Rank → Rank → Ordering
ranks_order x y =
    ordering_then (nat_cmp y.cost.0 x.cost.0) (ordering_then (nat_cmp x.least y.least) (nat_cmp x.group y.group))

without_group : (a b c : Ordering) → is_lt (ordering_then a (ordering_then b c)) ≡ false
    → is_lt (ordering_then a b) ≡ false
without_group Less b c e = e
without_group Greater b c e = refl
without_group Equal Less c e = e
without_group Equal Equal c e = refl
without_group Equal Greater c e = refl

module _ (costs : List (List ℕ)) (options : ReportOptions) (total : ℕ) (members : List (List ℕ)) (places : List ℕ) where
  abbrev rank : ℕ → Rank
  rank = rank_of costs options.sort members places

  abbrev group : Rank → ℕ
  group r = r.group

  abbrev passes : Rank → Bool
  passes r = nat_le (options.threshold * total) (r.cost.0 * 100)

  abbrev IsRank : Rank → Type 0
  IsRank r = r ≡ rank (group r)

  pub groups_arranged : (all sorted : List Rank) (shown : List ℕ) → all ≡ map rank (numbers (length costs))
      → IsPermutation all sorted → IsSorted ranks_order sorted → shown ≡ map group (filter passes sorted)
      → AreShown costs options total members places shown
  groups_arranged all sorted shown made same rise is = record {
    ranked = map group sorted;
    arranged = arranged rank group (λ n. refl) ranks_order (rank_order costs options.sort members places) (length costs)
        (λ c d at_c at_d e. without_group _ _ (nat_cmp c d) e) all sorted made same rise;
    exact = is ∙ ap (map group) (filter_agree_on passes (λ r. is_enough costs options total (group r)) sorted
        (λ k d lt. ap passes (known k d lt)))
        ∙ sym (filter_of_map group (is_enough costs options total) sorted);
  }
    where
      known : All IsRank sorted
      known = All-permutation IsRank all sorted same (subst (All IsRank) (sym made)
          (All-map IsRank rank (numbers (length costs)) (λ k d lt. refl)))

-- one more of what is made of each number
pub made_more : {X : Type 0} (f : ℕ → X) (all : List X) (x : X) (i : ℕ) (new : List X) → all ≡ map f (numbers i)
    → x ≡ f i → new ≡ all ++ x ∷ [] → new ≡ map f (numbers (i + 1))
made_more f all x i new made is pushed =
    pushed ∙ ap (λ ys. ys ++ x ∷ []) made ∙ ap (λ y. map f (numbers i) ++ y ∷ []) is
    ∙ sym (ap (map f) (range_more 0 i ∙ ap (λ k. numbers i ++ k ∷ []) (zero-add i)) ∙ map-append f (numbers i) (i ∷ []))

abbrev pub rank_with : ℕ → ℕ → ℕ → Rank
rank_with cost least group = record { cost = record { 0 = cost }; least = least; group = group }

pub rank_is : (costs : List (List ℕ)) (sort : ℕ) (members : List (List ℕ)) (places : List ℕ) (i cost least : ℕ)
    → cost ≡ cost_at costs sort i → least ≡ least_at members places i
    → rank_with cost least i ≡ rank_of costs sort members places i
rank_is costs sort members places i cost least a b =
    ap (λ n. rank_with n least i) a ∙ ap (λ n. rank_with (cost_at costs sort i) n i) b

-- a list of a table, where it was read
pub read_list : (table : List (Vec ℕ Global)) (i : ℕ) (v : Vec ℕ Global) (xs : List ℕ) → i < length table
    → v ≡ get_or table i v → xs ≡ v.items → xs ≡ list_at table i
read_list table i v xs lt is same = same ∙ list_at_read table i v lt is

pub All_of_list : (P : ℕ → Type 0) (table : List (Vec ℕ Global)) (i : ℕ) (xs : List ℕ)
    → All (λ ys. All P ys) (lists table) → i < length table → xs ≡ list_at table i → All P xs
All_of_list P table i xs all lt is =
    subst (All P) (sym is) (all i [] (omega (arith, lt, length-map table (λ (row : Vec ℕ Global). row.items))))

pub count_of : (n : ℕ) (order : List ℕ) → IsPermutation (numbers n) order → length order ≡ n
count_of n order same = length_permutation (numbers n) order same ∙ length-range_with_len 0 n
