-- Ranges one by one, passed and put together.
use Rattle.std.proofs.Common.{◌≡◌, ℕ, ◌+◌, ◌-◌, ◌<◌, ◌≤◌, Bool, true, false, cond, leb, List, [], ◌∷◌, ◌++◌, length}
use Rattle.std.proofs.Common.{get_or, take, Option, Some, refl, sym, ap, ◌∙◌, ◌⊎◌, ⊎_elim, arith, zero, suc}
use Rattle.std.specs.Prelude.{filter, slice_get, min}
use Rattle.std.specs.Option.{option_map_or}
use Rattle.std.specs.List.Sorted.{IsPartitionedBy, IsPartitionPoint}
use Rattle.std.proofs.lemmas.List.{take_more, get_or_default, length_push, length-take-le, get_or-take, get_or_push}
use Rattle.std.proofs.lemmas.List.{get_or_append_left}
use Rattle.std.proofs.lemmas.List.Sorted.{IsNonDecreasingBy-from_all_adjacent, IsPartitionedBy-leb}
use Rattle.std.proofs.lemmas.Option.{slice_get-get_or}
use Rattle.std.proofs.lemmas.Bool.{le-leb, lt-leb}
use Rattle.dwarf_line.proofs.LookUp.{last_at-push}
use Rattle.dwarf_line.specs.LineRow.{last_at}
use Rattle.sym_map.specs.declared.range.Cover.{Cover}
use Rattle.sym_map.specs.declared.range.Range.{Range}
use Rattle.sym_map.specs.declared.range.Cover.TheVariants as what
use Rattle.sym_map.specs.inner.Ranges.{start_of, cover_at}
use Rattle.sym_map.specs.inner.Rising.{Rise}
use Rattle.sym_map.specs.inner.Spans.{or_below, reach, IsPassed}

-- ---- one range more

abbrev last_says : Option Range → Cover
last_says last = option_map_or (λ (range : Range). range.cover) last what.Nothing

chosen : (b : Bool) (r : Range) (last : Option Range)
    → last_says (cond b (Some r) last) ≡ cond b r.cover (last_says last)
chosen true r last = refl
chosen false r last = refl

pub cover_at-push : (xs : List Range) (r : Range) (a : ℕ)
    → cover_at (xs ++ r ∷ []) a ≡ cond (leb r.start a) r.cover (cover_at xs a)
cover_at-push xs r a = ap last_says (last_at-push start_of a xs r) ∙ chosen (leb r.start a) r (last_at start_of a xs)

pub from_push : (xs : List Range) (r : Range) (a : ℕ) → r.start ≤ a → cover_at (xs ++ r ∷ []) a ≡ r.cover
from_push xs r a le = cover_at-push xs r a ∙ rw (le-leb r.start a le) refl

pub below_push : (xs : List Range) (r : Range) (a : ℕ) → a < r.start → cover_at (xs ++ r ∷ []) a ≡ cover_at xs a
below_push xs r a lt = cover_at-push xs r a ∙ rw (lt-leb r.start a lt) refl

-- ---- the next range is passed

pub at_passed : (xs : List Range) (i : ℕ) (r : Range) (a : ℕ) → i < length xs → r ≡ get_or xs i r → r.start ≤ a
    → cover_at (take (i + 1) xs) a ≡ r.cover
at_passed xs i r a lt is le = ap (λ ys. cover_at ys a) (take_more xs i r lt ∙ ap (λ x. take i xs ++ x ∷ []) (sym is))
    ∙ from_push (take i xs) r a le

pub passed : (xs : List Range) (i : ℕ) (here : Cover) (r : Range) (start : ℕ) → Rise xs → IsPassed xs i here start
    → i < length xs → r ≡ get_or xs i r → r.start ≡ start → IsPassed xs (i + 1) r.cover (start + 1)
passed xs i here r start rise so lt is begins = record {
  within = omega arith;
  taken = λ a le. at_passed xs i r a lt is (omega arith);
  ahead = λ d more. let up = rise i r more in let s : r.start ≡ (get_or xs i r).start =
      ap (λ (x : Range). x.start) is in omega (arith, other_default xs (i + 1) r d more);
}
  where
    other_default : (xs : List Range) (k : ℕ) (d e : Range) → k < length xs
        → (get_or xs k d).start ≡ (get_or xs k e).start
    other_default [] k d e lt = absurd (omega arith)
    other_default (x ∷ xs) zero d e lt = refl
    other_default (x ∷ xs) (suc k) d e lt = other_default xs k d e (omega arith)

-- from a later address on, which isn't above the next start
pub later : (xs : List Range) (i : ℕ) (here : Cover) (low start : ℕ) → IsPassed xs i here low → low ≤ start
    → ((d : Range) → i < length xs → start ≤ (get_or xs i d).start) → IsPassed xs i here start
later xs i here low start so le ahead = record {
  within = so.within;
  taken = λ a more. so.taken a (omega arith);
  ahead = ahead;
}

-- ---- a range is added

pub reach-push : (xs : List Range) (r : Range) → reach (xs ++ r ∷ []) ≡ r.start + 1
reach-push xs r =
    let ys : List Range = xs ++ r ∷ [] in
    let long : length ys ≡ length xs + 1 = length_push xs r in
    let at : slice_get ys (length ys - 1) ≡ Some (get_or ys (length ys - 1) r) =
    slice_get-get_or ys (length ys - 1) r (omega arith) in
    let last : get_or ys (length ys - 1) r ≡ r = get_or_push xs r r (length ys - 1) (omega arith) in
    ap (λ (o : Option Range). option_map_or (λ (x : Range). x.start + 1) o 0) (at ∙ ap (λ (x : Range). Some x) last)

reach_is : (xs : List Range) (d : Range) → 0 < length xs → reach xs ≡ (get_or xs (length xs - 1) d).start + 1
reach_is xs d some = ap (λ (o : Option Range). option_map_or (λ (x : Range). x.start + 1) o 0)
    (slice_get-get_or xs (length xs - 1) d (omega arith))

pub Rise-push : (xs : List Range) (r : Range) → Rise xs → reach xs ≤ r.start → Rise (xs ++ r ∷ [])
Rise-push xs r rise above k d lt =
    let long = length_push xs r in
    ⊎_elim
    (λ (inner : k + 1 < length xs). rw
    (get_or_append_left xs (r ∷ []) d k (omega arith), get_or_append_left xs (r ∷ []) d (k + 1) inner)
    (rise k d inner))
    (λ (outer : k + 1 ≡ length xs).
    let end = reach_is xs d (omega arith) in
    let same : length xs - 1 ≡ k = omega arith in
    let e : reach xs ≡ (get_or xs k d).start + 1 = end ∙ ap (λ (n : ℕ). (get_or xs n d).start + 1) same in
    rw (get_or_append_left xs (r ∷ []) d k (omega arith), get_or_push xs r d (k + 1) (sym outer)) (omega arith))
    (let P : (k + 1 < length xs) ⊎ (k + 1 ≡ length xs) = last_or_before k (length xs) (omega arith) in P)
  where
    last_or_before : (k n : ℕ) → k + 1 < n + 1 → (k + 1 < n) ⊎ (k + 1 ≡ n)
    last_or_before k n lt = grind arith

-- all that is merged so far at an address, and one range more
pub merged_more : (merged : List Range) (above below new_above new_below : List Range) (r : Range) (x y : Cover)
    → r.cover ≡ or_below x y
    → ((a : ℕ) → cover_at merged a ≡ or_below (cover_at above a) (cover_at below a))
    → ((a : ℕ) → r.start ≤ a → cover_at new_above a ≡ x) → ((a : ℕ) → r.start ≤ a → cover_at new_below a ≡ y)
    → ((a : ℕ) → a < r.start → cover_at new_above a ≡ cover_at above a)
    → ((a : ℕ) → a < r.start → cover_at new_below a ≡ cover_at below a)
    → (a : ℕ) → cover_at (merged ++ r ∷ []) a ≡ or_below (cover_at new_above a) (cover_at new_below a)
merged_more merged above below new_above new_below r x y is so xs ys xs_before ys_before a =
    ⊎_elim
    (λ (le : r.start ≤ a). from_push merged r a le ∙ is ∙ rw (xs a le, ys a le) refl)
    (λ (lt : a < r.start). below_push merged r a lt ∙ so a ∙ rw (xs_before a lt, ys_before a lt) refl)
    (let P : (r.start ≤ a) ⊎ (a < r.start) = grind arith in P)

-- ---- looking an address up

partitioned : (p : Range → Bool) (xs : List Range) (n : ℕ) → n ≤ length xs
    → ((k : ℕ) (d : Range) → k < n → p (get_or xs k d) ≡ true)
    → ((k : ℕ) (d : Range) → n ≤ k → k < length xs → p (get_or xs k d) ≡ false) → filter p xs ≡ take n xs
partitioned p [] n le below above = rw (let e : n ≡ 0 = omega arith in e) refl
partitioned p (x ∷ xs) zero le below above =
    rw (above 0 x (omega arith) (omega arith))
    (partitioned p xs 0 (omega arith) (λ k d lt. absurd (omega arith))
    (λ k d from lt. above (suc k) d (omega arith) (omega arith)))
partitioned p (x ∷ xs) (suc n) le below above =
    rw (below 0 x (omega arith)) (ap (λ ys. x ∷ ys)
    (partitioned p xs n (omega arith) (λ k d lt. below (suc k) d (omega arith))
    (λ k d from lt. above (suc k) d (omega arith) (omega arith))))

pub rises_by_start : (xs : List Range) (a : ℕ) → Rise xs → IsPartitionedBy (λ (r : Range). leb r.start a) xs
rises_by_start xs a rise =
    IsPartitionedBy-leb (λ (r : Range). r.start) xs a
    (IsNonDecreasingBy-from_all_adjacent (λ (r : Range). r.start) xs
    (λ k d lt. let up = rise k d lt in omega arith))

abbrev pub last_of : List Range → Cover
last_of below = last_says (slice_get below (length below - 1))

pub found : (xs : List Range) (a n : ℕ) → n ≤ length xs
    → IsPartitionPoint (λ (r : Range). leb r.start a ≡ true) (λ (r : Range). leb r.start a ≡ false) xs n
    → cover_at xs a ≡ last_of (take n xs)
found xs a n le point =
    ap last_of (partitioned (λ (r : Range). leb r.start a) xs n le (λ k d lt. point.0 k d (omega arith) lt)
    (λ k d from lt. point.1 k d from lt))

pub last_of-take : (xs : List Range) (n last : ℕ) (d : Range) → n ≤ length xs → n ≡ last + 1
    → last_of (take n xs) ≡ (get_or xs last d).cover
last_of-take xs n last d le is =
    let long : length (take n xs) ≡ n = length-take-le n xs le in
    let place : length (take n xs) - 1 ≡ last = omega arith in
    let at : slice_get (take n xs) last ≡ Some (get_or (take n xs) last d) =
    slice_get-get_or (take n xs) last d (omega arith) in
    rw (place, at, get_or-take n xs last d (let h : last < n = omega arith in h)) refl

-- ---- the least of two starts

pub one_is_least : (a b m : ℕ) → m ≡ min a b → (a ≡ m) ⊎ (b ≡ m)
one_is_least a b m is = grind arith

pub none_below : (xs : List Range) (n : ℕ) → n ≡ 0 → last_of (take n xs) ≡ what.Nothing
none_below xs n is = rw is refl

-- ---- what a range says of its own start

pub far_starts : (xs : List Range) → Rise xs → (i j : ℕ) (d : Range) → i ≤ j → j < length xs
    → (get_or xs i d).start ≤ (get_or xs j d).start
far_starts xs rise = IsNonDecreasingBy-from_all_adjacent (λ (r : Range). r.start) xs
    (λ k d lt. let up = rise k d lt in omega arith)

pub cover_at-start : (xs : List Range) (k : ℕ) (d : Range) → Rise xs → k < length xs
    → cover_at xs (get_or xs k d).start ≡ (get_or xs k d).cover
cover_at-start xs k d rise lt =
    let a : ℕ = (get_or xs k d).start in
    let at : (j : ℕ) (e : Range) → j < length xs
    → (get_or xs j e).start ≡ (get_or xs j d).start =
    λ j e within. ap (λ (r : Range). r.start) (get_or_default xs j e d within) in
    found xs a (k + 1) (omega arith) (
      (λ j e low below. let same = at j e (omega arith) in let le =
          far_starts xs rise j k d (omega arith) lt in le-leb (get_or xs j e).start a (omega arith)),
      (λ j e from within.
          let same = at j e within in
          let up = rise k d (omega arith) in
          let le = far_starts xs rise (k + 1) j d from within in
          lt-leb (get_or xs j e).start a (omega arith)),
    )
    ∙ last_of-take xs (k + 1) k d (omega arith) refl
