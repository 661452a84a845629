-- Lists of spots that are pushed to and written to.
use Rattle.std.proofs.Common.{◌≡◌, ◌+◌, ◌*◌, ◌^◌, ◌<◌, ◌≤◌, ◌∷◌, [], ◌++◌, ℕ, Bool, true, false, List, length, get_or, subst}
use Rattle.std.proofs.Common.{sym, ap, ◌∙◌, ⊎_elim, length-append, arith, take, if◌then◌else◌}
use Rattle.std.specs.Prelude.{nat_lt}
use Rattle.std.proofs.lemmas.Bool.Decides.{nat_tests}
use Rattle.std.proofs.lemmas.Bool.{cases_lt}
use Rattle.std.proofs.lemmas.List.{get_or_append_left, get_or_push, get_or-set_same, get_or-set_other, length-set}
use Rattle.std.proofs.Math.ListN.{set}
use Rattle.std.proofs.lemmas.List.{take-append-le}
use Rattle.std.proofs.Math.Seq.{take-length}
use Rattle.event_costs.specs.Keys.{Place}
use Rattle.sym_map.specs.declared.place_index.Spot.{Spot}
use Rattle.sym_map.specs.inner.Ranges.{lines_by_address}
use Rattle.sym_map.specs.inner.Ranges.{AddressRanges}
use Rattle.sym_map.specs.inner.Indexed.{AreIndexed, AreByAddress, IsSpot, lines_by_address_up_to}

pub no_spots : (ranges : AddressRanges) (unknown : Place) (first : ℕ) → first < 2 ^ 32
    → AreIndexed ranges unknown first []
no_spots ranges unknown first small =
    record { within = omega (arith, small); at = λ k d lt. absurd (omega (arith, lt)) }

-- one more, at the address behind them
pub spots_pushed : (ranges : AddressRanges) (unknown : Place) (first : ℕ) (spots : List Spot) (spot : Spot)
    → first + 4 * (length spots + 1) < 2 ^ 32 → AreIndexed ranges unknown first spots
    → IsSpot ranges unknown (first + 4 * length spots) spot → AreIndexed ranges unknown first (spots ++ spot ∷ [])
spots_pushed ranges unknown first spots spot small are is =
    let more : length (spots ++ spot ∷ []) ≡ length spots + 1 = length-append spots (spot ∷ []) in
    record {
      within = omega (arith, more, small);
      at = λ k d below. ⊎_elim
          (λ (lt : k < length spots). subst (IsSpot ranges unknown (first + 4 * k))
          (sym (get_or_append_left spots (spot ∷ []) d k lt)) (are.at k d lt))
          (λ (le : length spots ≤ k). let last : length spots ≡ k = omega (arith, more, below, le) in
          let P : ℕ → Type 0 = λ n. IsSpot ranges unknown (first + 4 * n) spot in
          subst (IsSpot ranges unknown (first + 4 * k)) (sym (get_or_push spots spot d k last)) (subst P last is))
          (cases_lt k (length spots));
    }

-- another one in the place of one
pub each_set : (P : ℕ → Spot → Type 0) (spots : List Spot) (i : ℕ) (spot : Spot) → i < length spots
    → ((k : ℕ) (d : Spot) → k < length spots → (k ≡ i → ⊥) → P k (get_or spots k d)) → P i spot
    → (k : ℕ) (d : Spot) → k < length (set spots i spot) → P k (get_or (set spots i spot) k d)
each_set P spots i spot lt others is k d below =
    let inside : k < length spots = omega (arith, length-set spots i spot, below) in
    let other : (k ≡ i → ⊥) → P k (get_or (set spots i spot) k d) =
    λ apart. subst (P k) (sym (get_or-set_other spots i k spot d apart)) (others k d inside apart) in
    ⊎_elim
    (λ (less : k < i). other (λ e. omega (arith, e, less)))
    (λ (ge : i ≤ k). ⊎_elim
    (λ (more : i < k). other (λ e. omega (arith, e, more)))
    (λ (le : k ≤ i). let e : i ≡ k = omega (arith, le, ge) in
    subst (λ (n : ℕ). P n (get_or (set spots i spot) n d)) e (subst (P i) (sym (get_or-set_same spots i spot d lt)) is))
    (cases_lt i k))
    (cases_lt k i)

pub spots_set : (ranges : AddressRanges) (unknown : Place) (first : ℕ) (spots : List Spot) (i : ℕ) (spot : Spot)
    → i < length spots → AreIndexed ranges unknown first spots → IsSpot ranges unknown (first + 4 * i) spot
    → AreIndexed ranges unknown first (set spots i spot)
spots_set ranges unknown first spots i spot lt are is =
    let same : length (set spots i spot) ≡ length spots = length-set spots i spot in
    record {
      within = omega (arith, same, are.within);
      at = each_set (λ (k : ℕ) (s : Spot). IsSpot ranges unknown (first + 4 * k) s) spots i spot lt
          (λ k d below apart. are.at k d below) is;
    }

-- ---- spots that are told by their addresses

pub none_by_address : (ranges : AddressRanges) (unknown : Place) (first : ℕ) (spots : List Spot)
    → AreIndexed ranges unknown first spots → AreByAddress ranges unknown first 0 spots
none_by_address ranges unknown first spots are = record {
  within = are.within;
  at = λ k d below.
      let later : nat_lt k 0 ≡ false = grind (arith, nat_tests) in
      subst (λ (b : Bool). IsSpot (if b then lines_by_address ranges else ranges) unknown (first + 4 * k)
      (get_or spots k d)) (sym later) (are.at k d below);
}

pub all_by_address : (ranges : AddressRanges) (unknown : Place) (first count : ℕ) (spots : List Spot)
    → length spots ≤ count → AreByAddress ranges unknown first count spots
    → AreIndexed (lines_by_address ranges) unknown first spots
all_by_address ranges unknown first count spots all are = record {
  within = are.within;
  at = λ k d below.
      let earlier : nat_lt k count ≡ true = grind (arith, nat_tests) in
      subst (λ (b : Bool). IsSpot (if b then lines_by_address ranges else ranges) unknown (first + 4 * k)
      (get_or spots k d)) earlier (are.at k d below);
}

-- the next one
pub next_left : (ranges : AddressRanges) (unknown : Place) (first i address : ℕ) (spots : List Spot) (d : Spot)
    → address ≡ first + 4 * i → i < length spots → AreByAddress ranges unknown first i spots
    → IsSpot ranges unknown address (get_or spots i d)
next_left ranges unknown first i address spots d at lt are =
    let later : nat_lt i i ≡ false = grind (arith, nat_tests) in
    subst (λ (n : ℕ). IsSpot ranges unknown n (get_or spots i d)) (sym at)
    (subst (λ (b : Bool). IsSpot (if b then lines_by_address ranges else ranges) unknown (first + 4 * i)
    (get_or spots i d)) later (are.at i d lt))

pub next_by_address : (ranges : AddressRanges) (unknown : Place) (first i : ℕ) (spots : List Spot) (spot : Spot)
    → i < length spots → AreByAddress ranges unknown first i spots
    → IsSpot (lines_by_address ranges) unknown (first + 4 * i) spot
    → AreByAddress ranges unknown first (i + 1) (set spots i spot)
next_by_address ranges unknown first i spots spot lt are is =
    let same : length (set spots i spot) ≡ length spots = length-set spots i spot in
    record {
      within = omega (arith, same, are.within);
      at = each_set (λ (k : ℕ) (s : Spot). IsSpot (lines_by_address_up_to (i + 1) k ranges) unknown (first + 4 * k) s) spots i spot
          lt
          (λ k d below apart.
          let alike : nat_lt k i ≡ nat_lt k (i + 1) = grind (arith, nat_tests) in
          subst (λ (b : Bool). IsSpot (if b then lines_by_address ranges else ranges) unknown (first + 4 * k)
          (get_or spots k d)) alike (are.at k d below))
          (let now : nat_lt i (i + 1) ≡ true = grind (arith, nat_tests) in
          subst (λ (b : Bool). IsSpot (if b then lines_by_address ranges else ranges) unknown (first + 4 * i) spot)
          (sym now) is);
    }

-- what is read of a list that was written as a whole
pub whole_part : (n : ℕ) (xs ys : List Spot) → n ≡ length xs → take n (xs ++ ys) ≡ xs
whole_part n xs ys e = take-append-le n xs ys (omega (arith, e)) ∙ ap (λ m. take m xs) e ∙ take-length xs
