-- Parts of a text.
use Rattle.std.proofs.Common.{◌≡◌, ℕ, ◌+◌, ◌-◌, ◌<◌, ◌≤◌, Bool, true, false, not, cond, List, [], ◌∷◌, length, take}
use Rattle.std.proofs.Common.{drop, refl, ap, arith}
use Rattle.std.specs.List.{slice_split, position_or_len, onto_first}
use Rattle.std.proofs.lemmas.List.Splits.{slice_split_first}
use Rattle.std.proofs.lemmas.List.{take_rest}

-- where no separator stands, the text is its one part
pub slice_split-whole : (p : ℕ → Bool) (xs : List ℕ) → length xs ≤ position_or_len p xs → slice_split p xs ≡ xs ∷ []
slice_split-whole p [] le = refl
slice_split-whole p (x ∷ xs) le =
    let go : (b : Bool) → length (x ∷ xs) ≤ cond (not b) (1 + position_or_len p xs) 0
    → cond b ([] ∷ slice_split p xs) (onto_first x (slice_split p xs)) ≡ (x ∷ xs) ∷ []
    = elim [ true ↦ λ h. absurd (omega arith) | false ↦ λ h. ap (onto_first x) (slice_split-whole p xs (omega arith)) ]
    in go (p x) le

-- the first part and the rest
pub slice_split-cut : (p : ℕ → Bool) (xs : List ℕ) (i : ℕ) → i ≡ position_or_len p xs → i < length xs
    → slice_split p xs ≡ take i xs ∷ slice_split p (take (length xs - (i + 1)) (drop (i + 1) xs))
slice_split-cut p xs i e lt =
    let here : position_or_len p xs < length xs = rw (← e) lt in
    rw (take_rest, e) (slice_split_first p xs 0 here)
