-- The one segment that a function is code of.
use Rattle.std.proofs.Common.{◌≡◌, ℕ, zero, suc, ◌+◌, ◌<◌, ◌≤◌, ◌&&◌, not, Bool, true, false, cond, leb, ltb, List, []}
use Rattle.std.proofs.Common.{◌∷◌, length, get_or, Option, Some, None, refl, arith}
use Rattle.std.specs.Option.{unwrap_or}
use Rattle.std.specs.List.{All, count_by, position, position_or_len}
use Rattle.std.proofs.lemmas.Bool.{ltb-false, ltb-true}
use Rattle.std.proofs.lemmas.Bool.Decides.{nat_tests}
use Rattle.std.proofs.lemmas.List.Sums.{get_or-le-sum_by, passes_at_first, prefix_len-le-length, sum_by-cons}
use Rattle.prog_make.specs.declared.function_part.FunctionPart.{FunctionPart}
use Rattle.prog_make.specs.SegmentContent.{SegmentContent}
use Rattle.prog_make.specs.Functions.{holds, is_executable}
use Rattle.prog_make.specs.inner.Conditions.{covers, IsPlaced, AreApart}
use Rattle.prog_make.proofs.SegmentsRead.{All-rest}

-- a place that isn't found is the length
pub place_is : {X : Type 0} (p : X → Bool) (xs : List X) → unwrap_or (position p xs) (length xs) ≡ position_or_len p xs
place_is p xs = go (position_or_len p xs) (length xs) (ltb (position_or_len p xs) (length xs)) refl
    (prefix_len-le-length _ xs)
  where
    go : (m n : ℕ) (b : Bool) → ltb m n ≡ b → m ≤ n → unwrap_or (cond b (Some m) None) n ≡ m
    go m n true e h = refl
    go m n false e h = let g = ltb-false m n e in omega arith

-- a place that is found passes
pub found_at : {X : Type 0} (p : X → Bool) (xs : List X) (i : ℕ) (d : X) → position p xs ≡ Some i
    → (i < length xs) × (p (get_or xs i d) ≡ true)
found_at p xs i d e = go (ltb (position_or_len p xs) (length xs)) refl e
  where
    go : (b : Bool) → ltb (position_or_len p xs) (length xs) ≡ b
        → ◌≡◌ {A = Option ℕ} (cond b (Some (position_or_len p xs)) None) (Some i)
        → (i < length xs) × (p (get_or xs i d) ≡ true)
    go true lt f =
        let same : position_or_len p xs ≡ i = cc in
        let inside = ltb-true _ _ lt in
        (rw (← same) inside, rw (← same) (passes_at_first p xs d inside))
    go false lt f = absurd cc

holds-covers : (f : FunctionPart) (s : SegmentContent) → IsPlaced s → 0 < f.size → holds f s ≡ true
    → covers f.addr s ≡ true
holds-covers f s placed some held = let sizes = placed.sizes in go (is_executable s) held
  where
    go : (b : Bool) → (b && leb s.addr f.addr && leb (f.addr + f.size) (s.addr + length s.bytes)) ≡ true
        → covers f.addr s ≡ true
    go true e = grind (arith, nat_tests)
    go false e = absurd cc

-- the segment that holds a function is the first that does
pub only_place : (f : FunctionPart) (xs : List SegmentContent) (k : ℕ) (d : SegmentContent) → All IsPlaced xs
    → AreApart xs → 0 < f.size → k < length xs → holds f (get_or xs k d) ≡ true → position_or_len (holds f) xs ≡ k
only_place f [] k d placed apart some lt held = absurd (omega arith)
only_place f (x ∷ xs) zero d placed apart some lt held = rw held refl
only_place f (x ∷ xs) (suc k) d placed apart some lt held =
    let sum = λ (a : ℕ). sum_by-cons (λ s. cond (covers a s) 1 0) x xs in
    let rest_apart : AreApart xs = λ a. let few = apart a in let both = sum a in omega arith in
    let rest = only_place f xs k d (All-rest IsPlaced x xs placed) rest_apart some (omega arith) held in
    go (holds f x) refl rest (sum f.addr)
  where
    go : (b : Bool) → holds f x ≡ b → position_or_len (holds f) xs ≡ k
        → count_by (covers f.addr) (x ∷ xs) ≡ cond (covers f.addr x) 1 0 + count_by (covers f.addr) xs
        → cond (not b) (1 + position_or_len (holds f) xs) 0 ≡ suc k
    go false e rest both = omega arith
    go true e rest both =
        let here : cond {A = ℕ} (covers f.addr x) 1 0 ≡ 1 =
        rw (holds-covers f x (placed 0 x (omega arith)) some e) refl in
        let there : cond {A = ℕ} (covers f.addr (get_or xs k d)) 1 0 ≡ 1 =
        rw (holds-covers f (get_or xs k d) (placed (suc k) d lt) some held) refl in
        let had = get_or-le-sum_by (λ s. cond {A = ℕ} (covers f.addr s) 1 0) xs k d (omega arith) in
        let few = apart f.addr in
        absurd (omega arith)

-- what reading past the end of a list gives
abbrev pub no_content : SegmentContent
no_content = record { addr = 0; bytes = []; mem_len = 0; flags = 0 }
