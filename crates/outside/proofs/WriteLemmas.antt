-- A whole write goes on by a piece.
use Rattle.std.proofs.Common.{◌≡◌, ℕ, ◌+◌, ◌-◌, ◌≤◌, List, [], ◌++◌, Option, Some, None, length, take, drop, sym, ap, ◌∙◌}
use Rattle.std.proofs.Common.{refl, append_assoc, arith, length-drop}
use Rattle.std.proofs.Math.Seq.{take-add}
use Rattle.std.proofs.lemmas.List.{append-nil, drop-drop, take_all}
use Rattle.outside.specs.Write.{taken_more}

taken_more_twice : (old : Option (List ℕ)) (xs ys : List ℕ)
    → taken_more (taken_more old xs) ys ≡ taken_more old (xs ++ ys)
taken_more_twice None xs ys = refl
taken_more_twice (Some before) xs ys = ap (λ t. Some t) (append_assoc before xs ys)

pub taken_nothing : (old : Option (List ℕ)) → old ≡ taken_more old []
taken_nothing None = refl
taken_nothing (Some before) = ap (λ t. Some t) (sym (append-nil before))

-- a front of the bytes, and then a front of the rest
pub front_and_more : (i n : ℕ) (bytes : List ℕ) → take i bytes ++ take n (drop i bytes) ≡ take (i + n) bytes
front_and_more i n bytes = sym (take-add i n bytes)

-- what is left of the rest, as a range of it is seen
pub rest_of_rest : (bytes rest : List ℕ) (i n : ℕ) → rest ≡ drop i bytes
    → take (length rest - n) (drop n rest) ≡ drop (i + n) bytes
rest_of_rest bytes rest i n is =
    take_all (length rest - n) (drop n rest) (let e = length-drop n rest in omega arith) ∙ ap (drop n) is
    ∙ drop-drop n i bytes

pub count_within : (bytes rest : List ℕ) (i n : ℕ) → i ≤ length bytes → rest ≡ drop i bytes → n ≤ length rest
    → i + n ≤ length bytes
count_within bytes rest i n within is le = omega (arith, length-drop i bytes, ap length is)

-- the bytes taken after a piece of the rest
pub taken_goes_on : (old mid new : Option (List ℕ)) (bytes rest : List ℕ) (i n : ℕ) → rest ≡ drop i bytes
    → mid ≡ taken_more old (take i bytes) → new ≡ taken_more mid (take n rest)
    → new ≡ taken_more old (take (i + n) bytes)
taken_goes_on old mid new bytes rest i n is before now =
    now ∙ ap (λ r. taken_more mid (take n r)) is ∙ ap (λ m. taken_more m (take n (drop i bytes))) before
    ∙ taken_more_twice old (take i bytes) (take n (drop i bytes)) ∙ ap (taken_more old) (front_and_more i n bytes)
