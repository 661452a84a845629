-- What a listing stands for after one function more.
use Rattle.std.proofs.Common.{◌≡◌, ℕ, ◌+◌, List, [], ◌∷◌, ◌++◌, sym, arith, subst}
use Rattle.std.specs.Prelude.{codes, decimal}
use Rattle.std.proofs.lemmas.List.FromFn.{map-range_with_len_more}
use Rattle.rv_decode.specs.declared.instr.Instr.{Instr}
use Rattle.demo_make.specs.declared.listing.Listing.{Listing}
use Rattle.demo_make.specs.Draws.{choice}
use Rattle.demo_make.specs.Functions.{main, child, function}
use Rattle.demo_make.specs.Program.{Routine, numbered_routine}
use Rattle.demo_make.specs.inner.Lists.{Lists, routines_before}

pub two-listed : (l : Listing) (size : ℕ) (m d : List Instr) → m ≡ main size → d ≡ child size
    → Lists l (record { name = codes "main"; code = m } ∷ record { name = codes "child"; code = d } ∷ [])
    → Lists l (routines_before size 0)
two-listed l size m d is_main is_child lists =
    let P : List Instr → Type 0 =
    λ x. Lists l (record { name = codes "main"; code = x } ∷ record { name = codes "child"; code = d } ∷ []) in
    let Q : List Instr → Type 0 =
    λ y. Lists l (record { name = codes "main"; code = main size } ∷ record { name = codes "child"; code = y } ∷ []) in
    subst Q is_child (subst P is_main lists)

pub random_below-listed : (l : Listing) (size k : ℕ) (name : List ℕ) (code : List Instr) → name ≡ codes "f" ++ decimal k
    → code ≡ function k (choice size k) → Lists l (routines_before size k ++ record { name = name; code = code } ∷ [])
    → Lists l (routines_before size (k + 1))
random_below-listed l size k name code is_name is_code lists =
    let P : List ℕ → Type 0 = λ x. Lists l (routines_before size k ++ record { name = x; code = code } ∷ []) in
    let Q : List Instr → Type 0 =
    λ y. Lists l (routines_before size k ++ record { name = codes "f" ++ decimal k; code = y } ∷ []) in
    let one : Lists l (routines_before size k ++ numbered_routine size k ∷ []) = subst Q is_code (subst P is_name lists) in
    let R : List Routine → Type 0 =
    λ rs. Lists l (record { name = codes "main"; code = main size }
    ∷ record { name = codes "child"; code = child size } ∷ rs) in
    subst R (sym (map-range_with_len_more (numbered_routine size) 0 k k (omega arith))) one
