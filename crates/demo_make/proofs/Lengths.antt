-- How many instructions functions have, and how many bytes the file.
use Rattle.std.proofs.Common.{◌≡◌, ℕ, ◌+◌, ◌*◌, List, [], ◌∷◌, ◌++◌}
use Rattle.std.proofs.Common.{length, map, refl, ap, ◌∙◌, arith, append-nil, length-append}
use Rattle.std.specs.Fmt.{digits}
use Rattle.std.specs.List.{flat_map, range_with_len}
use Rattle.std.proofs.lemmas.List.Folds.{flat_map-map}
use Rattle.std.proofs.lemmas.List.FromFn.{length-range_with_len, length-map-range_with_len}
use Rattle.rv_decode.specs.declared.instr.Instr.{Instr}
use Rattle.rv_decode.specs.Encoded.{encode}
use Rattle.prog_make.specs.Code.{code_of}
use Rattle.prog_make.specs.Encoding.{word_bytes}
use Rattle.prog_make.specs.Lengths.{file_len, tables_len}
use Rattle.demo_make.specs.Draws.{choice}
use Rattle.demo_make.specs.Functions.{function, main, child}
use Rattle.demo_make.specs.Program.{Routine, demo, demo_file_len, instructions, numbered_routine, routines}
use Rattle.demo_make.specs.inner.Lists.{Lists, routines_before}
use Rattle.demo_make.specs.declared.listing.Listing.{Listing}
use Rattle.demo_make.proofs.Behind.{length-parts}

-- functions of a number of instructions each
length-each : (f : ℕ → List Instr) (w : ℕ) → ((k : ℕ) → length (f k) ≡ w) → (ks : List ℕ)
    → length (flat_map f ks) ≡ w * length ks
length-each f w each [] = omega arith
length-each f w each (k ∷ ks) =
    let rest = length-each f w each ks in
    let here = each k in
    omega (arith, length-append (f k) (flat_map f ks))

pub length-numbered_routine : (size n : ℕ)
    → length (instructions (map (numbered_routine size) (range_with_len 0 n))) ≡ 17 * n
length-numbered_routine size n =
    let maps = flat_map-map (λ (r : Routine). r.code) (numbered_routine size) (range_with_len 0 n) in
    let each = length-each (λ k. function k (choice size k)) 17 (λ k. refl) (range_with_len 0 n) in
    let count = length-range_with_len 0 n in
    let whole = ap length maps in
    rw maps (each ∙ ap (λ (m : ℕ). 17 * m) count)

pub length-main : (size : ℕ) → length (main size) ≡ 66
length-main size = refl

pub length-child : (size : ℕ) → length (child size) ≡ 9
length-child size = refl

pub length-first : (size n : ℕ) → length (instructions (routines_before size n)) ≡ 75 + 17 * n
length-first size n =
    let others = length-numbered_routine size n in
    let m = length-main size in
    let c = length-child size in
    let tail = instructions (map (numbered_routine size) (range_with_len 0 n)) in
    let inner = length-append (child size) tail in
    let outer = length-append (main size) (child size ++ tail) in
    omega arith

-- all of them
pub routines-all : (size : ℕ) → routines size ≡ routines_before size 32
unfolding routines
routines-all size = refl

pub length-all : (size : ℕ) → length (instructions (routines size)) ≡ 619
length-all size = rw (routines-all size) (length-first size 32)

-- how many instructions and functions a listing has
pub length-code : (l : Listing) (size n : ℕ) → Lists l (routines_before size n) → length l.code.items ≡ 75 + 17 * n
length-code l size n lists = ap length lists.code ∙ length-first size n

pub length-functions : (l : Listing) (size n : ℕ) → Lists l (routines_before size n) → length l.functions.items ≡ 2 + n
length-functions l size n lists =
    let count = length-map-range_with_len (numbered_routine size) 0 n in
    let all = ap length lists.functions ∙ length-parts [] (routines_before size n) in
    omega arith

-- a listing of one function
pub code-one : (l : Listing) (r : Routine) → Lists l (r ∷ []) → length l.code.items ≡ length r.code
code-one l r lists = ap length lists.code ∙ ap (λ (c : List Instr). length c) (append-nil r.code)

pub functions-one : (l : Listing) (r : Routine) → Lists l (r ∷ []) → length l.functions.items ≡ 1
functions-one l r lists = ap length lists.functions

-- ---- the file

pub length-code_of : (instrs : List Instr) → length (code_of instrs) ≡ 4 * length instrs
unfolding code_of
length-code_of [] = refl
length-code_of (i ∷ instrs) =
    let rest = length-code_of instrs in
    let here : length (word_bytes (encode i)) ≡ 4 = refl in
    let all = length-append (word_bytes (encode i)) (code_of instrs) in
    omega arith

-- the names, the lines and the symbols are as long whatever is drawn
tables-len : (size : ℕ) → tables_len (demo size) (demo size).functions ≡ 2366
unfolding routines digits
tables-len size = refl

pub demo-len : (size : ℕ) → file_len (demo size) ≡ demo_file_len
demo-len size =
    let code = length-code_of (instructions (routines size)) in
    let many = length-all size in
    let tables = tables-len size in
    omega arith
