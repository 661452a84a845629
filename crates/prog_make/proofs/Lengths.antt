-- How long the tables are.
use Rattle.std.proofs.Common.{◌≡◌, ℕ, suc, ◌+◌, ◌-◌, ◌<◌, List, [], ◌∷◌, length, replicate, refl, arith, length-append}
use Rattle.prog_make.specs.inner.LineSection.{line_header_bytes, unit_bytes}

pub length-line_header : (file : List ℕ) → length (line_header_bytes file) ≡ 28 + length file
unfolding line_header_bytes
length-line_header file = omega (arith, length-append file (0 ∷ []))

pub length-unit : (file program : List ℕ) → length (unit_bytes file program) ≡ 36 + length file + length program
unfolding unit_bytes
length-unit file program = let a =
    length-line_header file in omega (arith, length-append (line_header_bytes file) program)

-- one of the copies that are still to come
pub one_copy : (n i x : ℕ) → i < n → x ∷ replicate (n - (i + 1)) x ≡ replicate (n - i) x
one_copy n i x lt = let e : n - i ≡ suc (n - (i + 1)) = omega arith in rw e refl
