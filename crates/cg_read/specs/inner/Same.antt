-- Functions that are equal are the same. This is the law that an implementation of a trait gives.
use Rattle.std.specs.Prelude.{◌≡◌, ◌==◌, ◌&&◌, ℕ, true}
use Rattle.std.proofs.Common.{◌∙◌, ap}
use Rattle.cg_read.specs.declared.function_numbers.FunctionNumbers.{FunctionNumbers}
pub use Rattle.key_tables.specs.Same.{both_true, same_numbers, same_texts}

abbrev make_numbers : ℕ → ℕ → ℕ → FunctionNumbers
make_numbers object file name = record { object = object; file = file; name = name }

pub same_function_numbers : (x y : FunctionNumbers)
    → ((x.object == y.object) && ((x.file == y.file) && (x.name == y.name))) ≡ true → x ≡ y
same_function_numbers x y e =
    let first = both_true (x.object == y.object) ((x.file == y.file) && (x.name == y.name)) e in
    let rest = both_true (x.file == y.file) (x.name == y.name) first.1 in
    ap (λ (n : ℕ). make_numbers n x.file x.name) (same_numbers x.object y.object first.0)
    ∙ ap (λ (n : ℕ). make_numbers y.object n x.name) (same_numbers x.file y.file rest.0)
    ∙ ap (λ (n : ℕ). make_numbers y.object y.file n) (same_numbers x.name y.name rest.1)
