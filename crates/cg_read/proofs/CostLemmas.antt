-- The costs of a line, as far as they are read, and costs with 0 for those that are missing.
use Rattle.std.proofs.Common.{◌≡◌, ℕ, ◌-◌, ◌≤◌, Bool, true, false, List, ◌++◌, length, replicate, Option, None, Some}
use Rattle.std.proofs.Common.{◌∙◌, ap, arith, length-append, append-nil}
use Rattle.std.proofs.lemmas.List.{length-replicate}
use Rattle.cg_read.specs.Meaning.{padded}

-- the values of all, where these are read and those are left
abbrev pub values_with : Bool → List ℕ → Option (List ℕ) → Option (List ℕ)
values_with true read None = None
values_with true read (Some left) = Some (read ++ left)
values_with false read left = None

pub padded_to : (n : ℕ) (costs : List ℕ) → length costs ≤ n → length (padded n costs) ≡ n
padded_to n costs le =
    omega (arith, length-append costs (replicate (n - length costs) 0), length-replicate {A = ℕ} (n - length costs) 0)

pub padded_whole : (n : ℕ) (costs : List ℕ) → length costs ≡ n → padded n costs ≡ costs
padded_whole n costs e =
    let none : n - length costs ≡ 0 = omega (arith, e) in
    ap (λ (k : ℕ). costs ++ replicate k 0) none ∙ append-nil costs
