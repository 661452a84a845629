-- Equality of functions decides.
use Rattle.std.proofs.Common.{◌≡◌, ℕ, true, List, refl, subst}
use Rattle.std.specs.Bool.{Decides}
use Rattle.std.specs.Str.{bytes_eq}
use Rattle.std.proofs.lemmas.Slice.Eq.{bytes_eq-Decides}
use Rattle.cg_read.specs.Profiles.{same_function}
use Rattle.cg_read.specs.declared.rows.FuncKey.{FuncKey}
use Rattle.cg_read.proofs.DraftLemmas.{functions_eq}

bytes_itself : (x : List ℕ) → bytes_eq x x ≡ true
bytes_itself x = (bytes_eq-Decides x x).1 refl

function_itself : (f : FuncKey) → same_function f f ≡ true
function_itself f = rw (bytes_itself f.object, bytes_itself f.file, bytes_itself f.name) refl

pub functions_decide : (f g : FuncKey) → Decides (same_function f g) (f ≡ g)
functions_decide f g =
    (functions_eq f g, λ e. let P : FuncKey → Type 0 = λ h. same_function f h ≡ true in subst P e (function_itself f))
