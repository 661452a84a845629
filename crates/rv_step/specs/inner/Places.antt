-- Where what is kept stands.
use Rattle.std.specs.Prelude.{◌≡◌, ℕ, ◌≤◌, ◌==◌, Bool, true, false, if◌then◌else◌, List, [], ◌∷◌, Some, slice_get}
use Rattle.rv_step.specs.Place.{place_of}
use Rattle.rv_step.specs.declared.kept_instr.KeptInstr.{KeptInstr}

-- whether one of these addresses has this place
abbrev pub is_noted : ℕ → List ℕ → Bool
is_noted place [] = false
is_noted place (pc ∷ pcs) = if place_of pc == place then true else is_noted place pcs

-- each place that holds what an address of its own finds is of one of these addresses, and what it holds stands from
-- one address on, and begins at another at the latest
abbrev pub AreNoted : List ℕ → ℕ → ℕ → List KeptInstr → Type 0
AreNoted pcs first last fs =
    (place : ℕ) (f : KeptInstr) → slice_get fs place ≡ Some f → place_of f.pc ≡ place
    → (is_noted place pcs ≡ true) × (first ≤ f.pc) × (f.pc ≤ last)
