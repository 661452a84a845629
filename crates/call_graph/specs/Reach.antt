-- Which functions reach each other. Functions go by number.
use Rattle.std.specs.Prelude.{◌≡◌, ◌⊎◌, ◌↔◌, ℕ, Bool, true, List, Contains}
use Rattle.call_graph.specs.declared.arc.CallArc.{CallArc}

-- one of the arcs leads from f to g
abbrev pub Steps : List CallArc → ℕ → ℕ → Type 0
Steps arcs f g = Contains arcs (record { caller = f; callee = g })

-- a list of steps leads from one function to another
pub data Reach (Step : ℕ → ℕ → Type 0) : ℕ → ℕ → Type 0 where
  one : {f g : ℕ} → Step f g → Reach Step f g
  more : {f g h : ℕ} → Step f g → Reach Step g h → Reach Step f h

-- f and g are one function, or each reaches the other
abbrev pub SameGroup : (ℕ → ℕ → Type 0) → ℕ → ℕ → Type 0
SameGroup Step f g = (f ≡ g) ⊎ (Reach Step f g × Reach Step g f)

-- With each function that passes the test, exactly the functions of its group do.
abbrev pub IsGroup : (ℕ → ℕ → Type 0) → (ℕ → Bool) → Type 0
IsGroup Step member = (f g : ℕ) → member f ≡ true → (member g ≡ true) ↔ SameGroup Step f g
