-- Two optional values that go together.
use Rattle.std.specs.Prelude.{Option, Some, None, ⊤}

-- both are there and go together, or neither is there
abbrev pub Shows : {A B : Type 0} → (A → B → Type 0) → Option A → Option B → Type 0
Shows R None None = ⊤
Shows R None (Some y) = ⊥
Shows R (Some x) None = ⊥
Shows R (Some x) (Some y) = R x y
