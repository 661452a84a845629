-- The cost of the events during which a function stands on the stack, each counted once.
use Rattle.std.specs.Prelude.{ℕ, Bool, false, ◌&&◌, ◌||◌, List, [], ◌∷◌, if◌then◌else◌, sum_by, slice_index}
use Rattle.std.specs.List.{list_any}
use Rattle.shadow_stack.specs.Stacks.{Stack}
use Rattle.shadow_stack.specs.Traces.{EventOnStack}

-- a frame of a function that passes stands on the stack
abbrev pub stands : (ℕ → Bool) → Stack → Bool
stands member s = list_any (λ a. member a.func.0) s

-- The cost of a kind of the events, of all threads, on whose thread's stack such a frame stands. Each counts once,
-- however many such frames there are.
abbrev pub once : (ℕ → Bool) → ℕ → List EventOnStack → ℕ
once member kind xs = sum_by (λ x. if stands member x.stack then slice_index x.cost kind else 0) xs

-- a frame of a callee stands directly on a frame of a caller
abbrev pub stands_on : (ℕ → Bool) → (ℕ → Bool) → Stack → Bool
stands_on caller callee [] = false
stands_on caller callee (a ∷ []) = false
stands_on caller callee (a ∷ (b ∷ s)) = (caller b.func.0 && callee a.func.0) || stands_on caller callee (b ∷ s)

-- the cost of a kind of the events on whose thread's stack it does, each counted once
abbrev pub once_pair : (ℕ → Bool) → (ℕ → Bool) → ℕ → List EventOnStack → ℕ
once_pair caller callee kind xs =
    sum_by (λ x. if stands_on caller callee x.stack then slice_index x.cost kind else 0) xs
