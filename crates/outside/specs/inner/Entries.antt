-- What is kept, one entry after another, as long as memory lasts.
use Rattle.std.specs.Prelude.{◌≡◌, List, [], ◌∷◌, ◌++◌, Option, Some, None, Result, Ok, Err}
use Rattle.byte_text.specs.declared.memory.OutOfMemory.{OutOfMemory}

-- This entry is behind the others; or nothing is kept any more, as it must be where there is no entry.
abbrev pub KeepsOne : {E : Type 0} → Option (List E) → Result E OutOfMemory → Option (List E) → Type 0
KeepsOne old entry None = Unit {0}
KeepsOne None entry (Some now) = ⊥
KeepsOne (Some before) (Err refused) (Some now) = ⊥
KeepsOne (Some before) (Ok entry) (Some now) = now ≡ before ++ entry ∷ []
