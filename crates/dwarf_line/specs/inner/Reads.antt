-- What a call that reads bytes answered, by the reader that says what stands there.
use Rattle.std.specs.Prelude.{◌≡◌, ℕ, List, Option, Some, None, Result, Ok, Err, ⊤}
use Rattle.dwarf_line.specs.declared.fault.Fault.{Fault}
use Rattle.dwarf_line.specs.declared.fault.Fault.TheVariants.{Damaged, OutOfMemory}

-- what a call on the bytes `old`, which left `new`, answered is what the reader gives, seen by view
abbrev pub ReadsAs : {X Y : Type 0} → (X → Y) → (List ℕ → Option (Y × List ℕ)) → List ℕ → Option X → List ℕ → Type 0
ReadsAs view read old None new = read old ≡ None
ReadsAs view read old (Some x) new = read old ≡ Some (view x, new)

-- the same, of a value that is seen as it is
abbrev pub Reads : {X : Type 0} → (List ℕ → Option (X × List ℕ)) → List ℕ → Option X → List ℕ → Type 0
Reads read old found new = ReadsAs (λ x. x) read old found new

-- the same of a call that may also want memory, of which nothing is said
abbrev pub ReadsOr : {X Y : Type 0} → (X → Y) → (List ℕ → Option (Y × List ℕ)) → List ℕ → Result X Fault → List ℕ
    → Type 0
ReadsOr view read old (Ok x) new = read old ≡ Some (view x, new)
ReadsOr view read old (Err Damaged) new = read old ≡ None
ReadsOr view read old (Err (OutOfMemory _)) new = ⊤

-- the same of a call that only passes over bytes
abbrev pub Passes : {X : Type 0} → (List ℕ → Option (List ℕ)) → List ℕ → Option X → List ℕ → Type 0
Passes behind old None new = behind old ≡ None
Passes behind old (Some x) new = behind old ≡ Some new

-- the same of a call that reads the whole of its bytes
abbrev pub GivesAs : {X Y : Type 0} → (X → Y) → Result X Fault → Option Y → Type 0
GivesAs view (Ok x) read = read ≡ Some (view x)
GivesAs view (Err Damaged) read = read ≡ None
GivesAs view (Err (OutOfMemory _)) read = ⊤
