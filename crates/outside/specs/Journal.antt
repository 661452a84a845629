-- What a folder tells of the calls that were made of it, and a sink of its writes: each with its answer, in the order in
-- which they were made. To tell them takes memory: where that is refused, nothing is told from then on.
use Rattle.std.specs.Prelude.{◌≡◌, ℕ, ◌<◌, ◌≤◌, List, [], ◌∷◌, ◌++◌, length, drop, Option, Some, None, Result, Ok, Err}
use Rattle.std.specs.Prelude.{IsErrAnd, IsOk}
use Rattle.outside.specs.Load.{Load}
use Rattle.outside.specs.declared.folder.PutError.{PutError}
use Rattle.outside.specs.declared.sink.WriteError.{WriteError}

pub data Call : Type 0 where
  -- a load of the file of a name, within a limit, and what it gave
  Loaded : List ℕ → ℕ → Load → Call
  -- a put of bytes under a name
  Put : List ℕ → List ℕ → Result (Unit {0}) PutError → Call

-- a write of a piece, and how many of its bytes were taken
pub record Wrote : Type 0 where
  pub piece : List ℕ
  pub answer : Result ℕ WriteError

abbrev pub wrote : List ℕ → Result ℕ WriteError → Wrote
wrote piece answer = record { piece = piece; answer = answer }

-- These are told behind what was told before; or nothing is told any more, for good.
abbrev pub TellsMore : {C : Type 0} → Option (List C) → List C → Option (List C) → Type 0
TellsMore old more None = Unit {0}
TellsMore None more (Some now) = ⊥
TellsMore (Some before) more (Some now) = now ≡ before ++ more

-- ---- a whole write

-- after an answer: what holds once so many bytes were taken, or once the write was refused so
abbrev pub OnAnswer : Result ℕ WriteError → (ℕ → Type 0) → (WriteError → Type 0) → Type 0
OnAnswer (Ok count) taken refused = taken count
OnAnswer (Err error) taken refused = refused error

-- The writes of bytes: each is of all that the ones before it have left, and one that was refused is the last.
abbrev pub AreWritesOf : {U : Type 0} → List ℕ → List Wrote → Result U WriteError → Type 0
AreWritesOf left [] answer = (left ≡ []) × IsOk answer
AreWritesOf left (wrote ∷ writes) answer =
    (wrote.piece ≡ left)
    × OnAnswer wrote.answer
    (λ count. (0 < count) × (count ≤ length left) × AreWritesOf (drop count left) writes answer)
    (λ error. (writes ≡ []) × IsErrAnd answer (λ e. e ≡ error))

-- after a whole write
abbrev pub TellsWrites : {U : Type 0} → Option (List Wrote) → List ℕ → Result U WriteError → Option (List Wrote) → Type 0
TellsWrites old bytes answer new = (writes : List Wrote) × AreWritesOf bytes writes answer × TellsMore old writes new

-- ---- pieces, one after another

-- each of these pieces was written whole before the next
abbrev pub AreWritten : List (List ℕ) → List Wrote → Type 0
AreWritten [] writes = writes ≡ []
AreWritten (piece ∷ pieces) writes =
    (own : List Wrote) × (rest : List Wrote) × (writes ≡ own ++ rest) × AreWritesOf {U = Unit {0}} piece own (Ok tt)
    × AreWritten pieces rest

-- the writes of the first of these pieces, if there is one, where it was refused so
abbrev pub AreRefusedOf : WriteError → List (List ℕ) → List Wrote → Type 0
AreRefusedOf error [] writes = writes ≡ []
AreRefusedOf error (piece ∷ pieces) writes = AreWritesOf {U = Unit {0}} piece writes (Err error)

-- Pieces were written, each whole before the next, and then the first of others was refused so.
pub record AreWrittenTo (error : WriteError) (pieces next : List (List ℕ)) (writes : List Wrote) : Type 0 where
  pub before : List Wrote
  pub last : List Wrote
  pub together : writes ≡ before ++ last
  pub written : AreWritten pieces before
  pub refused : AreRefusedOf error next last
