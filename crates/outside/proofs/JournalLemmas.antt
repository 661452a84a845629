-- A whole write is told, write by write; and calls are told, one after another.
use Rattle.std.proofs.Common.{◌≡◌, ℕ, ◌<◌, ◌≤◌, List, [], ◌∷◌, ◌++◌, length, drop, map, Option, Some, None, option_map}
use Rattle.std.proofs.Common.{Result, Ok, Err, IfOk, refl, ap, sym, subst, ◌∙◌, append_assoc, arith, Bool, true, false}
use Rattle.std.specs.Prelude.{◌==◌}
use Rattle.std.specs.Result.{IsErrAnd}
use Rattle.std.proofs.lemmas.Bool.Decides.{nat_tests}
use Rattle.std.proofs.lemmas.List.{append-nil, map-append}
use Rattle.byte_text.specs.declared.memory.OutOfMemory.{OutOfMemory}
use Rattle.outside.specs.Journal.{AreWritesOf, TellsMore, TellsWrites, Wrote, wrote}
use Rattle.outside.specs.declared.sink.WriteError.{WriteError}
use Rattle.outside.specs.inner.Entries.{KeepsOne}

pub tells_nothing_more : {C : Type 0} (told : Option (List C)) → TellsMore told [] told
tells_nothing_more None = tt
tells_nothing_more (Some calls) = sym (append-nil calls)

-- the one, and then the other
pub tells_then : {C : Type 0} (old mid new : Option (List C)) (xs ys : List C) → TellsMore old xs mid
    → TellsMore mid ys new → TellsMore old (xs ++ ys) new
tells_then old mid None xs ys first next = tt
tells_then old None (Some now) xs ys first next = absurd next
tells_then None (Some between) (Some now) xs ys first next = absurd first
tells_then (Some before) (Some between) (Some now) xs ys first next =
    next ∙ ap (λ told. told ++ ys) first ∙ append_assoc before xs ys

-- an entry that is kept is told
pub tells_kept : {E C : Type 0} (meaning : E → C) (call : C) (old : Option (List E))
    (entry : Result E OutOfMemory) (new : Option (List E)) → KeepsOne old entry new → IfOk entry (λ e. meaning e ≡ call)
    → TellsMore (option_map (map meaning) old) (call ∷ []) (option_map (map meaning) new)
tells_kept meaning call old entry None keeps is = tt
tells_kept meaning call None entry (Some now) keeps is = absurd keeps
tells_kept meaning call (Some before) (Err refused) (Some now) keeps is = absurd keeps
tells_kept meaning call (Some before) (Ok e) (Some now) keeps is =
    ap (map meaning) keeps ∙ map-append meaning before (e ∷ [])
    ∙ ap (λ c. map meaning before ++ c ∷ []) is

-- these writes were taken, each of what the ones before it left, and this is left then
abbrev pub AreTaken : List ℕ → List Wrote → List ℕ → Type 0
AreTaken bytes [] left = bytes ≡ left
AreTaken bytes (first ∷ writes) left =
    (count : ℕ) × (first ≡ record { piece = bytes; answer = Ok count }) × (0 < count) × (count ≤ length bytes)
    × AreTaken (drop count bytes) writes left

-- one more
pub taken_on : (bytes : List ℕ) (writes : List Wrote) (left : List ℕ) (count : ℕ) → 0 < count → count ≤ length left
    → AreTaken bytes writes left
    → AreTaken bytes (writes ++ record { piece = left; answer = Ok count } ∷ []) (drop count left)
taken_on bytes [] left count some within taken = (
  count,
  ap (λ b. record { piece = b; answer = Ok count }) (sym taken),
  some,
  subst (λ (b : List ℕ). count ≤ length b) (sym taken) within,
  ap (drop count) taken,
)
taken_on bytes (first ∷ writes) left count some within taken =
    (taken.0, taken.1, taken.2, taken.3, taken_on (drop taken.0 bytes) writes left count some within taken.4)

-- all were taken; or the one that follows is refused
first_taken : {U : Type 0} (first : Wrote) (bytes : List ℕ) (count : ℕ) (writes : List Wrote)
    (answer : Result U WriteError) → first ≡ record { piece = bytes; answer = Ok count } → 0 < count
    → count ≤ length bytes → AreWritesOf (drop count bytes) writes answer → AreWritesOf bytes (first ∷ writes) answer
first_taken first bytes count writes answer is some within rest =
    subst (λ w. AreWritesOf bytes (w ∷ writes) answer) (sym is) (refl, (some, within, rest))

pub all_taken : {U : Type 0} (bytes : List ℕ) (writes : List Wrote) (u : U) → AreTaken bytes writes []
    → AreWritesOf bytes writes (Ok u)
all_taken bytes [] u taken = (taken, refl)
all_taken bytes (first ∷ writes) u taken =
    first_taken first bytes taken.0 writes (Ok u) taken.1 taken.2 taken.3
    (all_taken (drop taken.0 bytes) writes u taken.4)

one_refused : {U : Type 0} (bytes : List ℕ) (writes : List Wrote) (left : List ℕ) (error : WriteError)
    (result : Result U WriteError) → IsErrAnd result (λ e. e ≡ error) → AreTaken bytes writes left
    → AreWritesOf bytes (writes ++ wrote left (Err error) ∷ []) result
one_refused bytes [] left error result is taken = (sym taken, (refl, is))
one_refused bytes (first ∷ writes) left error result is taken =
    first_taken first bytes taken.0 (writes ++ wrote left (Err error) ∷ []) result taken.1 taken.2 taken.3
    (one_refused (drop taken.0 bytes) writes left error result is taken.4)

-- the whole write is refused as the write was
pub tells_refused : {U : Type 0} (old mid new : Option (List Wrote)) (bytes left : List ℕ) (writes : List Wrote)
    (error : WriteError) (result : Result U WriteError) → IsErrAnd result (λ e. e ≡ error)
    → AreTaken bytes writes left → TellsMore old writes mid → TellsMore mid (wrote left (Err error) ∷ []) new
    → TellsWrites old bytes result new
tells_refused old mid new bytes left writes error result is taken before now = (
  writes ++ wrote left (Err error) ∷ [],
  one_refused bytes writes left error result is taken,
  tells_then old mid new writes (wrote left (Err error) ∷ []) before now,
)

-- what is left, as a test of it says
pub is_something : (left : List ℕ) (empty : Bool) → empty ≡ (length left == 0) → empty ≡ false → 0 < length left
is_something left empty is not_so = grind (arith, nat_tests, is, not_so)

pub is_nothing : (left : List ℕ) (empty : Bool) → empty ≡ (length left == 0) → empty ≡ true → left ≡ []
is_nothing [] empty is so = refl
is_nothing (b ∷ left) empty is so = absurd (grind (arith, nat_tests, is, so))
