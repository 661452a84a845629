-- The thread that is remembered as ready stays so where no event uses room.
use Rattle.std.proofs.Common.{◌≡◌, ◌<◌, ℕ, zero, suc, Bool, true, false, List}
use Rattle.std.proofs.Common.{[], ◌∷◌, length, get_or, Option, None, Some, position}
use Rattle.std.proofs.Common.{refl, sym, subst, ◌∙◌, arith}
use Rattle.event_costs.specs.declared.numbers.ThreadNo.{ThreadNo}
use Rattle.std.proofs.lemmas.List.Quantifiers.{position-Some}
use Rattle.recorder.specs.Accounts.{IsReady, is_ledger_of, knows, nobody, Recording}
use Rattle.recorder.specs.declared.recorder.ReadyThread.{ReadyThread}
use Rattle.recorder.specs.inner.Places.{IsAt, IsRemembered}
use Rattle.recorder.proofs.StayLemmas.{any_there}

pub one_element : {X : Type 0} (xs : List X) (i : ℕ) (x y : X) → i < length xs → get_or xs i x ≡ get_or xs i y
one_element [] i x y less = absurd (omega (arith, less))
one_element (z ∷ xs) zero x y less = refl
one_element (z ∷ xs) (suc i) x y less = one_element xs i x y (omega (arith, less))

-- a thread at a place is known
pub known_at : (r : Recording) (t : ThreadNo) (i : ℕ) → IsAt r t i → knows r t ≡ true
known_at r t i at =
    let found = position-Some (is_ledger_of t) r.threads i (nobody t) at in
    any_there (is_ledger_of t) r.threads i (nobody t) found.0 found.1

still_remembered : (r s : Recording) (ready : Option ReadyThread)
    → ((o : ThreadNo) → position (is_ledger_of o) s.threads ≡ position (is_ledger_of o) r.threads)
    → ((o : ThreadNo) → knows s o ≡ knows r o) → ((o : ThreadNo) → IsReady r o → IsReady s o) → IsRemembered r ready
    → IsRemembered s ready
still_remembered r s None places known lasting is = tt
still_remembered r s (Some it) places known lasting is = record {
  at = places it.thread ∙ is.at;
  is_known = known it.thread ∙ is.is_known;
  ready = lasting it.thread is.ready;
}

-- what is remembered after an event: what was before where it is plain, else its own thread, if any
pub remembered_after : (r s : Recording) (plain : Bool) (old new : Option ReadyThread) → (plain ≡ true → new ≡ old)
    → ((o : ThreadNo) → position (is_ledger_of o) s.threads ≡ position (is_ledger_of o) r.threads)
    → ((o : ThreadNo) → knows s o ≡ knows r o)
    → (plain ≡ true → (o : ThreadNo) → IsReady r o → IsReady s o)
    → (plain ≡ false → IsRemembered s new) → IsRemembered r old → IsRemembered s new
remembered_after r s true old new is places known lasting again before =
    subst (λ (o : Option ReadyThread). IsRemembered s o) (sym (is refl))
    (still_remembered r s old places known (lasting refl) before)
remembered_after r s false old new is places known lasting again before = again refl
