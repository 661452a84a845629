-- The bits of threads that may have had an event, after what changes accounts.
use Rattle.std.proofs.Common.{◌≡◌, ◌≢◌, ℕ, ◌+◌, ◌-◌, ◌*◌, ◌/◌, ◌%◌, ◌^◌, ◌<◌, ◌≤◌, ◌==◌, Bool, true, false, List, ◌⊎◌, inl, inr}
use Rattle.std.proofs.Common.{refl, ap, sym, subst, ◌∙◌, arith, Option, None, Some, get_or, set, length}
use Rattle.std.proofs.lemmas.Bool.Decides.{eqb_tells}
use Rattle.std.proofs.lemmas.List.{get_or-set_other, get_or_default, get_or_past}
use Rattle.std.proofs.lemmas.Grind.{get_or-set_at}
use Rattle.std.proofs.lemmas.Nat.Bits.{bit_at-zero, bit_at_clear_other, bit_at_ones, bit_at_set_other, bit_at_set_same}
use Rattle.std.proofs.lemmas.Nat.{shr-shr}
use Rattle.std.specs.Int.{bit_at, bit_not, w64}
use Rattle.std.specs.Int.Bits.{bit_and, bit_or}
use Rattle.std.specs.Prelude.{Result, Ok, Err, OnOk, OnErr, is_ok}
use Rattle.event_costs.specs.declared.numbers.ThreadNo.{ThreadNo}
use Rattle.recorder.specs.Accounts.{account, ledger, Ledger, Recording}
use Rattle.recorder.specs.inner.Active.{AreMarked, IsMarkedReady, may_have, word_of}
use Rattle.recorder.specs.declared.recorder.ReadyThread.{ReadyThread}
use Rattle.recorder.proofs.LineLemmas.{true_false}
use Rattle.recorder.proofs.RecordingLemmas.{same_thread}

-- ---- bits

abbrev Tells : ThreadNo → ThreadNo → Type 0
Tells o t = ((o.0 == t.0 ≡ true) × (o.0 ≡ t.0)) ⊎ ((o.0 == t.0 ≡ false) × (o.0 ≢ t.0))

-- a thread beyond the words
pub past_words : (words : List ℕ) (t : ThreadNo) → length words ≤ t.0 / 64 → may_have words t ≡ true
past_words words t past =
    ap (λ (w : ℕ). bit_at w (t.0 % 64) == 1) (get_or_past words (t.0 / 64) 18446744073709551615 past)
    ∙ ap (λ (b : ℕ). b == 1) (bit_at_ones 64 (t.0 % 64) (omega arith))

-- one word is another
module _ (words : List ℕ) (t : ThreadNo) (word : ℕ) (within : t.0 / 64 < length words)
    (found : word ≡ get_or words (t.0 / 64) word) where
  is : word ≡ word_of words t
  is = found ∙ get_or_default words (t.0 / 64) word 18446744073709551615 within

  near_bit : (x : ℕ) (o : ThreadNo) → o.0 / 64 ≡ t.0 / 64 → word_of (set words (t.0 / 64) x) o ≡ x
  near_bit x o near = get_or-set_at words (t.0 / 64) (o.0 / 64) x 18446744073709551615 near within

  -- another thread of the word, whose bit stays
  other_bit : (x : ℕ) (o : ThreadNo) → o.0 / 64 ≡ t.0 / 64 → bit_at x (o.0 % 64) ≡ bit_at word (o.0 % 64)
      → may_have (set words (t.0 / 64) x) o ≡ may_have words o
  other_bit x o near stays =
      ap (λ (w : ℕ). bit_at w (o.0 % 64) == 1) (near_bit x o near) ∙ ap (λ (b : ℕ). b == 1) stays
      ∙ ap (λ (w : ℕ). bit_at w (o.0 % 64) == 1)
      (is ∙ ap (λ (n : ℕ). get_or words n 18446744073709551615) (sym near))

  far_bit : (x : ℕ) (o : ThreadNo) → o.0 / 64 ≢ t.0 / 64 → may_have (set words (t.0 / 64) x) o ≡ may_have words o
  far_bit x o far =
      ap (λ (w : ℕ). bit_at w (o.0 % 64) == 1)
      (get_or-set_other words (t.0 / 64) (o.0 / 64) x 18446744073709551615 far)

  -- a bit is set
  pub set_own : may_have (set words (t.0 / 64) (bit_or word (1 * 2 ^ (t.0 % 64) % 2 ^ 64))) t ≡ true
  set_own =
      ap (λ (w : ℕ). bit_at w (t.0 % 64) == 1) (near_bit (bit_or word (1 * 2 ^ (t.0 % 64) % 2 ^ 64)) t refl)
      ∙ ap (λ (b : ℕ). b == 1) (bit_at_set_same w64 word (t.0 % 64) (omega arith))

  module _ (o : ThreadNo) (differs : o.0 ≢ t.0) where
    apart : o.0 / 64 ≡ t.0 / 64 → o.0 % 64 ≢ t.0 % 64
    apart near same = differs (omega (arith, near, same))

    changes : (x : ℕ) → (o.0 % 64 ≢ t.0 % 64 → bit_at x (o.0 % 64) ≡ bit_at word (o.0 % 64))
        → may_have (set words (t.0 / 64) x) o ≡ may_have words o
    changes x stays = by (eqb_tells (o.0 / 64) (t.0 / 64))
      where
        by : ((o.0 / 64 == t.0 / 64 ≡ true) × (o.0 / 64 ≡ t.0 / 64))
            ⊎ ((o.0 / 64 == t.0 / 64 ≡ false) × (o.0 / 64 ≢ t.0 / 64))
            → may_have (set words (t.0 / 64) x) o ≡ may_have words o
        by (inl is_) = other_bit x o is_.1 (stays (apart is_.1))
        by (inr far) = far_bit x o far.1

    -- or cleared
    pub clear_others : may_have (set words (t.0 / 64) (bit_and word (bit_not w64 (1 * 2 ^ (t.0 % 64) % 2 ^ 64)))) o
        ≡ may_have words o
    clear_others =
        changes (bit_and word (bit_not w64 (1 * 2 ^ (t.0 % 64) % 2 ^ 64)))
        (bit_at_clear_other w64 word (t.0 % 64) (omega arith) (o.0 % 64) (omega arith))

    set_apart : may_have (set words (t.0 / 64) (bit_or word (1 * 2 ^ (t.0 % 64) % 2 ^ 64))) o ≡ may_have words o
    set_apart =
        changes (bit_or word (1 * 2 ^ (t.0 % 64) % 2 ^ 64))
        (bit_at_set_other w64 word (t.0 % 64) (omega arith) (o.0 % 64))

  pub set_others : (o : ThreadNo) → may_have words o ≡ true
      → may_have (set words (t.0 / 64) (bit_or word (1 * 2 ^ (t.0 % 64) % 2 ^ 64))) o ≡ true
  set_others o had = by (eqb_tells o.0 t.0)
    where
      by : Tells o t → may_have (set words (t.0 / 64) (bit_or word (1 * 2 ^ (t.0 % 64) % 2 ^ 64))) o ≡ true
      by (inl is_) =
          subst (λ (u : ThreadNo). may_have (set words (t.0 / 64) (bit_or word (1 * 2 ^ (t.0 % 64) % 2 ^ 64))) u ≡ true)
          (sym (same_thread o t is_.1)) set_own
      by (inr differs) = set_apart o differs.1 ∙ had

-- no bit of a word from this one on
pub none_from : (words : List ℕ) (t o : ThreadNo) → word_of words t / 2 ^ (t.0 % 64) ≡ 0 → t.0 ≤ o.0
    → o.0 < t.0 + (64 - t.0 % 64) → may_have words o ≡ false
none_from words t o none low high =
    let near : o.0 / 64 ≡ t.0 / 64 = omega (arith, low, high) in
    let from : o.0 % 64 ≡ t.0 % 64 + (o.0 % 64 - t.0 % 64) = omega (arith, low, high) in
    ap (λ (n : ℕ). bit_at (get_or words n 18446744073709551615) (o.0 % 64) == 1) near
    ∙ ap (λ (i : ℕ). bit_at (word_of words t) i == 1) from
    ∙ ap (λ (b : ℕ). b % 2 == 1) (sym (shr-shr (word_of words t) (t.0 % 64) (o.0 % 64 - t.0 % 64)))
    ∙ ap (λ (w : ℕ). bit_at w (o.0 % 64 - t.0 % 64) == 1) none
    ∙ ap (λ (b : ℕ). b == 1) (bit_at-zero (o.0 % 64 - t.0 % 64))

-- ---- marks

-- a thread without a mark had none
pub unmarked : (r : Recording) (marks : List ℕ) (t : ThreadNo) → AreMarked r marks → may_have marks t ≡ false
    → (account r t).had_event ≡ false
unmarked r marks t are none = by (account r t).had_event refl
  where
    by : (b : Bool) → (account r t).had_event ≡ b → (account r t).had_event ≡ false
    by false is = is
    by true is = absurd (true_false (sym (are t is) ∙ none))

-- what is remembered stays marked, or is forgotten
pub ready_marked : (plain : Bool) (was now : Option ReadyThread) (old new : List ℕ)
    → (plain ≡ true → now ≡ was) → ((o : ThreadNo) → may_have old o ≡ true → may_have new o ≡ true)
    → (plain ≡ false → IsMarkedReady now new) → IsMarkedReady was old → IsMarkedReady now new
ready_marked false was now old new same more own marked = own refl
ready_marked true was now old new same more own marked =
    subst (λ ready. IsMarkedReady ready new) (sym (same refl)) (by was marked)
  where
    by : (ready : Option ReadyThread) → IsMarkedReady ready old → IsMarkedReady ready new
    by None marked_ = tt
    by (Some it) marked_ = more it.thread marked_

module _ (r s : Recording) (old new : List ℕ) (are : AreMarked r old) where
  -- the marks stay, and no thread has an event that had none
  pub marks_stay : ((o : ThreadNo) → may_have old o ≡ true → may_have new o ≡ true)
      → ((o : ThreadNo) → (account s o).had_event ≡ true → (account r o).had_event ≡ true) → AreMarked s new
  marks_stay more fewer o had = more o (are o (fewer o had))

  module _ (t : ThreadNo) (others : (o : ThreadNo) → o.0 ≢ t.0 → ledger s o ≡ ledger r o) where
    had_before : (o : ThreadNo) → o.0 ≢ t.0 → (account s o).had_event ≡ true → (account r o).had_event ≡ true
    had_before o differs had = sym (ap (λ (k : Ledger). k.account.had_event) (others o differs)) ∙ had

    -- a thread has an event, and has a mark
    pub marked_after : ((o : ThreadNo) → may_have old o ≡ true → may_have new o ≡ true) → may_have new t ≡ true
        → AreMarked s new
    marked_after more own o had = by (eqb_tells o.0 t.0)
      where
        by : Tells o t → may_have new o ≡ true
        by (inl is) = subst (λ (u : ThreadNo). may_have new u ≡ true) (sym (same_thread o t is.1)) own
        by (inr differs) = more o (are o (had_before o differs.1 had))

    -- no event more of the thread
    pub marked_still : ((o : ThreadNo) → may_have old o ≡ true → may_have new o ≡ true)
        → ((account s t).had_event ≡ true → (account r t).had_event ≡ true) → AreMarked s new
    marked_still more own = marks_stay more fewer
      where
        by : (o : ThreadNo) → Tells o t → (account s o).had_event ≡ true → (account r o).had_event ≡ true
        by o (inl is) = subst (λ (u : ThreadNo). (account s u).had_event ≡ true → (account r u).had_event ≡ true)
            (sym (same_thread o t is.1)) own
        by o (inr differs) = had_before o differs.1

        fewer : (o : ThreadNo) → (account s o).had_event ≡ true → (account r o).had_event ≡ true
        fewer o = by o (eqb_tells o.0 t.0)

    -- The rows of the thread were taken, and its bit may go; or they were refused and stay.
    pub marked_taken : {U E : Type 0} (result : Result U E) → OnOk result ((account s t).had_event ≡ false)
        → OnErr result ((account s t).had_event ≡ (account r t).had_event)
        → ((o : ThreadNo) → o.0 ≢ t.0 → may_have new o ≡ may_have old o)
        → (is_ok result ≡ false → new ≡ old) → AreMarked s new
    marked_taken (Ok u) ok err same stay o had = by (eqb_tells o.0 t.0)
      where
        by : Tells o t → may_have new o ≡ true
        by (inl is) =
            absurd (true_false (sym had
            ∙ subst (λ (u : ThreadNo). (account s u).had_event ≡ false) (sym (same_thread o t is.1)) ok))
        by (inr differs) = same o differs.1 ∙ are o (had_before o differs.1 had)
    marked_taken (Err e) ok err same stay o had_ =
        marked_still (λ o_ is. subst (λ ws. may_have ws o_ ≡ true) (sym (stay refl)) is) (λ had. sym err ∙ had) o had_
