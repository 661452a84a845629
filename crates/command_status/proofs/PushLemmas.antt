-- What was appended, piece by piece, is what was to be appended.
use Rattle.std.proofs.Common.{◌≡◌, ◌++◌, ℕ, List, OnOk, Result, Ok, Err, ap, ◌∙◌, append_assoc}
use Rattle.byte_text.specs.declared.memory.OutOfMemory.{OutOfMemory}

pub pushed : {U : Type 0} (result : Result U OutOfMemory) (old new words text : List ℕ) → words ≡ text
    → OnOk result (new ≡ old ++ words)
    → OnOk result (new ≡ old ++ text)
pushed (Ok done) old new words text same is = is ∙ ap (λ t. old ++ t) same
pushed (Err refused) old new words text same is = is

pub pushed_two : {U : Type 0} (result : Result U OutOfMemory) (old new a b text : List ℕ) → a ++ b ≡ text
    → OnOk result (new ≡ (old ++ a) ++ b)
    → OnOk result (new ≡ old ++ text)
pushed_two (Ok done) old new a b text same is = is ∙ append_assoc old a b ∙ ap (λ t. old ++ t) same
pushed_two (Err refused) old new a b text same is = is

pub pushed_three : {U : Type 0} (result : Result U OutOfMemory) (old new a b c text : List ℕ) → (a ++ b) ++ c ≡ text
    → OnOk result (new ≡ ((old ++ a) ++ b) ++ c)
    → OnOk result (new ≡ old ++ text)
pushed_three (Ok done) old new a b c text same is =
    is ∙ ap (λ t. t ++ c) (append_assoc old a b) ∙ append_assoc old (a ++ b) c ∙ ap (λ t. old ++ t) same
pushed_three (Err refused) old new a b c text same is = is

pub pushed_four : {U : Type 0} (result : Result U OutOfMemory) (old new a b c d text : List ℕ)
    → ((a ++ b) ++ c) ++ d ≡ text
    → OnOk result (new ≡ (((old ++ a) ++ b) ++ c) ++ d)
    → OnOk result (new ≡ old ++ text)
pushed_four (Ok done) old new a b c d text same is =
    is ∙ ap (λ t. (t ++ c) ++ d) (append_assoc old a b) ∙ ap (λ t. t ++ d) (append_assoc old (a ++ b) c)
    ∙ append_assoc old ((a ++ b) ++ c) d
    ∙ ap (λ t. old ++ t) same
pushed_four (Err refused) old new a b c d text same is = is
