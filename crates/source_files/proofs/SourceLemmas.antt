-- One more source text.
use Rattle.std.proofs.Common.{◌≡◌, ◌⊎◌, ℕ, ◌+◌, ◌-◌, ◌^◌, ◌<◌, ◌≤◌, cond, Bool, is_some, List, [], ◌∷◌}
use Rattle.std.proofs.Common.{◌++◌, Option, Some, None, Result, Ok, Err, Vec, inl, inr, refl, sym, ap, subst, ◌∙◌}
use Rattle.std.proofs.Common.{arith}
use Rattle.std.proofs.Common.{zero-add, length, take, get_or}
use Rattle.std.proofs.lemmas.Bool.{cases_lt, cond_both}
use Rattle.std.specs.List.{count_by}
use Rattle.std.specs.declared.alloc.Global.{Global}
use Rattle.std.proofs.lemmas.List.{take_more}
use Rattle.std.proofs.lemmas.List.Sums.{sum_by-append}
use Rattle.outside.specs.Files.{Files, Rose}
use Rattle.outside.specs.Load.{LoadAnswers, load_of}
use Rattle.outside.specs.declared.folder.LoadError.{LoadError}
use Rattle.outside.specs.declared.folder.LoadError.TheVariants as load
use Rattle.annotate.specs.Report.{SourceTexts}
use Rattle.annotate.specs.declared.source.Source.{Source}
use Rattle.annotate.specs.declared.source.Source.TheVariants.{Found, Missing, TooLong}
use Rattle.profile_files.specs.Loads.{IsLoad}
use Rattle.outside.specs.Limits.{text_limit}
use Rattle.source_files.specs.Sources.{AreSources, AreTexts, folder_name, is_lost, load_behind}
use Rattle.profile_files.proofs.LoadLemmas.{IsLoad-within}

AreTexts-within : (told : Option Files) (before from to now : ℕ) (names : List (List ℕ)) (texts : SourceTexts)
    → before ≤ from → to ≤ now → AreTexts told from to names texts → AreTexts told before now names texts
AreTexts-within told before from to now [] [] early late are = tt
AreTexts-within told before from to now [] (text ∷ texts) early late are = are
AreTexts-within told before from to now (name ∷ names) [] early late are = are
AreTexts-within told before from to now (name ∷ names) (text ∷ texts) early late are = (
  are.0,
  IsLoad-within told (folder_name name) text_limit before from to now (load_behind text.1) early late are.1,
  AreTexts-within told before from to now names texts early late are.2,
)

AreTexts-more : (told : Option Files) (before now : ℕ) (names : List (List ℕ)) (texts : SourceTexts) (name : List ℕ)
    (source : Source)
    → AreTexts told before now names texts
    → IsLoad told (folder_name name) text_limit before now (load_behind source)
    → AreTexts told before now (names ++ name ∷ []) (texts ++ (name, source) ∷ [])
AreTexts-more told before now [] [] name source are is = (refl, is, tt)
AreTexts-more told before now [] (text ∷ texts) name source are is = absurd are
AreTexts-more told before now (first ∷ names) [] name source are is = absurd are
AreTexts-more told before now (first ∷ names) (text ∷ texts) name source are is =
    (are.0, are.1, AreTexts-more told before now names texts name source are.2 is)

-- ---- how many texts are lost

abbrev one : Option Files → List ℕ → Source → ℕ
one told name source = cond (is_lost told name source) 1 0

-- a load that failed, from its answer
failing : (told : Option Files) (name : List ℕ) (limit from to : ℕ) (answer : Result (Vec ℕ Global) LoadError)
    → Err load.Failed ≡ load_of answer → LoadAnswers told name limit from to answer
    → LoadAnswers told name limit from to (Err load.Failed)
failing told name limit from to (Ok bytes) is answers = absurd (cc)
failing told name limit from to (Err load.Failed) is answers = answers
failing told name limit from to (Err (load.TooLong len)) is answers = absurd (cc)
failing told name limit from to (Err (load.OutOfMemory _)) is answers = absurd (cc)

by_count : (from to : ℕ) → (from + 1 < 2 ^ 64 - 1) ⊎ (2 ^ 64 - 1 ≤ from + 1) → Rose from to
    → (from + 1 ≤ to) ⊎ (2 ^ 64 - 1 ≤ to)
by_count from to (inl low) rose = inl (omega arith)
by_count from to (inr full) rose = inr (omega arith)

-- Where a name that is held isn't loaded, the count rose.
lost_one : (told : Option Files) (name : List ℕ) (from to : ℕ) (source : Source) → from ≤ to
    → IsLoad told (folder_name name) text_limit from to (load_behind source)
    → (from + one told name source ≤ to) ⊎ (2 ^ 64 - 1 ≤ to)
lost_one told name from to (Found text) later is = inl (omega arith)
lost_one told name from to (TooLong len) later is = inl (omega arith)
lost_one told name from to Missing later is =
    by told (failing told (folder_name name) text_limit from to is.answer is.is is.answers)
  where
    risen : (told : Option Files) → Rose from to → (from + one told name Missing ≤ to) ⊎ (2 ^ 64 - 1 ≤ to)
    risen told rose =
        cond_both (is_lost told name Missing) 1 0 (λ n. (from + n ≤ to) ⊎ (2 ^ 64 - 1 ≤ to))
        (λ lost. by_count from to (cases_lt (from + 1) (2 ^ 64 - 1)) rose) (λ kept. inl (omega arith))

    by : (told : Option Files) → LoadAnswers told (folder_name name) text_limit from to (Err load.Failed)
        → (from + one told name Missing ≤ to) ⊎ (2 ^ 64 - 1 ≤ to)
    by None rose = risen None rose
    by (Some files) (inr rose) = risen (Some files) rose
    by (Some files) (inl none) =
        inl (subst (λ n. from + n ≤ to) (sym (ap (λ found. cond (is_some found) 1 0) none)) (omega arith))

more_lost : (p : List ℕ × Source → Bool) (texts : SourceTexts) (text : List ℕ × Source)
    → count_by p (texts ++ text ∷ []) ≡ count_by p texts + cond (p text) 1 0
more_lost p texts text =
    sum_by-append (λ x. cond (p x) 1 0) texts (text ∷ [])
    ∙ ap (λ n. count_by p texts + n) (zero-add (cond (p text) 1 0))

-- the bound with one more
bound : (before from to lost more all : ℕ) → (before + lost ≤ from) ⊎ (2 ^ 64 - 1 ≤ from)
    → (from + more ≤ to) ⊎ (2 ^ 64 - 1 ≤ to)
    → from ≤ to → all ≡ lost + more → (before + all ≤ to) ⊎ (2 ^ 64 - 1 ≤ to)
bound before from to lost more all (inl few) (inl next) later is = inl (omega arith)
bound before from to lost more all (inl few) (inr full) later is = inr full
bound before from to lost more all (inr full) next later is = inr (omega arith)

pub AreSources-more : (told seen : Option Files) (before from to : ℕ) (names : List (List ℕ)) (texts : SourceTexts)
    (name : List ℕ) (source : Source)
    → AreSources told before from names texts → before ≤ from → from ≤ to → seen ≡ told
    → IsLoad seen (folder_name name) text_limit from to (load_behind source)
    → AreSources told before to (names ++ name ∷ []) (texts ++ (name, source) ∷ [])
AreSources-more told seen before from to names texts name source are early later same is =
    let here : IsLoad told (folder_name name) text_limit from to (load_behind source) =
    subst (λ t. IsLoad t (folder_name name) text_limit from to (load_behind source)) same is in record {
      loaded = AreTexts-more told before to names texts name source
          (AreTexts-within told before before from to names texts (omega arith) later are.loaded)
          (IsLoad-within told (folder_name name) text_limit before from to to (load_behind source) early
          (omega arith) here);
      lost = bound before from to (count_by (λ text. is_lost told text.0 text.1) texts) (one told name source)
          (count_by (λ text. is_lost told text.0 text.1) (texts ++ (name, source) ∷ []))
          are.lost (lost_one told name from to source later here) later
          (more_lost (λ text. is_lost told text.0 text.1) texts (name, source));
    }

pub AreSources-within : (told : Option Files) (before from to now : ℕ) (names : List (List ℕ)) (texts : SourceTexts)
    → before ≤ from → to ≤ now → AreSources told from to names texts → AreSources told before now names texts
AreSources-within told before from to now names texts early late are = record {
  loaded = AreTexts-within told before from to now names texts early late are.loaded;
  lost = by are.lost;
}
  where
    by : (from + count_by (λ text. is_lost told text.0 text.1) texts ≤ to) ⊎ (2 ^ 64 - 1 ≤ to)
        → (before + count_by (λ text. is_lost told text.0 text.1) texts ≤ now) ⊎ (2 ^ 64 - 1 ≤ now)
    by (inl few) = inl (omega arith)
    by (inr full) = inr (omega arith)

-- The same of the first names of a list, where the text was put behind the others.
pub AreSources-step : (told seen : Option Files) (before from to : ℕ) (names : List (List ℕ)) (i : ℕ)
    (name item : List ℕ) (texts more : SourceTexts) (source : Source)
    → AreSources told before from (take i names) texts → before ≤ from → from ≤ to → seen ≡ told
    → i < length names → name ≡ get_or names i name → item ≡ name
    → IsLoad seen (folder_name name) text_limit from to (load_behind source)
    → more ≡ texts ++ (item, source) ∷ []
    → AreSources told before to (take (i + 1) names) more
AreSources-step told seen before from to names i name item texts more source are early later same within is copied
    loaded put =
    subst (λ n. AreSources told before to n more)
    (ap (λ n. take i names ++ n ∷ []) is ∙ sym (take_more names i name within))
    (subst (λ t. AreSources told before to (take i names ++ name ∷ []) t)
    (ap (λ n. texts ++ (n, source) ∷ []) (sym copied) ∙ sym put)
    (AreSources-more told seen before from to (take i names) texts name source are early later same loaded))
