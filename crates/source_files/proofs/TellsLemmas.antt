-- The texts so far and the calls so far.
use Rattle.std.proofs.Common.{◌≡◌, ℕ, ◌+◌, ◌<◌, List, [], ◌∷◌, ◌++◌, length, map, take, drop, get_or, inl, inr}
use Rattle.std.proofs.Common.{Option, Result, Ok, Err, refl, sym, ap, subst, ◌∙◌, suc}
use Rattle.std.specs.Result.{IsErr}
use Rattle.std.proofs.lemmas.List.{append-nil, map-append, take-append-drop, take_more}
use Rattle.std.proofs.Math.Seq.{drop-cons}
use Rattle.outside.specs.Journal.{Call, TellsMore}
use Rattle.outside.proofs.JournalLemmas.{tells_nothing_more, tells_then}
use Rattle.byte_text.specs.declared.memory.OutOfMemory.{OutOfMemory}
use Rattle.annotate.specs.Report.{SourceTexts}
use Rattle.annotate.specs.declared.source.Source.{Source}
use Rattle.source_files.specs.Sources.{AreUnloaded, IsUnloaded, TellsSource, TellsSources, folder_name, loads_of, source_load}

-- These are the texts of the first so many of the names, and their loads are told.
pub record Tells (names : List (List ℕ)) (i : ℕ) (texts : SourceTexts) (old new : Option (List Call)) : Type 0 where
  pub named : map (λ text. text.0) texts ≡ take i names
  pub told : TellsMore old (loads_of texts) new

pub Tells-none : (names : List (List ℕ)) (told : Option (List Call)) → Tells names 0 [] told told
Tells-none names told = record { named = refl; told = tells_nothing_more told }

-- one more
pub Tells-more : (names : List (List ℕ)) (i : ℕ) (texts : SourceTexts) (name : List ℕ) (source : Source)
    (old mid new : Option (List Call))
    → Tells names i texts old mid → i < length names → name ≡ get_or names i name
    → TellsMore mid (source_load (folder_name name) source ∷ []) new
    → Tells names (i + 1) (texts ++ (name, source) ∷ []) old new
Tells-more names i texts name source old mid new tells within is asked = record {
  named = map-append (λ text. text.0) texts ((name, source) ∷ []) ∙ ap (λ n. n ++ name ∷ []) tells.named
      ∙ ap (λ n. take i names ++ n ∷ []) is ∙ sym (take_more names i name within);
  told =
      subst (λ (calls : List Call). TellsMore old calls new)
      (sym (map-append (λ text. source_load (folder_name text.0) text.1) texts ((name, source) ∷ [])))
      (tells_then old mid new (loads_of texts) (source_load (folder_name name) source ∷ []) tells.told asked);
}

-- no load may be asked for
unloaded_none : (names : List (List ℕ)) → AreUnloaded names []
unloaded_none [] = refl
unloaded_none (name ∷ names) = inl refl

-- Memory was wanting, and this was asked for last.
stopped : (names : List (List ℕ)) (i : ℕ) (texts : SourceTexts) (old mid new : Option (List Call))
    (result : Result SourceTexts OutOfMemory) (last : List Call)
    → Tells names i texts old mid → AreUnloaded (drop i names) last → TellsMore mid last new → IsErr result
    → TellsSources names result old new
stopped names i texts old mid new (Ok all) last tells unloaded asked is = absurd (cc)
stopped names i texts old mid new (Err refused) last tells unloaded asked is = (
  texts,
  drop i names,
  last,
  sym (ap (λ n. n ++ drop i names) tells.named ∙ take-append-drop i names),
  unloaded,
  tells_then old mid new (loads_of texts) last tells.told asked,
)

-- Memory was wanting between two loads.
pub Tells-stopped : (names : List (List ℕ)) (i : ℕ) (texts : SourceTexts) (old new : Option (List Call))
    (result : Result SourceTexts OutOfMemory)
    → Tells names i texts old new → IsErr result → TellsSources names result old new
Tells-stopped names i texts old new result tells is =
    stopped names i texts old new new result [] tells (unloaded_none (drop i names)) (tells_nothing_more new) is

-- a load for which memory was wanting
pub Tells-unloaded : (names : List (List ℕ)) (i : ℕ) (texts : SourceTexts) (name : List ℕ)
    (old mid new : Option (List Call)) (result : Result SourceTexts OutOfMemory) (refused : OutOfMemory)
    → Tells names i texts old mid → i < length names → name ≡ get_or names i name
    → TellsSource (folder_name name) (Err refused) mid new → IsErr result → TellsSources names result old new
Tells-unloaded names i texts name old mid new result refused tells within is asked wants =
    stopped names i texts old mid new result asked.0 tells
    (subst (λ ns. AreUnloaded ns asked.0) (sym (drop-cons names i name within ∙ ap (λ n. n ∷ drop (suc i) names) (sym is)))
    asked.1)
    asked.2 wants

-- the same as one more, where the text was put behind the others
pub Tells-step : (names : List (List ℕ)) (i : ℕ) (texts more : SourceTexts) (name item : List ℕ) (source : Source)
    (old mid new : Option (List Call))
    → Tells names i texts old mid → i < length names → name ≡ get_or names i name
    → TellsMore mid (source_load (folder_name name) source ∷ []) new → item ≡ name
    → more ≡ texts ++ (item, source) ∷ [] → Tells names (i + 1) more old new
Tells-step names i texts more name item source old mid new tells within is asked copied put =
    subst (λ t. Tells names (i + 1) t old new) (ap (λ n. texts ++ (n, source) ∷ []) (sym copied) ∙ sym put)
    (Tells-more names i texts name source old mid new tells within is asked)

-- ---- one source

-- the load under another name that is the same
pub told_as : (name wanted : List ℕ) (old new : Option (List Call)) (result : Result Source OutOfMemory)
    → name ≡ wanted → TellsSource name result old new → TellsSource wanted result old new
told_as name wanted old new result same told = subst (λ n. TellsSource n result old new) same told

-- no load, as memory was wanting
pub told_unasked : (name : List ℕ) (result : Result Source OutOfMemory) (told : Option (List Call))
    → IsErr result → TellsSource name result told told
told_unasked name (Ok source) told is = absurd (cc)
told_unasked name (Err refused) told is = ([], inl refl, tells_nothing_more told)
