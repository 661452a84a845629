-- Where no load failed, source texts are what the folder holds.
use Rattle.std.proofs.Common.{◌≡◌, ◌⊎◌, ℕ, List, [], ◌∷◌, Some, Ok, Err, inl, inr, refl, sym, ap, ◌∙◌}
use Rattle.std.specs.Prelude.{map}
use Rattle.outside.specs.Files.{Files, Rose, file}
use Rattle.outside.specs.Load.{Load}
use Rattle.outside.specs.declared.folder.LoadError.TheVariants as load
use Rattle.annotate.specs.Report.{SourceTexts}
use Rattle.annotate.specs.declared.source.Source.{Source}
use Rattle.annotate.specs.declared.source.Source.TheVariants.{Found, Missing, TooLong}
use Rattle.byte_text.specs.Memory.{memory}
use Rattle.profile_files.specs.Loads.{IsLoad, faultless_load}
use Rattle.profile_files.proofs.CompleteLemmas.{held_load}
use Rattle.outside.specs.Limits.{text_limit}
use Rattle.source_files.specs.Sources.{AreTexts, folder_name, load_behind}

-- the source behind a load
source_of : Load → Source
source_of (Ok text) = Found text
source_of (Err load.Failed) = Missing
source_of (Err (load.TooLong len)) = TooLong len
source_of (Err (load.OutOfMemory _)) = Missing

abbrev held : Files → List ℕ → Load
held contents name = faultless_load (file contents (folder_name name)) text_limit

held_source : (contents : Files) (before now : ℕ) (name : List ℕ) (source : Source) → (Rose before now → ⊥)
    → IsLoad (Some contents) (folder_name name) text_limit before now (load_behind source)
    → load_behind source ≡ held contents name
held_source contents before now name source calm loads =
    by source (held_load (Some contents) contents (folder_name name) text_limit before now (load_behind source) refl calm loads)
  where
    by : (s : Source) → (load_behind s ≡ held contents name) ⊎ (load_behind s ≡ Err (load.OutOfMemory memory))
        → load_behind s ≡ held contents name
    by s (inl is) = is
    by (Found text) (inr none) = absurd (cc)
    by Missing (inr none) = absurd (cc)
    by (TooLong len) (inr none) = absurd (cc)

pub held_texts : (contents : Files) (before now : ℕ) (names : List (List ℕ)) (texts : SourceTexts)
    → (Rose before now → ⊥) → AreTexts (Some contents) before now names texts
    → map (λ text. load_behind text.1) texts ≡ map (held contents) names
held_texts contents before now [] [] calm are = refl
held_texts contents before now [] (text ∷ texts) calm are = absurd are
held_texts contents before now (name ∷ names) [] calm are = absurd are
held_texts contents before now (name ∷ names) (text ∷ texts) calm are = λ i.
    held_source contents before now name text.1 calm are.1 i ∷ held_texts contents before now names texts calm are.2 i

again : (s : Source) → source_of (load_behind s) ≡ s
unfolding source_of
again (Found text) = refl
again Missing = refl
again (TooLong len) = refl

pub equal_texts : (contents : Files) (before now again_before again_now : ℕ) (names : List (List ℕ))
    (first second : SourceTexts) → (Rose before now → ⊥) → (Rose again_before again_now → ⊥)
    → AreTexts (Some contents) before now names first → AreTexts (Some contents) again_before again_now names second
    → first ≡ second
equal_texts contents a b c d [] [] [] calm quiet are those = refl
equal_texts contents a b c d [] [] (text ∷ second) calm quiet are those = absurd those
equal_texts contents a b c d [] (text ∷ first) second calm quiet are those = absurd are
equal_texts contents a b c d (name ∷ names) [] second calm quiet are those = absurd are
equal_texts contents a b c d (name ∷ names) (text ∷ first) [] calm quiet are those = absurd those
equal_texts contents a b c d (name ∷ names) (text ∷ first) (other ∷ second) calm quiet are those =
    let same = held_source contents a b name text.1 calm are.1
    ∙ sym (held_source contents c d name other.1 quiet those.1) in
    let source = sym (again text.1) ∙ ap source_of same ∙ again other.1 in
    let called = are.0 ∙ sym those.0 in
    λ i. (called i, source i) ∷ equal_texts contents a b c d names first second calm quiet are.2 those.2 i
