-- What a report needs to know besides its profile: the place of the event to sort by, and source texts.
use Rattle.std.proofs.Common.{◌≡◌, ℕ, Bool, true, false, if◌then◌else◌, IfOk, List, [], ◌∷◌, map, slice_get, IfSome}
use Rattle.std.proofs.Common.{IfNone, Option, Some, None, Result, Ok, Err, refl, sym, ap, subst, ◌∙◌}
use Rattle.std.specs.Str.{bytes_eq}
use Rattle.std.proofs.lemmas.List.Folds.{list_any_at}
use Rattle.std.proofs.lemmas.Option.{get_or_from_slice_get, slice_get_within}
use Rattle.std.proofs.lemmas.Slice.Eq.{bytes_eq-Decides}
use Rattle.outside.specs.Files.{Files}
use Rattle.byte_text.specs.declared.memory.OutOfMemory.{OutOfMemory}
use Rattle.cg_read.specs.Profiles.{Contents, has_text}
use Rattle.annotate.specs.Files.{AreFilesShown}
use Rattle.annotate.specs.Report.{SourceTexts}
use Rattle.source_files.specs.Sources.{AreSources, AreTexts}
use Rattle.command_status.specs.declared.status.Status.TheVariants.{Usage}
use Rattle.command_steps.specs.Annotate.{AreTextsFor}
use Rattle.command_steps.specs.inner.ReportStages.{FindsSort}

-- ---- the event to sort by

is_among : (event : List ℕ) (events : List (List ℕ)) (place : ℕ) → slice_get events place ≡ Some event
    → has_text events event ≡ true
is_among event events place is =
    list_any_at (bytes_eq event) events place [] (slice_get_within events place event is)
    (ap (bytes_eq event) (get_or_from_slice_get events place event [] is) ∙ (bytes_eq-Decides event event).1 refl)

-- a look at the events of the profile
pub FindsSort-index : (event : List ℕ) (p : Contents) (place : Option ℕ)
    → IfSome place (λ n. slice_get p.events n ≡ Some event) → IfNone place (has_text p.events event ≡ false)
    → FindsSort (Some event) p place
FindsSort-index event p (Some place) is none = (
  ap (λ (b : Bool). if b then None else Some Usage) (is_among event p.events place is),
  is,
  slice_get_within p.events place event is,
)
FindsSort-index event p None is none = ap (λ (b : Bool). if b then None else Some Usage) none

-- ---- source texts

pub names_of : (told : Option Files) (before now : ℕ) (names : List (List ℕ)) (texts : SourceTexts)
    → AreTexts told before now names texts
    → names ≡ map (λ t. t.0) texts
names_of told before now [] [] are = refl
names_of told before now [] (text ∷ texts) are = absurd are
names_of told before now (name ∷ names) [] are = absurd are
names_of told before now (name ∷ names) (text ∷ texts) are =
    ap (λ n. n ∷ names) (sym are.0) ∙ ap (λ rest. text.0 ∷ rest) (names_of told before now names texts are.2)

-- those of the files to be shown, where they are asked for
pub AreTextsFor-loaded : (asked : Bool) (told : Option Files) (before now : ℕ) (p : Contents) (names : List (List ℕ))
    (result : Result SourceTexts OutOfMemory)
    → asked ≡ true → AreFilesShown p names → IfOk result (λ texts. AreSources told before now names texts)
    → IfOk result (λ texts. AreTextsFor asked told before now p texts)
AreTextsFor-loaded asked told before now p names (Ok texts) is shown are =
    let same = names_of told before now names texts are.loaded in
    subst (λ a. AreTextsFor a told before now p texts) (sym is) (
      subst (λ n. AreFilesShown p n) same shown,
      subst (λ n. AreSources told before now n texts) same are,
    )
AreTextsFor-loaded asked told before now p names (Err refused) is shown are = tt
