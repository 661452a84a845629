-- Amounts that are made nothing.
use Rattle.std.proofs.Common.{◌≡◌, ℕ, Bool, List, [], ◌∷◌, Option, Some, None, IfSome, is_some}
use Rattle.std.proofs.Common.{refl, sym, ap, subst, ◌∙◌, if◌then◌else◌}
use Rattle.std.specs.Map.{lookup}
use Rattle.std.proofs.lemmas.List.{append-nil, map-append}
use Rattle.arc_costs.specs.Amounts.{clear_amounts}
use Rattle.arc_costs.specs.inner.Shape.{all_rows, AllWhole, IsSound}
use Rattle.arc_costs.proofs.EntryLemmas.{IsAbsent, absent_lookup, lookup_absent}

module _ {K A : Type 0} (nothing : A) where
  -- the newest row, with nothing
  abbrev pub cleared_slot : Option (K × A) → Option (K × A)
  cleared_slot None = None
  cleared_slot (Some row) = Some (row.0, nothing)

  pub cleared_rows : (known : List (K × A)) (newest : Option (K × A))
      → all_rows (clear_amounts nothing known) (cleared_slot newest) ≡ clear_amounts nothing (all_rows known newest)
  cleared_rows known None = append-nil (clear_amounts nothing known) ∙ ap (clear_amounts nothing) (sym (append-nil known))
  cleared_rows known (Some row) = sym (map-append (λ (e : K × A). (e.0, nothing)) known (row ∷ []))

  pub whole-cleared : (is_whole : A → Type 0) → is_whole nothing → (es : List (K × A))
      → AllWhole is_whole (clear_amounts nothing es)
  whole-cleared is_whole none [] = tt
  whole-cleared is_whole none (e ∷ es) = (none, whole-cleared is_whole none es)

  pub cleared_room : (newest : Option (K × A))
      → ◌≡◌ {A = ℕ} (if is_some (cleared_slot newest) then 0 else 1) (if is_some newest then 0 else 1)
  cleared_room None = refl
  cleared_room (Some row) = refl

  module _ (same : K → K → Bool) where
    absent-cleared : (k : K) (es : List (K × A)) → IsAbsent same k es → IsAbsent same k (clear_amounts nothing es)
    absent-cleared k [] absent = tt
    absent-cleared k (e ∷ es) absent = (absent.0, absent-cleared k es absent.1)

    apart-cleared : (known : List (K × A)) (newest : Option (K × A))
        → IfSome newest (λ row. lookup (same row.0) known ≡ None)
        → IfSome (cleared_slot newest) (λ row. lookup (same row.0) (clear_amounts nothing known) ≡ None)
    apart-cleared known None apart = tt
    apart-cleared known (Some row) apart =
        lookup_absent same row.0 (clear_amounts nothing known)
        (absent-cleared row.0 known (absent_lookup same row.0 known apart))

    pub sound-cleared : (is_whole : A → Type 0) → is_whole nothing → (known : List (K × A)) (newest : Option (K × A))
        → IsSound same is_whole known newest → IsSound same is_whole (clear_amounts nothing known) (cleared_slot newest)
    sound-cleared is_whole none known newest sound = record {
      apart = apart-cleared known newest sound.apart;
      whole =
          subst (AllWhole is_whole) (sym (cleared_rows known newest))
          (whole-cleared is_whole none (all_rows known newest));
    }
