-- A text that stands in another section.
use Rattle.std.proofs.Common.{◌≡◌, ℕ, Bool, eqb, List, [], take, drop, length, ◌≤◌, Option, Some, None, option_map, refl, ◌∙◌}
use Rattle.std.proofs.lemmas.List.{at_drop_all}
use Rattle.std.proofs.lemmas.Option.{same_Some}
use Rattle.std.specs.List.{position}
use Rattle.std.specs.Option.{option_map_or}
use Rattle.dwarf_line.specs.Bytes.{number_at, text_at, up_to}
use Rattle.dwarf_line.specs.Table.{pointed_at}
use Rattle.dwarf_line.specs.inner.Paths.{text_from}
use Rattle.dwarf_line.specs.inner.Reads.{ReadsAs}

abbrev ends : ℕ → Bool
ends byte = eqb byte 0

-- an offset at which the section has a text
pub text_pointed_at : {X : Type 0} (view : X → List ℕ) (section bytes after : List ℕ) (offset : ℕ) (found : Option X)
    → number_at 4 bytes ≡ Some (offset, after)
    → option_map view found ≡ option_map (λ n. take n (drop offset section)) (position ends (drop offset section))
    → ReadsAs (text_from section) (pointed_at section) bytes (option_map (λ _. offset) found) after
unfolding pointed_at up_to
text_pointed_at {X = X} view section bytes after offset found read is =
    go found (position ends (drop offset section)) refl is
  where
    go : (found : Option X) (end : Option ℕ) → position ends (drop offset section) ≡ end
        → option_map view found ≡ option_map (λ n. take n (drop offset section)) end
        → ReadsAs (text_from section) (pointed_at section) bytes (option_map (λ _. offset) found) after
    go None None at is = rw (read, at) refl
    go None (Some n) at is = absurd cc
    go (Some x) None at is = absurd cc
    go (Some x) (Some n) at is = rw (read, at) refl

-- the text at an offset, as it is found again
pub text_found : {X : Type 0} (view : X → List ℕ) (section : List ℕ) (offset : ℕ) (found : Option X)
    → option_map view found ≡ option_map (λ n. take n (drop offset section)) (position ends (drop offset section))
    → option_map_or view found [] ≡ text_from section offset
unfolding up_to
text_found {X = X} view section offset found is = go found (position ends (drop offset section)) refl is
  where
    go : (found : Option X) (end : Option ℕ) → position ends (drop offset section) ≡ end
        → option_map view found ≡ option_map (λ n. take n (drop offset section)) end
        → option_map_or view found [] ≡ text_from section offset
    go None None at is = rw at refl
    go None (Some n) at is = absurd cc
    go (Some x) None at is = absurd cc
    go (Some x) (Some n) at is = rw at (same_Some _ _ is)

-- there is none past the section's end
pub no_text : (section : List ℕ) (offset : ℕ) → length section ≤ offset → text_at (drop offset section) ≡ None
unfolding up_to
no_text section offset past = at_drop_all text_at section offset past ∙ refl
