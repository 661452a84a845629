use Rattle.std.proofs.Common.{List, ℕ, take}
use Rattle.std.specs.Prelude.{All}
use Rattle.name_numbers.specs.inner.CleanNames.{IsWithin}
use Rattle.name_numbers.specs.Texts.{IsInFile}
use Rattle.name_numbers.proofs.clean_names.spread.Given as goal

abbrev pub invariant-places : goal.invariant-places
invariant-places l = record {
  within : All (IsWithin l.part) (take l.place-index l.places);
  in_file : (bytes : List ℕ) → All (IsInFile bytes) l.places → IsInFile bytes l.part;
}
