use Rattle.name_numbers.proofs.CleanTexts.{AreCleaned}
use Rattle.name_numbers.proofs.clean_names.clean_texts.Given as goal

abbrev pub invariant-names : goal.invariant-names
invariant-names l = AreCleaned l.file l.part l.names l.place-index l.bytes.items l.places.items
