use Rattle.std.proofs.Common.{[], ◌∷◌, Err, inr, refl}
use Rattle.outside.specs.Journal.{Loaded}
use Rattle.outside.specs.declared.folder.LoadError.TheVariants.{OutOfMemory}
use Rattle.outside.specs.Limits.{text_limit}
use Rattle.source_files.proofs.sources.load_text.Goals as goal

pub returns-in-Err-OutOfMemory-clause-told : goal.returns-in-Err-OutOfMemory-clause-told
returns-in-Err-OutOfMemory-clause-told g c = (
  Loaded c.args.name.now text_limit (Err (OutOfMemory c.in-Err-OutOfMemory.refused)) ∷ [],
  inr refl,
  rw c.in-Err-OutOfMemory.field-0-is at c.in-Err-OutOfMemory.ensures.told,
)
