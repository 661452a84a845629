use Rattle.std.proofs.Common.{◌≡◌, drop}
use Rattle.outside.specs.Files.{file}
use Rattle.outside.specs.Shelf.{files_of}
use Rattle.outside.proofs.shelf.Shelf.file.Given as goal

abbrev pub invariant-entries : goal.invariant-entries
invariant-entries l = file (files_of (drop l.entry-index l.entry-items)) l.name ≡ file (files_of l.entry-items) l.name
