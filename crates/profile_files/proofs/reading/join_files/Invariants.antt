use Rattle.std.proofs.Common.{◌≡◌, drop}
use Rattle.profile_files.proofs.ReadingLemmas.{Stands}
use Rattle.profile_files.proofs.TellsLemmas.{Tells}
use Rattle.profile_files.proofs.reading.join_files.Given as goal

abbrev pub invariant-files : goal.invariant-files
invariant-files g l = record {
  contents : g.F.Folder.contents l.folder ≡ g.F.Folder.contents l.fn.folder;
  puts : g.F.Folder.put_faults l.folder ≡ g.F.Folder.put_faults l.fn.folder;
  stands : Stands (g.F.Folder.contents l.fn.folder) (g.F.Folder.load_faults l.fn.folder)
      (g.F.Folder.load_faults l.folder) l.fn.profile l.files l.joined (drop l.file-index l.files);
  tells : Tells l.fn.profile l.files (g.F.Folder.calls l.fn.folder) l.joined (drop l.file-index l.files)
      (g.F.Folder.calls l.folder);
}
