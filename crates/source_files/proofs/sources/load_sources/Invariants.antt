use Rattle.std.proofs.Common.{◌≡◌, ◌≤◌, take}
use Rattle.source_files.specs.Sources.{AreSources}
use Rattle.source_files.proofs.TellsLemmas.{Tells}
use Rattle.source_files.proofs.sources.load_sources.Given as goal

abbrev pub invariant-names : goal.invariant-names
invariant-names g l = record {
  contents : g.F.Folder.contents l.folder ≡ g.F.Folder.contents l.fn.folder;
  puts : g.F.Folder.put_faults l.folder ≡ g.F.Folder.put_faults l.fn.folder;
  early : g.F.Folder.load_faults l.fn.folder ≤ g.F.Folder.load_faults l.folder;
  sources : AreSources (g.F.Folder.contents l.fn.folder) (g.F.Folder.load_faults l.fn.folder)
      (g.F.Folder.load_faults l.folder) (take l.name-index l.names) l.items.items;
  tells : Tells l.names l.name-index l.items.items (g.F.Folder.calls l.fn.folder) (g.F.Folder.calls l.folder);
}
