use Rattle.std.proofs.Common.{◌≡◌, ℕ, List, ◌&&◌, length, take}
use Rattle.std.specs.Prelude.{not}
use Rattle.std.specs.List.{list_any}
use Rattle.std.specs.Str.{bytes_eq}
use Rattle.std.specs.BTreeSet.{contains}
use Rattle.cg_read.specs.Profiles.{unknown}
use Rattle.annotate.specs.Files.{is_in_file}
use Rattle.annotate.proofs.FileLemmas.{AreSeen}
use Rattle.report_rows.specs.Orders.{text_order}
use Rattle.annotate.proofs.file_names.files.Given as goal

abbrev pub invariant-rows : goal.invariant-rows
invariant-rows l = record {
  names : (name : List ℕ) → contains text_order l.names name
      ≡ (list_any (is_in_file l.profile name) (take l.row-index l.row-items) && not (bytes_eq name unknown));
  seen : AreSeen l.profile l.seen.items (take l.row-index l.row-items);
  size : length l.seen.items ≡ length l.profile.files;
}
