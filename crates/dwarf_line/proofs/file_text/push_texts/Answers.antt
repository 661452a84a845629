use Rattle.std.proofs.Common.{◌<◌, length, map, ◌∙◌, arith}
use Rattle.dwarf_line.specs.FileText.{file_text}
use Rattle.dwarf_line.specs.inner.Paths.{entry_in}
use Rattle.dwarf_line.proofs.Naming.{next_file, again_file}
use Rattle.dwarf_line.proofs.file_text.push_texts.Goals as goal
use Rattle.dwarf_line.proofs.file_text.push_texts.Goals.{then-i-gt0+then-is_at_place_of+in_ok-push_again, else-i-gt0+in_ok-file_text+in_ok-push}

pub files-preserved : goal.files-preserved
files-preserved c =
    let see = entry_in c.args.strings.now in
    let text = file_text (map (entry_in c.args.strings.now) c.args.directories.now) in
    let files = c.args.files.now in
    let within : c.files.i < length c.args.files.now = omega (arith, c.files-test.true) in
    elim c.if-i-gt0.branch [
      | then-i-gt0+then-is_at_place_of+in_ok-push_again w ↦
          let some = w.if-i-gt0.true in
          w.texts-is ∙ w.in_ok-push_again.ensures
          ∙ again_file text see c.args.texts.now c.files.texts files c.files.i _ _ _ _ _ (omega arith) within
          c.files.invariant c.index-files-i.is w.index-files-i-then-i-gt0.is
          (w.is_at_place_of.ensures w.if-is_at_place_of.true c.args.strings.now)
      | else-i-gt0+in_ok-file_text+in_ok-push w ↦
          w.texts-is ∙ w.in_ok-push.ensures
          ∙ rw (w.in_ok-file_text.ensures, c.index-files-i.is)
          (next_file text see c.args.texts.now c.files.texts files c.files.i _ within c.files.invariant)
    ]
