use Rattle.std.proofs.Common.{◌+◌, Err, drop, ◌∙◌}
use Rattle.std.proofs.lemmas.List.{drop_all}
use Rattle.profile_files.proofs.ReadingLemmas.{IsReading-exit, Stands-more, Stands-unjoined, Stands-unread}
use Rattle.profile_files.proofs.ReadingLemmas.{files_left}
use Rattle.profile_files.proofs.TellsLemmas.{Tells-more, Tells-unjoined, Tells-whole, TellsReading-exit}
use Rattle.profile_files.proofs.TellsLemmas.{TellsReading-unread}
use Rattle.profile_files.proofs.reading.join_files.Goals as goal

pub returns-in_err-read-clause-reading : goal.returns-in_err-read-clause-reading
returns-in_err-read-clause-reading g c =
    IsReading-exit _ _ _ _ _ c.in_err-read.field-0.0 c.from_residual.result c.from_residual.ensures.1
    (Stands-unread _ _ _ _ _ _ _ _ _ c.file-item.result (drop (c.files.file-index + 1) c.args.files.now) _ _ _
    c.files.invariant.stands c.files.invariant.contents
    (files_left c.args.files.now c.files.file-index c.file-item.result c.files-test.true c.file-item.is)
    c.in_err-read.ensures.never_falls c.in_err-read.ensures.answer)

pub returns-in_err-read-clause-told : goal.returns-in_err-read-clause-told
returns-in_err-read-clause-told g c =
    TellsReading-exit _ _ c.in_err-read.field-0.0 c.from_residual.result _ _ c.from_residual.ensures.1
    (c.files.invariant.tells.goes (Err c.in_err-read.field-0.0) _
    (TellsReading-unread _ _ _ _ _ _ _ c.file-item.result (drop (c.files.file-index + 1) c.args.files.now) _
    (files_left c.args.files.now c.files.file-index c.file-item.result c.files-test.true c.file-item.is)
    c.in_err-read.ensures.answer))

pub returns-in_err-join-clause-told : goal.returns-in_err-join-clause-told
returns-in_err-join-clause-told g c =
    TellsReading-exit _ _ c.in_err-join.field-0.0 c.from_residual-in_err-join.result _ _
    c.from_residual-in_err-join.ensures.1
    (Tells-unjoined _ _ _ _ _ _ _ _ _ c.in_ok-read.read _ c.file-item.result
    (drop (c.files.file-index + 1) c.args.files.now) _ c.files.invariant.tells
    (files_left c.args.files.now c.files.file-index c.file-item.result c.files-test.true c.file-item.is)
    c.in_ok-read.ensures.answer c.in_err-join.ensures)

pub returns-clause-told : goal.returns-clause-told
returns-clause-told g c =
    rw c.into_profile.ensures
    (Tells-whole _ _ _ _ _ _ c.files.invariant.tells
    (drop_all c.files.file-index c.args.files.now c.files-test.false))

pub returns-in_err-join-clause-reading : goal.returns-in_err-join-clause-reading
returns-in_err-join-clause-reading g c =
    IsReading-exit _ _ _ _ _ c.in_err-join.field-0.0 c.from_residual-in_err-join.result
    c.from_residual-in_err-join.ensures.1
    (Stands-unjoined _ _ _ _ _ _ _ _ c.in_ok-read.read _ c.file-item.result
    (drop (c.files.file-index + 1) c.args.files.now) _ _ _ c.files.invariant.stands c.files.invariant.contents
    (files_left c.args.files.now c.files.file-index c.file-item.result c.files-test.true c.file-item.is)
    c.in_ok-read.ensures.never_falls c.in_ok-read.ensures.answer c.in_err-join.ensures)

pub files-preserved : goal.files-preserved
files-preserved g c = record {
  contents = c.in_ok-read.ensures.same_contents ∙ c.files.invariant.contents;
  puts = c.in_ok-read.ensures.same_put_faults ∙ c.files.invariant.puts;
  stands = Stands-more _ _ _ _ _ _ _ _ c.in_ok-read.read _ _ c.file-item.result _ _ _ c.files.invariant.stands
      c.files.invariant.contents
      (files_left c.args.files.now c.files.file-index c.file-item.result c.files-test.true c.file-item.is)
      c.in_ok-read.ensures.never_falls c.in_ok-read.ensures.answer c.in_ok-join.ensures.0 c.in_ok-join.ensures.1;
  tells = Tells-more _ _ _ _ _ _ _ _ _ c.in_ok-read.read _ _ c.file-item.result _ c.files.invariant.tells
      (files_left c.args.files.now c.files.file-index c.file-item.result c.files-test.true c.file-item.is)
      c.in_ok-read.ensures.answer c.in_ok-join.ensures.0 c.in_ok-join.ensures.1;
}
