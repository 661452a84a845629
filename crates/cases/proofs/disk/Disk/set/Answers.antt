use Rattle.std.proofs.Common.{◌∙◌, Some, ap, subst, sym}
use Rattle.outside.specs.Calls.{Disk}
use Rattle.outside.specs.Files.{SameBut, with_file}
use Rattle.cases.proofs.DiskLemmas.{put_done, put_refused}
use Rattle.cases.proofs.disk.Disk.set.Goals as goal

pub returns-then-is_err-clause-sets : goal.returns-then-is_err-clause-sets
returns-then-is_err-clause-sets c = (
  c.from.ensures,
  subst (λ (d : Disk). SameBut c.args.name.now (Some d.files) (Some c.put.new.self.folder)) c.self.view_is
      (put_refused c.self.inside.folder.folder c.put.new.self.folder c.args.name.now c.args.bytes.now 0 0 c.put.result
      (sym c.if-is_err.ensures.value) c.put.ensures.answer),
)

pub returns-clause-sets : goal.returns-clause-sets
returns-clause-sets c =
    put_done c.self.inside.folder.folder c.put.new.self.folder c.args.name.now c.args.bytes.now 0 0 c.put.result
    (sym c.if-is_err.ensures.value) c.put.ensures.answer
    ∙ ap (λ (d : Disk). with_file d.files c.args.name.now c.args.bytes.now) c.self.view_is
