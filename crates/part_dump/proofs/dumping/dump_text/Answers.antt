use Rattle.std.proofs.Common.{ℕ, List, [], ◌∷◌, Err, inr, refl, subst, ◌∙◌}
use Rattle.outside.specs.Outside.{shelf_of}
use Rattle.outside.specs.Journal.{Put}
use Rattle.outside.specs.declared.folder.PutError.TheVariants.{OutOfMemory}
use Rattle.part_dump.specs.Dumps.{Dumps}
use Rattle.part_dump.specs.declared.dumping.DumpError.TheVariants as dump
use Rattle.part_dump.proofs.dumping.dump_text.Goals as goal

pub returns-clause-answer : goal.returns-clause-answer
returns-clause-answer g c =
    let refused = c.in-Err-OutOfMemory.refused in
    let P : List ℕ → List ℕ → Type 0 = λ name text.
    Dumps name text (shelf_of g.F.Folder c.args.folder.now) (g.F.Folder.put_faults c.args.folder.now)
    (Err (dump.OutOfMemory refused)) (shelf_of g.F.Folder c.put.new.self) (g.F.Folder.put_faults c.put.new.self) in
    subst (λ name. P name c.args.text.now) (c.as_str.ensures.value ∙ c.in-Ok.ensures.name)
    (subst (λ text. P c.as_str.result.now text) c.as_bytes.ensures (
      rw c.in-Err-OutOfMemory.field-0-is at c.in-Err-OutOfMemory.ensures.answer,
      (
        Put c.as_str.result.now c.as_bytes.result.now (Err (OutOfMemory refused)) ∷ [],
        inr refl,
        rw c.in-Err-OutOfMemory.field-0-is at c.in-Err-OutOfMemory.ensures.told,
      ),
    ))
