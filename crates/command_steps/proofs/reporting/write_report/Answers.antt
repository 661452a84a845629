use Rattle.std.proofs.Common.{Ok, Err, refl}
use Rattle.outside.specs.declared.sink.WriteError.TheVariants.{Failed, OutOfMemory}
use Rattle.command_steps.proofs.TellLemmas.{did_write, did_write_as}
use Rattle.command_steps.proofs.reporting.write_report.Goals as goal

pub returns-in-Ok-clause-told : goal.returns-in-Ok-clause-told
returns-in-Ok-clause-told g c = λ beside.
    did_write_as c.as_bytes.result.now _ c.as_bytes.ensures
    (did_write _ _ _ (Ok c.in-Ok.field-0) _ c.in-Ok.ensures.told refl refl refl)

pub returns-in-Err-Failed-clause-told : goal.returns-in-Err-Failed-clause-told
returns-in-Err-Failed-clause-told g c = λ beside.
    did_write_as c.as_bytes.result.now _ c.as_bytes.ensures
    (did_write _ _ _ (Err Failed) _ (rw c.in-Err-Failed.field-0-is at c.in-Err-Failed.ensures.told) refl refl refl)

pub returns-in-Err-OutOfMemory-clause-told : goal.returns-in-Err-OutOfMemory-clause-told
returns-in-Err-OutOfMemory-clause-told g c = λ beside.
    did_write_as c.as_bytes.result.now _ c.as_bytes.ensures
    (did_write _ _ _ (Err (OutOfMemory c.in-Err-OutOfMemory.refused)) _
    (rw c.in-Err-OutOfMemory.field-0-is at c.in-Err-OutOfMemory.ensures.told) refl refl refl)
