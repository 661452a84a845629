use Rattle.std.proofs.Common.{refl}
use Rattle.std.proofs.lemmas.List.{nil_from_length}
use Rattle.profile_files.specs.declared.fault.ReadFault.TheVariants.{OutOfMemory}
use Rattle.profile_files.proofs.ReadingLemmas.{IsReading-exit, IsReading-wanting, first_read, first_unread}
use Rattle.profile_files.proofs.ReadingLemmas.{no_names}
use Rattle.profile_files.proofs.TellsLemmas.{TellsReading-exit, TellsReading-first, TellsReading-unread}
use Rattle.profile_files.proofs.TellsLemmas.{TellsReading-none, TellsReading-wanting}
use Rattle.profile_files.proofs.reading.read_in_order.Goals as goal
use Rattle.byte_text.specs.Memory.{memory}

pub returns-in_err-before-clause-reading : goal.returns-in_err-before-clause-reading
returns-in_err-before-clause-reading g c =
    IsReading-exit _ _ _ _ _ (OutOfMemory memory) c.from_residual.result c.from_residual.ensures.1
    (IsReading-wanting _ _ _ _ _ (OutOfMemory memory) refl)

pub returns-in_err-profile-clause-reading : goal.returns-in_err-profile-clause-reading
returns-in_err-profile-clause-reading g c =
    IsReading-exit _ _ _ _ _ c.in_err-profile.field-0.0 c.from_residual-in_err-profile.result
    c.from_residual-in_err-profile.ensures.1
    (first_unread _ _ _ _ _ c.in-Some.first.now c.in-Some.rest.now _ _ _ c.in-Some.ensures.cases.0
    c.in_err-profile.ensures.answer)

pub returns-clause-reading : goal.returns-clause-reading
returns-clause-reading g c =
    first_read _ _ _ _ _ _ _ c.in-Some.first.now c.in-Some.rest.now c.in_ok-profile.profile _ _ _
    (no_names c.args.events.now c.if-not-is_empty.ensures) c.in-Some.ensures.cases.0
    c.in_ok-profile.ensures.same_contents c.in_ok-profile.ensures.never_falls c.join_files-2.ensures.never_falls
    c.in_ok-profile.ensures.answer c.join_files-2.ensures.reading

pub returns-in_err-before-clause-told : goal.returns-in_err-before-clause-told
returns-in_err-before-clause-told g c =
    TellsReading-exit _ _ (OutOfMemory memory) c.from_residual.result _ _ c.from_residual.ensures.1
    (TellsReading-wanting _ _ (OutOfMemory memory) _ refl)

pub returns-in_err-profile-clause-told : goal.returns-in_err-profile-clause-told
returns-in_err-profile-clause-told g c =
    TellsReading-exit _ _ c.in_err-profile.field-0.0 c.from_residual-in_err-profile.result _ _
    c.from_residual-in_err-profile.ensures.1
    (TellsReading-unread _ _ _ _ _ _ _ c.in-Some.first.now c.in-Some.rest.now _ c.in-Some.ensures.cases.0
    c.in_err-profile.ensures.answer)

pub returns-in_default-clause-told : goal.returns-in_default-clause-told
returns-in_default-clause-told g c =
    TellsReading-none _ _ c.args.files.now _ (nil_from_length c.args.files.now c.in_default.ensures.cases)
    c.in_ok-empty.ensures

pub returns-clause-told : goal.returns-clause-told
returns-clause-told g c =
    TellsReading-first _ _ _ _ _ _ _ _ c.in-Some.first.now c.in-Some.rest.now c.in_ok-profile.profile _
    (no_names c.args.events.now c.if-not-is_empty.ensures) c.in-Some.ensures.cases.0 c.in_ok-profile.ensures.answer
    c.join_files-2.ensures.told
