use Rattle.std.proofs.Common.{String, Global, List, ℕ, ap, map, refl, string_bytes, ◌∙◌}
use Rattle.profile_cli.specs.Words.{program_of}
use Rattle.profile_cli.proofs.OutsideLemmas.{Leaves-nothing}
use Rattle.profile_cli.proofs.StageLemmas.{did_quietly, load_named, program_then, then_goes, then_stops}
use Rattle.profile_cli.proofs.WorkLemmas.{IsRead-both, RunsJob-elf, RunsJob-exit, Stops-input_refused}
use Rattle.profile_cli.proofs.WorkLemmas.{Stops-not_loaded, Stops-refused, equal_counts, load_later, same_count}
use Rattle.profile_cli.proofs.run.run_by_address.Goals as goal

abbrev program_in : List (String Global) → List ℕ
program_in args = program_of (map (λ word. string_bytes word) args)

pub returns-in_err-bytes-clause-ran : goal.returns-in_err-bytes-clause-ran
returns-in_err-bytes-clause-ran g c =
    RunsJob-exit _ _ _ _ _ _ c.from_residual.result c.from_residual.ensures.1
    (Stops-not_loaded _ _ _ c.program_name.result.now _ (c.program_name.ensures ∙ ap program_in c.deref.ensures.value)
    c.in_err-bytes.ensures.answer (Leaves-nothing _ _ c.load_file.ensures.same_contents refl refl))
    (then_stops _ _ _ (load_named _ _ (c.program_name.ensures ∙ ap program_in c.deref.ensures.value)
    (c.in_err-bytes.ensures.told _ _)))

pub returns-in_err-image-clause-ran : goal.returns-in_err-image-clause-ran
returns-in_err-image-clause-ran g c =
    RunsJob-exit _ _ _ _ _ _ c.from_residual-in_err-image.result c.from_residual-in_err-image.ensures.1
    (Stops-refused _ _ _ c.deref-2.result.now _
    (load_later _ c.program_name.result.now _ _ _ _ c.in_ok-bytes.bytes c.deref-2.result.now
    (c.program_name.ensures ∙ ap program_in c.deref.ensures.value) c.deref-2.ensures.value (same_count _)
    c.in_ok-bytes.ensures.answer)
    c.in_err-image.ensures (Leaves-nothing _ _ c.load_file.ensures.same_contents refl refl))
    (program_then _ _ _ c.deref-2.result.now _ _ c.deref-2.ensures.value
    (load_named _ _ (c.program_name.ensures ∙ ap program_in c.deref.ensures.value) (c.in_ok-bytes.ensures.told _ _))
    (then_stops _ _ _ (did_quietly _ _ c.in_err-image.ensures)))

pub returns-in_err-given-clause-ran : goal.returns-in_err-given-clause-ran
returns-in_err-given-clause-ran g c =
    let folder = g.F.Folder in
    RunsJob-exit _ _ _ _ _ _ c.from_residual-in_err-given.result c.from_residual-in_err-given.ensures.1
    (Stops-input_refused _ _ _ c.deref-2.result.now c.in_ok-image.image _ (folder.contents c.load_file.new.folder)
    (folder.load_faults c.load_file.new.folder)
    (load_later _ c.program_name.result.now _ _ _ _ c.in_ok-bytes.bytes c.deref-2.result.now
    (c.program_name.ensures ∙ ap program_in c.deref.ensures.value) c.deref-2.ensures.value (same_count _)
    c.in_ok-bytes.ensures.answer)
    c.in_ok-image.ensures c.load_file.ensures.same_contents c.load_file.ensures.never_falls
    c.load_input.ensures.never_falls c.in_err-given.ensures.answer
    (Leaves-nothing _ _ (c.load_input.ensures.same_contents ∙ c.load_file.ensures.same_contents) refl refl))
    (program_then _ _ _ c.deref-2.result.now _ _ c.deref-2.ensures.value
    (load_named _ _ (c.program_name.ensures ∙ ap program_in c.deref.ensures.value) (c.in_ok-bytes.ensures.told _ _))
    (then_goes _ _ _ tt _ (did_quietly _ _ c.in_ok-image.ensures.0)
    (then_stops _ _ _ (c.in_err-given.ensures.told _ _))))

pub returns-clause-ran : goal.returns-clause-ran
returns-clause-ran g c =
    let folder = g.F.Folder in
    RunsJob-elf _ _ _ _ _ _ c.deref-2.result.now c.in_ok-given.given.items c.in_ok-image.image c.run_elf_by_address.result
    (IsRead-both _ _ _ c.deref-2.result.now c.in_ok-image.image c.in_ok-given.given (folder.contents c.load_file.new.folder)
    (folder.load_faults c.load_file.new.folder) (folder.load_faults c.load_input.new.folder)
    (load_later _ c.program_name.result.now _ _ _ _ c.in_ok-bytes.bytes c.deref-2.result.now
    (c.program_name.ensures ∙ ap program_in c.deref.ensures.value) c.deref-2.ensures.value (same_count _)
    c.in_ok-bytes.ensures.answer)
    c.in_ok-image.ensures c.load_file.ensures.same_contents c.load_file.ensures.never_falls
    c.load_input.ensures.never_falls (equal_counts _ _ c.run_elf_by_address.ensures.same_load_faults)
    c.in_ok-given.ensures.answer)
    c.in_ok-image.ensures.1 (c.load_input.ensures.same_contents ∙ c.load_file.ensures.same_contents)
    (c.load_input.ensures.same_put_faults ∙ c.load_file.ensures.same_put_faults) refl refl
    (λ result ran.
    program_then _ _ _ c.deref-2.result.now _ _ c.deref-2.ensures.value
    (load_named _ _ (c.program_name.ensures ∙ ap program_in c.deref.ensures.value) (c.in_ok-bytes.ensures.told _ _))
    (then_goes _ _ _ tt _ (did_quietly _ _ c.in_ok-image.ensures.0)
    (then_goes _ _ _ c.in_ok-given.given.items _ (c.in_ok-given.ensures.told _ _) ran)))
    c.run_elf_by_address.ensures.ran
