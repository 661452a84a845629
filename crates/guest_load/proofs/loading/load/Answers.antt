use Rattle.std.proofs.Common.{◌≡◌, ◌^◌, map, string_bytes, Err, refl, sym, subst, ap, ◌∙◌, arith}
use Rattle.std.proofs.lemmas.Result.{err_from_is_err_and}
use Rattle.std.specs.List.{All}
use Rattle.elf_read.specs.Programs.{IsPlaced}
use Rattle.guest_mem.specs.Memory.{count_below, memory_of}
use Rattle.guest_mem.specs.declared.error.MapError.{MapError}
use Rattle.guest_mem.specs.declared.error.MapError.TheVariants as map_error
use Rattle.guest_load.specs.declared.error.GuestError.TheVariants.{Full}
use Rattle.guest_load.specs.Errors.{from_map_error}
use Rattle.guest_load.specs.Segments.{is_touched}
use Rattle.guest_load.specs.inner.Stages.{filled_cell}
use Rattle.guest_load.proofs.ApartLemmas.{each_has_its_bytes}
use Rattle.guest_load.proofs.SegmentLemmas.{filled_all}
use Rattle.guest_load.proofs.StackLaws.{holds_stack}
use Rattle.guest_load.proofs.StackLemmas.{program_pages, in_order}
use Rattle.guest_load.proofs.loading.load.Goals as goal

-- only a full memory is answered as one
full_from : (m : MapError) → from_map_error m ≡ Full → m ≡ map_error.Full
full_from map_error.Full is = refl
full_from (map_error.OutOfMemory _) is = cc

pub returns-in_err-mem-clause-full : goal.returns-in_err-mem-clause-full
returns-in_err-mem-clause-full c refused =
    let p = err_from_is_err_and c.from_residual-in_err-mem.result c.from_residual-in_err-mem.ensures.1 in
    let cause : from_map_error c.in_err-mem.field-0.0 ≡ Full = cc (p.1, p.2, refused) in
    let asked = c.in_err-mem.was ∙ ap Err (full_from c.in_err-mem.field-0.0 cause) in
    let same = ap (λ segments. count_below (is_touched segments) (2 ^ 20))
    (c.deref-2.ensures.value ∙ c.in_ok-segments.ensures.segments) in
    omega (arith, c.map_segments.ensures.full asked, same, program_pages c.args.elf.now)

pub returns-clause-stack : goal.returns-clause-stack
returns-clause-stack c =
    holds_stack c.args.elf.now (map string_bytes c.args.args.now) c.put_stack.new.mem
    (omega (arith, c.arguments_len-needed.ensures)) c.in_ok-pointer.ensures.memory

pub returns-clause-in_order : goal.returns-clause-in_order
returns-clause-in_order c =
    in_order c.args.elf.now (map string_bytes c.args.args.now) (omega (arith, c.arguments_len-needed.ensures))

pub returns-clause-segments : goal.returns-clause-segments
returns-clause-segments c =
    each_has_its_bytes c.args.elf.now
    (map string_bytes c.args.args.now) c.put_stack.new.mem c.in_ok-segments.segments.items
    c.in_ok-pointer.ensures.memory c.in_ok-segments.ensures.segments c.in_ok-segments.ensures.placed
    c.file.ensures.apart

pub put_segments-requires-clause-placed : goal.put_segments-requires-clause-placed
put_segments-requires-clause-placed c =
    subst (All (IsPlaced c.file.result.now)) (sym c.deref-3.ensures.value)
    (subst (λ file. All (IsPlaced file) c.in_ok-segments.segments.items)
    (sym c.file.ensures.bytes) c.in_ok-segments.ensures.placed)

pub put_stack-requires-clause-before : goal.put_stack-requires-clause-before
put_stack-requires-clause-before c =
    let same = c.deref-3.ensures.value ∙ c.in_ok-segments.ensures.segments in
    c.put_segments.ensures
    ∙ ap (λ file. memory_of (filled_cell file c.deref-3.result.now c.deref-3.result.now)) c.file.ensures.bytes
    ∙ ap (λ segments. memory_of (filled_cell c.args.elf.now.bytes segments segments)) same
    ∙ filled_all c.args.elf.now
