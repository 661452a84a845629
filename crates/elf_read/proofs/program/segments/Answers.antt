use Rattle.std.proofs.Common.{◌≡◌, ◌<◌, ◌++◌, length, Some, None, sym, ap, subst, ◌∙◌, arith}
use Rattle.std.specs.Option.{option_to_list, IfSome}
use Rattle.std.proofs.lemmas.Result.{err_from_is_err_and}
use Rattle.std.proofs.lemmas.List.{append-nil}
use Rattle.elf_read.specs.Header.{header_of}
use Rattle.elf_read.specs.Programs.{IsPlaced, program_fault, segment_of, segments_among}
use Rattle.elf_read.proofs.CheckLemmas.{table_goes_on, table_ends, IsRefusal-known}
use Rattle.elf_read.proofs.ProgramLemmas.{length-segments_among, program_fault-at, segments_among-more, All-push_option}
use Rattle.elf_read.proofs.program.segments.Goals as goal
use Rattle.elf_read.proofs.program.segments.Goals.{in-Some+in_ok-push, in_default}

pub overflow_cast-len : goal.overflow_cast-len
overflow_cast-len c =
    omega (
      arith,
      length-segments_among c.args.bytes.now c.headers.k,
      ap length c.headers.invariant.found,
      c.headers.found.ok.0,
    )

pub returns-in_err-segment-clause-fault : goal.returns-in_err-segment-clause-fault
returns-in_err-segment-clause-fault c =
    let b = c.args.bytes.now in
    let k = c.headers.k in
    let e = c.in_err-segment.field-0.0 in
    let p = err_from_is_err_and c.from_residual.result c.from_residual.ensures.1 in
    let below : k < (header_of b).program_count = omega (arith, ap (λ h. h.program_count) c.requires.header) in
    let number : c.len.result ≡ length (segments_among b k)
    = omega (arith, ap length c.headers.invariant.found, c.headers.found.ok.0) in
    let here =
    program_fault-at b k c.len.result c.program_header-program.result number c.program_header-program.ensures in
    rw (p.1, p.2)
    (IsRefusal-known e _
    (table_ends (program_fault b) (header_of b).program_count k e below c.headers.invariant.faults
    (here ∙ c.in_err-segment.ensures.fault)))

pub headers-preserved : goal.headers-preserved
headers-preserved c =
    let b = c.args.bytes.now in
    let k = c.headers.k in
    let number : c.len.result ≡ length (segments_among b k)
    = omega (arith, ap length c.headers.invariant.found, c.headers.found.ok.0) in
    let here =
    program_fault-at b k c.len.result c.program_header-program.result number c.program_header-program.ensures in
    let pushed : c.match-branch-2.found.items
    ≡ c.headers.found.items ++ option_to_list (segment_of c.program_header-program.result) =
    elim c.match-branch-2.branch [
      | in-Some+in_ok-push w ↦
          let is : segment_of c.program_header-program.result ≡ Some w.in-Some.segment
          = sym c.in_ok-segment.ensures.segment ∙ w.in-Some.is in
          ap (λ v. v.items) w.found-is ∙ w.in_ok-push.ensures.items
          ∙ ap (λ o. c.headers.found.items ++ option_to_list o) (sym is)
      | in_default w ↦
          let is : segment_of c.program_header-program.result ≡ None = sym c.in_ok-segment.ensures.segment
          ∙ w.in_default.is in
          ap (λ v. v.items) w.found-is ∙ sym (append-nil c.headers.found.items)
          ∙ ap (λ o. c.headers.found.items ++ option_to_list o) (sym is)
    ] in
    record {
      faults = table_goes_on (program_fault b) k c.headers.invariant.faults (here ∙ c.in_ok-segment.ensures.fault);
      found =
          segments_among-more b k c.headers.found.items c.match-branch-2.found.items c.program_header-program.result
          c.headers.invariant.found c.program_header-program.ensures pushed;
      placed =
          rw pushed
          (All-push_option (IsPlaced b) c.headers.found.items
          (segment_of c.program_header-program.result) c.headers.invariant.placed
          (subst (λ o. IfSome o (IsPlaced b)) c.in_ok-segment.ensures.segment c.in_ok-segment.ensures.placed));
    }

pub returns-clause-count : goal.returns-clause-count
returns-clause-count c =
    omega (arith, length-segments_among c.args.bytes.now c.headers.k, ap length c.headers.invariant.found)
