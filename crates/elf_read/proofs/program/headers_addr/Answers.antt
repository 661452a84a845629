use Rattle.std.proofs.Common.{◌≡◌, ◌+◌, ◌-◌, Some, sym, ap, ◌∙◌, arith}
use Rattle.std.specs.Option.{option_map}
use Rattle.elf_read.specs.Programs.{headers_addr_in}
use Rattle.elf_read.proofs.ProgramLemmas.{headers_segment-found}
use Rattle.elf_read.proofs.program.headers_addr.Goals as goal

pub overflow_sub-result : goal.overflow_sub-result
overflow_sub-result c =
    (headers_segment-found c.args.bytes.now c.args.header.now c.args.segments.now c.in_ok-segment.segment c.requires
    (sym c.headers_segment.ensures ∙ c.in_ok-segment.was)).1

pub overflow_add-result : goal.overflow_add-result
overflow_add-result c =
    let s = c.in_ok-segment.segment in
    let found = headers_segment-found c.args.bytes.now c.args.header.now c.args.segments.now s c.requires
    (sym c.headers_segment.ensures ∙ c.in_ok-segment.was) in
    let sizes = found.0.sizes in
    let high = found.0.high in
    omega arith

pub returns : goal.returns
returns c =
    let s = c.in_ok-segment.segment in
    let h = c.args.header.now in
    let found = headers_segment-found c.args.bytes.now h c.args.segments.now s c.requires
    (sym c.headers_segment.ensures ∙ c.in_ok-segment.was) in
    let same : s.addr + (h.program_offset - s.offset) ≡ headers_addr_in h s = omega arith in
    ap Some same ∙ sym (ap (option_map (headers_addr_in h)) (sym c.headers_segment.ensures ∙ c.in_ok-segment.was))
