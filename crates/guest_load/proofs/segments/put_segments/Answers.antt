use Rattle.std.proofs.Common.{◌≡◌, ◌-◌, drop, ap, ◌∙◌, arith}
use Rattle.elf_read.specs.declared.program.Segment.{Segment}
use Rattle.guest_mem.specs.Memory.{memory_of}
use Rattle.guest_load.specs.inner.Stages.{filled_cell}
use Rattle.guest_load.proofs.SegmentLemmas.{filled_none, fill_may, fill_more}
use Rattle.guest_load.proofs.segments.put_segments.Goals as goal

pub segments-init : goal.segments-init
segments-init c = record {
  within = omega arith;
  memory = c.requires.before ∙ filled_none c.args.file.now c.args.segments.now;
}

-- what an element past the end is taken to be
abbrev none : Segment
none = record { offset = 0; addr = 0; file_len = 0; mem_len = 0; flags = 0 }

pub put_raw-requires : goal.put_raw-requires
put_raw-requires c =
    fill_may c.args.file.now c.args.segments.now c.segments.left none c.file_bytes.result.now c.segments.mem
    c.segments-test.true c.segments.invariant.within c.segments.invariant.memory
    (c.requires.placed (c.segments.left - 1) none (omega arith)) c.file_bytes.ensures

pub segments-preserved : goal.segments-preserved
segments-preserved c = record {
  within = omega arith;
  memory = fill_more c.args.file.now c.args.segments.now c.segments.left none c.file_bytes.result.now c.segments.mem
      c.put_raw.new.self c.segments-test.true c.segments.invariant.within c.segments.invariant.memory
      (c.requires.placed (c.segments.left - 1) none (omega arith)) c.file_bytes.ensures c.put_raw.ensures.after;
}

pub returns : goal.returns
returns c =
    let none : c.segments.left ≡ 0 = omega arith in
    c.segments.invariant.memory
    ∙ ap (λ k. memory_of (filled_cell c.args.file.now c.args.segments.now (drop k c.args.segments.now))) none
