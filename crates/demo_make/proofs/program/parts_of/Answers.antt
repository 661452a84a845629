-- The code can be put together, and is as long as its functions.
use Rattle.std.proofs.Common.{◌≡◌, ◌∙◌, arith, length, ap}
use Rattle.prog_make.specs.Code.{CanBeAssembled}
use Rattle.demo_make.specs.Program.{instructions, routines}
use Rattle.demo_make.specs.inner.Lists.{Lists}
use Rattle.demo_make.proofs.CodeFits.{code-fits}
use Rattle.demo_make.proofs.Lengths.{length-all}
use Rattle.demo_make.proofs.program.parts_of.Goals as goal

pub code_segment-requires-clause-assembled : goal.code_segment-requires-clause-assembled
code_segment-requires-clause-assembled c =
    let lists : Lists c.in_ok-listing.listing (routines c.args.size) = c.in_ok-listing.ensures in
    let code : c.deref.result.now ≡ instructions (routines c.args.size) = c.deref.ensures.value ∙ lists.code in
    let many = length-all c.args.size in
    let can : CanBeAssembled 65536 (instructions (routines c.args.size)) = record {
      in_range = code-fits c.args.size c.requires;
      room = omega arith;
    } in
    rw code can

pub code_segment-requires-clause-short : goal.code_segment-requires-clause-short
code_segment-requires-clause-short c =
    let lists : Lists c.in_ok-listing.listing (routines c.args.size) = c.in_ok-listing.ensures in
    let code : c.deref.result.now ≡ instructions (routines c.args.size) = c.deref.ensures.value ∙ lists.code in
    let many = ap length code ∙ length-all c.args.size in
    omega arith
