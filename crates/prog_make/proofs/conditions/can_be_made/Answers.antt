-- The condition is asked of the parts themselves, and holds where they stand in the file.
use Rattle.std.proofs.Common.{◌<◌, ◌^◌, false, rules}
use Rattle.std.specs.Prelude.{IsTrue, ◌↔◌}
use Rattle.std.proofs.lemmas.Result.{IfOk-weaker}
use Rattle.prog_make.specs.Conditions.{AreFunctionsSound, CanBeMade}
use Rattle.prog_make.specs.inner.Conditions.{AreSegmentsFit}
use Rattle.prog_make.specs.Names.{HasNoZero}
use Rattle.prog_make.specs.Parts.{total_len}
use Rattle.prog_make.proofs.Fit.{segments_fit, segments_sound}
use Rattle.prog_make.proofs.conditions.can_be_made.Goals as goal

pub returns-then-not-branch : goal.returns-then-not-branch
returns-then-not-branch c = (
  λ (h : IsTrue false). absurd cc,
  λ can. let no = c.if-not-branch.true in let yes =
      c.in_ok-are_segments_sound.ensures.1 (segments_fit c.args.parts.now can.segments) in cc,
)

pub returns : goal.returns
returns c =
    let fit : AreSegmentsFit c.args.parts.now = search rules in
    let file : HasNoZero c.args.parts.now.file = search rules in
    let total : total_len c.args.parts.now < 2 ^ 31 = search rules in
    IfOk-weaker c.are_functions_sound.result (λ sound. IsTrue sound ↔ AreFunctionsSound c.args.parts.now)
    (λ can. IsTrue can ↔ CanBeMade c.args.parts.now)
    (λ sound h. (
      λ t. record {
        segments = segments_sound c.args.parts.now fit;
        functions = h.0 t;
        file = file;
        total = total;
      },
      λ can. h.1 can.functions,
    ))
    c.are_functions_sound.ensures
