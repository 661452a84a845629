-- What is left to ask is that the segments are apart.
use Rattle.std.proofs.Common.{◌≡◌, ◌≤◌, ◌&&◌, ◌%◌, length, rules}
use Rattle.std.specs.Prelude.{IsTrue, ◌↔◌}
use Rattle.std.specs.List.{All, list_any}
use Rattle.std.proofs.lemmas.Result.{IfOk-weaker}
use Rattle.prog_make.specs.Functions.{is_executable}
use Rattle.prog_make.specs.inner.Conditions.{AreApart, AreSegmentsFit, IsPlaced, covers}
use Rattle.prog_make.proofs.conditions.are_segments_sound.Goals as goal

pub returns : goal.returns
returns c =
    let count : length c.args.parts.now.segments ≤ 60000 = search rules in
    let placed : All IsPlaced c.args.parts.now.segments = search rules in
    let aligned : c.args.parts.now.entry % 4 ≡ 0 = search rules in
    let code : IsTrue (list_any (λ s. covers c.args.parts.now.entry s && is_executable s) c.args.parts.now.segments) =
    search rules in
    let same : c.deref-2.result.now ≡ c.args.parts.now.segments = search rules in
    IfOk-weaker c.are_segments_apart.result (λ apart. IsTrue apart ↔ AreApart c.args.parts.now.segments)
    (λ sound. IsTrue sound ↔ AreSegmentsFit c.args.parts.now)
    (λ apart h. (
      λ t. record {
        count = count;
        placed = placed;
        apart = h.0 t;
        entry_aligned = aligned;
        entry_in_code = code;
      },
      λ sound. h.1 sound.apart,
    ))
    (rw same at c.are_segments_apart.ensures)
