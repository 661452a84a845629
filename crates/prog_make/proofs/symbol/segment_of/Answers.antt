-- The segment that is found holds the function, and no other does.
use Rattle.std.proofs.Common.{◌≡◌, ◌+◌, Some, not, drop, sym, ap, ◌∙◌, arith, rules}
use Rattle.std.specs.List.{position, position_or_len}
use Rattle.std.proofs.lemmas.List.Sums.{prefix_len-le-length}
use Rattle.std.proofs.lemmas.List.{get_or-drop, length-drop, take_rest}
use Rattle.prog_make.specs.Functions.{holds}
use Rattle.prog_make.proofs.PlaceLemmas.{no_content, place_is, found_at, only_place}
use Rattle.prog_make.proofs.symbol.segment_of.Goals as goal

pub returns-in-Some : goal.returns-in-Some
returns-in-Some c =
    let at : position (holds c.args.function.now) (drop c.args.from c.args.segments.now) ≡ Some c.in-Some.place =
    search (rules, take_rest) in
    let found = found_at (holds c.args.function.now) (drop c.args.from c.args.segments.now) c.in-Some.place no_content
    at in
    let len = length-drop c.args.from c.args.segments.now in
    let inside = found.0 in
    record {
      place = sym (only_place c.args.function.now c.args.segments.now
          (c.args.from + c.in-Some.place) no_content c.requires.placed c.requires.apart c.requires.some (omega arith)
          (ap (holds c.args.function.now) (sym (get_or-drop c.args.from c.args.segments.now c.in-Some.place no_content))
          ∙ found.1));
      within = omega arith;
    }

pub returns-in-None : goal.returns-in-None
returns-in-None c =
    let place = place_is (holds c.args.function.now) c.args.segments.now in
    let short = prefix_len-le-length (λ s. not (holds c.args.function.now s)) c.args.segments.now in
    let is : c.unwrap_or.result ≡ position_or_len (holds c.args.function.now) c.args.segments.now = search rules in
    record { place = is; within = omega arith }
