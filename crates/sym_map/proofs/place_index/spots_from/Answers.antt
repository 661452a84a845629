use Rattle.std.proofs.Common.{◌≡◌, ◌<◌, ◌+◌, ◌*◌, ◌^◌, ◌++◌, ◌∷◌, [], ℕ, length, ap, subst, sym, drop, ◌∙◌}
use Rattle.std.proofs.Common.{length-append, arith}
use Rattle.sym_map.specs.inner.Ranges.{here_at}
use Rattle.sym_map.specs.inner.Ranges.{place_in}
use Rattle.sym_map.specs.inner.Indexed.{AreIndexed, IsSpot}
use Rattle.sym_map.specs.declared.place_index.Spot.{Spot}
use Rattle.sym_map.proofs.Spots.{spots_pushed, whole_part}
use Rattle.sym_map.proofs.place_index.spots_from.Goals as goal

pub words-preserved : goal.words-preserved
words-preserved c =
    let ranges = c.args.ranges.now in
    let unknown = c.args.unknown in
    let first = c.args.first in
    let word = c.words.word in
    let spots = c.words.spots.items in
    let so_far = c.words.invariant in
    let last = c.spot_behind-last.result in
    let place : c.place_in.result ≡ place_in unknown (here_at ranges (first + 4 * word)) =
    c.place_in.ensures ∙ ap (place_in unknown) (c.here_by.ensures ∙ c.near-near.ensures.here) in
    let is : IsSpot ranges unknown (first + 4 * word) last =
    c.spot_behind-last.ensures.spot ranges unknown so_far.alike place in
    let behind : IsSpot ranges unknown (first + 4 * length spots) last =
    let P = λ (n : ℕ). IsSpot ranges unknown (first + 4 * n) last in subst P (sym so_far.counted) is in
    let small : first + 4 * (length spots + 1) < 2 ^ 32 =
    omega (arith, so_far.counted, c.requires.within, c.words-test.true, c.words.auto.word-end) in
    let pushed = c.in_ok-push.ensures.items ∙ ap (λ (s : Spot). spots ++ s ∷ []) c.copy.ensures in
    let more : length (spots ++ last ∷ []) ≡ length spots + 1 = length-append spots (last ∷ []) in
    record {
      symbol = c.near-near.ensures.symbol;
      line = c.near-near.ensures.line;
      counted = ap length pushed ∙ more ∙ ap (λ n. n + 1) so_far.counted;
      indexed = subst (AreIndexed ranges unknown first) (sym pushed)
          (spots_pushed ranges unknown first spots last small so_far.indexed behind);
      alike = is.alike;
      behind = omega (arith, c.spot_behind-last.ensures.end);
    }

pub returns : goal.returns
returns c =
    let are = AreIndexed c.args.ranges.now c.args.unknown c.args.first in
    let made = c.words.spots in
    let wide = c.widen.new.spots in
    let whole : made.len ≡ length wide = omega (arith, c.deref_mut.ensures.len, c.widen.auto.spots) in
    subst are (sym (whole_part made.len wide (drop (length wide) made.items) whole))
    (c.widen.ensures c.args.ranges.now c.args.unknown c.args.first
    (subst are (sym c.deref_mut.ensures.value) c.words.invariant.indexed))
