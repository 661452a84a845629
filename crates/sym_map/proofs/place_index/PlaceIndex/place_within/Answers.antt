use Rattle.std.proofs.Common.{◌≡◌, ◌<◌, ◌+◌, ◌*◌, length, vec_len, sym, ap, subst, ◌∙◌, arith}
use Rattle.sym_map.specs.inner.Ranges.{here_at}
use Rattle.sym_map.specs.inner.Ranges.{place_in}
use Rattle.sym_map.specs.declared.place_index.Spot.{Spot}
use Rattle.sym_map.specs.inner.Indexed.{IsSpot}
use Rattle.sym_map.proofs.place_index.PlaceIndex.place_within.Goals as goal

pub returns-clause-place : goal.returns-clause-place
returns-clause-place c = λ ranges unknown are.
    let spots = c.args.self.now.spots.items in
    let number = c.number_from-number.result in
    let whole : vec_len c.args.self.now.spots ≡ length spots = omega arith in
    let below : number < length spots = omega (arith, whole, c.len.ensures, c.if-number-len.false) in
    ap (λ (s : Spot). s.place) c.index-spot.ensures ∙ (are.at number c.index-spot.result.now below).place
    ∙ ap (λ address. place_in unknown (here_at ranges address))
    (sym (c.number_from-number.ensures (length spots) are.within below))

pub returns-clause-next : goal.returns-clause-next
returns-clause-next c = λ ranges unknown are.
    let first = c.args.self.now.first in
    let spots = c.args.self.now.spots.items in
    let number = c.number_from-number.result in
    let whole : vec_len c.args.self.now.spots ≡ length spots = omega arith in
    let below : number < length spots = omega (arith, whole, c.len.ensures, c.if-number-len.false) in
    let spot : Spot = c.index-spot.result.now in
    let is : IsSpot ranges unknown (first + 4 * number) spot =
    subst (IsSpot ranges unknown (first + 4 * number)) (sym c.index-spot.ensures)
    (are.at number spot below) in
    let ahead : c.number_from.result < spot.count = c.if-number_from-spot.false in
    ap (λ address. (place_in unknown (here_at ranges address)).func)
    (c.number_from.ensures spot.count is.within ahead)
    ∙ is.alike c.number_from.result ahead
