use Rattle.std.proofs.Common.{◌≡◌, ◌<◌, length, vec_len, sym, ap, ◌∙◌, arith}
use Rattle.sym_map.specs.inner.Ranges.{here_at}
use Rattle.sym_map.specs.inner.Ranges.{place_in}
use Rattle.sym_map.specs.declared.place_index.Spot.{Spot}
use Rattle.sym_map.proofs.place_index.PlaceIndex.place.Goals as goal

pub returns : goal.returns
returns c = λ ranges unknown are.
    let spots = c.args.self.now.spots.items in
    let number = c.number_from-number.result in
    let whole : vec_len c.args.self.now.spots ≡ length spots = omega arith in
    let below : number < length spots = omega (arith, whole, c.len.ensures, c.if-number-len.false) in
    ap (λ (s : Spot). s.place) c.index.ensures ∙ (are.at number c.index.result.now below).place
    ∙ ap (λ address. place_in unknown (here_at ranges address))
    (sym (c.number_from-number.ensures (length spots) are.within below))
