use Rattle.std.proofs.Common.{◌≡◌, length, drop, subst, sym, arith}
use Rattle.sym_map.specs.inner.Ranges.{lines_by_address}
use Rattle.sym_map.specs.inner.Indexed.{AreIndexed}
use Rattle.sym_map.proofs.Spots.{whole_part}
use Rattle.sym_map.proofs.place_index.PlaceIndex.tell_addresses.Goals as goal

pub returns : goal.returns
returns c = λ ranges unknown are.
    let first = c.args.self.now.first in
    let spots = c.args.self.now.spots in
    let told = c.tell_each.new.spots in
    let whole : spots.len ≡ length told = omega (arith, c.deref_mut.ensures.len, c.tell_each.auto.spots) in
    subst (AreIndexed (lines_by_address ranges) unknown first)
    (sym (whole_part spots.len told (drop (length told) spots.items) whole))
    (c.tell_each.ensures ranges unknown
    (subst (AreIndexed ranges unknown first) (sym c.deref_mut.ensures.value) are))
