use Rattle.std.proofs.Common.{◌≡◌, ◌∙◌, ap, subst, sym}
use Rattle.sym_map.specs.inner.Maps.{IsMap}
use Rattle.sym_map.specs.declared.symbol_map.SymMap.TheInside.{Inside}
use Rattle.sym_map.specs.inner.Indexed.{AreIndexed}
use Rattle.sym_map.specs.AddressMap.{address_map}
use Rattle.sym_map.specs.SymbolMap.{SymbolMap, is_entry_at, place_of}
use Rattle.sym_map.specs.inner.Ranges.{lines_by_address, map_of}
use Rattle.sym_map.proofs.AddressMaps.{address_is_map}
use Rattle.sym_map.proofs.Told.{address_entry, address_place, kept_by_address}
use Rattle.sym_map.proofs.symbol_map.SymMap.by_address.Goals as goal

pub invariant_of-result : goal.invariant_of-result
invariant_of-result c =
    let is = subst (λ (m : Inside). IsMap m.functions m.files.items m.entries.items m.ranges m.unknown
    × AreIndexed m.ranges m.unknown m.index.first m.index.spots.items) (sym c.self-inside.view_is) c.self.invariant in
    (address_is_map _ _ _ _ _ is.0, c.tell_addresses.ensures _ _ is.1)

-- of the map that was taken apart
apart : (x m : Inside) (now : SymbolMap) → x ≡ m
    → map_of m.functions m.files.items m.entries.items m.ranges m.unknown ≡ now
    → map_of x.functions x.files.items x.entries.items (lines_by_address x.ranges) x.unknown ≡ address_map now
apart x m now same is =
    kept_by_address x now
    (ap (λ (k : Inside). map_of k.functions k.files.items k.entries.items k.ranges k.unknown) same ∙ is)

pub returns-clause-map : goal.returns-clause-map
returns-clause-map c = apart _ _ _ c.self-inside.view_is c.self.view_is

pub returns-clause-places : goal.returns-clause-places
returns-clause-places c = λ address.
    ap (λ (m : SymbolMap). place_of m address) (returns-clause-map c) ∙ address_place c.args.self address

pub returns-clause-entry_addresses : goal.returns-clause-entry_addresses
returns-clause-entry_addresses c = λ address.
    ap (λ (m : SymbolMap). is_entry_at m address) (returns-clause-map c) ∙ address_entry c.args.self address
