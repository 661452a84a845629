use Rattle.std.proofs.Common.{◌≡◌, length}
use Rattle.sym_map.proofs.Maps.{places, entry_addresses, known, is_map, identities_rise, identities_are, entries_are}
use Rattle.sym_map.proofs.building.build.Goals as goal

pub entries-requires-clause-rise : goal.entries-requires-clause-rise
entries-requires-clause-rise c = rw c.deref.ensures.value c.in_ok-symbols.ensures.rise

pub entries-requires-clause-known : goal.entries-requires-clause-known
entries-requires-clause-known c =
    let count : c.len.result ≡ length c.in_ok-symbols.symbols.functions =
    c.len.ensures in
    rw (c.deref.ensures.value, count)
    (λ a small. (known _ _ _ _ c.in_ok-lines.ensures c.args.elf.now _ _ _ c.in_ok-symbols.ensures a
    small).symbol)

pub invariant_of-result : goal.invariant_of-result
invariant_of-result c =
    let count : c.len.result ≡ length c.in_ok-symbols.symbols.functions =
    c.len.ensures in
    let as_many = rw count at c.in_ok-entries.ensures.as_many in
    let starts = rw c.deref.ensures.value at c.in_ok-entries.ensures.starts in
    let each = rw (c.deref.ensures.value, count) at c.in_ok-entries.ensures.each in
    let placed = c.new-index.ensures in (
      is_map _ _ _ _ c.in_ok-lines.ensures c.args.elf.now _ _ _ c.in_ok-symbols.ensures
          c.in_ok-entries.entries.items as_many starts each,
      placed,
    )

pub returns-clause-places : goal.returns-clause-places
returns-clause-places c =
    places _ _ _ _ c.in_ok-lines.ensures c.args.elf.now _ _ _ c.in_ok-symbols.ensures
    c.in_ok-entries.entries.items

pub returns-clause-entry_addresses : goal.returns-clause-entry_addresses
returns-clause-entry_addresses c =
    entry_addresses _ _ _ _ c.in_ok-lines.ensures c.args.elf.now _ _ _ c.in_ok-symbols.ensures
    c.in_ok-entries.entries.items

pub returns-clause-functions : goal.returns-clause-functions
returns-clause-functions c =
    identities_are _ _ _ _ c.in_ok-lines.ensures c.args.elf.now _ _ _ c.in_ok-symbols.ensures

pub returns-clause-functions_rise : goal.returns-clause-functions_rise
returns-clause-functions_rise c =
    identities_rise _ _ _ _ c.in_ok-lines.ensures c.args.elf.now _ _ _ c.in_ok-symbols.ensures

pub returns-clause-entries : goal.returns-clause-entries
returns-clause-entries c =
    let starts = rw c.deref.ensures.value at c.in_ok-entries.ensures.starts in
    let count : c.len.result ≡ length c.in_ok-symbols.symbols.functions =
    c.len.ensures in
    let each = rw (c.deref.ensures.value, count) at c.in_ok-entries.ensures.each in
    entries_are _ _ _ _ c.in_ok-lines.ensures c.args.elf.now _ _ _ c.in_ok-symbols.ensures
    c.in_ok-entries.entries.items starts each
