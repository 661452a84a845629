use Rattle.sym_map.proofs.symbol_map.SymMap.try_clone.Goals as goal

pub invariant_of-result : goal.invariant_of-result
invariant_of-result c =
    rw (
      c.in_ok-functions.ensures,
      c.in_ok-files.ensures,
      c.deref.ensures.value,
      c.in_ok-extend_from_slice.ensures.items,
      c.new-entries.ensures.items,
      c.deref-2.ensures.value,
      c.in_ok-ranges.ensures,
      c.in_ok-index.ensures.first,
      c.in_ok-index.ensures.spots,
    )
    c.self.invariant
