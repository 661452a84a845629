use Rattle.std.proofs.Common.{◌≡◌, [], ◌∷◌, ◌++◌, take}
use Rattle.std.specs.Prelude.{flat_map}
use Rattle.guest_load.proofs.stack.push_pairs.Given as goal

abbrev pub invariant-pairs : goal.invariant-pairs
invariant-pairs l = l.words.items
    ≡ l.initial.words.items ++ flat_map (λ pair. pair.0 ∷ pair.1 ∷ []) (take l.kind-index l.pairs)
