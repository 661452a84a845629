use Rattle.std.proofs.Common.{◌≡◌, ◌++◌, take, flat_map}
use Rattle.annotate.specs.Sources.{source_text}
use Rattle.annotate.proofs.sources.put_sources.Given as goal

abbrev pub invariant-texts : goal.invariant-texts
invariant-texts l = l.text ≡ l.initial.text ++ flat_map (λ t. source_text l.profile t.0 t.1)
    (take l.name-index l.name-items)
