use Rattle.cg_lines.proofs.PartLemmas.{slice_split-cut, slice_split-whole}
use Rattle.cg_lines.proofs.parts.cut.Goals as goal

pub returns-then-place-text : goal.returns-then-place-text
returns-then-place-text c = slice_split-cut _ _ _ c.first_place-place.ensures.place c.if-place-text.true

pub returns-else-place-text : goal.returns-else-place-text
returns-else-place-text c = slice_split-whole _ _ (rw (← c.first_place-place.ensures.place) c.if-place-text.false)
