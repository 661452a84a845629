use Rattle.std.proofs.Common.{arith, inl, inr, refl}
use Rattle.rv_step.proofs.TableLemmas.{kept-found, kept-others, noted-filled, noted-wider, place-below}
use Rattle.rv_step.proofs.instr_table.InstrTable.keep.Goals as goal

pub invariant_of-self-clause-noted : goal.invariant_of-self-clause-noted
invariant_of-self-clause-noted c =
    let table = c.note.new.self in
    let pc = c.args.found.pc in
    noted-filled table.filled.items c.min-self.result c.max-self.result c.place_of.result table.places.items c.args.found
    (omega (arith, table.whole, place-below pc c.place_of.result c.place_of.ensures)) c.place_of.ensures
    c.note.ensures.noted (omega (arith, c.min-self.ensures)) (omega (arith, c.max-self.ensures))
    (noted-wider table.filled.items table.first table.last c.min-self.result c.max-self.result table.places.items
    (omega (arith, c.min-self.ensures)) (omega (arith, c.max-self.ensures)) table.noted)

pub returns-clause-kept : goal.returns-clause-kept
returns-clause-kept c =
    kept-found c.note.new.self _ c.place_of.result c.args.found.pc c.args.found refl c.place_of.ensures
    c.note.new.self.whole refl

pub returns-clause-others : goal.returns-clause-others
returns-clause-others c = λ q i given.
    elim (kept-others c.note.new.self _ c.place_of.result c.args.found refl c.note.new.self.whole
    (place-below c.args.found.pc c.place_of.result c.place_of.ensures) q i given) [
      | inl same ↦ inl same
      | inr before ↦ inr (c.note.ensures.fewer q i before)
    ]
