use Rattle.std.specs.Cmp.Lexicographic.{nat_list_eq_equiv}
use Rattle.key_tables.specs.Same.{same_texts}
use Rattle.key_tables.proofs.TableLemmas.{apart}
use Rattle.key_tables.proofs.table.Table.keys.Goals as goal

pub returns-clause-distinct : goal.returns-clause-distinct
returns-clause-distinct c =
    rw (← c.self.view_is) (apart nat_list_eq_equiv same_texts c.self.inside.texts.items c.self.invariant.apart)
