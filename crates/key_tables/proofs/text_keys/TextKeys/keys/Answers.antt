use Rattle.key_tables.proofs.TableLemmas.{apart}
use Rattle.key_tables.proofs.text_keys.TextKeys.keys.Goals as goal

pub returns-clause-distinct : goal.returns-clause-distinct
returns-clause-distinct g c =
    rw (← c.self.view_is) (apart g.met.K.Eq.laws g.met.K.Key.exact c.self.inside.keys.items c.self.invariant.apart)
