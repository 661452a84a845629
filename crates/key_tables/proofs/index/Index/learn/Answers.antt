use Rattle.std.proofs.Common.{◌≡◌, ◌∙◌, arith, get_or, subst, sym}
use Rattle.key_tables.proofs.IndexLemmas.{finds_one_more}
use Rattle.key_tables.proofs.index.Index.learn.Goals as goal

pub keys-preserved : goal.keys-preserved
keys-preserved g c =
    let keys = c.args.keys.now in
    record {
      within = omega (arith, c.keys-test.true);
      found = finds_one_more g.K.Ord.cmp g.met.K.Eq.laws g.met.K.Ord.matches_eq g.met.K.Key.exact keys c.keys.self.count
          c.in_ok-key.key c.keys.self.places c.insert.new.self (omega (arith, c.keys-test.true))
          (subst (λ d. c.in_ok-key.key ≡ get_or keys c.keys.self.count d) (sym c.in_ok-key.ensures)
          (c.in_ok-key.ensures ∙ c.index-keys-self.is)) c.requires.apart c.keys.invariant.found
          c.in_ok-insert.ensures.updates.0;
    }
