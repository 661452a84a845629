use Rattle.std.proofs.Common.{◌≡◌, ◌∙◌, false, length}
use Rattle.std.specs.List.{list_any}
use Rattle.key_tables.proofs.FirstLemmas.{still_numbered, more_numbered}
use Rattle.key_tables.proofs.TableLemmas.{added_already, last_at}
use Rattle.key_tables.proofs.text_keys.TextKeys.number.Goals as goal

pub returns-in-Some-clause-keys : goal.returns-in-Some-clause-keys
returns-in-Some-clause-keys g c =
    added_already g.met.K.Eq.laws c.args.self.now c.args.key c.in-Some.number c.in-Some.ensures.found

pub invariant_of-self : goal.invariant_of-self
invariant_of-self g c =
    let t = c.self.inside in
    let none : list_any (g.K.PartialEq.eq c.args.key) t.keys.items ≡ false
    = rw c.self.view_is c.in_default.ensures.none in
    let count : c.len-number.result ≡ length t.keys.items = c.len-number.ensures ∙ t.keys.ok.0 in
    still_numbered g.K.Ord.cmp g.met.K.Eq.laws g.met.K.Ord.matches_eq g.met.K.Key.exact g.K.TextKey.latest t.keys.items c.args.key t.firsts.items
    c.note.new.firsts.items t.others c.note.new.others c.self.invariant none
    (rw count at c.note.ensures.kept)

pub invariant_of-self-in_err-push : goal.invariant_of-self-in_err-push
invariant_of-self-in_err-push g c =
    let t = c.self.inside in
    let none : list_any (g.K.PartialEq.eq c.args.key) t.keys.items ≡ false
    = rw c.self.view_is c.in_default.ensures.none in
    let count : c.len-number.result ≡ length t.keys.items = c.len-number.ensures ∙ t.keys.ok.0 in
    rw c.in_err-push.ensures.items
    (still_numbered g.K.Ord.cmp g.met.K.Eq.laws g.met.K.Ord.matches_eq g.met.K.Key.exact g.K.TextKey.latest t.keys.items c.args.key t.firsts.items
    c.note.new.firsts.items t.others c.note.new.others c.self.invariant none
    (rw count at c.note.ensures.kept))

pub invariant_of-self-2 : goal.invariant_of-self-2
invariant_of-self-2 g c =
    let t = c.self.inside in
    let none : list_any (g.K.PartialEq.eq c.args.key) t.keys.items ≡ false
    = rw c.self.view_is c.in_default.ensures.none in
    let count : c.len-number.result ≡ length t.keys.items = c.len-number.ensures ∙ t.keys.ok.0 in
    rw c.in_ok-push.ensures.items
    (more_numbered g.K.Ord.cmp g.met.K.Eq.laws g.met.K.Ord.matches_eq g.met.K.Key.exact g.K.TextKey.latest t.keys.items c.args.key t.firsts.items
    c.note.new.firsts.items t.others c.note.new.others c.self.invariant none
    (rw count at c.note.ensures.kept) (rw count at c.in_ok-note.ensures.found))

pub returns-clause-number : goal.returns-clause-number
returns-clause-number g c =
    let t = c.self.inside in
    rw (c.in_ok-push.ensures.items, c.len-number.ensures, t.keys.ok.0) (last_at t.keys.items c.args.key)
