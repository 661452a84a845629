use Rattle.std.proofs.Common.{◌≡◌, ◌∙◌, false, length}
use Rattle.std.specs.Cmp.Lexicographic.{nat_list_eq_equiv}
use Rattle.std.specs.List.{list_any}
use Rattle.std.specs.Str.{bytes_eq}
use Rattle.key_tables.proofs.MixedLemmas.{more_found, still_found}
use Rattle.key_tables.proofs.TableLemmas.{added_already, last_at}
use Rattle.key_tables.proofs.table.Table.number.Goals as goal

pub returns-in-Some-clause-keys : goal.returns-in-Some-clause-keys
returns-in-Some-clause-keys c =
    added_already nat_list_eq_equiv c.args.self.now c.args.text c.in-Some.number c.in-Some.ensures.found

pub invariant_of-self : goal.invariant_of-self
invariant_of-self c =
    let t = c.self.inside in
    let none : list_any (bytes_eq c.args.text) t.texts.items ≡ false = rw c.self.view_is c.in_default.ensures.none in
    still_found t.texts.items c.args.text t.firsts t.others c.self.invariant c.note.new.firsts c.note.new.others none
    (rw c.again-noted.ensures at c.note.ensures.kept)

pub invariant_of-self-in_err-push : goal.invariant_of-self-in_err-push
invariant_of-self-in_err-push c =
    let t = c.self.inside in
    let none : list_any (bytes_eq c.args.text) t.texts.items ≡ false = rw c.self.view_is c.in_default.ensures.none in
    rw c.in_err-push.ensures.items
    (still_found t.texts.items c.args.text t.firsts t.others c.self.invariant c.note.new.firsts c.note.new.others none
    (rw c.again-noted.ensures at c.note.ensures.kept))

pub invariant_of-self-2 : goal.invariant_of-self-2
invariant_of-self-2 c =
    let t = c.self.inside in
    let none : list_any (bytes_eq c.args.text) t.texts.items ≡ false = rw c.self.view_is c.in_default.ensures.none in
    let count : c.len-number.result ≡ length t.texts.items = c.len-number.ensures ∙ t.texts.ok.0 in
    rw c.in_ok-push.ensures.items
    (more_found t.texts.items c.args.text t.firsts t.others c.self.invariant c.note.new.firsts c.note.new.others none
    (rw c.again-noted.ensures at c.note.ensures.kept) (rw (c.again-noted.ensures, count) at c.in_ok-note.ensures.found))

pub returns-clause-number : goal.returns-clause-number
returns-clause-number c =
    let t = c.self.inside in
    rw (c.in_ok-push.ensures.items, c.len-number.ensures, t.texts.ok.0) (last_at t.texts.items c.args.text)
