use Rattle.std.proofs.Common.{◌≡◌, ◌<◌, ◌≤◌, ◌+◌, ◌++◌, ◌∷◌, [], is_some, length, ap, sym, ◌∙◌, subst, arith, true≢false}
use Rattle.std.specs.Map.{keys_of, lookup}
use Rattle.std.proofs.lemmas.List.{length-map, map-append}
use Rattle.indexmap.proofs.MapLemmas.{some_index}
use Rattle.arc_costs.specs.inner.Tree.{Differs, Ends, IsTree, with_row}
use Rattle.arc_costs.proofs.TreeLemmas.{end_within, grows}
use Rattle.arc_costs.proofs.key_tree.KeyTree.push.Goals as goal

pub unreachable-requires : goal.unreachable-requires
unreachable-requires g c =
    let test = g.K.PartialEq.eq c.args.key in
    let rows = c.deref.ensures.value ∙ ap (λ v. v.entries) c.self.view_is ∙ c.reserve.ensures.entries in
    true≢false (sym (ap is_some c.in_default.ensures.found) ∙ some_index test c.deref.result.now
    ∙ ap (λ es. is_some (lookup test es)) rows ∙ ap is_some c.requires)

pub lead_to-requires-clause-way : goal.lead_to-requires-clause-way
lead_to-requires-clause-way g c =
    subst (λ ws. c.in-Err.way < length ws + 4) c.deref-2.ensures.value
    (end_within g.K.PartialEq.eq g.K.Digits.digit g.met.K.Digits.few (keys_of c.deref.result.now)
    c.deref-2.result.now
    (subst (λ ws. IsTree g.K.PartialEq.eq g.K.Digits.digit (keys_of c.deref.result.now) ws) (sym c.deref-2.ensures.value)
    (subst (λ es. IsTree g.K.PartialEq.eq g.K.Digits.digit (keys_of es) c.self.inside.next.items) (sym c.deref.ensures.value) c.self.invariant.0))
    c.args.key g.met.K.Digits.exact c.in-Err.way c.in-Err.ensures.end)

pub invariant_of-self : goal.invariant_of-self
invariant_of-self g c =
    let same = g.K.PartialEq.eq in
    let digit = g.K.Digits.digit in
    let rows = c.self.inside.rows.items in
    let next = c.self.inside.next.items in
    let keys = keys_of rows in
    let way = c.in-Err.way in
    let ends : Ends next (digit c.args.key) (Differs same c.args.key keys) way =
    subst (λ ws. Ends ws (digit c.args.key) (Differs same c.args.key keys) way) c.deref-2.ensures.value
    (subst (λ es. Ends c.deref-2.result.now (digit c.args.key) (Differs same c.args.key (keys_of es)) way)
    c.deref.ensures.value c.in-Err.ensures.end) in
    let index : length keys ≡ c.len-index.result
    = length-map rows (λ e. e.0) ∙ sym c.self.inside.rows.ok.0 ∙ sym c.len-index.ensures in
    let grown : IsTree same digit (keys ++ c.args.key ∷ []) (with_row next way (length keys))
    = grows same digit g.met.K.Digits.few keys next c.self.invariant.0 c.args.key g.met.K.Digits.exact way ends
    g.met.K.Eq.laws in
    let news : keys ++ c.args.key ∷ [] ≡ keys_of c.push_reserved.new.self.items
    = sym (ap keys_of c.push_reserved.ensures.items ∙ map-append (λ e. e.0) rows ((c.args.key, c.args.value) ∷ [])) in
    let ways : with_row next way (length keys) ≡ c.lead_to.new.next.items
    = ap (with_row next way) index ∙ sym c.lead_to.ensures.items in
    let room = c.self.invariant.1 in
    let spare : 1 ≤ c.self.inside.room
    = subst (λ v. 1 ≤ v.spare) (sym c.self.view_is) c.in_ok-reserve.ensures.spare in (
      subst (λ ks. IsTree same digit ks c.lead_to.new.next.items) news
          (subst (IsTree same digit (keys ++ c.args.key ∷ [])) ways grown),
      record {
        rows =
            omega (arith, room.rows, spare, c.push_reserved.ensures.len, c.push_reserved.ensures.capacity);
        ways = omega (arith, room.ways, spare, c.lead_to.ensures.len, c.lead_to.ensures.cap);
      },
    )
