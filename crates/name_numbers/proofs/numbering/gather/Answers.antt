use Rattle.std.proofs.Common.{◌≡◌, ◌-◌, ◌∷◌, ◌++◌, [], Bool, true, false, length, map, Some, sym, ap, ◌∙◌, subst, arith}
use Rattle.std.specs.Prelude.{All, slice_get}
use Rattle.std.proofs.lemmas.Iterator.Adapters.{YieldsList-from_vec}
use Rattle.std.proofs.lemmas.Iterator.Consumers.{YieldsList-turn, YieldsList-end}
use Rattle.std.proofs.lemmas.List.{length_push, take_all}
use Rattle.name_numbers.proofs.Members.{Alike}
use Rattle.name_numbers.proofs.Tags.{key_of, IsNumbered, none_gathered, again, another}
use Rattle.name_numbers.proofs.numbering.gather.Goals as goal
use Rattle.name_numbers.proofs.numbering.gather.Goals.{else-is_last+in_ok-push, then-is_last}

both : {b : Bool} → b ≡ true → b ≡ false → ⊥
both p q = cc

pub tagged-init : goal.tagged-init
tagged-init g c =
    rw c.in_ok-keys.ensures.items
    (none_gathered g.K.Ord.cmp g.met.K.Ord.total g.met.K.ExactOrder.exact c.args.tagged.items
    c.in_ok-numbers.numbers.items
    (sym c.in_ok-numbers.numbers.ok.0 ∙ c.in_ok-numbers.ensures.len ∙ c.len.ensures ∙ c.args.tagged.ok.0))

pub tagged-preserved : goal.tagged-preserved
tagged-preserved g c =
    let here = YieldsList-turn (YieldsList-from_vec {s = c.into_iter-one-iterator.result} c.args.tagged.items
    c.into_iter-one-iterator.ensures.into_iter_gives.0
    (c.into_iter-one-iterator.ensures.into_iter_gives.1 ∙ c.args.tagged.ok.0)) c.tagged.yielded c.tagged.one-iterator
    c.tagged.yielded_by c.next.result c.next.new.self
    c.in-Some.one c.in-Some.is c.next.ensures.steps in
    let keys = c.tagged.keys.items in
    let one = c.in-Some.one in
    let count : c.len-in-tagged.result ≡ length c.if-is_last.keys.items = c.len-in-tagged.ensures
    ∙ c.if-is_last.keys.ok.0 in
    rw (length_push c.tagged.yielded one, count)
    (elim c.if-is_last.branch [
      | else-is_last+in_ok-push w ↦
          let pushed = ◌∙◌ {c = keys ++ one.key ∷ []} (ap (λ v. v.items) w.keys-is) w.in_ok-push.ensures.items in
          rw pushed
          (another g.K.Ord.cmp g.met.K.Ord.total g.met.K.ExactOrder.exact c.args.tagged.items (length c.tagged.yielded)
          keys c.tagged.numbers.items one here.0 here.1 c.requires.alike c.requires.within c.tagged.invariant
          c.requires.sorted
          (λ e. both (c.is_last.ensures.1 (subst (λ xs. slice_get xs (length xs - 1) ≡ Some one.key)
          (sym c.deref.ensures.value) e)) w.if-is_last.false))
      | then-is_last w ↦
          rw (ap (λ v. v.items) w.keys-is)
          (again g.K.Ord.cmp g.met.K.Ord.total g.met.K.ExactOrder.exact c.args.tagged.items (length c.tagged.yielded)
          keys c.tagged.numbers.items one here.0 here.1 c.requires.alike c.requires.within c.tagged.invariant
          (subst (λ xs. slice_get xs (length xs - 1) ≡ Some one.key) c.deref.ensures.value
          (c.is_last.ensures.0 w.if-is_last.true)))
    ])

pub returns-clause-same : goal.returns-clause-same
returns-clause-same g c =
    let end = YieldsList-end (YieldsList-from_vec {s = c.into_iter-one-iterator.result} c.args.tagged.items
    c.into_iter-one-iterator.ensures.into_iter_gives.0
    (c.into_iter-one-iterator.ensures.into_iter_gives.1 ∙ c.args.tagged.ok.0)) c.tagged.yielded c.tagged.one-iterator
    c.tagged.yielded_by c.next.result c.next.new.self
    c.in-None.is c.next.ensures.steps in
    subst (λ ts. Alike c.tagged.keys.items (map key_of ts))
    (take_all (length c.tagged.yielded) c.args.tagged.items (omega (arith, end.1))) c.tagged.invariant.same

pub returns-clause-each : goal.returns-clause-each
returns-clause-each g c =
    let end = YieldsList-end (YieldsList-from_vec {s = c.into_iter-one-iterator.result} c.args.tagged.items
    c.into_iter-one-iterator.ensures.into_iter_gives.0
    (c.into_iter-one-iterator.ensures.into_iter_gives.1 ∙ c.args.tagged.ok.0)) c.tagged.yielded c.tagged.one-iterator
    c.tagged.yielded_by c.next.result c.next.new.self
    c.in-None.is c.next.ensures.steps in
    record {
      as_many = c.tagged.invariant.as_many;
      each = subst (All (IsNumbered c.tagged.keys.items c.tagged.numbers.items))
          (take_all (length c.tagged.yielded) c.args.tagged.items (omega (arith, end.1))) c.tagged.invariant.each;
    }
