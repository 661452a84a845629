use Rattle.std.proofs.Common.{◌≡◌, ap, subst, ◌∙◌}
use Rattle.sym_map.specs.declared.limit.Lowest.{Lowest}
use Rattle.sym_map.specs.inner.Limits.{IsLowest}
use Rattle.sym_map.proofs.Limits.{passed_none, passed_lower}
use Rattle.sym_map.proofs.limit.next_value.Goals as goal

pub returns-in-Some-2 : goal.returns-in-Some-2
returns-in-Some-2 c = λ limits section is below.
    passed_lower limits (record { section = section; value = c.args.value }) c.in-Some-2.lowest
    (subst (IsLowest limits section) c.in-Some-2.is is) below
    (λ e.
    let same : c.in-Some.lowest ≡ c.in-Some-2.lowest = cc (c.in-Some.is, c.in-Some-2.is) in
    c.if-lowest-value.false (ap (λ (l : Lowest). l.value) same ∙ e))

pub returns-in-None : goal.returns-in-None
returns-in-None c = λ limits section is below.
    passed_none limits (record { section = section; value = c.args.value })
    (subst (IsLowest limits section) c.in-None.is is)
