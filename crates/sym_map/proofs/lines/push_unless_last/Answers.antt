use Rattle.std.proofs.Common.{◌≡◌, ◌-◌, ℕ, Contains, List, length, Some, sym, subst}
use Rattle.std.specs.Prelude.{slice_get}
use Rattle.std.proofs.lemmas.Option.{get_or_from_slice_get, slice_get_within}
use Rattle.sym_map.proofs.Members.{Alike-again}
use Rattle.sym_map.proofs.lines.push_unless_last.Goals as goal

pub returns-in-Some : goal.returns-in-Some
returns-in-Some c =
    let items : List ℕ = c.args.numbers.now.items in
    let last : ℕ = c.in-Some.last.now in
    let is = rw c.deref.ensures.value at c.in-Some.ensures.value in
    let at : slice_get items (length items - 1) ≡ Some last = sym is in
    let there : Contains items last = (
      length items - 1,
      slice_get_within items (length items - 1) last at,
      get_or_from_slice_get items (length items - 1) last last at,
    ) in
    Alike-again items c.args.number (subst (λ n. Contains items n) c.if-last-number.true there)
