-- Lists with a number for each kind of event.
use Rattle.std.proofs.Common.{◌≡◌, ℕ, ◌+◌, ◌<◌, ◌≤◌, nat_lt, Bool, true, false, List}
use Rattle.std.proofs.Common.{length, get_or, refl, sym, ◌∙◌, arith}
use Rattle.std.proofs.lemmas.Bool.Decides.{nat_tests}
use Rattle.std.proofs.lemmas.Grind.{same_number_lists}
use Rattle.std.proofs.lemmas.List.{get_or_past}
use Rattle.std.proofs.lemmas.List.FromFn.{get_or-map-range_with_len, length-map-range_with_len}
use Rattle.event_costs.specs.Costs.{event_kinds}
use Rattle.arc_costs.specs.Keys.{by_kind}

pub by_kind_at : (f : ℕ → ℕ) (kind : ℕ) → kind < event_kinds → get_or (by_kind f) kind 0 ≡ f kind
by_kind_at f kind less = get_or-map-range_with_len f 0 event_kinds kind kind 0 less (zero_plus kind)
  where
    zero_plus : (n : ℕ) → 0 + n ≡ n
    zero_plus n = omega arith

-- a cost is that of its numbers
pub cost_is : (cost : List ℕ) (f : ℕ → ℕ) → length cost ≡ event_kinds → ((kind : ℕ) → get_or cost kind 0 ≡ f kind)
    → cost ≡ by_kind f
cost_is cost f whole each =
    let many = length-map-range_with_len f 0 event_kinds in
    same_number_lists cost (by_kind f) (whole ∙ sym many)
    (λ kind less. each kind ∙ sym (by_kind_at f kind (omega (arith, less, whole))))

-- a number for each kind, where there is none past the kinds
pub by_kind_all : (f : ℕ → ℕ) → ((kind : ℕ) → event_kinds ≤ kind → f kind ≡ 0) → (kind : ℕ)
    → get_or (by_kind f) kind 0 ≡ f kind
by_kind_all f none kind = by (nat_lt kind event_kinds) refl
  where
    by : (b : Bool) → nat_lt kind event_kinds ≡ b → get_or (by_kind f) kind 0 ≡ f kind
    by true is = by_kind_at f kind (grind (arith, nat_tests))
    by false is =
        let many = length-map-range_with_len f 0 event_kinds in
        let past : event_kinds ≤ kind = grind (arith, nat_tests) in
        get_or_past (by_kind f) kind 0 (omega (arith, many, past)) ∙ sym (none kind past)
