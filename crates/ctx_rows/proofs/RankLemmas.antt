-- Contexts numbered by their order.
use Rattle.std.proofs.Common.{◌≡◌, ◌↔◌, ℕ, zero, suc, ◌<◌, Bool, true, false, List, [], ◌∷◌, Contains, get_or, length}
use Rattle.std.proofs.Common.{refl, ap, sym, subst, ◌∙◌, arith, if◌then◌else◌, inl, inr}
use Rattle.std.specs.Cmp.{tied_itself}
use Rattle.std.specs.Cmp.Lexicographic.{nat_list_cmp_total}
use Rattle.std.specs.List.Sorted.{IsStrictlySortedBy}
use Rattle.std.specs.declared.cmp.Ordering.TheVariants.{Less, Equal}
use Rattle.recorder.specs.Laws.{IsIn}
use Rattle.arc_costs.specs.Keys.{risen}
use Rattle.arc_costs.proofs.RiseLemmas as rise
use Rattle.contexts.specs.Contexts.{Context, context_order, same_context}
use Rattle.contexts.specs.Contexts.{number}
use Rattle.ctx_rows.proofs.NamedLemmas.{contains_from_in, in_from_contains}
use Rattle.contexts.proofs.NumberLemmas.{context_alike, context_itself, place, place-cons}
use Rattle.ctx_rows.proofs.OrderLemmas.{context_only}

abbrev Rises : List Context → Type 0
Rises cs = rise.Rises context_order nat_list_cmp_total context_only cs

at_in : (cs : List Context) (i : ℕ) (c : Context) → i < length cs → get_or cs i c ≡ c → IsIn cs c
at_in cs i c less is = in_from_contains cs c (i, less, is)

below_apart : (a b : Context) → context_order a b ≡ Less → same_context b a ≡ false
below_apart a b less = by (same_context b a) refl
  where
    by : (t : Bool) → same_context b a ≡ t → same_context b a ≡ false
    by false is = is
    by true is =
        absurd (never (sym (tied_itself nat_list_cmp_total a)
        ∙ subst (λ (c : Context). context_order a c ≡ Less) (context_alike b a is) less))
      where
        never : Equal ≡ Less → ⊥
        never e = cc

rising_place : (cs : List Context) (c : Context) (i : ℕ) → Rises cs → i < length cs → get_or cs i c ≡ c → place cs c ≡ i
rising_place [] c i rises less is = absurd (omega (arith, less))
rising_place (d ∷ cs) c zero rises less is =
    place-cons d cs c
    ∙ ap (λ b. if b then 0 else suc (place cs c)) (ap (same_context c) is ∙ context_itself c)
rising_place (d ∷ cs) c (suc i) rises less is =
    place-cons d cs c
    ∙ ap (λ b. if b then 0 else suc (place cs c))
    (below_apart d c (rises.0 c (at_in cs i c (omega (arith, less)) is)))
    ∙ ap suc (rising_place cs c i rises.1 (omega (arith, less)) is)

pub rising_number : (cs : List Context) (c : Context) (i : ℕ) → IsStrictlySortedBy context_order cs → i < length cs
    → get_or cs i c ≡ c → number cs c ≡ record { 0 = i }
rising_number cs c i sorted less is =
    λ j. record {
      0 = rising_place cs c i (rise.rises_from context_order nat_list_cmp_total context_only cs sorted) less is j;
    }

-- the number of a context that isn't there is the next one
no_place : (cs : List Context) (c : Context) → (IsIn cs c → ⊥) → place cs c ≡ length cs
no_place [] c none = refl
no_place (d ∷ cs) c none =
    place-cons d cs c ∙ by (same_context c d) refl (no_place cs c (λ there. none (inr there)))
  where
    by : (b : Bool) → same_context c d ≡ b → place cs c ≡ length cs → (if b then 0 else suc (place cs c)) ≡ suc (length cs)
    by true is rest = absurd (none (inl (sym (context_alike c d is))))
    by false is rest = ap suc rest

pub no_number : (cs : List Context) (c : Context) → (IsIn cs c → ⊥) → number cs c ≡ record { 0 = length cs }
no_number cs c none = λ i. record { 0 = no_place cs c none i }

-- contexts that rise and are those of a list are the rising contexts of that list
pub one_rising : (cs all : List Context) → IsStrictlySortedBy context_order cs
    → ((c : Context) → Contains cs c ↔ Contains all c) → cs ≡ risen context_order all
one_rising cs all sorted same =
    rise.one_list context_order nat_list_cmp_total context_only cs (risen context_order all)
    (rise.rises_from context_order nat_list_cmp_total context_only cs sorted)
    (rise.risen_rises context_order nat_list_cmp_total context_only all)
    (λ c there. rise.in_risen context_order nat_list_cmp_total context_only all c
    (in_from_contains all c ((same c).0 (contains_from_in cs c there))))
    (λ c there. in_from_contains cs c
    ((same c).1 (contains_from_in all c (rise.risen_in context_order nat_list_cmp_total context_only all c there))))

-- the rising contexts of a list are sorted, and each of the list is among them
pub risen_sorted : (all : List Context) → IsStrictlySortedBy context_order (risen context_order all)
risen_sorted all =
    rise.sorted_from context_order nat_list_cmp_total context_only (risen context_order all)
    (rise.risen_rises context_order nat_list_cmp_total context_only all)

pub in_rising : (all : List Context) (c : Context) → IsIn all c → Contains (risen context_order all) c
in_rising all c there =
    contains_from_in (risen context_order all) c
    (rise.in_risen context_order nat_list_cmp_total context_only all c there)
