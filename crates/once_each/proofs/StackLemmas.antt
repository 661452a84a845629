-- Stacks whose frames were each entered from the one beneath.
use Rattle.std.proofs.Common.{◌≡◌, ℕ, ◌+◌, ◌≤◌, Bool, true, false, not, ◌&&◌, ◌||◌, [], ◌∷◌, Option, None, Some, refl}
use Rattle.std.proofs.Common.{ap, ◌∙◌, arith, if◌then◌else◌, count_by, inl, inr}
use Rattle.std.specs.Option.{option_map_or}
use Rattle.std.proofs.lemmas.List.Sums.{sum_by-cons}
use Rattle.event_costs.specs.Keys.{ArcKey}
use Rattle.shadow_stack.specs.Kinds.{is_root}
use Rattle.shadow_stack.specs.Stacks.{Activation, Stack}
use Rattle.call_graph.specs.Reach.{Reach, one}
use Rattle.call_graph.specs.inner.Pass.{Leads}
use Rattle.once_each.proofs.Others.{leads_after}
use Rattle.once_each.specs.Once.{stands, stands_on}

-- an arc passes, if there is one
abbrev pub on_arc : (ArcKey → Bool) → Activation → Bool
on_arc test a = option_map_or test a.arc false

abbrev pub number_of : Bool → ℕ
number_of b = if b then 1 else 0

-- the arc leads from a function that passes to one that doesn't, and from one to another
abbrev pub leaves : (ℕ → Bool) → ArcKey → Bool
leaves member arc = member arc.caller.0 && not (member arc.callee.0)

abbrev pub links : (ℕ → Bool) → (ℕ → Bool) → ArcKey → Bool
links caller callee arc = caller arc.caller.0 && callee arc.callee.0

-- what entered a frame: a step from the function of the frame beneath
pub record IsStepTo (Step : ℕ → ℕ → Type 0) (beneath a : Activation) : Type 0 where
  pub arc : ArcKey
  pub is : a.arc ≡ Some arc
  pub caller : arc.caller.0 ≡ beneath.func.0
  pub callee : arc.callee.0 ≡ a.func.0
  pub step : Step beneath.func.0 a.func.0
  pub kind : is_root a.kind ≡ false

abbrev pub IsOn : (ℕ → ℕ → Type 0) → Stack → Activation → Type 0
IsOn Step [] a = a.arc ≡ None
IsOn Step (b ∷ s) a = IsStepTo Step b a

abbrev pub IsChain : (ℕ → ℕ → Type 0) → Stack → Type 0
IsChain Step [] = Unit {0}
IsChain Step (a ∷ s) = IsOn Step s a × IsChain Step s

-- what lies on a way between two that pass, passes
abbrev pub IsClosed : (ℕ → ℕ → Type 0) → (ℕ → Bool) → Type 0
IsClosed Step member = (f g h : ℕ) → member f ≡ true → member h ≡ true → Leads Step f g → Reach Step g h
    → member g ≡ true

pub count-cons : (test : Activation → Bool) (a : Activation) (s : Stack)
    → count_by test (a ∷ s) ≡ number_of (test a) + count_by test s
count-cons test a s = sum_by-cons (λ b. if test b then 1 else 0) a s

-- a frame of a callee stands somewhere, where one stands on a caller's
stands-on : (caller callee : ℕ → Bool) (s : Stack) → stands_on caller callee s ≡ true → stands callee s ≡ true
stands-on caller callee [] is = absurd (cc)
stands-on caller callee (a ∷ []) is = absurd (cc)
stands-on caller callee (a ∷ (b ∷ s)) is = by (caller b.func.0) (callee a.func.0) is (stands-on caller callee (b ∷ s))
  where
    by : (c d : Bool) → ((c && d) || stands_on caller callee (b ∷ s)) ≡ true
        → (stands_on caller callee (b ∷ s) ≡ true → stands callee (b ∷ s) ≡ true) → (d || stands callee (b ∷ s)) ≡ true
    by c true is later = refl
    by true false is later = later is
    by false false is later = later is

module _ (Step : ℕ → ℕ → Type 0) where
  -- a function that stands on a stack leads to its top
  pub record Below (test : ℕ → Bool) (top : ℕ) : Type 0 where
    pub func : ℕ
    pub passes : test func ≡ true
    pub leads : Leads Step func top

  pub below : (test : ℕ → Bool) (a : Activation) (s : Stack) → IsChain Step (a ∷ s) → stands test (a ∷ s) ≡ true
      → Below test a.func.0
  below test a [] chain is = by (test a.func.0) refl is
    where
      by : (b : Bool) → test a.func.0 ≡ b → (b || false) ≡ true → Below test a.func.0
      by true passes is = record { func = a.func.0; passes = passes; leads = inl refl }
      by false fails is = absurd (cc)
  below test a (b ∷ s) chain is = by (test a.func.0) refl is (below test b s chain.1)
    where
      by : (c : Bool) → test a.func.0 ≡ c → (c || stands test (b ∷ s)) ≡ true
          → (stands test (b ∷ s) ≡ true → Below test b.func.0) → Below test a.func.0
      by true passes is later = record { func = a.func.0; passes = passes; leads = inl refl }
      by false fails is later =
          let under : Below test b.func.0 = later is in
          record { func = under.func; passes = under.passes; leads = leads_after under.leads (inr (one chain.0.step)) }

  -- whether the arc that entered a frame passes
  on_step : (test : ArcKey → Bool) (b a : Activation) (on : IsStepTo Step b a) → on_arc test a ≡ test on.arc
  on_step test b a on = ap (λ (o : Option ArcKey). option_map_or test o false) on.is

  on_none : (test : ArcKey → Bool) (a : Activation) → a.arc ≡ None → on_arc test a ≡ false
  on_none test a is = ap (λ (o : Option ArcKey). option_map_or test o false) is

  leaves_step : (member : ℕ → Bool) (b a : Activation) → IsStepTo Step b a
      → on_arc (leaves member) a ≡ (member b.func.0 && not (member a.func.0))
  leaves_step member b a on =
      on_step (leaves member) b a on ∙ ap (λ f. member f && not (member on.arc.callee.0)) on.caller
      ∙ ap (λ f. member b.func.0 && not (member f)) on.callee

  links_step : (caller callee : ℕ → Bool) (b a : Activation) → IsStepTo Step b a
      → on_arc (links caller callee) a ≡ (caller b.func.0 && callee a.func.0)
  links_step caller callee b a on =
      on_step (links caller callee) b a on ∙ ap (λ f. caller f && callee on.arc.callee.0) on.caller
      ∙ ap (λ f. caller b.func.0 && callee f) on.callee

  -- Where a member stands, either the top is one or exactly one frame was entered by an arc that leaves the members,
  -- never both.
  pub one_leaves : (member : ℕ → Bool) (a : Activation) (s : Stack) → IsClosed Step member → IsChain Step (a ∷ s)
      → number_of (member a.func.0) + count_by (on_arc (leaves member)) (a ∷ s) ≡ number_of (stands member (a ∷ s))
  one_leaves member a [] closed chain =
      by (member a.func.0) (on_arc (leaves member) a) (on_none (leaves member) a chain.0)
      (count-cons (on_arc (leaves member)) a [])
    where
      by : (m b : Bool) → b ≡ false → count_by (on_arc (leaves member)) (a ∷ []) ≡ number_of b + 0
          → number_of m + count_by (on_arc (leaves member)) (a ∷ []) ≡ number_of (m || false)
      by true false is count = omega (arith, count)
      by false false is count = omega (arith, count)
      by m true is count = absurd (cc)
  one_leaves member a (b ∷ s) closed chain =
      by (member a.func.0) (member b.func.0) (stands member (b ∷ s)) (on_arc (leaves member) a)
      (leaves_step member b a chain.0) between
      (one_leaves member b s closed chain.1) (count-cons (on_arc (leaves member)) a (b ∷ s))
    where
      between : member a.func.0 ≡ true → stands member (b ∷ s) ≡ true → member b.func.0 ≡ true
      between top under =
          let f = below member b s chain.1 under in
          closed f.func b.func.0 a.func.0 f.passes top f.leads (one chain.0.step)

      by : (m n t l : Bool) → l ≡ (n && not m) → (m ≡ true → t ≡ true → n ≡ true)
          → number_of n + count_by (on_arc (leaves member)) (b ∷ s) ≡ number_of t
          → count_by (on_arc (leaves member)) (a ∷ (b ∷ s)) ≡ number_of l + count_by (on_arc (leaves member)) (b ∷ s)
          → number_of m + count_by (on_arc (leaves member)) (a ∷ (b ∷ s)) ≡ number_of (m || t)
      by true true true false is there rest count = omega (arith, rest, count)
      by true true false false is there rest count = absurd (omega (arith, rest))
      by true true t true is there rest count = absurd (cc)
      by true false true l is there rest count = let no : false ≡ true = there refl refl in absurd (cc)
      by true false false false is there rest count = omega (arith, rest, count)
      by true false false true is there rest count = absurd (cc)
      by false true t true is there rest count = omega (arith, rest, count)
      by false true t false is there rest count = absurd (cc)
      by false false t false is there rest count = omega (arith, rest, count)
      by false false t true is there rest count = absurd (cc)

  -- what was entered by an arc is no root
  pub no_roots : (test : ArcKey → Bool) (s : Stack) → IsChain Step s
      → count_by (on_arc test) s ≤ count_by (λ a. not (is_root a.kind)) s
  no_roots test [] chain = omega arith
  no_roots test (a ∷ []) chain =
      by (on_arc test a) (on_none test a chain.0) (count-cons (on_arc test) a [])
    where
      by : (b : Bool) → b ≡ false → count_by (on_arc test) (a ∷ []) ≡ number_of b + 0
          → count_by (on_arc test) (a ∷ []) ≤ count_by (λ a. not (is_root a.kind)) (a ∷ [])
      by false is count = omega (arith, count)
      by true is count = absurd (cc)
  no_roots test (a ∷ (b ∷ s)) chain =
      by (on_arc test a) (is_root a.kind) chain.0.kind (no_roots test (b ∷ s) chain.1)
      (count-cons (on_arc test) a (b ∷ s)) (count-cons (λ c. not (is_root c.kind)) a (b ∷ s))
    where
      by : (t r : Bool) → r ≡ false → count_by (on_arc test) (b ∷ s) ≤ count_by (λ c. not (is_root c.kind)) (b ∷ s)
          → count_by (on_arc test) (a ∷ (b ∷ s)) ≡ number_of t + count_by (on_arc test) (b ∷ s)
          → count_by (λ c. not (is_root c.kind)) (a ∷ (b ∷ s))
          ≡ number_of (not r) + count_by (λ c. not (is_root c.kind)) (b ∷ s)
          → count_by (on_arc test) (a ∷ (b ∷ s)) ≤ count_by (λ c. not (is_root c.kind)) (a ∷ (b ∷ s))
      by true false is rest count others = omega (arith, rest, count, others)
      by false false is rest count others = omega (arith, rest, count, others)
      by t true is rest count others = absurd (cc)

  -- callers and callees that no way joins in turn: none leads from a callee to a caller that steps to a callee
  abbrev pub IsOneWay : (ℕ → Bool) → (ℕ → Bool) → Type 0
  IsOneWay caller callee = (f g h : ℕ) → caller f ≡ true → callee g ≡ true → Step f g → callee h ≡ true
      → Leads Step h f → ⊥

  -- one frame at most was entered from a caller to a callee
  pub one_links : (caller callee : ℕ → Bool) (s : Stack) → IsOneWay caller callee → IsChain Step s
      → count_by (on_arc (links caller callee)) s ≡ number_of (stands_on caller callee s)
  one_links caller callee [] way chain = refl
  one_links caller callee (a ∷ []) way chain =
      by (on_arc (links caller callee) a) (on_none (links caller callee) a chain.0)
      (count-cons (on_arc (links caller callee)) a [])
    where
      by : (b : Bool) → b ≡ false → count_by (on_arc (links caller callee)) (a ∷ []) ≡ number_of b + 0
          → count_by (on_arc (links caller callee)) (a ∷ []) ≡ 0
      by false is count = omega (arith, count)
      by true is count = absurd (cc)
  one_links caller callee (a ∷ (b ∷ s)) way chain =
      by (caller b.func.0) (callee a.func.0) (stands_on caller callee (b ∷ s)) (on_arc (links caller callee) a)
      (links_step caller callee b a chain.0) apart
      (one_links caller callee (b ∷ s) way chain.1) (count-cons (on_arc (links caller callee)) a (b ∷ s))
    where
      apart : caller b.func.0 ≡ true → callee a.func.0 ≡ true → stands_on caller callee (b ∷ s) ≡ true → ⊥
      apart from to under =
          let f = below callee b s chain.1 (stands-on caller callee (b ∷ s) under) in
          way b.func.0 a.func.0 f.func from to chain.0.step f.passes f.leads

      by : (m n t l : Bool) → l ≡ (m && n) → (m ≡ true → n ≡ true → t ≡ true → ⊥)
          → count_by (on_arc (links caller callee)) (b ∷ s) ≡ number_of t
          → count_by (on_arc (links caller callee)) (a ∷ (b ∷ s))
          ≡ number_of l + count_by (on_arc (links caller callee)) (b ∷ s)
          → count_by (on_arc (links caller callee)) (a ∷ (b ∷ s)) ≡ number_of ((m && n) || t)
      by true true true l is there rest count = absurd (there refl refl refl)
      by true true false true is there rest count = omega (arith, rest, count)
      by true true false false is there rest count = absurd (cc)
      by true false t false is there rest count = omega (arith, rest, count)
      by true false t true is there rest count = absurd (cc)
      by false n t false is there rest count = omega (arith, rest, count)
      by false n t true is there rest count = absurd (cc)
