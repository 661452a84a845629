-- A step more, after the steps so far.
use Rattle.std.proofs.Common.{◌≡◌, ℕ, ◌<◌, ◌≤◌, Bool, true, false, cond, List, [], ◌∷◌, ◌++◌, Option, Some, None, refl}
use Rattle.std.proofs.Common.{sym, ◌∙◌, ap, arith}
use Rattle.std.specs.Prelude.{nat_le}
use Rattle.std.proofs.lemmas.Bool.{cond-true, cond-false, ne_eqb}
use Rattle.std.proofs.lemmas.Bool.Decides.{nat_tests}
use Rattle.event_costs.specs.declared.numbers.ThreadNo.{ThreadNo}
use Rattle.guest_load.specs.Guest.{Guest}
use Rattle.guest_sched.specs.Step.{MachineStep}
use Rattle.guest_sched.specs.Laws.{after_last, is_step_of, last_step, later, made_from, maker, next_pc, pc_after, pc_in}
use Rattle.guest_sched.specs.Laws.{start_pc, waits, waits_after, waits_from}

abbrev pub one : MachineStep → List MachineStep
one x = x ∷ []

later_assoc : (a b c : Option MachineStep) → later a (later b c) ≡ later (later a b) c
later_assoc (Some x) b c = refl
later_assoc None b c = refl

own : ThreadNo → MachineStep → Option MachineStep
own t x = cond (is_step_of t x) (Some x) None

later_none : (o : Option MachineStep) → later o None ≡ o
later_none (Some x) = refl
later_none None = refl

pub last_push : (t : ThreadNo) (xs : List MachineStep) (x : MachineStep)
    → last_step t (xs ++ one x) ≡ later (cond (is_step_of t x) (Some x) None) (last_step t xs)
last_push t [] x = sym (later_none (cond (is_step_of t x) (Some x) None))
last_push t (y ∷ ys) x =
    ap (λ (o : Option MachineStep). later o (cond (is_step_of t y) (Some y) None)) (last_push t ys x)
    ∙ sym (later_assoc (cond (is_step_of t x) (Some x) None) (last_step t ys) (cond (is_step_of t y) (Some y) None))

maker_by : (b : Bool) (y : MachineStep) (m o : Option MachineStep) → cond b (Some y) (later m o) ≡ later (cond b (Some y) m) o
maker_by true y m o = refl
maker_by false y m o = refl

pub maker_push : (t : ThreadNo) (xs : List MachineStep) (x : MachineStep)
    → maker t (xs ++ one x) ≡ later (maker t xs) (cond (nat_le t.0 x.threads) (Some x) None)
maker_push t [] x = refl
maker_push t (y ∷ ys) x =
    ap (λ (o : Option MachineStep). cond (nat_le t.0 y.threads) (Some y) o) (maker_push t ys x)
    ∙ maker_by (nat_le t.0 y.threads) y (maker t ys) (cond (nat_le t.0 x.threads) (Some x) None)

from_push : (t : ThreadNo) (now : Bool) (xs : List MachineStep) (x : MachineStep)
    → waits_from t now (xs ++ one x) ≡ waits_after t (waits_from t now xs) x
from_push t now [] x = refl
from_push t now (y ∷ ys) x = from_push t (waits_after t now y) ys x

pub waits_push : (t : ThreadNo) (xs : List MachineStep) (x : MachineStep) → waits t (xs ++ one x) ≡ waits_after t (waits t xs) x
unfolding waits
waits_push t xs x = from_push t false xs x

pub made_push : (made : ℕ) (xs : List MachineStep) (x : MachineStep) → made_from made (xs ++ one x) ≡ x.threads
made_push made [] x = refl
made_push made (y ∷ ys) x = made_push y.threads ys x

-- ---- threads that there have been

-- the threads of the steps are among so many, and there have been no more after any of them
abbrev pub EachWithin : ℕ → List MachineStep → Type 0
EachWithin made [] = Unit {0}
EachWithin made (x ∷ xs) = (x.event.thread.0 ≤ made) × (x.threads ≤ made) × EachWithin made xs

pub within_more : (made more : ℕ) (xs : List MachineStep) → made ≤ more → EachWithin made xs → EachWithin more xs
within_more made more [] h e = tt {0}
within_more made more (x ∷ xs) h e = (omega (arith, e.0), omega (arith, e.1), within_more made more xs h e.2)

pub within_push : (made : ℕ) (xs : List MachineStep) (x : MachineStep) → EachWithin made xs → x.event.thread.0 ≤ made
    → x.threads ≤ made → EachWithin made (xs ++ one x)
within_push made [] x e h k = (h, k, tt {0})
within_push made (y ∷ ys) x e h k = (e.0, e.1, within_push made ys x e.2 h k)

pub no_last : (made : ℕ) (t : ThreadNo) (xs : List MachineStep) → EachWithin made xs → made < t.0 → last_step t xs ≡ None
no_last made t [] e h = refl
no_last made t (x ∷ xs) e h =
    ap (λ (o : Option MachineStep). later o (cond (is_step_of t x) (Some x) None)) (no_last made t xs e.2 h)
    ∙ cond-false (is_step_of t x) (Some x) None (ne_eqb x.event.thread.0 t.0 (λ same. omega (arith, e.0, same)))

not_le : (a b : ℕ) → b < a → nat_le a b ≡ false
not_le a b h = grind (arith, nat_tests)

is_le : (a b : ℕ) → a ≤ b → nat_le a b ≡ true
is_le a b h = grind (arith, nat_tests)

pub no_maker : (made : ℕ) (t : ThreadNo) (xs : List MachineStep) → EachWithin made xs → made < t.0 → maker t xs ≡ None
no_maker made t [] e h = refl
no_maker made t (x ∷ xs) e h =
    cond-false (nat_le t.0 x.threads) (Some x) (maker t xs) (not_le t.0 x.threads (omega (arith, e.1)))
    ∙ no_maker made t xs e.2 h

-- ---- where a thread goes on

-- its own step leads there
pub pc_own : (g : Guest) (t : ThreadNo) (xs : List MachineStep) (x : MachineStep) → is_step_of t x ≡ true → x.event.ends ≡ false
    → pc_after g t (xs ++ one x) ≡ Some x.event.done.next
unfolding pc_after
pc_own g t xs x own_is goes =
    ap (λ (o : Option MachineStep). after_last o (start_pc g t (xs ++ one x)))
    (last_push t xs x ∙ ap (λ b. later (cond b (Some x) None) (last_step t xs)) own_is)
    ∙ ap (λ b. cond b None (Some x.event.done.next)) goes

start_kept : (g : Guest) (t : ThreadNo) (b : Bool) (m o : Option MachineStep) (pc : ℕ)
    → cond b (pc_in t g.threads) (next_pc m) ≡ Some pc → cond b (pc_in t g.threads) (next_pc (later m o)) ≡ Some pc
start_kept g t true m o pc is = is
start_kept g t false (Some y) o pc is = is
start_kept g t false None o pc is = cc

after_kept : (g : Guest) (t : ThreadNo) (l : Option MachineStep) (xs : List MachineStep) (x : MachineStep) (pc : ℕ)
    → after_last l (start_pc g t xs) ≡ Some pc → after_last l (start_pc g t (xs ++ one x)) ≡ Some pc
after_kept g t (Some y) xs x pc is = is
after_kept g t None xs x pc is =
    ap (λ (m : Option MachineStep). cond (nat_le t.0 g.made) (pc_in t g.threads) (next_pc m)) (maker_push t xs x)
    ∙ start_kept g t (nat_le t.0 g.made) (maker t xs) (cond (nat_le t.0 x.threads) (Some x) None) pc is

-- another's step leaves it
pub pc_other : (g : Guest) (t : ThreadNo) (xs : List MachineStep) (x : MachineStep) (pc : ℕ) → is_step_of t x ≡ false
    → pc_after g t xs ≡ Some pc → pc_after g t (xs ++ one x) ≡ Some pc
unfolding pc_after
pc_other g t xs x pc other is =
    ap (λ (o : Option MachineStep). after_last o (start_pc g t (xs ++ one x)))
    (last_push t xs x ∙ ap (λ b. later (cond b (Some x) None) (last_step t xs)) other)
    ∙ after_kept g t (last_step t xs) xs x pc is

-- a thread that it made begins where it led
pub pc_made : (g : Guest) (t : ThreadNo) (xs : List MachineStep) (x : MachineStep) (made : ℕ) → EachWithin made xs → made < t.0
    → x.event.thread.0 ≤ made → t.0 ≤ x.threads → g.made ≤ made
    → pc_after g t (xs ++ one x) ≡ Some x.event.done.next
unfolding pc_after
pc_made g t xs x made each new caller there first =
    let not_own : is_step_of t x ≡ false = ne_eqb x.event.thread.0 t.0 (λ same. omega (arith, same)) in
    ap (λ (o : Option MachineStep). after_last o (start_pc g t (xs ++ one x)))
    (last_push t xs x ∙ ap (λ b. later (cond b (Some x) None) (last_step t xs)) not_own ∙ no_last made t xs each new)
    ∙ ap (λ b. cond b (pc_in t g.threads) (next_pc (maker t (xs ++ one x)))) (not_le t.0 g.made (omega arith))
    ∙ ap next_pc
    (maker_push t xs x
    ∙ ap (λ (m : Option MachineStep). later m (cond (nat_le t.0 x.threads) (Some x) None)) (no_maker made t xs each new)
    ∙ cond-true (nat_le t.0 x.threads) (Some x) None (is_le t.0 x.threads there))

-- before any step a thread of the first guest stands where it stood
pub pc_first : (g : Guest) (t : ThreadNo) → t.0 ≤ g.made → pc_after g t [] ≡ pc_in t g.threads
unfolding pc_after
pc_first g t h = cond-true (nat_le t.0 g.made) (pc_in t g.threads) None (is_le t.0 g.made h)
