-- The steps of a thread, and its stack, one step after another.
use Rattle.std.proofs.Common.{◌≡◌, ◌≢◌, ℕ, ◌+◌, ◌==◌, Bool, true, false, List, [], ◌∷◌, ◌++◌, length, map}
use Rattle.std.proofs.Common.{refl, ap, ◌∙◌, arith}
use Rattle.std.specs.Prelude.{if◌then◌else◌}
use Rattle.std.proofs.lemmas.Bool.Decides.{nat_tests}
use Rattle.std.proofs.lemmas.List.{append-nil, map-append}
use Rattle.std.proofs.lemmas.List.Elements.{filter-append}
use Rattle.std.proofs.lemmas.List.Sums.{fold-append}
use Rattle.event_costs.specs.declared.event.Event.{Event}
use Rattle.sym_map.specs.SymbolMap.{SymbolMap}
use Rattle.shadow_stack.specs.Changes.{after}
use Rattle.shadow_stack.specs.Stacks.{root}
use Rattle.shadow_stack.specs.Traces.{first_pc, stack_after, stack_of}
use Rattle.part_dump.specs.Steps.{Step, event_of, steps_of_thread, events_of_thread, events_on_stack_of, stack_at, thread_of}

pub is_not : (m n : ℕ) → m ≢ n → (m == n) ≡ false
is_not m n other = grind (arith, nat_tests)

pub own-append : (thread : ℕ) (xs ys : List Step) → steps_of_thread thread (xs ++ ys) ≡ steps_of_thread thread xs ++ steps_of_thread thread ys
own-append thread xs ys = filter-append (λ x. thread_of x == thread) xs ys

own_one : (b : Bool) (x : Step) → b ≡ true → (if b then x ∷ [] else []) ≡ x ∷ []
own_one true x is = refl
own_one false x is = absurd (cc)

none_of : (b : Bool) (x : Step) → b ≡ false → ◌≡◌ {A = List Step} (if b then x ∷ [] else []) []
none_of false x is = refl
none_of true x is = absurd (cc)

pub own-push : (thread : ℕ) (xs : List Step) (x : Step) → thread_of x ≡ thread
    → steps_of_thread thread (xs ++ x ∷ []) ≡ steps_of_thread thread xs ++ x ∷ []
own-push thread xs x is =
    own-append thread xs (x ∷ [])
    ∙ ap (λ ys. steps_of_thread thread xs ++ ys) (own_one (thread_of x == thread) x (grind (arith, nat_tests)))

pub own-other : (thread : ℕ) (xs : List Step) (x : Step) → thread_of x ≢ thread
    → steps_of_thread thread (xs ++ x ∷ []) ≡ steps_of_thread thread xs
own-other thread xs x other =
    own-append thread xs (x ∷ [])
    ∙ ap (λ ys. steps_of_thread thread xs ++ ys) (none_of (thread_of x == thread) x (is_not (thread_of x) thread other))
    ∙ append-nil (steps_of_thread thread xs)

first-push : (es : List Event) (e : Event) (pc : ℕ) → first_pc (es ++ e ∷ []) pc ≡ first_pc es e.done.pc
first-push [] e pc = refl
first-push (d ∷ es) e pc = refl

pub stack-push : (syms : SymbolMap) (es : List Event) (e : Event) (pc : ℕ)
    → stack_of syms (es ++ e ∷ []) pc ≡ after syms (stack_of syms es e.done.pc) e
stack-push syms es e pc =
    fold-append (after syms) (root syms (first_pc (es ++ e ∷ []) pc)) es (e ∷ [])
    ∙ ap (λ p. after syms (stack_after syms (root syms p) es) e) (first-push es e pc)

pub events-push : (thread : ℕ) (xs : List Step) (x : Step) → thread_of x ≡ thread
    → events_of_thread thread (xs ++ x ∷ []) ≡ events_of_thread thread xs ++ event_of x ∷ []
events-push thread xs x is =
    ap (λ ys. map event_of ys) (own-push thread xs x is) ∙ map-append event_of (steps_of_thread thread xs) (x ∷ [])

pub seen-push : (thread : ℕ) (xs : List Step) (x : Step) → thread_of x ≡ thread
    → events_on_stack_of thread (xs ++ x ∷ []) ≡ events_on_stack_of thread xs ++ x.on_stack ∷ []
seen-push thread xs x is =
    ap (λ ys. map (λ (y : Step). y.on_stack) ys) (own-push thread xs x is)
    ∙ map-append (λ (y : Step). y.on_stack) (steps_of_thread thread xs) (x ∷ [])

-- where a thread has steps, its stack is the same wherever it is said to begin
pub same_stack : (syms : SymbolMap) (xs : List Step) (thread p q : ℕ) → steps_of_thread thread xs ≢ []
    → stack_at syms xs thread p ≡ stack_at syms xs thread q
same_stack syms xs thread p q some = by_own (steps_of_thread thread xs) some
  where
    by_own : (ys : List Step) → ys ≢ [] → stack_of syms (map event_of ys) p ≡ stack_of syms (map event_of ys) q
    by_own [] none = absurd (none refl)
    by_own (y ∷ ys) none = refl

pub length-push : {A : Type 0} (xs : List A) (x : A) → length (xs ++ x ∷ []) ≡ length xs + 1
length-push [] x = refl
length-push (y ∷ ys) x = omega (arith, length-push ys x)
