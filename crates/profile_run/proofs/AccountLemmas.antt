-- The accounts of the threads, one step after another.
use Rattle.std.proofs.Common.{◌≡◌, ◌≢◌, ℕ, true, false, List, [], ◌∷◌, ◌++◌, length, map, refl, ap, sym, subst}
use Rattle.std.proofs.Common.{◌∙◌, arith, inl, inr, ◌⊎◌}
use Rattle.std.proofs.lemmas.Bool.Decides.{eqb_tells}
use Rattle.event_costs.specs.declared.numbers.ThreadNo.{ThreadNo}
use Rattle.sym_map.specs.SymbolMap.{SymbolMap}
use Rattle.shadow_stack.specs.Changes.{after}
use Rattle.shadow_stack.specs.Frames.{stack}
use Rattle.shadow_stack.specs.Stacks.{Stack}
use Rattle.shadow_stack.specs.Traces.{EventOnStack, stack_of}
use Rattle.part_dump.specs.Steps.{Step, event_of, steps_of_thread, events_of_thread, events_on_stack_of, stack_at, thread_of}
use Rattle.profile_run.proofs.Others.{events-push, length-push, own-other, seen-push, stack-push, same_thread}
use Rattle.profile_run.proofs.Others.{within_later}
use Rattle.recorder.specs.Accounts.{Account, Recording, account, knows}
use Rattle.recorder.specs.Bounds.{SumsWithin}
use Rattle.recorder.specs.Standing.{Stands}
use Rattle.profile_run.specs.inner.Standing.{AreAccounts, HasAccount, IsNote}

pub true_false : true ≡ false → ⊥
true_false e = cc

module _ (syms : SymbolMap) (past since : List Step) (r s : Recording) (x : Step)
    (note : IsNote syms x.on_stack.event x.on_stack.cost r s) where
  own_counted : HasAccount syms past since r x.on_stack.event.thread
      → stack (account r x.on_stack.event.thread).frames ≡ x.on_stack.stack
      → x.on_stack.stack ≡ stack_at syms past (thread_of x) (event_of x).done.pc
      → HasAccount syms (past ++ x ∷ []) (since ++ x ∷ []) s x.on_stack.event.thread
  own_counted old frames seen =
      let t = thread_of x in
      let is : stack_at syms past t old.first ≡ x.on_stack.stack = sym old.stands.stack ∙ frames in
      let stands =
      note.stands x.on_stack.stack (events_on_stack_of t since)
      (let P : Stack → Type 0 = λ st. Stands syms st (events_on_stack_of t since) (account r x.on_stack.event.thread) in
      subst P is old.stands) in
      record {
        first = (event_of x).done.pc;
        stands =
            (let P : Stack → Type 0 =
            λ st. Stands syms st (events_on_stack_of t (since ++ x ∷ [])) (account s x.on_stack.event.thread) in
            subst P
            (ap (λ st. after syms st (event_of x)) seen
            ∙ sym (ap (λ es. stack_of syms es (event_of x).done.pc) (events-push t past x refl)
            ∙ stack-push syms (events_of_thread t past) (event_of x) (event_of x).done.pc))
            (let Q : List EventOnStack → Type 0 =
            λ ys. Stands syms (after syms x.on_stack.stack (event_of x)) ys (account s x.on_stack.event.thread) in
            subst Q (sym (seen-push t since x refl)) stands));
        within =
            (let P : ℕ → Type 0 = λ n. SumsWithin n (account s x.on_stack.event.thread) in
            subst P (sym (length-push past x)) (note.bounds (length past) old.within));
      }

  other_counted : (thread : ThreadNo) → thread.0 ≢ thread_of x → HasAccount syms past since r thread
      → HasAccount syms (past ++ x ∷ []) (since ++ x ∷ []) s thread
  other_counted thread other old =
      let apart : thread_of x ≢ thread.0 = λ e. other (sym e) in
      let same : account s thread ≡ account r thread = ap (λ k. k.account) (note.others thread other) in
      record {
        first = old.first;
        stands =
            (let P : List Step → List Step → Account → Type 0 =
            λ ps ss a. Stands syms (stack_of syms (map event_of ps) old.first) (map (λ (y : Step). y.on_stack) ss) a in
            subst (P (steps_of_thread thread.0 (past ++ x ∷ [])) (steps_of_thread thread.0 (since ++ x ∷ []))) (sym same)
            (subst (λ ss. P (steps_of_thread thread.0 (past ++ x ∷ [])) ss (account r thread))
            (sym (own-other thread.0 since x apart))
            (subst (λ ps. P ps (steps_of_thread thread.0 since) (account r thread)) (sym (own-other thread.0 past x apart))
            old.stands)));
        within =
            within_later (length past) (length (past ++ x ∷ [])) (account s thread) (omega (arith, length-push past x))
            (subst (λ a. SumsWithin (length past) a) (sym same) old.within);
      }

  by_thread : (thread : ThreadNo) → (thread.0 ≡ thread_of x) ⊎ (thread.0 ≢ thread_of x)
  by_thread thread =
      elim (eqb_tells thread.0 (thread_of x)) as (λ _. (thread.0 ≡ thread_of x) ⊎ (thread.0 ≢ thread_of x)) [
        | inl is ↦ inl is.1
        | inr differs ↦ inr differs.1
      ]

  -- each account after the step
  pub accounts_counted : AreAccounts syms past since r
      → knows r x.on_stack.event.thread ≡ true
      → stack (account r x.on_stack.event.thread).frames ≡ x.on_stack.stack
      → x.on_stack.stack ≡ stack_at syms past (thread_of x) (event_of x).done.pc
      → AreAccounts syms (past ++ x ∷ []) (since ++ x ∷ []) s
  accounts_counted old own_known frames seen = record {
    known = λ thread is. elim (by_thread thread) as (λ _. HasAccount syms (past ++ x ∷ []) (since ++ x ∷ []) s thread) [
      | inl same ↦
          (let P : ThreadNo → Type 0 = λ t. HasAccount syms (past ++ x ∷ []) (since ++ x ∷ []) s t in
          subst P (sym (same_thread thread x.on_stack.event.thread same))
          (own_counted (old.known x.on_stack.event.thread own_known) frames seen))
      | inr other ↦ other_counted thread other (old.known thread (sym (note.known thread) ∙ is))
    ];
    unknown = λ thread is. elim (by_thread thread) as (λ _. steps_of_thread thread.0 (past ++ x ∷ []) ≡ []) [
      | inl same ↦
          (let P : ThreadNo → Type 0 = λ t. knows s t ≡ false in
          let none : knows s x.on_stack.event.thread ≡ false = subst P (same_thread thread x.on_stack.event.thread same) is in
          absurd (true_false (sym own_known ∙ sym (note.known x.on_stack.event.thread) ∙ none)))
      | inr other ↦ own-other thread.0 past x (λ e. other (sym e))
          ∙ old.unknown thread (sym (note.known thread) ∙ is)
    ];
  }
