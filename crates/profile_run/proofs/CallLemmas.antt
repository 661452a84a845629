-- The calls of a run, one step after another.
use Rattle.std.proofs.Common.{◌≡◌, ℕ, ◌+◌, ◌⊎◌, inl, inr, nat_lt, Bool, true, false, List, []}
use Rattle.std.proofs.Common.{◌∷◌, ◌++◌, length}
use Rattle.std.proofs.Common.{flat_map, Option, None, Some, refl, ap, sym, subst, ◌∙◌, append_assoc, arith}
use Rattle.std.specs.Prelude.{if◌then◌else◌}
use Rattle.std.specs.List.{enumerate_from}
use Rattle.std.proofs.lemmas.List.{append-nil}
use Rattle.std.proofs.lemmas.List.Concat.{flat_map-append}
use Rattle.event_costs.specs.declared.numbers.ThreadNo.{ThreadNo}
use Rattle.cg_format.specs.declared.trigger.Trigger.{Trigger}
use Rattle.cg_format.specs.declared.trigger.Trigger.TheVariants.{Termination}
use Rattle.part_dump.specs.Calls.{Call, calls, closed_calls, part_calls, segment_calls, step_calls, steps_calls}
use Rattle.part_dump.specs.Calls.{tried_calls}
use Rattle.part_dump.specs.Cuts.{Split, cut_after, cuts, most_cuts, with_last}
use Rattle.part_dump.specs.Steps.{Step}
use Rattle.part_dump.specs.Watching.{Meaning, after_call, after_calls, puts, put_of}
use Rattle.profile_run.proofs.Others.{cuts_push}
use Rattle.sym_map.specs.SymbolMap.{SymbolMap}
use Rattle.profile_run.specs.Program.{Program, head_of_run}
use Rattle.profile_run.specs.Parts.{calls_of, calls_so_far}
use Rattle.recorder.specs.Rows.{rows_of}

-- ---- the calls of lists that are put together

enumerate-append : {X : Type 0} (n : ℕ) (xs : List X) (x : X)
    → enumerate_from n (xs ++ x ∷ []) ≡ enumerate_from n xs ++ (n + length xs, x) ∷ []
enumerate-append n [] x = ap (λ k. (k, x) ∷ []) (omega arith)
enumerate-append n (y ∷ ys) x =
    ap (λ rest. (n, y) ∷ rest)
    (enumerate-append (n + 1) ys x
    ∙ ap (λ k. enumerate_from (n + 1) ys ++ (k, x) ∷ []) (omega arith))

module _ {W : Type 0} (m : Meaning W) (syms : SymbolMap) (base : List ℕ) where
  pub after-append : (w : W) (cs ds : List Call)
      → after_calls m syms w (cs ++ ds) ≡ after_calls m syms (after_calls m syms w cs) ds
  after-append w [] ds = refl
  after-append w (c ∷ cs) ds = after-append (after_call m syms w c) cs ds

  pub puts-append : (w : W) (cs ds : List Call)
      → puts m syms base w (cs ++ ds) ≡ puts m syms base w cs ++ puts m syms base (after_calls m syms w cs) ds
  puts-append w [] ds = refl
  puts-append w (c ∷ cs) ds =
      ap (λ fs. put_of m syms base w c ++ fs) (puts-append (after_call m syms w c) cs ds)
      ∙ sym (append_assoc (put_of m syms base w c) (puts m syms base (after_call m syms w c) cs)
      (puts m syms base (after_calls m syms (after_call m syms w c) cs) ds))

  -- steps are put nowhere
  pub no_puts : (xs : List Step) (w : W) → puts m syms base w (steps_calls xs) ≡ []
  no_puts [] w = refl
  no_puts (x ∷ xs) w = no_puts xs (after_calls m syms w (step_calls x))

  pub tried_puts : (w : W) (tried : Option (ThreadNo × ℕ)) → puts m syms base w (tried_calls tried) ≡ []
  tried_puts w None = refl
  tried_puts w (Some t) = refl

module _ (guest : Program) where
  abbrev pub cuts_of : List Step → Split Step Trigger
  cuts_of steps = cuts guest.syms guest.options.dump_points steps

  abbrev closed_of : List (List Step × Trigger) → List Call
  closed_of segments = closed_calls (rows_of guest.syms) (head_of_run guest) segments

  abbrev parts_of : ℕ → List Step → Trigger → List Call
  parts_of part segment trigger = part_calls (rows_of guest.syms) (head_of_run guest) part segment trigger

  closed-push : (segments : List (List Step × Trigger)) (xs : List Step) (trigger : Trigger)
      → closed_of (segments ++ (xs, trigger) ∷ [])
      ≡ closed_of segments ++ (steps_calls xs ++ parts_of (length segments + 1) xs trigger)
  closed-push segments xs trigger =
      ap (λ ps. flat_map (λ s. segment_calls (rows_of guest.syms) (head_of_run guest) s.0 s.1.0 s.1.1) ps)
      (enumerate-append 1 segments (xs, trigger))
      ∙ flat_map-append (λ s. segment_calls (rows_of guest.syms) (head_of_run guest) s.0 s.1.0 s.1.1)
      (enumerate_from 1 segments) ((1 + length segments, (xs, trigger)) ∷ [])
      ∙ ap (λ cs. closed_of segments ++ cs) (append-nil _)
      ∙ ap (λ k. closed_of segments ++ (steps_calls xs ++ parts_of k xs trigger)) (omega arith)

  steps-push : (xs : List Step) (x : Step) → steps_calls (xs ++ x ∷ []) ≡ steps_calls xs ++ step_calls x
  steps-push xs x = flat_map-append step_calls xs (x ∷ []) ∙ ap (λ cs. steps_calls xs ++ cs) (append-nil (step_calls x))

  -- ---- one step more

  -- the trigger of the cut after one more step, where the run is cut there
  abbrev pub cut_at : List Step → Step → Option Trigger
  cut_at steps x = cut_after guest.syms guest.options.dump_points (length steps + 1) x.on_stack

  abbrev pub may_cut : List Step → Bool
  may_cut steps = nat_lt (length (cuts_of steps).closed) most_cuts

  abbrev so_far : Split Step Trigger → List Call
  so_far s = closed_of s.closed ++ steps_calls s.recent

  pub so_far-is : (steps : List Step) → calls_so_far guest steps ≡ so_far (cuts_of steps)
  so_far-is steps = refl

  stays-push : (s : Split Step Trigger) (x : Step)
      → so_far (record { closed = s.closed; recent = s.recent ++ x ∷ [] }) ≡ so_far s ++ step_calls x
  stays-push s x =
      ap (λ cs. closed_of s.closed ++ cs) (steps-push s.recent x)
      ∙ sym (append_assoc (closed_of s.closed) (steps_calls s.recent) (step_calls x))

  ends-push : (s : Split Step Trigger) (x : Step) (trigger : Trigger)
      → so_far (record { closed = s.closed ++ (s.recent ++ x ∷ [], trigger) ∷ []; recent = [] })
      ≡ (so_far s ++ step_calls x) ++ parts_of (length s.closed + 1) (s.recent ++ x ∷ []) trigger
  ends-push s x trigger =
      let parts = parts_of (length s.closed + 1) (s.recent ++ x ∷ []) trigger in
      append-nil (closed_of (s.closed ++ (s.recent ++ x ∷ [], trigger) ∷ []))
      ∙ closed-push s.closed (s.recent ++ x ∷ []) trigger
      ∙ ap (λ cs. closed_of s.closed ++ (cs ++ parts)) (steps-push s.recent x)
      ∙ sym (append_assoc (closed_of s.closed) (steps_calls s.recent ++ step_calls x) parts)
      ∙ ap (λ cs. cs ++ parts) (sym (append_assoc (closed_of s.closed) (steps_calls s.recent) (step_calls x)))

  uncut : (s : Split Step Trigger) (x : Step) (o : Option Trigger)
      → (o ≡ None) ⊎ (nat_lt (length s.closed) most_cuts ≡ false)
      → with_last most_cuts s x o ≡ record { closed = s.closed; recent = s.recent ++ x ∷ [] }
  uncut s x None why = refl
  uncut s x (Some t) (inl none) = absurd (cc)
  uncut s x (Some t) (inr full) =
      ap (λ b. if b then record { closed = s.closed ++ (s.recent ++ x ∷ [], t) ∷ []; recent = [] }
      else record { closed = s.closed; recent = s.recent ++ x ∷ [] }) full

  -- where a step isn't followed by a cut
  pub cuts_uncut : (steps : List Step) (x : Step) → (cut_at steps x ≡ None) ⊎ (may_cut steps ≡ false)
      → cuts_of (steps ++ x ∷ [])
      ≡ record { closed = (cuts_of steps).closed; recent = (cuts_of steps).recent ++ x ∷ [] }
  cuts_uncut steps x why =
      cuts_push guest.syms guest.options.dump_points steps x ∙ uncut (cuts_of steps) x (cut_at steps x) why

  pub calls_uncut : (steps : List Step) (x : Step) → (cut_at steps x ≡ None) ⊎ (may_cut steps ≡ false)
      → calls_so_far guest (steps ++ x ∷ []) ≡ calls_so_far guest steps ++ step_calls x
  calls_uncut steps x why =
      so_far-is (steps ++ x ∷ []) ∙ ap so_far (cuts_uncut steps x why) ∙ stays-push (cuts_of steps) x
      ∙ ap (λ cs. cs ++ step_calls x) (sym (so_far-is steps))

  -- and where it is
  pub cuts_cut : (steps : List Step) (x : Step) (trigger : Trigger) → cut_at steps x ≡ Some trigger
      → may_cut steps ≡ true
      → cuts_of (steps ++ x ∷ [])
      ≡ record { closed = (cuts_of steps).closed ++ ((cuts_of steps).recent ++ x ∷ [], trigger) ∷ []; recent = [] }
  cuts_cut steps x trigger is may =
      let s = cuts_of steps in
      cuts_push guest.syms guest.options.dump_points steps x ∙ ap (λ o. with_last most_cuts s x o) is
      ∙ ap (λ b. if b then record { closed = s.closed ++ (s.recent ++ x ∷ [], trigger) ∷ []; recent = [] }
      else record { closed = s.closed; recent = s.recent ++ x ∷ [] }) may

  pub calls_cut : (steps : List Step) (x : Step) (trigger : Trigger) → cut_at steps x ≡ Some trigger
      → may_cut steps ≡ true
      → calls_so_far guest (steps ++ x ∷ []) ≡ (calls_so_far guest steps ++ step_calls x)
      ++ parts_of (length (cuts_of steps).closed + 1) ((cuts_of steps).recent ++ x ∷ []) trigger
  calls_cut steps x trigger is may =
      so_far-is (steps ++ x ∷ []) ∙ ap so_far (cuts_cut steps x trigger is may)
      ∙ ends-push (cuts_of steps) x trigger
      ∙ ap (λ cs. (cs ++ step_calls x)
      ++ parts_of (length (cuts_of steps).closed + 1) ((cuts_of steps).recent ++ x ∷ []) trigger)
      (sym (so_far-is steps))

  -- ---- many steps more

  pub record Front (cs all : List Call) : Type 0 where
    pub rest : List Call
    pub is : all ≡ cs ++ rest

  front-then : (a b c : List Call) → Front a b → Front b c → Front a c
  front-then a b c f g = record {
    rest = f.rest ++ g.rest;
    is = g.is ∙ ap (λ cs. cs ++ g.rest) f.is ∙ append_assoc a f.rest g.rest;
  }

  one_more : (steps : List Step) (x : Step) (o : Option Trigger) (b : Bool) → cut_at steps x ≡ o → may_cut steps ≡ b
      → Front (calls_so_far guest steps) (calls_so_far guest (steps ++ x ∷ []))
  one_more steps x None b is may = record { rest = step_calls x; is = calls_uncut steps x (inl is) }
  one_more steps x (Some t) false is may = record { rest = step_calls x; is = calls_uncut steps x (inr may) }
  one_more steps x (Some t) true is may =
      let parts = parts_of (length (cuts_of steps).closed + 1) ((cuts_of steps).recent ++ x ∷ []) t in
      record {
        rest = step_calls x ++ parts;
        is = calls_cut steps x t is may ∙ append_assoc (calls_so_far guest steps) (step_calls x) parts;
      }

  -- what is told up to some steps is a front of what is told up to more
  pub calls_front : (steps more : List Step) → Front (calls_so_far guest steps) (calls_so_far guest (steps ++ more))
  calls_front steps [] = record {
    rest = [];
    is = ap (λ xs. calls_so_far guest xs) (append-nil steps) ∙ sym (append-nil (calls_so_far guest steps));
  }
  calls_front steps (x ∷ more) =
      front-then (calls_so_far guest steps) (calls_so_far guest (steps ++ x ∷ []))
      (calls_so_far guest (steps ++ x ∷ more)) (one_more steps x (cut_at steps x) (may_cut steps) refl refl)
      (let P : List Step → Type 0 = λ xs. Front (calls_so_far guest (steps ++ x ∷ [])) (calls_so_far guest xs) in
      subst P (append_assoc steps (x ∷ []) more) (calls_front (steps ++ x ∷ []) more))

  -- a whole run
  pub calls_whole : (steps : List Step) (tried : Option (ThreadNo × ℕ))
      → calls_of guest steps tried ≡ (calls_so_far guest steps ++ tried_calls tried)
      ++ parts_of (length (cuts_of steps).closed + 1) (cuts_of steps).recent Termination
  unfolding calls
  calls_whole steps tried = refl

  pub whole_front : (steps more : List Step) (tried : Option (ThreadNo × ℕ))
      → Front (calls_so_far guest steps) (calls_of guest (steps ++ more) tried)
  whole_front steps more tried =
      let all = steps ++ more in
      let parts = parts_of (length (cuts_of all).closed + 1) (cuts_of all).recent Termination in
      front-then (calls_so_far guest steps) (calls_so_far guest all) (calls_of guest all tried)
      (calls_front steps more)
      (record {
        rest = tried_calls tried ++ parts;
        is = calls_whole all tried ∙ append_assoc (calls_so_far guest all) (tried_calls tried) parts;
      })
