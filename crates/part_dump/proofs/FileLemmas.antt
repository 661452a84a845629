-- The files of a run that nobody watches.
use Rattle.std.proofs.Common.{◌≡◌, ℕ, ◌+◌, List, [], ◌∷◌, ◌++◌, flat_map, length, Option, None, Some, refl, ap, ◌∙◌}
use Rattle.std.specs.List.{enumerate_from}
use Rattle.std.proofs.lemmas.List.{append-nil}
use Rattle.std.proofs.lemmas.List.Concat.{flat_map-append}
use Rattle.event_costs.specs.declared.numbers.ThreadNo.{ThreadNo}
use Rattle.cg_format.specs.declared.trigger.Trigger.{Trigger}
use Rattle.cg_format.specs.declared.trigger.Trigger.TheVariants.{Termination}
use Rattle.sym_map.specs.SymbolMap.{SymbolMap}
use Rattle.shadow_stack.specs.Traces.{EventOnStack}
use Rattle.arc_costs.specs.Contents.{Listed}
use Rattle.cg_format.specs.declared.head.PartHead.{PartHead}
use Rattle.part_dump.specs.Calls.{Call, Readies, Sees, Writes, calls, closed_calls, part_calls, segment_calls}
use Rattle.part_dump.specs.Calls.{steps_calls, thread_calls, tried_calls}
use Rattle.part_dump.specs.Cuts.{DumpPoints, cuts}
use Rattle.outside.specs.Outside.{Named}
use Rattle.part_dump.specs.Parts.{closed_files, files, segment_files, thread_files}
use Rattle.part_dump.specs.Plain.{Stateless, plain}
use Rattle.part_dump.specs.Steps.{Step, events_on_stack_of, threads}
use Rattle.part_dump.specs.Watching.{after_call, put_of, puts}

module _ (rows_of : List EventOnStack → Listed) (head : PartHead) (syms : SymbolMap) (base : List ℕ) (w : Stateless) where
  abbrev put : Call → List Named
  put c = put_of plain syms base w c

  abbrev put_all : List Call → List Named
  put_all cs = flat_map put cs

  stays : (c : Call) → after_call plain syms w c ≡ w
  stays (Readies thread pc) = refl
  stays (Sees x) = refl
  stays (Writes h rows) = refl

  pub puts_all : (cs : List Call) → puts plain syms base w cs ≡ put_all cs
  puts_all [] = refl
  puts_all (c ∷ cs) =
      ap (λ v. put c ++ puts plain syms base v cs) (stays c) ∙ ap (λ fs. put c ++ fs) (puts_all cs)

  no_puts : (xs : List Step) → put_all (steps_calls xs) ≡ []
  no_puts [] = refl
  no_puts (x ∷ xs) = no_puts xs

  thread_puts : (part : ℕ) (trigger : Trigger) (thread : ℕ) (xs : List EventOnStack)
      → put_all (thread_calls rows_of head part trigger thread xs)
      ≡ thread_files rows_of head syms base part trigger thread xs
  thread_puts part trigger thread [] = refl
  thread_puts part trigger thread (x ∷ xs) = refl

  put_each : {A : Type 0} (g : A → List Call) (f : A → List Named) → ((a : A) → put_all (g a) ≡ f a) → (xs : List A)
      → put_all (flat_map g xs) ≡ flat_map f xs
  put_each g f same [] = refl
  put_each g f same (x ∷ xs) =
      flat_map-append put (g x) (flat_map g xs) ∙ ap (λ fs. fs ++ put_all (flat_map g xs)) (same x)
      ∙ ap (λ fs. f x ++ fs) (put_each g f same xs)

  part_puts : (part : ℕ) (segment : List Step) (trigger : Trigger)
      → put_all (part_calls rows_of head part segment trigger)
      ≡ segment_files rows_of head syms base part segment trigger
  part_puts part segment trigger =
      put_each (λ thread. thread_calls rows_of head part trigger thread (events_on_stack_of thread segment))
      (λ thread. thread_files rows_of head syms base part trigger thread (events_on_stack_of thread segment))
      (λ thread. thread_puts part trigger thread (events_on_stack_of thread segment)) (threads segment)

  segment_puts : (s : ℕ × (List Step × Trigger))
      → put_all (segment_calls rows_of head s.0 s.1.0 s.1.1) ≡ segment_files rows_of head syms base s.0 s.1.0 s.1.1
  segment_puts s =
      flat_map-append put (steps_calls s.1.0) (part_calls rows_of head s.0 s.1.0 s.1.1)
      ∙ ap (λ fs. fs ++ put_all (part_calls rows_of head s.0 s.1.0 s.1.1)) (no_puts s.1.0) ∙ part_puts s.0 s.1.0 s.1.1

  tried_puts : (tried : Option (ThreadNo × ℕ)) → put_all (tried_calls tried) ≡ []
  tried_puts None = refl
  tried_puts (Some t) = refl

  pub closed_puts : (segments : List (List Step × Trigger))
      → put_all (closed_calls rows_of head segments) ≡ closed_files rows_of head syms base segments
  closed_puts segments =
      put_each (λ s. segment_calls rows_of head s.0 s.1.0 s.1.1)
      (λ s. segment_files rows_of head syms base s.0 s.1.0 s.1.1)
      segment_puts (enumerate_from 1 segments)

  four_puts : (a b c d : List Call) → put_all (a ++ b ++ c ++ d) ≡ put_all a ++ put_all b ++ put_all c ++ put_all d
  four_puts a b c d =
      flat_map-append put (a ++ b ++ c) d ∙ ap (λ fs. fs ++ put_all d)
      (flat_map-append put (a ++ b) c ∙ ap (λ fs. fs ++ put_all c) (flat_map-append put a b))

  pub plain_files : (asked : DumpPoints) (trace : List Step) (tried : Option (ThreadNo × ℕ))
      → puts plain syms base w (calls rows_of head syms asked trace tried) ≡ files rows_of head syms base asked trace
  unfolding calls files
  plain_files asked trace tried =
      let closed = (cuts syms asked trace).closed in
      let recent = (cuts syms asked trace).recent in
      let last = part_calls rows_of head (length closed + 1) recent Termination in
      let done = closed_files rows_of head syms base closed in
      puts_all (closed_calls rows_of head closed ++ steps_calls recent ++ tried_calls tried ++ last)
      ∙ four_puts (closed_calls rows_of head closed) (steps_calls recent) (tried_calls tried) last
      ∙ ap (λ fs. fs ++ put_all (steps_calls recent) ++ put_all (tried_calls tried) ++ put_all last)
      (closed_puts closed)
      ∙ ap (λ fs. done ++ fs ++ put_all (tried_calls tried) ++ put_all last) (no_puts recent)
      ∙ ap (λ fs. (done ++ []) ++ fs ++ put_all last) (tried_puts tried)
      ∙ ap (λ fs. fs ++ [] ++ put_all last) (append-nil done) ∙ ap (λ fs. fs ++ put_all last) (append-nil done)
      ∙ ap (λ fs. done ++ fs) (part_puts (length closed + 1) recent Termination)
