-- The files of a run that is watched by address have the texts of its events' rows.
use Rattle.std.proofs.Common.{◌≡◌, ℕ, ◌+◌, ◌==◌, Bool, true, false, List, [], ◌∷◌, ◌++◌, Option}
use Rattle.std.proofs.Common.{length, map, refl, ap, sym, ◌∙◌, if◌then◌else◌}
use Rattle.outside.specs.Outside.{Named}
use Rattle.event_costs.specs.declared.numbers.ThreadNo.{ThreadNo}
use Rattle.cg_format.specs.declared.trigger.Trigger.{Trigger}
use Rattle.cg_format.specs.declared.trigger.Trigger.TheVariants.{Termination}
use Rattle.sym_map.specs.SymbolMap.{SymbolMap}
use Rattle.shadow_stack.specs.Traces.{EventOnStack}
use Rattle.arc_costs.specs.Contents.{Listed}
use Rattle.cg_format.specs.declared.head.PartHead.{PartHead}
use Rattle.part_dump.specs.Calls.{Call, Readies, Sees, Writes, calls, closed_calls, steps_calls}
use Rattle.part_dump.specs.Cuts.{DumpPoints, cuts}
use Rattle.part_dump.specs.Files.{part_name}
use Rattle.part_dump.specs.Steps.{Step, steps_of_thread, events_on_stack_of, thread_of, threads}
use Rattle.part_dump.specs.Watched.{FitAll, Fits, AreWatched, steps_in}
use Rattle.part_dump.specs.Watching.{after_call, put_of, puts}
use Rattle.ctx_rows.proofs.CallLemmas as told
use Rattle.addr_rows.proofs.Others.{flat_same, puts_from, seen_in, segment_puts, steps_by, steps_in_all}
use Rattle.addr_rows.proofs.Others.{steps_more_by, thread_put, steps_more}
use Rattle.sym_map.specs.AddressMap.{address_map}
use Rattle.addr_rows.specs.EventRows.{addr_rows_of}
use Rattle.addr_rows.specs.Files.{addr_files, addr_rows_in, closed_files, files_from, segment_files, thread_files}
use Rattle.addr_rows.specs.Rows.{AddrListed}
use Rattle.addr_rows.specs.Stacked.{with_stacks_of, with_stack_of}
use Rattle.addr_rows.specs.Telling.{thread_rows}
use Rattle.addr_rows.specs.Texts.{addr_text}
use Rattle.addr_rows.specs.States.{AddrState}
use Rattle.addr_rows.specs.Watching.{IsFresh, by_address, text_in}
use Rattle.addr_rows.proofs.HoldsLemmas.{Holds, by_stack, events_more, events_of, fresh_holds, holds_more}
use Rattle.addr_rows.proofs.HoldsLemmas.{rows_there}

module _ (m : SymbolMap) (base : List ℕ) where
  abbrev event_of : List Step → Step → EventOnStack
  event_of = by_stack (address_map m)

  seen_stacked : (t : ℕ) (past xs : List Step)
      → seen_in event_of t past xs ≡ events_on_stack_of t (with_stacks_of (address_map m) past xs)
  seen_stacked t past [] = refl
  seen_stacked t past (x ∷ xs) = by (thread_of x == t) (seen_stacked t (past ++ x ∷ []) xs)
    where
      later : List Step
      later = steps_of_thread t (with_stacks_of (address_map m) (past ++ x ∷ []) xs)

      by : (b : Bool) → seen_in event_of t (past ++ x ∷ []) xs ≡ map (λ (y : Step). y.on_stack) later
          → (if b then event_of past x ∷ seen_in event_of t (past ++ x ∷ []) xs
          else seen_in event_of t (past ++ x ∷ []) xs)
          ≡ map (λ (y : Step). y.on_stack) (if b then with_stack_of (address_map m) past x ∷ later else later)
      by true rest = ap (λ ys. event_of past x ∷ ys) rest
      by false rest = rest

  abbrev file_of : PartHead → AddrListed → List Named
  file_of head rows = (part_name base head.part head.thread.0, addr_text head rows m) ∷ []

  abbrev file : PartHead → List EventOnStack → List Named
  file head xs = file_of head (addr_rows_of m xs)

  abbrev put_all : List Step → (ℕ → List EventOnStack) → List Call → List Named
  put_all = told.put_all event_of file

  -- what a watch puts
  pub puts_are : (w : AddrState) (earlier cs : List Call) → Holds m w earlier → FitAll m earlier cs
      → puts by_address m base w cs
      ≡ put_all (steps_in earlier) (λ t. events_of m t earlier) cs
  puts_are w earlier [] holds fit = refl
  puts_are w earlier (c ∷ cs) holds fit =
      λ i. by c fit.0 i ++ (puts_are (after_call by_address m w c) (earlier ++ c ∷ []) cs
      (holds_more m w earlier holds c fit.0) fit.1
      ∙ ap (λ xs. put_all xs (λ t. events_of m t (earlier ++ c ∷ [])) cs)
      (steps_more earlier c ∙ sym (steps_more_by (steps_in earlier) c))
      ∙ told.put_same event_of file cs (steps_by c (steps_in earlier)) (λ t. events_of m t (earlier ++ c ∷ []))
      (told.then_by event_of file (steps_in earlier) (λ t. events_of m t earlier) c)
      (λ t. events_more m t earlier c)) i
    where
      use_text : (head : PartHead) (text : List ℕ)
          → text ≡ addr_text head (addr_rows_of m (events_of m head.thread.0 earlier)) m
          → ◌≡◌ {A = List Named} ((part_name base head.part head.thread.0, text) ∷ [])
          (file_of head (addr_rows_of m (events_of m head.thread.0 earlier)))
      use_text head text is = λ i. (part_name base head.part head.thread.0, is i) ∷ []

      by : (d : Call) → Fits m earlier d
          → put_of by_address m base w d
          ≡ told.put_by event_of file (λ t. events_of m t earlier) d
      by (Readies thread pc) fits = refl
      by (Sees x) fits = refl
      by (Writes head rows) fits =
          use_text head (text_in head (thread_rows w head.thread) m)
          (ap (λ (rows : Option AddrListed). text_in head rows m) (rows_there m w earlier holds head.thread fits.0).0)

  -- the files of segments
  module _ (head : PartHead) where
    segment_is : (earlier : List Step) (part : ℕ) (segment : List Step) (trigger : Trigger)
        → segment_puts event_of file head earlier part segment trigger
        ≡ segment_files head m base earlier part segment trigger
    segment_is earlier part segment trigger =
        flat_same
        (λ t. thread_put event_of file head part trigger t (seen_in event_of t earlier segment) (events_on_stack_of t segment))
        (λ t. thread_files head m base part trigger t (addr_rows_in m t earlier segment) (events_on_stack_of t segment))
        (λ t. ap (λ xs. thread_put event_of file head part trigger t xs (events_on_stack_of t segment))
        (seen_stacked t earlier segment)
        ∙ each t (events_on_stack_of t (with_stacks_of (address_map m) earlier segment)) (events_on_stack_of t segment)) (threads segment)
      where
        each : (t : ℕ) (ys xs : List EventOnStack) → thread_put event_of file head part trigger t ys xs
            ≡ thread_files head m base part trigger t (addr_rows_of m ys) xs
        each t ys [] = refl
        each t ys (x ∷ xs) = refl

    closed_is : (earlier : List Step) (n : ℕ) (segments : List (List Step × Trigger))
        → puts_from event_of file head earlier n segments ≡ files_from head m base earlier n segments
    closed_is earlier n [] = refl
    closed_is earlier n (s ∷ segments) =
        λ i. segment_is earlier n s.0 s.1 i ++ closed_is (earlier ++ s.0) (n + 1) segments i

-- ---- the files of a watched run

module _ (rows_of : List EventOnStack → Listed) (head : PartHead) (m : SymbolMap) (base : List ℕ) (asked : DumpPoints)
    (trace : List Step) (first : AddrState) (fresh : IsFresh first) where
  abbrev closed : List (List Step × Trigger)
  closed = (cuts m asked trace).closed

  pub run_puts : (tried : Option (ThreadNo × ℕ)) → AreWatched m (calls rows_of head m asked trace tried)
      → puts by_address m base first (calls rows_of head m asked trace tried)
      ≡ addr_files head m base asked trace
  unfolding addr_files
  run_puts tried watched =
      puts_are m base first [] (calls rows_of head m asked trace tried) (fresh_holds m first fresh) watched
      ∙ told.put_run (by_stack (address_map m)) (file m base) rows_of head m asked trace tried
      ∙ (λ i. closed_is m base head [] 1 closed i
      ++ segment_is m base head (steps_in_all (by_stack (address_map m)) (file m base) closed) (length closed + 1)
      (cuts m asked trace).recent Termination i)

  pub cut_puts : AreWatched m (closed_calls rows_of head (cuts m asked trace).closed
      ++ steps_calls (cuts m asked trace).recent)
      → puts by_address m base first (closed_calls rows_of head (cuts m asked trace).closed
      ++ steps_calls (cuts m asked trace).recent)
      ≡ closed_files head m base (cuts m asked trace).closed
  cut_puts watched =
      puts_are m base first [] (closed_calls rows_of head (cuts m asked trace).closed
      ++ steps_calls (cuts m asked trace).recent) (fresh_holds m first fresh) watched
      ∙ told.put_so_far (by_stack (address_map m)) (file m base) rows_of head m asked trace
      ∙ closed_is m base head [] 1 closed
