-- The files of a run that is watched by calling context have the texts of its events' rows.
use Rattle.std.proofs.Common.{◌≡◌, ℕ, ◌+◌, ◌==◌, Bool, true, false, List, [], ◌∷◌, ◌++◌, Option, flat_map, length, map}
use Rattle.std.proofs.Common.{refl, ap, ◌∙◌, if◌then◌else◌}
use Rattle.std.specs.List.{enumerate_from}
use Rattle.outside.specs.Outside.{Named}
use Rattle.event_costs.specs.declared.numbers.ThreadNo.{ThreadNo}
use Rattle.cg_format.specs.declared.trigger.Trigger.{Trigger}
use Rattle.cg_format.specs.declared.trigger.Trigger.TheVariants.{Termination}
use Rattle.sym_map.specs.SymbolMap.{SymbolMap}
use Rattle.shadow_stack.specs.Traces.{EventOnStack}
use Rattle.arc_costs.specs.Contents.{Listed}
use Rattle.cg_format.specs.declared.head.PartHead.{PartHead}
use Rattle.part_dump.specs.Calls.{Call, Readies, Sees, Writes, calls, closed_calls, steps_calls}
use Rattle.part_dump.specs.Cuts.{DumpPoints, cuts}
use Rattle.part_dump.specs.Files.{part_name}
use Rattle.part_dump.specs.Steps.{Step, steps_of_thread, events_on_stack_of, thread_of, threads}
use Rattle.part_dump.specs.Watched.{FitAll, Fits, AreWatched}
use Rattle.part_dump.specs.Watching.{after_call, put_of, puts}
use Rattle.ctx_rows.specs.Files.{closed_files, ctx_files, segment_files, thread_files}
use Rattle.ctx_rows.specs.Rows.{CtxListed, ctx_rows_of}
use Rattle.ctx_rows.specs.Since.{since, since_by}
use Rattle.ctx_rows.specs.States.{CtxState}
use Rattle.ctx_rows.specs.Telling.{rows_in}
use Rattle.ctx_rows.specs.Texts.{ctx_text}
use Rattle.ctx_rows.specs.Watching.{IsFresh, by_context}
use Rattle.ctx_rows.proofs.CallLemmas as told
use Rattle.ctx_rows.proofs.CallLemmas.{flat_same, puts_from, seen_in, segment_puts, steps_by, steps_in_all, thread_put}
use Rattle.ctx_rows.proofs.HoldsLemmas.{Holds, since_more}
use Rattle.ctx_rows.proofs.LastLemmas.{fresh_holds, holds_more, known_part, rows_now}

-- a step counts with its own stack
abbrev itself : List Step → Step → EventOnStack
itself past x = x.on_stack

seen_itself : (t : ℕ) (past xs : List Step) → seen_in itself t past xs ≡ events_on_stack_of t xs
seen_itself t past [] = refl
seen_itself t past (x ∷ xs) = by (thread_of x == t) (seen_itself t (past ++ x ∷ []) xs)
  where
    by : (b : Bool) → seen_in itself t (past ++ x ∷ []) xs ≡ events_on_stack_of t xs
        → (if b then x.on_stack ∷ seen_in itself t (past ++ x ∷ []) xs else seen_in itself t (past ++ x ∷ []) xs)
        ≡ map (λ (y : Step). y.on_stack) (if b then x ∷ steps_of_thread t xs else steps_of_thread t xs)
    by true rest = ap (λ ys. x.on_stack ∷ ys) rest
    by false rest = rest

call_itself : (t : ℕ) (past : List Step) (c : Call) (before : List EventOnStack)
    → since_by t c before ≡ told.since_by itself t past c before
call_itself t past (Readies thread pc) before = refl
call_itself t past (Sees x) before = refl
call_itself t past (Writes head rows) before = refl

module _ (callers : ℕ) (syms : SymbolMap) (base : List ℕ) where
  abbrev file : PartHead → List EventOnStack → List Named
  file head xs = (part_name base head.part head.thread.0, ctx_text head (ctx_rows_of callers syms xs) syms) ∷ []

  abbrev put_all : List Step → (ℕ → List EventOnStack) → List Call → List Named
  put_all = told.put_all itself file

  -- what a watch puts
  pub puts_are : (past : List Step) (w : CtxState) (earlier cs : List Call) → Holds syms callers w earlier
      → FitAll syms earlier cs → puts by_context syms base w cs ≡ put_all past (λ t. since t earlier) cs
  puts_are past w earlier [] holds fit = refl
  puts_are past w earlier (c ∷ cs) holds fit =
      λ i. by c fit.0 i ++ (puts_are (steps_by c past) (after_call by_context syms w c) (earlier ++ c ∷ []) cs
      (holds_more syms callers w earlier c holds fit.0) fit.1
      ∙ told.put_same itself file cs (steps_by c past) (λ t. since t (earlier ++ c ∷ []))
      (told.then_by itself file past (λ t. since t earlier) c)
      (λ t. since_more t earlier c ∙ call_itself t past c (since t earlier))) i
    where
      use_rows : (head : PartHead) (rows : CtxListed) → rows_in w head.thread ≡ rows
          → ◌≡◌ {A = List Named}
          ((part_name base head.part head.thread.0, ctx_text head (rows_in w head.thread) syms) ∷ [])
          ((part_name base head.part head.thread.0, ctx_text head rows syms) ∷ [])
      use_rows head rows is = λ i. (part_name base head.part head.thread.0, ctx_text head (is i) syms) ∷ []

      by : (d : Call) → Fits syms earlier d
          → put_of by_context syms base w d ≡ told.put_by itself file (λ t. since t earlier) d
      by (Readies thread pc) fits = refl
      by (Sees x) fits = refl
      by (Writes head rows) fits =
          use_rows head (ctx_rows_of callers syms (since head.thread.0 earlier))
          (rows_now syms callers w earlier holds head.thread (known_part syms callers w earlier holds head rows fits))

  -- the files of segments
  module _ (head : PartHead) where
    segment_is : (earlier : List Step) (part : ℕ) (segment : List Step) (trigger : Trigger)
        → segment_puts itself file head earlier part segment trigger
        ≡ segment_files callers head syms base part segment trigger
    segment_is earlier part segment trigger =
        flat_same
        (λ t. thread_put itself file head part trigger t (seen_in itself t earlier segment) (events_on_stack_of t segment))
        (λ t. thread_files callers head syms base part trigger t (events_on_stack_of t segment))
        (λ t. ap (λ xs. thread_put itself file head part trigger t xs (events_on_stack_of t segment))
        (seen_itself t earlier segment) ∙ each t (events_on_stack_of t segment)) (threads segment)
      where
        each : (t : ℕ) (xs : List EventOnStack) → thread_put itself file head part trigger t xs xs
            ≡ thread_files callers head syms base part trigger t xs
        each t [] = refl
        each t (x ∷ xs) = refl

    closed_is : (earlier : List Step) (n : ℕ) (segments : List (List Step × Trigger))
        → puts_from itself file head earlier n segments
        ≡ flat_map (λ s. segment_files callers head syms base s.0 s.1.0 s.1.1) (enumerate_from n segments)
    closed_is earlier n [] = refl
    closed_is earlier n (s ∷ segments) =
        λ i. segment_is earlier n s.0 s.1 i ++ closed_is (earlier ++ s.0) (n + 1) segments i

-- ---- the files of a watched run

module _ (rows_of : List EventOnStack → Listed) (head : PartHead) (syms : SymbolMap) (base : List ℕ) (asked : DumpPoints)
    (trace : List Step) (first : CtxState) (fresh : IsFresh first) where
  abbrev closed : List (List Step × Trigger)
  closed = (cuts syms asked trace).closed

  pub run_puts : (tried : Option (ThreadNo × ℕ)) → AreWatched syms (calls rows_of head syms asked trace tried)
      → puts by_context syms base first (calls rows_of head syms asked trace tried)
      ≡ ctx_files first.callers head syms base asked trace
  unfolding ctx_files
  run_puts tried watched =
      puts_are first.callers syms base [] first [] (calls rows_of head syms asked trace tried)
      (fresh_holds syms first fresh) watched
      ∙ told.put_run itself (file first.callers syms base) rows_of head syms asked trace tried
      ∙ (λ i. closed_is first.callers syms base head [] 1 closed i
      ++ segment_is first.callers syms base head (steps_in_all itself (file first.callers syms base) closed)
      (length closed + 1) (cuts syms asked trace).recent Termination i)

  pub cut_puts : AreWatched syms (closed_calls rows_of head (cuts syms asked trace).closed
      ++ steps_calls (cuts syms asked trace).recent)
      → puts by_context syms base first (closed_calls rows_of head (cuts syms asked trace).closed
      ++ steps_calls (cuts syms asked trace).recent)
      ≡ closed_files first.callers head syms base (cuts syms asked trace).closed
  cut_puts watched =
      puts_are first.callers syms base [] first [] (closed_calls rows_of head (cuts syms asked trace).closed
      ++ steps_calls (cuts syms asked trace).recent) (fresh_holds syms first fresh) watched
      ∙ told.put_so_far itself (file first.callers syms base) rows_of head syms asked trace
      ∙ closed_is first.callers syms base head [] 1 closed
