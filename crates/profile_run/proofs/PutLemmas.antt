-- The parts of a segment, one thread after another.
use Rattle.std.proofs.Common.{◌≡◌, ℕ, zero, suc, ◌+◌, ◌≤◌, List, [], ◌∷◌, ◌++◌}
use Rattle.std.proofs.Common.{length, map}
use Rattle.std.proofs.Common.{Option, None, Some, option_map, Ok, refl, ap, sym, subst, inl, ◌∙◌}
use Rattle.std.proofs.Common.{append_assoc}
use Rattle.std.proofs.Common.{arith}
use Rattle.std.proofs.lemmas.List.{append-nil, map-append}
use Rattle.std.proofs.lemmas.List.Concat.{flat_map-append}
use Rattle.outside.specs.Files.{Files, with_file}
use Rattle.outside.specs.Outside.{Named, Shelf, puts_of, with_files}
use Rattle.outside.specs.Journal.{Call as ToldCall, Put, TellsMore}
use Rattle.profile_run.proofs.Others.{tells_then, above_greatest}
use Rattle.cg_format.specs.declared.trigger.Trigger.{Trigger}
use Rattle.cg_format.specs.Rows.{below}
use Rattle.part_dump.specs.Calls.{Call, thread_calls}
use Rattle.part_dump.specs.Files.{IsNext, RefusalLeaves, part_name}
use Rattle.part_dump.specs.Steps.{Step, greatest, steps_of_thread, events_on_stack_of}
use Rattle.part_dump.specs.Watching.{Meaning, after_calls, puts}
use Rattle.profile_run.specs.Runs.{AreUnput}
use Rattle.profile_run.specs.Program.{head_of_run}
use Rattle.profile_run.specs.Parts.{ArePartsOf}
use Rattle.recorder.specs.Rows.{rows_of}
use Rattle.profile_run.specs.inner.Standing.{Plan, PutWants, RefusedBy, all_calls, calls_below, files_after}
use Rattle.profile_run.specs.declared.run_end.PartFile.{PartFile}
use Rattle.profile_run.specs.declared.run_fault.RunFault.{RunFault}
use Rattle.profile_run.specs.declared.run_fault.RunFault.TheVariants.{ArgsTooLong, GuestFull, OutFault, OutOfMemory}
use Rattle.profile_run.specs.declared.run_fault.RunFault.TheVariants.{PutFault}
use Rattle.profile_run.proofs.CallLemmas.{after-append, puts-append}
use Rattle.byte_text.specs.Memory.{memory}

-- ---- files one after another

pub with-append : (fs gs : List Named) (files : Files)
    → with_files (fs ++ gs) files ≡ with_files gs (with_files fs files)
with-append [] gs files = refl
with-append (f ∷ fs) gs files = with-append fs gs (with_file files f.0 f.1)

-- the files once one more is put
pub one_put : (fs : List Named) (f : Named) (old mid new : Option Files) → mid ≡ option_map (with_files fs) old
    → new ≡ option_map (λ files. with_file files f.0 f.1) mid
    → new ≡ option_map (with_files (fs ++ f ∷ [])) old
one_put fs f None mid new e g = g ∙ ap (option_map (λ files. with_file files f.0 f.1)) e
one_put fs f (Some files) mid new e g =
    g ∙ ap (option_map (λ fl. with_file fl f.0 f.1)) e ∙ ap Some (sym (with-append fs (f ∷ []) files))

-- no put of these may have been asked for
pub unput_none : (files : List Named) → AreUnput files []
unput_none [] = refl
unput_none (file ∷ files) = inl refl

-- the first of these is the first of more
pub unput_on : (files more : List Named) (calls : List ToldCall) → AreUnput files calls → AreUnput (files ++ more) calls
unput_on [] more calls are = subst (λ cs. AreUnput more cs) (sym are) (unput_none more)
unput_on (file ∷ files) more calls are = are

-- memory was wanting before the next put
pub wants_nothing : (all : List Named) (name : Option (List ℕ)) (old new : Shelf)
    → (refused : RefusalLeaves all name old.files new.files) → TellsMore old.calls (puts_of refused.done) new.calls
    → PutWants all old new
wants_nothing all name old new refused told = record {
  name = name;
  refused = refused;
  last = [];
  unput = unput_none refused.front.rest;
  calls = subst (λ calls. TellsMore old.calls calls new.calls) (sym (append-nil (puts_of refused.done))) told;
}

-- and what is told of them then
pub one_told : (fs : List Named) (f : Named) (old mid new : Option (List ToldCall))
    → TellsMore old (puts_of fs) mid → TellsMore mid (Put f.0 f.1 (Ok tt) ∷ []) new
    → TellsMore old (puts_of (fs ++ f ∷ [])) new
one_told fs f old mid new e g =
    subst (λ (calls : List ToldCall). TellsMore old calls new)
    (sym (map-append {B = ToldCall} (λ file. Put file.0 file.1 (Ok tt)) fs (f ∷ [])))
    (tells_then old mid new (puts_of fs) (Put f.0 f.1 (Ok tt) ∷ []) e g)

-- the list of parts once one more is put
pub one_listed : (base : List ℕ) (fs : List Named) (ps : List PartFile) (p : PartFile) (text : List ℕ)
    → ArePartsOf base fs ps → p.len ≡ length text
    → ArePartsOf base (fs ++ (part_name base p.part p.thread.0, text) ∷ []) (ps ++ p ∷ [])
one_listed base fs ps p text are len =
    map-append {B = List ℕ × ℕ} (λ q. (part_name base q.part q.thread.0, q.len)) ps (p ∷ [])
    ∙ (λ i. are i ++ (part_name base p.part p.thread.0, len i) ∷ [])
    ∙ sym (map-append {B = List ℕ × ℕ} (λ f. (f.0, length f.1)) fs ((part_name base p.part p.thread.0, text) ∷ []))

-- ---- refusals of a front, as refusals of more

pub next_more : (name : Option (List ℕ)) (rest more : List Named) → IsNext name rest → IsNext name (rest ++ more)
next_more None rest more next = tt
next_more (Some name) [] more next = absurd next
next_more (Some name) (f ∷ fs) more next = next

abbrev pub refused_more : (files more : List Named) (name : Option (List ℕ)) (old new : Option Files)
    → RefusalLeaves files name old new → RefusalLeaves (files ++ more) name old new
refused_more files more name old new r = record {
  done = r.done;
  front = record {
    rest = r.front.rest ++ more;
    whole = ap (λ fs. fs ++ more) r.front.whole ∙ append_assoc r.done r.front.rest more;
    follows = next_more name r.front.rest more r.front.follows;
  };
  holds = r.holds;
}

pub refused_by_more : (base : List ℕ) (part : ℕ) (files more : List Named) (old : Shelf) (before : ℕ)
    (fault : RunFault) (new : Shelf) (now : ℕ)
    → RefusedBy base part files old before fault new now → RefusedBy base part (files ++ more) old before fault new now
refused_by_more base part files more old before (PutFault number thread) new now r = (
  r.0,
  r.1,
  record {
    refused =
        refused_more files more (Some (part_name base number thread.0)) old.files new.files r.2.refused;
    text = r.2.text;
    behind = r.2.behind ++ more;
    next = ap (λ fs. fs ++ more) r.2.next;
    calls = r.2.calls;
  },
)
refused_by_more base part files more old before (OutOfMemory memory) new now r = record {
  name = r.name;
  refused = refused_more files more r.name old.files new.files r.refused;
  last = r.last;
  unput = unput_on r.refused.front.rest more r.last r.unput;
  calls = r.calls;
}
refused_by_more base part files more old before GuestFull new now r = r
refused_by_more base part files more old before (ArgsTooLong len) new now r = r
refused_by_more base part files more old before OutFault new now r = r

-- ---- the calls for the threads below a number

module _ {W : Type 0} (m : Meaning W) (plan : Plan W) (part : ℕ) (trigger : Trigger) where
  abbrev calls_at : ℕ → List Call
  calls_at thread =
      thread_calls (rows_of plan.guest.syms) (head_of_run plan.guest) part trigger thread
      (events_on_stack_of thread plan.segment)

  pub below-next : (n : ℕ) → calls_below plan part trigger (n + 1) ≡ calls_below plan part trigger n ++ calls_at n
  below-next n =
      ap (λ k. calls_below plan part trigger k) (next n)
      ∙ flat_map-append calls_at (below n) (n ∷ [])
      ∙ ap (λ cs. calls_below plan part trigger n ++ cs) (append-nil (calls_at n))
    where
      next : (k : ℕ) → k + 1 ≡ suc k
      next k = omega arith

  -- a thread without steps since the last cut has no part
  pub no_calls : (n : ℕ) → steps_of_thread n plan.segment ≡ [] → calls_at n ≡ []
  no_calls n none =
      ap (λ ys. thread_calls (rows_of plan.guest.syms) (head_of_run plan.guest) part trigger n
      (map (λ (y : Step). y.on_stack) ys)) none

  below-more : (n k : ℕ) → ((t : ℕ) → n ≤ t → steps_of_thread t plan.segment ≡ [])
      → calls_below plan part trigger (n + k) ≡ calls_below plan part trigger n
  below-more n zero none = ap (λ j. calls_below plan part trigger j) (same n)
    where
      same : (j : ℕ) → j + 0 ≡ j
      same j = omega arith
  below-more n (suc k) none =
      ap (λ j. calls_below plan part trigger j) (more n k) ∙ below-next (n + k)
      ∙ ap (λ cs. calls_below plan part trigger (n + k) ++ cs) (no_calls (n + k) (none (n + k) (omega arith)))
      ∙ append-nil (calls_below plan part trigger (n + k)) ∙ below-more n k none
    where
      more : (i j : ℕ) → i + suc j ≡ (i + j) + 1
      more i j = omega arith

  -- up to a number past that of all threads they are those of the segment's parts
  pub below-all : (n : ℕ) → ((t : ℕ) → n ≤ t → steps_of_thread t plan.segment ≡ [])
      → calls_below plan part trigger n ≡ all_calls plan part trigger
  below-all n none =
      let g = greatest plan.segment + 1 in
      sym (below-more n g none) ∙ ap (λ k. calls_below plan part trigger k) (swap n (greatest plan.segment))
      ∙ below-more (suc (greatest plan.segment)) n (λ t le. above_greatest t plan.segment (omega (arith, le)))
    where
      swap : (i j : ℕ) → i + (j + 1) ≡ suc j + i
      swap i j = omega arith

  -- the files of one more list of calls
  pub files-append : (cs ds : List Call)
      → files_after m plan (cs ++ ds) ≡ files_after m plan cs
      ++ puts m plan.guest.syms plan.guest.options.base
      (after_calls m plan.guest.syms plan.first (plan.before ++ cs)) ds
  files-append cs ds =
      ap (λ fs. plan.put ++ fs)
      (puts-append m plan.guest.syms plan.guest.options.base
      (after_calls m plan.guest.syms plan.first plan.before) cs ds
      ∙ ap (λ w. puts m plan.guest.syms plan.guest.options.base
      (after_calls m plan.guest.syms plan.first plan.before) cs
      ++ puts m plan.guest.syms plan.guest.options.base w ds)
      (sym (after-append m plan.guest.syms plan.guest.options.base plan.first plan.before cs)))
      ∙ sym (append_assoc plan.put (puts m plan.guest.syms plan.guest.options.base
      (after_calls m plan.guest.syms plan.first plan.before) cs)
      (puts m plan.guest.syms plan.guest.options.base
      (after_calls m plan.guest.syms plan.first (plan.before ++ cs)) ds))
