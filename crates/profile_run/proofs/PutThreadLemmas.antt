-- The put of a thread's part, by what each call of it answers.
use Rattle.std.proofs.Common.{◌≡◌, ◌≢◌, ℕ, zero, suc, ◌+◌, ◌-◌, ◌<◌, ◌≤◌, true, false, List, [], ◌∷◌, ◌++◌, length, map}
use Rattle.std.proofs.Common.{append_assoc, arith, Option, None, Some, option_map, Result, Ok, Err, refl, ap, sym}
use Rattle.std.proofs.Common.{subst, ◌∙◌}
use Rattle.std.proofs.lemmas.List.{append-nil}
use Rattle.std.specs.Prelude.{IfErr, OnOk, ◌^◌, min, ◌==◌}
use Rattle.std.specs.Result.{IsErrAnd}
use Rattle.outside.specs.Files.{Rose, SameBut, with_file}
use Rattle.outside.specs.Outside.{Named, Shelf, puts_of, with_files}
use Rattle.outside.specs.Journal.{Call as ToldCall, Put, TellsMore}
use Rattle.outside.specs.declared.folder.PutError.TheVariants as put
use Rattle.profile_run.proofs.Others.{tells_then, AreWhole, rows_are, AreKnownIn, stack_known, from_map, in_filter}
use Rattle.event_costs.specs.declared.numbers.ThreadNo.{ThreadNo}
use Rattle.cg_format.specs.declared.trigger.Trigger.{Trigger}
use Rattle.event_costs.specs.declared.event.Event.{Event}
use Rattle.arc_costs.specs.Contents.{Listed}
use Rattle.sym_map.specs.SymbolMap.{SymbolMap}
use Rattle.shadow_stack.specs.Stacks.{Stack}
use Rattle.shadow_stack.specs.Traces.{EventOnStack}
use Rattle.cg_format.specs.Part.{AreKnown}
use Rattle.cg_format.specs.declared.head.PartHead.{PartHead}
use Rattle.part_dump.specs.Calls.{Call, Writes, head_of, thread_calls}
use Rattle.part_dump.specs.Dumps.{IsUnput}
use Rattle.part_dump.specs.Files.{RefusalLeaves, part_name}
use Rattle.part_dump.specs.Steps.{Step, steps_of_thread, events_on_stack_of, stack_at, thread_of}
use Rattle.part_dump.specs.Watched.{AreWatched}
use Rattle.part_dump.specs.Watching.{Can, Meaning, after_calls, puts}
use Rattle.recorder.specs.Accounts.{Recording, account, ledger, knows}
use Rattle.recorder.specs.Bounds.{SumsWithin}
use Rattle.recorder.specs.Notes.{account_after_cut}
use Rattle.recorder.specs.Standing.{AreRowsOf, Stands}
use Rattle.recorder.specs.Rows.{rows_of}
use Rattle.recorder.specs.inner.Known.{KnowsPlaces}
use Rattle.profile_run.specs.Program.{Options, head_of_run}
use Rattle.profile_run.specs.inner.Standing.{ArePut, CanPut, HasPut, IsPutting, Plan, PutFails, PutWants, PutsThreads}
use Rattle.profile_run.specs.inner.Standing.{RefusedBy}
use Rattle.profile_run.specs.inner.Standing.{calls_below}
use Rattle.profile_run.specs.inner.Standing.{files_after}
use Rattle.profile_run.specs.declared.parts.Parts.{Parts}
use Rattle.profile_run.specs.declared.run_end.PartFile.{PartFile}
use Rattle.profile_run.specs.declared.run_fault.RunFault.{RunFault}
use Rattle.profile_run.specs.declared.run_fault.RunFault.TheVariants.{ArgsTooLong, GuestFull, OutFault, OutOfMemory}
use Rattle.profile_run.specs.declared.run_fault.RunFault.TheVariants.{PutFault}
use Rattle.profile_run.proofs.KnownLemmas.{rows_known}
use Rattle.profile_run.proofs.PutLemmas.{below-next, files-append, no_calls, one_listed, one_put, one_told}
use Rattle.profile_run.proofs.PutLemmas.{refused_by_more, wants_nothing}
use Rattle.profile_run.proofs.PuttingLemmas as putting
use Rattle.byte_text.specs.Memory.{memory}

pub on_ok : {A : Type 0} {B : Type 0} (r : Result A RunFault) → B → OnOk r B
on_ok (Ok a) b = b
on_ok (Err fault) b = tt

-- what a recorder leaves once a thread's rows were taken
pub record Takes (r s : Recording) (t : ThreadNo) (rows : Listed) : Type 0 where
  pub stands : (syms : SymbolMap) (st : Stack) (since : List EventOnStack) → Stands syms st since (account r t)
      → AreRowsOf syms since rows
  pub whole : AreWhole rows
  pub own : account s t ≡ account_after_cut (account r t)
  pub bounds : (steps : ℕ) → SumsWithin steps (account r t) → SumsWithin steps (account s t)
  pub others : (other : ThreadNo) → other.0 ≢ t.0 → ledger s other ≡ ledger r other
  pub known : (other : ThreadNo) → knows s other ≡ knows r other

module _ {W : Type 0} (m : Meaning W) (plan : Plan W) (h : PartHead) (r : Recording) (w : W) (t : ThreadNo)
    (is : IsPutting m plan t.0 h r w) where
  abbrev calls_at : List Call
  calls_at =
      thread_calls (rows_of plan.guest.syms) (head_of_run plan.guest) h.part h.trigger t.0 (events_on_stack_of t.0 plan.segment)

  abbrev before : List Call
  before = calls_below plan h.part h.trigger t.0

  abbrev after : List Call
  after = calls_below plan h.part h.trigger (t.0 + 1)

  abbrev the_head : PartHead
  the_head = head_of (head_of_run plan.guest) h.part h.trigger t.0

  abbrev the_rows : Listed
  the_rows = rows_of plan.guest.syms (events_on_stack_of t.0 plan.segment)

  state : w ≡ after_calls m plan.guest.syms plan.first (plan.before ++ before)
  state = is.watch.state

  -- the files with those of the thread
  files_next : files_after m plan after
      ≡ files_after m plan before
      ++ puts m plan.guest.syms plan.guest.options.base
      (after_calls m plan.guest.syms plan.first (plan.before ++ before)) calls_at
  files_next =
      ap (files_after m plan) (below-next m plan h.part h.trigger t.0)
      ∙ files-append m plan h.part h.trigger before calls_at

  -- memory was wanting
  pub wanting : (items : List PartFile) (now : Shelf)
      → HasPut plan.guest.options.base (files_after m plan before) plan.folder now items
      → PutWants (files_after m plan after) plan.folder now
  wanting items now put =
      wants_nothing (files_after m plan after) None plan.folder now
      (record {
        done = files_after m plan before;
        front = record {
          rest = puts m plan.guest.syms plan.guest.options.base
              (after_calls m plan.guest.syms plan.first (plan.before ++ before)) calls_at;
          whole = files_next;
          follows = tt;
        };
        holds = put.files;
      })
      put.calls

  -- a thread without an event
  pub no_part : (parts : Parts) (now : Shelf) → parts.head ≡ h
      → HasPut plan.guest.options.base (files_after m plan before) plan.folder now parts.put.items
      → (account r t).had_event ≡ false → ArePut m plan h.part h.trigger (t.0 + 1) parts r w now
  no_part parts now same put none =
      let quiet = putting.none_there m plan t.0 h r w is t refl none in
      record {
        putting =
            subst (λ k. IsPutting m plan (t.0 + 1) k r w) (sym same)
            (putting.none_next m plan t.0 h r w is t refl quiet);
        put =
            subst (λ cs. HasPut plan.guest.options.base (files_after m plan cs) plan.folder now parts.put.items)
            (sym (below-next m plan h.part h.trigger t.0
            ∙ ap (λ cs. before ++ cs) (no_calls m plan h.part h.trigger t.0 quiet) ∙ append-nil before))
            put;
        part = ap (λ (k : PartHead). k.part) same;
        trigger = ap (λ (k : PartHead). k.trigger) same;
      }

  module _ (some : (account r t).had_event ≡ true) where
    own_some : steps_of_thread t.0 plan.segment ≢ []
    own_some = putting.some_there m plan t.0 h r w is t refl some

    known : knows r t ≡ true
    known = putting.known_there m plan t.0 h r w is t refl some

    next : after ≡ before ++ Writes the_head the_rows ∷ []
    next = putting.next_calls m plan t.0 h r w is t refl own_some

    -- the files with that of the part
    pub files_more : files_after m plan after
        ≡ files_after m plan before
        ++ (part_name plan.guest.options.base h.part t.0, m.text w the_head the_rows plan.guest.syms) ∷ []
    files_more =
        ap (files_after m plan) next
        ∙ files-append m plan h.part h.trigger before (Writes the_head the_rows ∷ [])
        ∙ ap (λ u. files_after m plan before
        ++ (part_name plan.guest.options.base h.part t.0, m.text u the_head the_rows plan.guest.syms) ∷ [])
        (sym state)

    -- the put was refused
    abbrev pub refused : (items : List PartFile) (now new : Shelf)
        → HasPut plan.guest.options.base (files_after m plan before) plan.folder now items
        → SameBut (part_name plan.guest.options.base h.part t.0) now.files new.files
        → RefusalLeaves (files_after m plan after) (Some (part_name plan.guest.options.base h.part t.0)) plan.folder.files
        new.files
    refused items now new put same = record {
      done = files_after m plan before;
      front = record {
        rest = (part_name plan.guest.options.base h.part t.0, m.text w the_head the_rows plan.guest.syms) ∷ [];
        whole = files_more;
        follows = refl;
      };
      holds = subst (λ mid. SameBut (part_name plan.guest.options.base h.part t.0) mid new.files) put.files same;
    }

    module _ (places : KnowsPlaces plan.guest.syms) where
      -- the rows are of the map
      are_known : AreKnown plan.guest.syms the_rows
      are_known =
          rows_known plan.guest.syms places (events_on_stack_of t.0 plan.segment)
          (λ x there.
          (let y = from_map (λ (z : Step). z.on_stack) (steps_of_thread t.0 plan.segment) x there in
          let within = in_filter (λ (z : Step). thread_of z == t.0) plan.segment y.0 y.1 in
          let has = is.stacks y.0 within.0 in
          subst (λ s. AreKnownIn plan.guest.syms places s)
          (sym (ap (λ (z : EventOnStack). z.stack) (sym y.2) ∙ has.2))
          (stack_known plan.guest.syms places has.0 has.1)))

      module _ (s : Recording) (rows : Listed) (taken : Takes r s t rows) where
        rows_same : rows ≡ the_rows
        rows_same =
            let has = is.known t known in
            rows_are plan.guest.syms (events_on_stack_of t.0 plan.segment) rows
            (taken.stands plan.guest.syms (stack_at plan.guest.syms plan.past t.0 has.first)
            (events_on_stack_of t.0 plan.segment)
            (subst (λ ss. Stands plan.guest.syms (stack_at plan.guest.syms plan.past t.0 has.first)
            (events_on_stack_of t.0 ss) (account r t))
            (putting.since_now t.0 plan.segment) has.stands))
            taken.whole

        head_same : head_of h h.part h.trigger t.0 ≡ the_head
        head_same = is.head.same h.part h.trigger t.0

        -- the text is that of the part
        text_same : (text : List ℕ) → text ≡ m.text w (head_of h h.part h.trigger t.0) rows plan.guest.syms
            → text ≡ m.text w the_head the_rows plan.guest.syms
        text_same text written = written ∙ (λ i. m.text w (head_same i) (rows_same i) plan.guest.syms)

        -- its put failed
        pub fails : (items : List PartFile) (now new : Shelf)
            → HasPut plan.guest.options.base (files_after m plan before) plan.folder now items
            → SameBut (part_name plan.guest.options.base h.part t.0) now.files new.files
            → (text : List ℕ) → text ≡ m.text w (head_of h h.part h.trigger t.0) rows plan.guest.syms
            → TellsMore now.calls (Put (part_name plan.guest.options.base h.part t.0) text (Err put.Failed) ∷ [])
            new.calls
            → PutFails (files_after m plan after) (part_name plan.guest.options.base h.part t.0) plan.folder new
        fails items now new put_ same text written told =
            let call : List ℕ → List ToldCall = λ t_.
            Put (part_name plan.guest.options.base h.part t.0) t_ (Err put.Failed) ∷ [] in record {
              refused = refused items now new put_ same;
              text = m.text w the_head the_rows plan.guest.syms;
              behind = [];
              next = refl;
              calls =
                  subst (λ t_. TellsMore plan.folder.calls (puts_of (files_after m plan before) ++ call t_) new.calls)
                  (text_same text written)
                  (tells_then plan.folder.calls now.calls new.calls (puts_of (files_after m plan before)) (call text)
                  put_.calls told);
            }

        -- memory was wanting for it
        pub wants : (items : List PartFile) (now new : Shelf)
            → HasPut plan.guest.options.base (files_after m plan before) plan.folder now items
            → SameBut (part_name plan.guest.options.base h.part t.0) now.files new.files
            → (text : List ℕ) → text ≡ m.text w (head_of h h.part h.trigger t.0) rows plan.guest.syms
            → (calls : List ToldCall) → IsUnput (part_name plan.guest.options.base h.part t.0) text calls
            → TellsMore now.calls calls new.calls → PutWants (files_after m plan after) plan.folder new
        wants items now new put_ same text written calls unput told = record {
          name = Some (part_name plan.guest.options.base h.part t.0);
          refused = refused items now new put_ same;
          last = calls;
          unput =
              subst (λ t_. IsUnput (part_name plan.guest.options.base h.part t.0) t_ calls) (text_same text written) unput;
          calls =
              tells_then plan.folder.calls now.calls new.calls (puts_of (files_after m plan before)) calls put_.calls
              told;
        }

        -- the part may be written
        pub can_write : (see : W → Event → List ℕ → Option ℕ → List ThreadNo → SymbolMap → Type 0)
            (write : W → PartHead → Listed → SymbolMap → Type 0) (fresh : W → SymbolMap → Type 0)
            → ((syms : SymbolMap) (f : W) (calls : List Call) (call : Call) → fresh f syms
            → AreWatched syms (calls ++ call ∷ []) → Can see write syms (after_calls m syms f calls) call)
            → fresh plan.first plan.guest.syms → write w (head_of h h.part h.trigger t.0) rows plan.guest.syms
        can_write see write fresh lasts is_fresh =
            let told : write (after_calls m plan.guest.syms plan.first (plan.before ++ before)) the_head the_rows
            plan.guest.syms =
            lasts plan.guest.syms plan.first (plan.before ++ before) (Writes the_head the_rows) is_fresh
            (putting.write_fits m plan t.0 h r w is t refl own_some are_known) in
            subst (λ u. write u (head_of h h.part h.trigger t.0) rows plan.guest.syms) (sym state)
            (subst (λ k. write (after_calls m plan.guest.syms plan.first (plan.before ++ before)) k rows
            plan.guest.syms) (sym head_same)
            (subst (λ rs. write (after_calls m plan.guest.syms plan.first (plan.before ++ before)) the_head rs
            plan.guest.syms) (sym rows_same) told))

        module _ (v : W) (told : v ≡ m.after_part w (head_of h h.part h.trigger t.0) rows plan.guest.syms)
            (k : PartHead) (same : k ≡ head_of h h.part h.trigger t.0) where
          -- the puts go on with the next thread
          pub putting_next : IsPutting m plan (t.0 + 1) k s v
          putting_next =
              putting.put_next m plan t.0 h r w is t refl k s v known own_some (ap (λ (j : PartHead). j.part) same)
              (ap (λ (j : PartHead). j.trigger) same)
              (record {
                same = λ part trigger thread.
                    ap (λ (j : PartHead). head_of j part trigger thread) same ∙ is.head.same part trigger thread;
              })
              taken.own
              (taken.bounds (length plan.past) (is.known t known).within)
              taken.others taken.known are_known
              (told ∙ (λ i. m.after_part w (head_same i) (rows_same i) plan.guest.syms))

          module _ (items : List PartFile) (now new : Shelf)
              (put : HasPut plan.guest.options.base (files_after m plan before) plan.folder now items)
              (text : List ℕ) (written : text ≡ m.text w (head_of h h.part h.trigger t.0) rows plan.guest.syms)
              (len : ℕ) (length_is : len ≡ length text)
              (holds : new.files ≡ option_map
              (λ files. with_file files (part_name plan.guest.options.base h.part t.0) text) now.files)
              (calls : TellsMore now.calls
              (Put (part_name plan.guest.options.base h.part t.0) text (Ok tt) ∷ []) new.calls) where
            all : files_after m plan after
                ≡ files_after m plan before ++ (part_name plan.guest.options.base h.part t.0, text) ∷ []
            all =
                files_more
                ∙ ap (λ tx. files_after m plan before ++ (part_name plan.guest.options.base h.part t.0, tx) ∷ [])
                (sym (text_same text written))

            put_files : new.files ≡ option_map (with_files (files_after m plan after)) plan.folder.files
            put_files =
                one_put (files_after m plan before) (part_name plan.guest.options.base h.part t.0, text)
                plan.folder.files now.files new.files put.files holds
                ∙ ap (λ fs. option_map (with_files fs) plan.folder.files) (sym all)

            put_calls : TellsMore plan.folder.calls (puts_of (files_after m plan after)) new.calls
            put_calls =
                subst (λ fs. TellsMore plan.folder.calls (puts_of fs) new.calls) (sym all)
                (one_told (files_after m plan before) (part_name plan.guest.options.base h.part t.0, text)
                plan.folder.calls now.calls new.calls put.calls calls)

            has_put : (listed : List PartFile)
                → listed ≡ items ++ record { part = h.part; thread = t; len = len } ∷ []
                → HasPut plan.guest.options.base (files_after m plan after) plan.folder new listed
            has_put listed more = record {
              files = put_files;
              calls = put_calls;
              listed =
                  subst (λ ps.
                  map {B = List ℕ × ℕ} (λ p. (part_name plan.guest.options.base p.part p.thread.0, p.len)) ps
                  ≡ map {B = List ℕ × ℕ} (λ f. (f.0, length f.1)) (files_after m plan after)) (sym more)
                  (subst (λ fs. map {B = List ℕ × ℕ} (λ p. (part_name plan.guest.options.base p.part p.thread.0, p.len))
                  (items ++ record { part = h.part; thread = t; len = len } ∷ [])
                  ≡ map {B = List ℕ × ℕ} (λ f. (f.0, length f.1)) fs) (sym all)
                  (one_listed plan.guest.options.base (files_after m plan before) items
                  (record { part = h.part; thread = t; len = len }) text put.listed length_is));
            }

            -- it was put, and listed where memory sufficed
            pub puts_one : {A : Type 0} (result : Result A RunFault) (parts : Parts) (faults now_faults : ℕ)
                → parts.head ≡ k
                → OnOk result (parts.put.items ≡ items ++ record { part = h.part; thread = t; len = len } ∷ [])
                → IfErr result (λ fault. fault ≡ (OutOfMemory memory))
                → PutsThreads m plan h.part h.trigger (t.0 + 1) faults result parts s v new now_faults
            puts_one (Ok a) parts faults now_faults head more other = record {
              putting = subst (λ j. IsPutting m plan (t.0 + 1) j s v) (sym head) putting_next;
              put = has_put parts.put.items more;
              part = ap (λ (j : PartHead). j.part) (head ∙ same);
              trigger = ap (λ (j : PartHead). j.trigger) (head ∙ same);
            }
            puts_one (Err fault) parts faults now_faults head more other =
                subst (λ f. RefusedBy plan.guest.options.base h.part (files_after m plan after) plan.folder faults f
                new now_faults) (sym other)
                (wants_nothing (files_after m plan after) None plan.folder new
                (record {
                  done = files_after m plan after;
                  front = record { rest = []; whole = sym (append-nil (files_after m plan after)); follows = tt };
                  holds = put_files;
                })
                put_calls)

-- ---- one thread after another

module _ {W : Type 0} (m : Meaning W) (plan : Plan W) (p : ℕ) (u : Trigger) where
  -- more threads have more files
  files_beyond : (n k : ℕ) → (more : List Named)
      × (files_after m plan (calls_below plan p u (n + k)) ≡ files_after m plan (calls_below plan p u n) ++ more)
  files_beyond n zero = (
    [],
    ap (λ j. files_after m plan (calls_below plan p u j)) (same n)
        ∙ sym (append-nil (files_after m plan (calls_below plan p u n))),
  )
    where
      same : (j : ℕ) → j + 0 ≡ j
      same j = omega arith
  files_beyond n (suc k) =
      let rest = files_beyond n k in
      let next =
      puts m plan.guest.syms plan.guest.options.base
      (after_calls m plan.guest.syms plan.first (plan.before ++ calls_below plan p u (n + k)))
      (thread_calls (rows_of plan.guest.syms) (head_of_run plan.guest) p u (n + k) (events_on_stack_of (n + k) plan.segment)) in (
        rest.0 ++ next,
        ap (λ j. files_after m plan (calls_below plan p u j)) (one_more n k)
            ∙ ap (files_after m plan) (below-next m plan p u (n + k))
            ∙ files-append m plan p u (calls_below plan p u (n + k))
            (thread_calls (rows_of plan.guest.syms) (head_of_run plan.guest) p u (n + k)
            (events_on_stack_of (n + k) plan.segment))
            ∙ ap (λ fs. fs ++ next) rest.1
            ∙ append_assoc (files_after m plan (calls_below plan p u n)) rest.0 next,
      )
    where
      one_more : (i j : ℕ) → i + suc j ≡ (i + j) + 1
      one_more i j = omega arith

  -- a refusal on the way is one of the whole
  pub refused_before : (n all before now_faults : ℕ) (fault : RunFault) (new : Shelf) → n ≤ all
      → RefusedBy plan.guest.options.base p (files_after m plan (calls_below plan p u n)) plan.folder before fault new
      now_faults
      → RefusedBy plan.guest.options.base p (files_after m plan (calls_below plan p u all)) plan.folder before fault new
      now_faults
  refused_before n all before now_faults fault new le refused =
      let more = files_beyond n (all - n) in
      subst (λ fs. RefusedBy plan.guest.options.base p fs plan.folder before fault new now_faults)
      (sym (ap (λ j. files_after m plan (calls_below plan p u j)) (there n all le) ∙ more.1))
      (refused_by_more plan.guest.options.base p (files_after m plan (calls_below plan p u n)) more.0 plan.folder before
      fault new now_faults refused)
    where
      there : (i j : ℕ) → i ≤ j → j ≡ i + (j - i)
      there i j le_ = omega (arith, le_)

  module _ (opts : Options) (asked : plan.guest.options ≡ opts) (n : ℕ) (parts : Parts) (r : Recording) (w : W)
      (now : Shelf) (before : ArePut m plan p u n parts r w now) where
    -- the puts so far, as the next thread asks for them
    pub have_put : HasPut opts.base (files_after m plan (calls_below plan parts.head.part parts.head.trigger n))
        plan.folder now parts.put.items
    have_put =
        let P : List ℕ → ℕ → Trigger → Type 0 = λ base part trigger.
        HasPut base (files_after m plan (calls_below plan part trigger n)) plan.folder now parts.put.items in
        subst (λ base. P base parts.head.part parts.head.trigger) (ap (λ (o : Options). o.base) asked)
        (subst (λ part. P plan.guest.options.base part parts.head.trigger) (sym before.part)
        (subst (λ trigger. P plan.guest.options.base p trigger) (sym before.trigger) before.put))

    -- what the next one answers is of the same part
    pub went : {A : Type 0} (result : Result A RunFault) (faults now_faults : ℕ) (new_parts : Parts) (s : Recording)
        (v : W) (new : Shelf)
        → PutsThreads m plan parts.head.part parts.head.trigger (n + 1) faults result new_parts s v new now_faults
        → PutsThreads m plan p u (n + 1) faults result new_parts s v new now_faults
    went result faults now_faults new_parts s v new puts_ =
        let P : ℕ → Trigger → Type 0 = λ part trigger.
        PutsThreads m plan part trigger (n + 1) faults result new_parts s v new now_faults in
        subst (λ part. P part u) before.part (subst (λ trigger. P parts.head.part trigger) before.trigger puts_)

-- Threads without an event, one after another, have no parts.
abbrev pub AreQuietIn : Recording → ℕ → ℕ → Type 0
AreQuietIn r n k = (t : ThreadNo) → n ≤ t.0 → t.0 < n + k → (account r t).had_event ≡ false

module _ {W : Type 0} (m : Meaning W) (plan : Plan W) (r : Recording) (w : W) where
  abbrev AreQuiet : ℕ → ℕ → Type 0
  AreQuiet n k = AreQuietIn r n k

  quiet_there : (k n : ℕ) (h : PartHead) → AreQuiet n (suc k) → IsPutting m plan n h r w → steps_of_thread n plan.segment ≡ []
  quiet_there k n h quiet is =
      putting.none_there m plan n h r w is (record { 0 = n }) refl
      (quiet (record { 0 = n }) (omega arith) (omega arith))

  quiet_rest : (k n : ℕ) → AreQuiet n (suc k) → AreQuiet (n + 1) k
  quiet_rest k n quiet t low high = quiet t (omega (arith, low)) (omega (arith, high))

  pub quiet_putting : (k n : ℕ) (h : PartHead) → AreQuiet n k → IsPutting m plan n h r w
      → IsPutting m plan (n + k) h r w
  quiet_putting zero n h quiet is =
      let same : n ≡ n + 0 = omega arith in subst (λ j. IsPutting m plan j h r w) same is
  quiet_putting (suc k) n h quiet is =
      let same : (n + 1) + k ≡ n + suc k = omega arith in
      subst (λ j. IsPutting m plan j h r w) same
      (quiet_putting k (n + 1) h (quiet_rest k n quiet)
      (putting.none_next m plan n h r w is (record { 0 = n }) refl (quiet_there k n h quiet is)))

  pub quiet_put : (p : ℕ) (u : Trigger) (k n : ℕ) (parts : Parts) (now : Shelf) → AreQuiet n k
      → ArePut m plan p u n parts r w now → ArePut m plan p u (n + k) parts r w now
  quiet_put p u zero n parts now quiet are =
      let same : n ≡ n + 0 = omega arith in subst (λ j. ArePut m plan p u j parts r w now) same are
  quiet_put p u (suc k) n parts now quiet are =
      let same : (n + 1) + k ≡ n + suc k = omega arith in
      let none = quiet_there k n parts.head quiet are.putting in
      subst (λ j. ArePut m plan p u j parts r w now) same
      (quiet_put p u k (n + 1) parts now (quiet_rest k n quiet) (record {
        putting = putting.none_next m plan n parts.head r w are.putting (record { 0 = n }) refl none;
        put =
            subst (λ cs. HasPut plan.guest.options.base (files_after m plan cs) plan.folder now parts.put.items)
            (sym (below-next m plan p u n ∙ ap (λ cs. calls_below plan p u n ++ cs) (no_calls m plan p u n none)
            ∙ append-nil (calls_below plan p u n)))
            are.put;
        part = are.part;
        trigger = are.trigger;
      }))

pub quiet_can : {W : Type 0} (m : Meaning W) (fresh : W → SymbolMap → Type 0) (syms : SymbolMap) (opts : Options)
    (k n : ℕ) (h : PartHead) (r : Recording) (w : W) → AreQuietIn r n k → CanPut m fresh syms opts n h r w
    → CanPut m fresh syms opts (n + k) h r w
quiet_can m fresh syms opts k n h r w quiet can = record {
  plan = can.plan;
  is_fresh = can.is_fresh;
  symbols = can.symbols;
  options = can.options;
  knows = can.knows;
  putting = quiet_putting m can.plan r w k n h quiet can.putting;
}

rose_since : (before mid now_faults : ℕ) → before ≤ mid → Rose mid now_faults → Rose before now_faults
rose_since before mid now_faults le rose = by (2 ^ 64 - 1) rose
  where
    by : (most : ℕ) → min (mid + 1) most ≤ now_faults → min (before + 1) most ≤ now_faults
    by most h = omega (arith, le, h)

-- a refusal shows in the count of faults before it
pub refused_since : (base : List ℕ) (part : ℕ) (files : List Named) (old : Shelf) (before mid : ℕ)
    (fault : RunFault) (new : Shelf) (now_faults : ℕ) → before ≤ mid
    → RefusedBy base part files old mid fault new now_faults → RefusedBy base part files old before fault new now_faults
refused_since base part files old since mid (PutFault number thread) new now_faults le r =
    (r.0, rose_since since mid now_faults le r.1, r.2)
refused_since base part files old since mid (OutOfMemory _) new now_faults le r = r
refused_since base part files old since mid GuestFull new now_faults le r = r
refused_since base part files old since mid (ArgsTooLong len) new now_faults le r = r
refused_since base part files old since mid OutFault new now_faults le r = r

-- a fault that is answered on
pub stopped : {W A : Type 0} (m : Meaning W) (plan : Plan W) (p : ℕ) (u : Trigger) (n : ℕ) (result : Result A RunFault)
    (fault : RunFault) (faults now_faults : ℕ) (parts : Parts) (r : Recording) (w : W) (new : Shelf)
    → IsErrAnd result (λ f. f ≡ fault)
    → RefusedBy plan.guest.options.base p (files_after m plan (calls_below plan p u n)) plan.folder faults fault new
    now_faults
    → PutsThreads m plan p u n faults result parts r w new now_faults
stopped m plan p u n (Ok a) fault faults now_faults parts r w new is refusal = absurd is
stopped m plan p u n (Err f) fault faults now_faults parts r w new is refusal =
    subst (λ e. RefusedBy plan.guest.options.base p (files_after m plan (calls_below plan p u n)) plan.folder faults e
    new now_faults) (sym is) refusal
