-- A run that is refused has put out a front of all that its trace puts out.
use Rattle.std.proofs.Common.{◌≡◌, ℕ, ◌+◌, ◌-◌, ◌^◌, ◌≤◌, ◌==◌, ◌⊎◌, inl, inr, Bool, true, false, List, [], ◌∷◌}
use Rattle.std.proofs.Common.{◌++◌, length}
use Rattle.std.proofs.Common.{min, Option, None, Some, Err, refl, ap, sym, subst, ◌∙◌}
use Rattle.std.proofs.Common.{append_assoc, arith}
use Rattle.std.specs.Prelude.{if◌then◌else◌}
use Rattle.std.proofs.lemmas.List.{append-nil, map-append}
use Rattle.std.proofs.lemmas.List.Concat.{flat_map-append}
use Rattle.std.proofs.Math.Nat.{le-min, min-le_left, min-le_right}
use Rattle.outside.specs.Files.{Rose}
use Rattle.outside.specs.Outside.{Leaves, Log, Named, Outside, Output, Shelf, Tells, puts_of, shelf}
use Rattle.outside.specs.Journal.{AreWritten, AreWrittenTo, Call as ToldCall, Put, TellsMore, Wrote}
use Rattle.outside.specs.declared.folder.PutError.TheVariants as put
use Rattle.outside.specs.declared.sink.WriteError.{WriteError}
use Rattle.outside.specs.declared.sink.WriteError.TheVariants as write
use Rattle.profile_run.proofs.Others.{tells_then}
use Rattle.event_costs.specs.Runs.{Run}
use Rattle.outside.specs.Write.{taken_more}
use Rattle.event_costs.specs.declared.numbers.ThreadNo.{ThreadNo}
use Rattle.guest_sched.specs.Engine.{Engine}
use Rattle.part_dump.specs.Files.{IsFront, part_name}
use Rattle.part_dump.specs.Watching.{Meaning, after_calls, puts}
use Rattle.profile_run.specs.Program.{Fits, Program}
use Rattle.profile_run.specs.Parts.{Writing, calls_of, calls_so_far, watched_parts}
use Rattle.profile_run.specs.Runs.{AreUnput, EndsPart, HasDoneSome, IsCutShort, IsFrontOf}
use Rattle.profile_run.specs.Trace.{IsTraceOf, Makes, Stop, RunStep, bytes_to, next_step, piece_to, pieces, sent_bytes, start}
use Rattle.profile_run.specs.Trace.{steps_of}
use Rattle.profile_run.specs.inner.Standing.{Fails, Grows, HasPut, HasSent, Job, RefusedBy, Sends, SendsFront, files_at}
use Rattle.profile_run.specs.declared.run_end.PartFile.{PartFile}
use Rattle.profile_run.specs.declared.run_fault.RunFault.{RunFault}
use Rattle.profile_run.specs.declared.run_fault.RunFault.TheVariants.{ArgsTooLong, GuestFull, OutFault, OutOfMemory}
use Rattle.profile_run.specs.declared.run_fault.RunFault.TheVariants.{PutFault}
use Rattle.profile_run.proofs.CallLemmas.{calls_front, puts-append, whole_front}
use Rattle.profile_run.proofs.PutLemmas.{next_more, unput_none, unput_on}
use Rattle.profile_run.proofs.TraceLemmas.{goes_on}
use Rattle.byte_text.specs.Memory.{memory}

-- a count that rose from a later one rose from an earlier one
pub rose_from : (a b c : ℕ) → a ≤ b → Rose b c → Rose a c
rose_from a b c le rose =
    let low = min-le_left (a + 1) (2 ^ 64 - 1) in
    let high = min-le_right (a + 1) (2 ^ 64 - 1) in
    let both : min (a + 1) (2 ^ 64 - 1) ≤ min (b + 1) (2 ^ 64 - 1) =
    le-min {k = min (a + 1) (2 ^ 64 - 1)} {a = b + 1} {b = 2 ^ 64 - 1} (omega (arith, low, le)) high in
    omega (arith, both, rose)

-- one after another
pub grown : (a b c : Outside) → Grows a b → Grows b c → Grows a c
grown a b c f g = record {
  loads = g.loads ∙ f.loads;
  puts = omega (arith, f.puts, g.puts);
  out = omega (arith, f.out, g.out);
  err = omega (arith, f.err, g.err);
}

-- bytes that are taken one after another
pub more_taken : (t : Option (List ℕ)) (a b : List ℕ) → taken_more (taken_more t a) b ≡ taken_more t (a ++ b)
more_taken None a b = refl
more_taken (Some xs) a b = ap Some (append_assoc xs a b)

front_more : (done : List Named) (next : Option (List ℕ)) (files more whole : List Named) → whole ≡ files ++ more
    → IsFront done next files → IsFront done next whole
front_more done next files more whole is f = record {
  rest = f.rest ++ more;
  whole = is ∙ ap (λ fs. fs ++ more) f.whole ∙ append_assoc done f.rest more;
  follows = next_more next f.rest more f.follows;
}

pub front_all : (files : List Named) → IsFront files None files
front_all files = record { rest = []; whole = sym (append-nil files); follows = tt }

pub bytes_all : (bytes : List ℕ) → IsFrontOf bytes bytes
bytes_all bytes = ([], sym (append-nil bytes))

sent-append : (descriptor : ℕ) (xs ys : List RunStep)
    → sent_bytes descriptor (xs ++ ys) ≡ sent_bytes descriptor xs ++ sent_bytes descriptor ys
sent-append descriptor xs ys = flat_map-append (λ (x : RunStep). bytes_to descriptor x.output) xs ys

pub sent-push : (descriptor : ℕ) (xs : List RunStep) (x : RunStep)
    → sent_bytes descriptor (xs ++ x ∷ []) ≡ sent_bytes descriptor xs ++ bytes_to descriptor x.output
sent-push descriptor xs x =
    sent-append descriptor xs (x ∷ [])
    ∙ ap (λ bs. sent_bytes descriptor xs ++ bs) (append-nil (bytes_to descriptor x.output))

sent_front : (descriptor : ℕ) (taken : List ℕ) (past rest : List RunStep) → IsFrontOf taken (sent_bytes descriptor past)
    → IsFrontOf taken (sent_bytes descriptor (past ++ rest))
sent_front descriptor taken past rest f = (
  f.0 ++ sent_bytes descriptor rest,
  sent-append descriptor past rest ∙ ap (λ bs. bs ++ sent_bytes descriptor rest) f.1
      ∙ append_assoc taken f.0 (sent_bytes descriptor rest),
)

-- a front of what a step outputs
bytes_front : (descriptor to : ℕ) (count bytes : List ℕ) → IsFrontOf count bytes
    → IsFrontOf (bytes_to descriptor (Some (to, count))) (bytes_to descriptor (Some (to, bytes)))
bytes_front descriptor to count bytes f = (
  bytes_to descriptor (Some (to, f.0)),
  ap (λ bs. bytes_to descriptor (Some (to, bs))) f.1 ∙ by (to == descriptor) count f.0,
)
  where
    by : (b : Bool) (xs ys : List ℕ)
        → (if b then xs ++ ys else []) ≡ (if b then xs else []) ++ (if b then ys else [])
    by true xs ys = refl
    by false xs ys = refl

-- the bytes of the steps before, and a front of the last one's
last_front : (descriptor to : ℕ) (count bytes : List ℕ) (past : List RunStep) (last : RunStep)
    → last.output ≡ Some (to, bytes) → IsFrontOf count bytes
    → IsFrontOf (sent_bytes descriptor past ++ bytes_to descriptor (Some (to, count))) (sent_bytes descriptor (past ++ last ∷ []))
last_front descriptor to count bytes past last is f =
    let more = bytes_front descriptor to count bytes f in (
      more.0,
      sent-push descriptor past last ∙ ap (λ o. sent_bytes descriptor past ++ bytes_to descriptor o) is
          ∙ ap (λ bs. sent_bytes descriptor past ++ bs) more.1
          ∙ sym (append_assoc (sent_bytes descriptor past) (bytes_to descriptor (Some (to, count))) more.0),
    )

module _ {W : Type 0} (m : Meaning W) (guest : Program) (first : W) where
  abbrev writing : Writing
  writing = watched_parts m first guest

  abbrev base : List ℕ
  base = guest.options.base

  -- all files of a run begin with those that were put up to some of its steps
  files_whole : (past rest : List RunStep) (tried : Option (ThreadNo × ℕ))
      → (more : List Named)
      × (writing.whole (steps_of (past ++ rest)) tried ≡ files_at m guest first (steps_of past) ++ more)
  files_whole past rest tried =
      let front = whole_front guest (steps_of past) (steps_of rest) tried in
      let cs = calls_so_far guest (steps_of past) in (
        puts m guest.syms base (after_calls m guest.syms first cs) front.rest,
        ap (λ xs. puts m guest.syms base first (calls_of guest xs tried))
            (map-append (λ (y : RunStep). y.step) past rest)
            ∙ ap (puts m guest.syms base first) front.is ∙ puts-append m guest.syms base first cs front.rest,
      )

  -- and so do those up to one step more
  pub files_more : (past : List RunStep) (last : RunStep)
      → (more : List Named)
      × (files_at m guest first (steps_of (past ++ last ∷ [])) ≡ files_at m guest first (steps_of past) ++ more)
  files_more past last =
      let front = calls_front guest (steps_of past) (last.step ∷ []) in
      let cs = calls_so_far guest (steps_of past) in (
        puts m guest.syms base (after_calls m guest.syms first cs) front.rest,
        ap (λ xs. puts m guest.syms base first (calls_so_far guest xs))
            (map-append (λ (y : RunStep). y.step) past (last ∷ []))
            ∙ ap (puts m guest.syms base first) front.is ∙ puts-append m guest.syms base first cs front.rest,
      )

  -- a trace that goes on behind these steps, and whose files begin with these
  pub record Leads (past : List RunStep) (files : List Named) : Type 0 where
    pub trace : List RunStep
    pub stop : Stop
    pub is : IsTraceOf guest trace stop
    pub later : List RunStep
    pub steps : trace ≡ past ++ later
    pub more : List Named
    pub whole : writing.whole (steps_of trace) stop.tried ≡ files ++ more

  pub leads_on : (past : List RunStep) (machine : Engine) → Run (next_step guest) (start guest) past (machine, past)
      → length past ≤ guest.options.budget → Leads past (files_at m guest first (steps_of past))
  leads_on past machine run few =
      let w = goes_on guest past machine run few in
      let more = files_whole past w.rest w.stop.tried in
      record {
        trace = past ++ w.rest;
        stop = w.stop;
        is = w.is;
        later = w.rest;
        steps = refl;
        more = more.0;
        whole = more.1;
      }

  -- what was put out of a front of a run is a front of what its trace puts out
  pub short : (past : List RunStep) (files : List Named) (output : Output) → Leads past files
      → IsFront output.files output.refused files → IsFrontOf output.out (sent_bytes 1 past)
      → IsFrontOf output.err (sent_bytes 2 past) → IsCutShort writing guest output
  short past files output l put out err = record {
    trace = l.trace;
    stop = l.stop;
    is = l.is;
    cut = record {
      files =
          front_more output.files output.refused files l.more (writing.whole (steps_of l.trace) l.stop.tried)
          l.whole put;
      out = subst (λ t. IsFrontOf output.out (sent_bytes 1 t)) (sym l.steps) (sent_front 1 output.out past l.later out);
      err = subst (λ t. IsFrontOf output.err (sent_bytes 2 t)) (sym l.steps) (sent_front 2 output.err past l.later err);
    };
  }

-- all that was written, and nothing was refused
pub all_written : (error : WriteError) (pieces : List (List ℕ)) (writes : List Wrote) → AreWritten pieces writes
    → AreWrittenTo error pieces [] writes
all_written error pieces writes are = record {
  before = writes;
  last = [];
  together = sym (append-nil writes);
  written = are;
  refused = refl;
}

-- ---- each refusal

module _ {W : Type 0} (m : Meaning W) (job : Job W) (fits : Fits job.guest) (past : List RunStep) where
  abbrev its : Writing
  its = watched_parts m job.first job.guest

  -- some first files were put, and all pieces of the steps written
  some_done : (files done rest : List Named) (unput : List ToldCall) (old now : Outside)
      → Leads m job.guest job.first past files → files ≡ done ++ rest → AreUnput rest unput
      → (sent_ : HasSent past old now)
      → HasDoneSome its job.guest
      (record { calls = puts_of done ++ unput; out = sent_.out_told.0; err = sent_.err_told.0 })
  some_done files done rest unput old now l is are sent_ = record {
    trace = l.trace;
    stop = l.stop;
    is = l.is;
    done = done;
    rest = rest ++ l.more;
    files = l.whole ∙ ap (λ fs. fs ++ l.more) is ∙ append_assoc done rest l.more;
    unput = unput;
    are_unput = unput_on rest l.more unput are;
    calls = refl;
    past = past;
    last = None;
    error = write.OutOfMemory memory;
    out = all_written (write.OutOfMemory memory) (pieces 1 past) sent_.out_told.0 sent_.out_told.1;
    err = all_written (write.OutOfMemory memory) (pieces 2 past) sent_.err_told.0 sent_.err_told.1;
    front = (l.later, l.steps);
  }

  -- memory was wanting
  pub no_memory : (machine : Engine) → Run (next_step job.guest) (start job.guest) past (machine, past)
      → length past ≤ job.guest.options.budget → (parts : List PartFile) (now : Outside)
      → HasPut job.guest.options.base (files_at m job.guest job.first (steps_of past)) (shelf job.old) (shelf now) parts
      → HasSent past job.old now → Fails m job (OutOfMemory memory) now
  no_memory machine run few parts now put sent_ =
      let files = files_at m job.guest job.first (steps_of past) in
      let leads = leads_on m job.guest job.first past machine run few in
      let output : Output = record { files = files; refused = None; out = sent_bytes 1 past; err = sent_bytes 2 past } in
      record {
        output = output;
        runs =
            inl (
              fits,
              short m job.guest job.first past files output leads (front_all files) (bytes_all (sent_bytes 1 past))
                  (bytes_all (sent_bytes 2 past)),
            );
        leaves = record { files = put.files; out = sent_.out; err = sent_.err };
        log = record { calls = puts_of files ++ []; out = sent_.out_told.0; err = sent_.err_told.0 };
        does = inl (some_done files files [] [] job.old now leads (sym (append-nil files)) refl sent_);
        tells = record {
          calls =
              subst (λ calls. TellsMore job.old.calls calls now.calls) (sym (append-nil (puts_of files))) put.calls;
          out = sent_.out_told.2;
          err = sent_.err_told.2;
        };
      }

  -- a part could not be put
  pub put_failed : Makes job.guest past → (part : ℕ) (files : List Named) → EndsPart job.guest part past
      → Leads m job.guest job.first past files
      → (fault : RunFault) (before : ℕ) (now : Outside) → HasSent past job.old now → job.old.put_faults ≤ before
      → RefusedBy job.guest.options.base part files (shelf job.old) before fault (shelf now) now.put_faults
      → Fails m job fault now
  put_failed makes part files ends leads (PutFault number thread) before now sent_ grows r =
      let name = part_name job.guest.options.base number thread.0 in
      let done = r.2.refused.done in
      let output : Output =
      record { files = done; refused = Some name; out = sent_bytes 1 past; err = sent_bytes 2 past } in
      record {
        output = output;
        runs = (
          fits,
          rose_from job.old.put_faults before now.put_faults grows r.1,
          short m job.guest job.first past files output leads r.2.refused.front (bytes_all (sent_bytes 1 past))
              (bytes_all (sent_bytes 2 past)),
          record {
            past = past;
            makes = makes;
            ends = subst (λ n. EndsPart job.guest n past) (sym r.0) ends;
            refused = refl;
            out = refl;
            err = refl;
          },
        );
        leaves = record { files = r.2.refused.holds; out = sent_.out; err = sent_.err };
        log = record {
          calls = puts_of done ++ Put name r.2.text (Err put.Failed) ∷ [];
          out = sent_.out_told.0;
          err = sent_.err_told.0;
        };
        does = record {
          trace = leads.trace;
          stop = leads.stop;
          is = leads.is;
          done = done;
          text = r.2.text;
          rest = r.2.behind ++ leads.more;
          files =
              leads.whole
              ∙ ap (λ fs. fs ++ leads.more) (r.2.refused.front.whole ∙ ap (λ fs. done ++ fs) r.2.next)
              ∙ append_assoc done ((name, r.2.text) ∷ r.2.behind) leads.more;
          calls = refl;
          past = past;
          later = leads.later;
          steps = leads.steps;
          ends = subst (λ n. EndsPart job.guest n past) (sym r.0) ends;
          out = sent_.out_told.1;
          err = sent_.err_told.1;
        };
        tells = record { calls = r.2.calls; out = sent_.out_told.2; err = sent_.err_told.2 };
      }
  put_failed makes part files ends leads (OutOfMemory _) before now sent_ grows r =
      let done = r.refused.done in
      let output : Output =
      record { files = done; refused = r.name; out = sent_bytes 1 past; err = sent_bytes 2 past } in
      record {
        output = output;
        runs =
            inl (
              fits,
              short m job.guest job.first past files output leads r.refused.front (bytes_all (sent_bytes 1 past))
                  (bytes_all (sent_bytes 2 past)),
            );
        leaves = record { files = r.refused.holds; out = sent_.out; err = sent_.err };
        log = record { calls = puts_of done ++ r.last; out = sent_.out_told.0; err = sent_.err_told.0 };
        does =
            inl (some_done files done r.refused.front.rest r.last job.old now leads r.refused.front.whole r.unput sent_);
        tells = record { calls = r.calls; out = sent_.out_told.2; err = sent_.err_told.2 };
      }
  put_failed makes part files ends leads GuestFull before now sent_ grows r = absurd r
  put_failed makes part files ends leads (ArgsTooLong len) before now sent_ grows r = absurd r
  put_failed makes part files ends leads OutFault before now sent_ grows r = absurd r

-- the output of a step could not be written
module _ {W : Type 0} (m : Meaning W) (job : Job W) (fits : Fits job.guest) (past : List RunStep) (last : RunStep)
    (machine : Engine) (run : Run (next_step job.guest) (start job.guest) (past ++ last ∷ []) (machine, past ++ last ∷ []))
    (few : length (past ++ last ∷ []) ≤ job.guest.options.budget) (to : ℕ) (bytes : List ℕ)
    (is : last.output ≡ Some (to, bytes)) (parts : List PartFile) (before now : Outside)
    (put_ : HasPut job.guest.options.base (files_at m job.guest job.first (steps_of past)) (shelf job.old)
    (shelf before) parts)
    (sent_ : HasSent past job.old before) (grows : Grows job.old before) (same : shelf now ≡ shelf before) where
  abbrev partly : List ℕ → Output
  partly count = record {
    files = files_at m job.guest job.first (steps_of past);
    refused = None;
    out = sent_bytes 1 past ++ bytes_to 1 (Some (to, count));
    err = sent_bytes 2 past ++ bytes_to 2 (Some (to, count));
  }

  leads : Leads m job.guest job.first (past ++ last ∷ [])
      (files_at m job.guest job.first (steps_of (past ++ last ∷ [])))
  leads = leads_on m job.guest job.first (past ++ last ∷ []) machine run few

  files_on : (watched_parts m job.first job.guest).whole (steps_of leads.trace) leads.stop.tried
      ≡ files_at m job.guest job.first (steps_of past)
      ++ ((files_more m job.guest job.first past last).0 ++ leads.more)
  files_on =
      let more = files_more m job.guest job.first past last in
      leads.whole ∙ ap (λ fs. fs ++ leads.more) more.1
      ∙ append_assoc (files_at m job.guest job.first (steps_of past)) more.0 leads.more

  partly_short : (count : List ℕ) → IsFrontOf count bytes
      → IsCutShort (watched_parts m job.first job.guest) job.guest (partly count)
  partly_short count f =
      let more = files_more m job.guest job.first past last in
      short m job.guest job.first (past ++ last ∷ [])
      (files_at m job.guest job.first (steps_of (past ++ last ∷ []))) (partly count) leads
      (record { rest = more.0; whole = more.1; follows = tt })
      (last_front 1 to count bytes past last is f) (last_front 2 to count bytes past last is f)

  module _ (error : WriteError) (f : SendsFront error to bytes before.out before.err now.out now.err) where
    pub leaves_partly : Leaves job.old (partly f.count) now
    leaves_partly = record {
      files = ap (λ (s : Shelf). s.files) same ∙ put_.files;
      out =
          f.out ∙ ap (λ t. taken_more t (bytes_to 1 (Some (to, f.count)))) sent_.out
          ∙ more_taken job.old.out.taken (sent_bytes 1 past) (bytes_to 1 (Some (to, f.count)));
      err =
          f.err ∙ ap (λ t. taken_more t (bytes_to 2 (Some (to, f.count)))) sent_.err
          ∙ more_taken job.old.err.taken (sent_bytes 2 past) (bytes_to 2 (Some (to, f.count)));
    }

    abbrev pub done_partly : Log
    done_partly = record {
      calls = puts_of (files_at m job.guest job.first (steps_of past));
      out = sent_.out_told.0 ++ f.out_told.0;
      err = sent_.err_told.0 ++ f.err_told.0;
    }

    pub tells_partly : Tells job.old done_partly now
    tells_partly = record {
      calls =
          subst (λ (s : Shelf). TellsMore job.old.calls (puts_of (files_at m job.guest job.first (steps_of past))) s.calls)
          (sym same) put_.calls;
      out =
          tells_then job.old.out.writes before.out.writes now.out.writes sent_.out_told.0 f.out_told.0 sent_.out_told.2
          f.out_told.2;
      err =
          tells_then job.old.err.writes before.err.writes now.err.writes sent_.err_told.0 f.err_told.0 sent_.err_told.2
          f.err_told.2;
    }

    pub out_partly : AreWrittenTo error (pieces 1 past) (piece_to 1 (Some (to, bytes))) done_partly.out
    out_partly = record {
      before = sent_.out_told.0;
      last = f.out_told.0;
      together = refl;
      written = sent_.out_told.1;
      refused = f.out_told.1;
    }

    pub err_partly : AreWrittenTo error (pieces 2 past) (piece_to 2 (Some (to, bytes))) done_partly.err
    err_partly = record {
      before = sent_.err_told.0;
      last = f.err_told.0;
      together = refl;
      written = sent_.err_told.1;
      refused = f.err_told.1;
    }

  pub write_failed : (A : Type 0) (fault : RunFault)
      → Sends {A = A} to bytes before.out before.err (Err fault) now.out now.err → Fails m job fault now
  write_failed A OutFault s =
      let f = s.1 in
      record {
        output = partly f.count;
        runs = (
          fits,
          elim s.0 as (λ _. Rose job.old.out.faults now.out.faults ⊎ Rose job.old.err.faults now.err.faults) [
            | inl (one, out) ↦ inl (rose_from job.old.out.faults before.out.faults now.out.faults grows.out out)
            | inr (two, err) ↦ inr (rose_from job.old.err.faults before.err.faults now.err.faults grows.err err)
          ],
          partly_short f.count f.front,
          record {
            past = past;
            last = last;
            makes = record { last = (machine, past ++ last ∷ []); run = run };
            files = refl;
            refused = refl;
            written = (to, bytes);
            is = is;
            count = f.count;
            front = f.front;
            short = f.short;
            out = refl;
            err = refl;
          },
        );
        leaves = leaves_partly write.Failed f;
        log = done_partly write.Failed f;
        does = record {
          trace = leads.trace;
          stop = leads.stop;
          is = leads.is;
          past = past;
          last = last;
          later = leads.later;
          steps = leads.steps ∙ append_assoc past (last ∷ []) leads.later;
          rest = (files_more m job.guest job.first past last).0 ++ leads.more;
          files = files_on;
          calls = refl;
          piece = (to, bytes);
          is_piece = is;
          to = elim s.0 as (λ _. (to ≡ 1) ⊎ (to ≡ 2)) [ inl (one, out) ↦ inl one | inr (two, err) ↦ inr two ];
          out =
              subst (λ o. AreWrittenTo write.Failed (pieces 1 past) (piece_to 1 o) (done_partly write.Failed f).out)
              (sym is) (out_partly write.Failed f);
          err =
              subst (λ o. AreWrittenTo write.Failed (pieces 2 past) (piece_to 2 o) (done_partly write.Failed f).err)
              (sym is) (err_partly write.Failed f);
        };
        tells = tells_partly write.Failed f;
      }
  write_failed A (OutOfMemory refused) f =
      let more = files_more m job.guest job.first past last in
      let files = files_at m job.guest job.first (steps_of past) in
      record {
        output = partly f.count;
        runs = inl (fits, partly_short f.count f.front);
        leaves = leaves_partly (write.OutOfMemory refused) f;
        log = done_partly (write.OutOfMemory refused) f;
        does =
            inl (record {
              trace = leads.trace;
              stop = leads.stop;
              is = leads.is;
              done = files;
              rest = more.0 ++ leads.more;
              files = files_on;
              unput = [];
              are_unput = unput_none (more.0 ++ leads.more);
              calls = sym (append-nil (puts_of files));
              past = past;
              last = Some (to, bytes);
              error = write.OutOfMemory refused;
              out = out_partly (write.OutOfMemory refused) f;
              err = err_partly (write.OutOfMemory refused) f;
              front =
                  (last, leads.later, is, leads.steps ∙ append_assoc past (last ∷ []) leads.later);
            });
        tells = tells_partly (write.OutOfMemory refused) f;
      }
  write_failed A GuestFull s = absurd s
  write_failed A (ArgsTooLong len) s = absurd s
  write_failed A (PutFault part thread) s = absurd s
