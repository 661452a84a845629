-- The summary of a demonstration, by how far it came.
use Rattle.std.proofs.Common.{◌≡◌, ℕ, ◌≤◌, List, [], ◌∷◌, length, take, Option, Some, None, Result, Ok, Err, refl}
use Rattle.std.proofs.Common.{sym, ap, subst, ◌∙◌}
use Rattle.std.proofs.Math.Seq.{take-length}
use Rattle.std.specs.Result.{IsErrAnd}
use Rattle.outside.specs.Outside.{Leaves, Outside, Output, and_then, nothing}
use Rattle.outside.specs.Write.{taken_more}
use Rattle.outside.specs.declared.sink.WriteError.TheVariants as write
use Rattle.cg_read.specs.Profiles.{Contents}
use Rattle.command_status.specs.declared.status.Status.{Status}
use Rattle.command_status.specs.declared.status.Status.TheVariants as wanted
use Rattle.command_steps.specs.Summary.{AreTotals, MakesTotals, summary, ShowsSummary}
use Rattle.command_steps.specs.Gates.{Outcome}
use Rattle.command_steps.specs.declared.summary.Figures.{Figures}
use Rattle.command_steps.specs.inner.ReportStages.{WritesReport}
use Rattle.command_steps.proofs.OutsideLemmas.{Leaves-and_nothing, Leaves-out}
use Rattle.command_steps.proofs.ReportLemmas.{stopping}
use Rattle.byte_text.specs.Memory.{memory}

-- it is not come to
ShowsSummary-none : (old new : Outside) (f : Figures) (p : Contents) (status : Status) → status ≡ wanted.OutOfMemory memory
    → new.files ≡ old.files → Leaves old nothing new → ShowsSummary old f p (Err status) new
ShowsSummary-none old new f p status is same leaves = record {
  summary = None;
  output = nothing;
  is = tt;
  comes = λ last. ap (λ s. let o : Outcome = record { status = s; output = nothing } in o) (sym is);
  puts = refl;
  refused = refl;
  same_files = same;
  leaves = leaves;
}

-- memory was wanting for its text
pub ShowsSummary-wanting : (old new : Outside) (f : Figures) (p : Contents) → new.files ≡ old.files
    → Leaves old nothing new → ShowsSummary old f p (Err (wanted.OutOfMemory memory)) new
ShowsSummary-wanting old new f p same leaves = ShowsSummary-none old new f p (wanted.OutOfMemory memory) refl same leaves

-- the totals were not made
pub ShowsSummary-unmade : (old new : Outside) (f : Figures) (p : Contents) (status : Status)
    → MakesTotals p (Err status) → new.files ≡ old.files → Leaves old nothing new
    → ShowsSummary old f p (Err status) new
ShowsSummary-unmade old new f p status (error, are, stop) same leaves = record {
  summary = Some (record { totals = Err error; written = Ok tt; count = 0 });
  output = nothing;
  is = record { totals = are; written = refl };
  comes = λ last. ap (λ s. stopping s None (take 0 []) last) stop;
  puts = refl;
  refused = refl;
  same_files = same;
  leaves = leaves;
}

-- they were, and the text was written or not
pub ShowsSummary-made : (old new : Outside) (f : Figures) (p : Contents) (totals text : List ℕ)
    (result : Result (Unit {0}) Status)
    → AreTotals p (Ok totals) → text ≡ summary f totals → new.files ≡ old.files → new.err.taken ≡ old.err.taken
    → WritesReport old.out.taken text old.out.faults new.out.faults result new.out.taken
    → ShowsSummary old f p result new
ShowsSummary-made old new f p totals text result are is same err out =
    by result (subst (λ t. WritesReport old.out.taken t old.out.faults new.out.faults result new.out.taken) is out)
  where
    by : (result : Result (Unit {0}) Status)
        → WritesReport old.out.taken (summary f totals) old.out.faults new.out.faults result new.out.taken
        → ShowsSummary old f p result new
    by (Ok done) out =
        let output : Output = record nothing { out = take (length (summary f totals)) (summary f totals) } in record {
          summary = Some (record { totals = Ok totals; written = Ok tt; count = length (summary f totals) });
          output = and_then output nothing;
          is = record { totals = are; written = refl };
          comes = λ last. refl;
          puts = refl;
          refused = refl;
          same_files = same;
          leaves = Leaves-and_nothing old new output refl
              (Leaves-out old new (take (length (summary f totals)) (summary f totals)) same err
              (out ∙ ap (taken_more old.out.taken) (sym (take-length (summary f totals)))));
        }
    by (Err status) (write.Failed, (stop, out)) = record {
      summary = Some (record { totals = Ok totals; written = Err write.Failed; count = out.1.0 });
      output = record nothing { out = take out.1.0 (summary f totals) };
      is = record { totals = are; written = (out.0, out.1.1) };
      comes = λ last. ap (λ s. stopping None s (take out.1.0 (summary f totals)) last) stop;
      puts = refl;
      refused = refl;
      same_files = same;
      leaves = Leaves-out old new (take out.1.0 (summary f totals)) same err out.1.2;
    }
    by (Err status) ((write.OutOfMemory _), (stop, out)) = record {
      summary = Some (record { totals = Ok totals; written = Err (write.OutOfMemory memory); count = out.0 });
      output = record nothing { out = take out.0 (summary f totals) };
      is = record { totals = are; written = out.1 };
      comes = λ last. ap (λ s. stopping None s (take out.0 (summary f totals)) last) stop;
      puts = refl;
      refused = refl;
      same_files = same;
      leaves = Leaves-out old new (take out.0 (summary f totals)) same err out.2;
    }

-- a stage stopped the summary
pub ShowsSummary-stopped : (old new : Outside) (f : Figures) (p : Contents) (stop : Status)
    (result : Result (Unit {0}) Status)
    → IsErrAnd result (λ status. status ≡ stop) → ShowsSummary old f p (Err stop) new
    → ShowsSummary old f p result new
ShowsSummary-stopped old new f p stop (Ok done) none shows = absurd none
ShowsSummary-stopped old new f p stop (Err status) is shows =
    subst (λ s. ShowsSummary old f p (Err s) new) (sym is) shows
