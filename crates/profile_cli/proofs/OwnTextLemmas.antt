-- The texts of a run's own parts, read again from wherever they were kept: none of them is refused, and what they read
-- as together stands for the run.
use Rattle.std.proofs.Common.{List, refl, sym, subst}
use Rattle.std.specs.List.{AllByRecursion}
use Rattle.cg_read.specs.Profiles.{Contents, IsProfile}
use Rattle.profile_files.specs.Joined.{Joins}
use Rattle.profile_run.specs.Program.{Program, head_of_run, CanRun}
use Rattle.profile_run.specs.Parts.{Writing, plain_parts}
use Rattle.profile_run.specs.Trace.{Makes, Stop, RunStep, steps_of}
use Rattle.reads_back.specs.Joined.{no_rows_of}
use Rattle.profile_cli.proofs.Others.{IsPartText, each_text, joined_is, joined_stands, texts_again}
use Rattle.run_laws.specs.OwnParts.{texts_of_files}
use Rattle.run_laws.specs.Runs.{parts_written}
use Rattle.run_laws.proofs.PartLemmas.{are_parts, texts_same}
use Rattle.run_laws.specs.Addresses.{addr_parts}
use Rattle.report_laws.specs.Rows.{AreEntriesSmall}
use Rattle.command_words.specs.Request.{AddressAndLine, Line, Positions, watching_at}
use Rattle.profile_cli.specs.Watching.{parts_asked}
use Rattle.profile_cli.proofs.ReadBackLemmas.{IsReadAs}

-- No part is refused for its lines or its events, and a profile to which all are joined is read as the run.
pub record AreReadAgain (parts : Program → Writing) : Type 0 where
  pub texts : (guest : Program) → CanRun guest → AreEntriesSmall guest.syms → (trace : List RunStep) → Makes guest trace
      → (stop : Stop)
      → AllByRecursion (IsPartText (head_of_run guest))
      (texts_of_files ((parts guest).whole (steps_of trace) stop.tried))
  pub read : (guest : Program) → CanRun guest → AreEntriesSmall guest.syms → (trace : List RunStep) → Makes guest trace
      → (stop : Stop) (q : Contents) → IsProfile q
      → Joins (no_rows_of (head_of_run guest)) (texts_of_files ((parts guest).whole (steps_of trace) stop.tried)) q
      → IsReadAs guest trace q

plain_again : AreReadAgain plain_parts
plain_again = record {
  texts = λ guest can entries trace makes stop.
      subst (AllByRecursion (IsPartText (head_of_run guest))) (sym (texts_same guest trace stop))
      (each_text (head_of_run guest) guest.syms can.sound (parts_written guest trace) (are_parts guest can trace makes));
  read = λ guest can entries trace makes stop q profile joins. record {
    profile = q;
    of_run = joined_is guest can trace makes stop q profile joins;
    events = refl;
    files = λ names are. are;
    report = λ options texts text is. is;
    within = λ all. all;
  };
}

-- ---- parts by address

addr_again : AreReadAgain addr_parts
addr_again = record {
  texts = λ guest can entries trace makes stop. texts_again guest can trace makes stop entries;
  read = λ guest can entries trace makes stop q profile joins.
      let stands = joined_stands guest can trace makes stop entries q profile joins in record {
        profile = stands.profile;
        of_run = record { profile = stands.is; rows = stands.of_rows };
        events = stands.events;
        files = stands.files;
        report = stands.report;
        within = stands.within;
      };
}

-- those that `report` may have
pub own_again : (positions : Positions) → AreReadAgain (parts_asked (watching_at positions))
own_again Line = plain_again
own_again AddressAndLine = addr_again
