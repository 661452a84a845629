use Rattle.std.proofs.Common.{String, Global, List, ap, inl, inr, map, refl, string_bytes}
use Rattle.command_words.specs.Meaning.{job_of}
use Rattle.profile_cli.proofs.RunLemmas.{HasWatched-guest, RunsGuest-ran, RunsGuest-refused}
use Rattle.profile_cli.proofs.run.run_elf.Goals as goal

pub returns-in_err-syms-clause-ran : goal.returns-in_err-syms-clause-ran
returns-in_err-syms-clause-ran g c = inl (c.from_residual.ensures.1, refl)

pub returns-in_err-options-clause-ran : goal.returns-in_err-options-clause-ran
returns-in_err-options-clause-ran g c = inl (c.from_residual-in_err-options.ensures.1, refl)

pub returns-in-Ok-clause-ran : goal.returns-in-Ok-clause-ran
returns-in-Ok-clause-ran g c =
    let args = ap (λ (args : List (String Global)). map (λ word. string_bytes word) args) c.deref.ensures.value in
    inr (record {
      syms = c.in_ok-syms.syms;
      symbols = c.in_ok-syms.ensures.map;
      sound = c.in_ok-syms.ensures.sound;
      so = HasWatched-guest g.W.Watch.meaning _ _ (job_of c.args.job.now) _ c.in_ok-syms.syms _ _ _ args
          c.in_ok-options.ensures c.in-Ok.ensures.watched;
      run = RunsGuest-ran _ _ _ _ _ _ _ _ _ _ args c.in_ok-options.ensures c.in-Ok.ensures.answer;
    })

pub returns-clause-ran : goal.returns-clause-ran
returns-clause-ran g c =
    inr (record {
      syms = c.in_ok-syms.syms;
      symbols = c.in_ok-syms.ensures.map;
      sound = c.in_ok-syms.ensures.sound;
      so = tt;
      run = RunsGuest-refused _ _ _ _ _ _ _ _ c.in-Err.fault _ _
          (ap (λ (args : List (String Global)). map (λ word. string_bytes word) args) c.deref.ensures.value)
          c.in_ok-options.ensures c.in-Err.ensures.answer c.fault_status.ensures;
    })
