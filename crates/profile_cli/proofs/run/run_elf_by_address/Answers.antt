use Rattle.std.proofs.Common.{String, Global, List, ap, inl, inr, map, refl, string_bytes, ◌∙◌}
use Rattle.run_watches.specs.declared.run_watch.RunWatch.TheVariants.{Addresses}
use Rattle.run_laws.specs.Addresses.{addr_parts}
use Rattle.profile_cli.proofs.RunLemmas.{RunsGuest-ran, RunsGuest-refused}
use Rattle.profile_cli.proofs.RunWatchLemmas.{by_address}
use Rattle.profile_cli.proofs.run.run_elf_by_address.Goals as goal

pub returns-in_err-syms-clause-ran : goal.returns-in_err-syms-clause-ran
returns-in_err-syms-clause-ran g c = inl (c.from_residual.ensures.1, refl)

pub returns-in_err-places-clause-ran : goal.returns-in_err-places-clause-ran
returns-in_err-places-clause-ran g c = inl (c.from_residual-in_err-places.ensures.1, refl)

pub returns-in_err-texts-clause-ran : goal.returns-in_err-texts-clause-ran
returns-in_err-texts-clause-ran g c = inl (c.from_residual-in_err-texts.ensures.1, refl)

pub returns-in_err-options-clause-ran : goal.returns-in_err-options-clause-ran
returns-in_err-options-clause-ran g c = inl (c.from_residual-in_err-options.ensures.1, refl)

pub returns-in-Ok-clause-ran : goal.returns-in-Ok-clause-ran
returns-in-Ok-clause-ran g c =
    let args = ap (λ (args : List (String Global)). map (λ word. string_bytes word) args) c.deref.ensures.value in
    inr (record {
      syms = c.in_ok-syms.syms;
      symbols = c.in_ok-syms.ensures.map;
      sound = c.in_ok-syms.ensures.sound;
      so = tt;
      run = RunsGuest-ran addr_parts _ _ _ _ _ _ _ _ _ args c.in_ok-options.ensures
          (by_address _ _ _ c.by_address-addresses.ensures.map
          (ap Addresses (c.in_ok-texts.ensures ∙ c.in_ok-places.ensures)) _ _ _ c.in-Ok.ensures.answer);
    })

pub returns-clause-ran : goal.returns-clause-ran
returns-clause-ran g c =
    let args = ap (λ (args : List (String Global)). map (λ word. string_bytes word) args) c.deref.ensures.value in
    inr (record {
      syms = c.in_ok-syms.syms;
      symbols = c.in_ok-syms.ensures.map;
      sound = c.in_ok-syms.ensures.sound;
      so = tt;
      run = RunsGuest-refused addr_parts _ _ _ _ _ _ _ c.in-Err.fault _ _ args c.in_ok-options.ensures
          (by_address _ _ _ c.by_address-addresses.ensures.map
          (ap Addresses (c.in_ok-texts.ensures ∙ c.in_ok-places.ensures)) _ _ _ c.in-Err.ensures.answer)
          c.fault_status.ensures;
    })
