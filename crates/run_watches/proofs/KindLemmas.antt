-- Each of the watches makes of a run what the watch of its kind makes of it.
use Rattle.std.proofs.Common.{◌≡◌, ℕ, List, [], ◌∷◌, ◌++◌, refl, ap, ◌∙◌}
use Rattle.sym_map.specs.SymbolMap.{SymbolMap}
use Rattle.part_dump.specs.Calls.{Call, Readies, Sees, Writes}
use Rattle.part_dump.specs.Files.{part_name}
use Rattle.part_dump.specs.Plain.{plain}
use Rattle.part_dump.specs.Watching.{Meaning, after_call, put_of, puts}
use Rattle.wait_report.specs.Keeping as waits
use Rattle.ctx_rows.specs.Watching as contexts
use Rattle.addr_rows.specs.Translated.{translation}
use Rattle.profile_run.specs.Parts.{calls_of, calls_so_far, watched_parts}
use Rattle.run_watches.specs.Laws.{IsOfKind}
use Rattle.run_watches.specs.Watching.{watching}
use Rattle.run_watches.specs.declared.run_watch.RunWatch.{RunWatch}
use Rattle.run_watches.specs.declared.run_watch.RunWatch.TheVariants.{Addresses, Contexts, Nobody, Waits}
use Rattle.run_watches.specs.inner.Law.{IsTold, addresses_told, after_all, contexts_told, nobody_told, waits_told}

module _ {W : Type 0} {meaning : Meaning W} {kind : W → RunWatch} (told : IsTold meaning kind) where
  same_put : (m : SymbolMap) (base : List ℕ) (w : W) (c : Call)
      → put_of watching m base (kind w) c ≡ put_of meaning m base w c
  same_put m base w (Readies thread pc) = refl
  same_put m base w (Sees x) = refl
  same_put m base w (Writes head rows) = λ i. (part_name base head.part head.thread.0, told.text w head rows m i) ∷ []

  same_puts : (m : SymbolMap) (base : List ℕ) (w : W) (cs : List Call)
      → puts watching m base (kind w) cs ≡ puts meaning m base w cs
  same_puts m base w [] = refl
  same_puts m base w (c ∷ cs) =
      ap (λ v. put_of watching m base (kind w) c ++ puts watching m base v cs) (told.call m w c)
      ∙ ap (λ files. files ++ puts watching m base (kind (after_call meaning m w c)) cs) (same_put m base w c)
      ∙ ap (λ files. put_of meaning m base w c ++ files) (same_puts m base (after_call meaning m w c) cs)

  same_parts : (w : W) → watched_parts watching (kind w) ≡ watched_parts meaning w
  same_parts w = λ i guest. record {
    at_cuts = λ steps. same_puts guest.syms guest.options.base w (calls_so_far guest steps) i;
    whole = λ steps tried. same_puts guest.syms guest.options.base w (calls_of guest steps tried) i;
  }

  is_of_kind : IsOfKind meaning kind
  is_of_kind = record { parts = same_parts; states = after_all told }

pub nobody_is : IsOfKind plain Nobody
nobody_is = is_of_kind nobody_told

pub waits_are : IsOfKind waits.watching Waits
waits_are = is_of_kind waits_told

pub contexts_are : IsOfKind contexts.by_context Contexts
contexts_are = is_of_kind contexts_told

pub addresses_are : IsOfKind translation Addresses
addresses_are = is_of_kind addresses_told
