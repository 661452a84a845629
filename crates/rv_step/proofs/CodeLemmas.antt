-- What is kept for an address, by the map that a table makes.
use Rattle.std.proofs.Common.{◌≡◌, ℕ, zero, suc, refl, sym, ap, ◌∙◌, ◌<◌, ◌+◌, arith, ◌⊎◌, inl, inr, List, [], ◌∷◌}
use Rattle.std.proofs.lemmas.Bool.{cond-false, cond-true, eq-eqb, ne_eqb}
use Rattle.std.specs.Prelude.{Some, None, slice_get}
use Rattle.std.specs.Cmp.{nat_cmp_total, unsigned_tied}
use Rattle.std.specs.FinMap as map
use Rattle.std.specs.Option.{option_and_then}
use Rattle.std.specs.Ordering.{nat_cmp}
use Rattle.rv_decode.specs.declared.instr.Instr.{Instr}
use Rattle.rv_step.specs.Place.{place_of}
use Rattle.rv_step.specs.declared.code.Code.{Code}
use Rattle.rv_step.specs.declared.instr_table.InstrTable.{InstrTable}
use Rattle.rv_step.specs.declared.kept_instr.KeptInstr.{KeptInstr}
use Rattle.rv_step.specs.inner.Table.{code_of, entries_from, found_at, kept_instruction}

same_or_not : (a b : ℕ) → (a ≡ b) ⊎ ¬ (a ≡ b)
same_or_not a b = grind arith

-- a place whose instruction isn't of this address changes nothing of what is found
find-other : (q place : ℕ) (f : KeptInstr) (fs : List KeptInstr) → ¬ (place_of f.pc ≡ place) ⊎ ¬ (q ≡ f.pc)
    → map.find nat_cmp q (entries_from place (f ∷ fs)) ≡ map.find nat_cmp q (entries_from (place + 1) fs)
find-other q place f fs (inl vacant) = ap (map.find nat_cmp q) (cond-false _ _ _ (ne_eqb (place_of f.pc) place vacant))
find-other q place f fs (inr apart) = by (same_or_not (place_of f.pc) place)
  where
    by : (place_of f.pc ≡ place) ⊎ ¬ (place_of f.pc ≡ place)
        → map.find nat_cmp q (entries_from place (f ∷ fs)) ≡ map.find nat_cmp q (entries_from (place + 1) fs)
    by (inl own) =
        ap (map.find nat_cmp q) (cond-true _ _ _ (eq-eqb (place_of f.pc) place own))
        ∙ cond-false _ _ _ (unsigned_tied q f.pc ∙ ne_eqb q f.pc apart)
    by (inr vacant) = ap (map.find nat_cmp q) (cond-false _ _ _ (ne_eqb (place_of f.pc) place vacant))

-- the places behind an address's own have nothing of it
find-behind : (q place : ℕ) (fs : List KeptInstr) → place_of q < place → map.find nat_cmp q (entries_from place fs) ≡ None
find-behind q place [] behind = refl
find-behind q place (f ∷ fs) behind =
    find-other q place f fs (other (same_or_not q f.pc)) ∙ find-behind q (place + 1) fs (omega (arith, behind))
  where
    other : (q ≡ f.pc) ⊎ ¬ (q ≡ f.pc) → ¬ (place_of f.pc ≡ place) ⊎ ¬ (q ≡ f.pc)
    other (inl same) = inl (λ own. let at : place_of q ≡ place = ap place_of same ∙ own in omega (arith, at, behind))
    other (inr apart) = inr apart

-- what is found among the places is what stands at the address's own
find-place : (q place i : ℕ) (fs : List KeptInstr) → place_of q ≡ place + i
    → map.find nat_cmp q (entries_from place fs) ≡ option_and_then (found_at q) (slice_get fs i)
find-place q place i [] at = refl
find-place q place zero (f ∷ fs) at = by (same_or_not q f.pc)
  where
    own : q ≡ f.pc → place_of f.pc ≡ place
    own same = let at_own : place_of q ≡ place_of f.pc = ap place_of same in omega (arith, at, at_own)

    by : (q ≡ f.pc) ⊎ ¬ (q ≡ f.pc) → map.find nat_cmp q (entries_from place (f ∷ fs)) ≡ found_at q f
    by (inl same) =
        ap (map.find nat_cmp q) (cond-true _ _ _ (eq-eqb (place_of f.pc) place (own same)))
        ∙ cond-true _ _ _ (unsigned_tied q f.pc ∙ eq-eqb q f.pc same)
        ∙ sym (cond-true _ _ _ (eq-eqb f.pc q (sym same)))
    by (inr apart) =
        find-other q place f fs (inr apart) ∙ find-behind q (place + 1) fs (omega (arith, at))
        ∙ sym (cond-false _ _ _ (ne_eqb f.pc q (λ same. apart (sym same))))
find-place q place (suc i) (f ∷ fs) at =
    find-other q place f fs (other (same_or_not q f.pc)) ∙ find-place q (place + 1) i fs (omega (arith, at))
  where
    other : (q ≡ f.pc) ⊎ ¬ (q ≡ f.pc) → ¬ (place_of f.pc ≡ place) ⊎ ¬ (q ≡ f.pc)
    other (inl same) = inl (λ own. let here : place_of q ≡ place = ap place_of same ∙ own in omega (arith, at, here))
    other (inr apart) = inr apart

-- what the map has for an address is what the table keeps for it
pub get-code : (table : InstrTable) (code : Code) → code_of table ≡ code → (q : ℕ) → map.get code q ≡ kept_instruction table q
unfolding code_of kept_instruction
get-code table code is q =
    ap (λ (c : Code). map.get c q) (sym is)
    ∙ map.get-from_entries nat_cmp_total (entries_from 0 table.places.items) q
    ∙ find-place q 0 (place_of q) table.places.items (omega arith)

-- what one of two tables keeps as the other is of its map too
pub code-fewer : (old new : InstrTable) (code after : Code) → code_of old ≡ code → code_of new ≡ after
    → ((q : ℕ) (i : Instr) → kept_instruction new q ≡ Some i → kept_instruction old q ≡ Some i)
    → (q : ℕ) (i : Instr) → map.get after q ≡ Some i → map.get code q ≡ Some i
code-fewer old new code after before is fewer q i given =
    get-code old code before q ∙ fewer q i (sym (get-code new after is q) ∙ given)
