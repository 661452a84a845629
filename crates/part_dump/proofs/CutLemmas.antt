-- Lists that are cut.
use Rattle.std.proofs.Common.{◌≡◌, ℕ, zero, suc, ◌+◌, ◌≤◌, nat_lt, Bool, true, false, if◌then◌else◌, List, [], ◌∷◌}
use Rattle.std.proofs.Common.{◌++◌, flat_map, length, map, Option, None, Some, refl, ap, ◌∙◌, arith}
use Rattle.std.proofs.lemmas.Bool.Decides.{nat_tests}
use Rattle.cache_lru.specs.Costs.{each_after}
use Rattle.sym_map.specs.SymbolMap.{SymbolMap}
use Rattle.part_dump.specs.Cuts.{DumpPoints, Split, closes, cut_after, cuts, marked_after, most_cuts, split}
use Rattle.part_dump.specs.Cuts.{with_first, with_last}
use Rattle.part_dump.specs.Steps.{Step}
use Rattle.cache_lru.proofs.HistoryLemmas.{each_after-push}

one_less : (m n : ℕ) → nat_lt m n ≡ nat_lt (suc m) (suc n)
one_less m n = grind (arith, nat_tests)

some_room : (n : ℕ) → true ≡ nat_lt 0 (suc n)
some_room n = grind (arith, nat_tests)

module _ {X T : Type 0} where
  abbrev all_of : Split X T → List X
  all_of s = flat_map (λ p. p.0) s.closed ++ s.recent

  all_first : (x : X) (last : List X) (ps : List (List X × T))
      → all_of (with_first x last ps) ≡ x ∷ (flat_map (λ p. p.0) ps ++ last)
  all_first x last [] = refl
  all_first x last (p ∷ ps) = refl

  pub split_together : (n : ℕ) (ms : List (X × Option T)) → all_of (split n ms) ≡ map (λ m. m.0) ms
  split_together n [] = refl
  split_together n ((x, None) ∷ ms) =
      all_first x (split n ms).recent (split n ms).closed ∙ ap (λ xs. x ∷ xs) (split_together n ms)
  split_together zero ((x, Some mark) ∷ ms) =
      all_first x (split zero ms).recent (split zero ms).closed ∙ ap (λ xs. x ∷ xs) (split_together zero ms)
  split_together (suc n) ((x, Some mark) ∷ ms) = ap (λ xs. x ∷ xs) (split_together n ms)

  length_first : (x : X) (last : List X) (ps : List (List X × T)) → length (with_first x last ps).closed ≡ length ps
  length_first x last [] = refl
  length_first x last (p ∷ ps) = refl

  pub split_limit : (n : ℕ) (ms : List (X × Option T)) → length (split n ms).closed ≤ n
  split_limit n [] = omega arith
  split_limit n ((x, None) ∷ ms) =
      omega (arith, length_first x (split n ms).recent (split n ms).closed, split_limit n ms)
  split_limit zero ((x, Some mark) ∷ ms) =
      omega (arith, length_first x (split zero ms).recent (split zero ms).closed, split_limit zero ms)
  split_limit (suc n) ((x, Some mark) ∷ ms) = omega (arith, split_limit n ms)

  -- with one more element, which is marked where the test holds
  abbrev ended_if : Bool → X → T → Split X T → Split X T
  ended_if b x mark s =
      if b then record { closed = s.closed ++ (s.recent ++ x ∷ [], mark) ∷ []; recent = [] }
      else record { closed = s.closed; recent = s.recent ++ x ∷ [] }

  abbrev in_front : X → Split X T → Split X T
  in_front y s = with_first y s.recent s.closed

  abbrev cut_list : List (List X × T) → List X → Split X T
  cut_list ps last = record { closed = ps; recent = last }

  first_ended : (b : Bool) (y : X) (ps : List (List X × T)) (last : List X) (x : X) (mark : T)
      → in_front y (ended_if b x mark (cut_list ps last)) ≡ ended_if b x mark (in_front y (cut_list ps last))
  first_ended true y [] last x mark = refl
  first_ended true y (p ∷ ps) last x mark = refl
  first_ended false y [] last x mark = refl
  first_ended false y (p ∷ ps) last x mark = refl

  -- an element in front, and one at the end
  first_last : (n : ℕ) (y : X) (ps : List (List X × T)) (last : List X) (x : X) (mark : Option T)
      → in_front y (with_last n (cut_list ps last) x mark) ≡ with_last n (in_front y (cut_list ps last)) x mark
  first_last n y [] last x None = refl
  first_last n y (p ∷ ps) last x None = refl
  first_last n y [] last x (Some mark) = first_ended (nat_lt 0 n) y [] last x mark
  first_last n y (p ∷ ps) last x (Some mark) = first_ended (nat_lt (length (p ∷ ps)) n) y (p ∷ ps) last x mark

  closes_ended : (b : Bool) (y : X) (u : T) (s : Split X T) (x : X) (mark : T)
      → closes y u (ended_if b x mark s) ≡ ended_if b x mark (closes y u s)
  closes_ended true y u s x mark = refl
  closes_ended false y u s x mark = refl

  closes_last : (n : ℕ) (y : X) (u : T) (s : Split X T) (x : X) (mark : Option T)
      → closes y u (with_last n s x mark) ≡ with_last (suc n) (closes y u s) x mark
  closes_last n y u s x None = refl
  closes_last n y u s x (Some mark) =
      closes_ended (nat_lt (length s.closed) n) y u s x mark
      ∙ ap (λ b. ended_if b x mark (closes y u s)) (one_less (length s.closed) n)

  pub split_push : (n : ℕ) (ms : List (X × Option T)) (x : X) (mark : Option T)
      → split n (ms ++ (x, mark) ∷ []) ≡ with_last n (split n ms) x mark
  split_push n [] x None = refl
  split_push zero [] x (Some mark) = refl
  split_push (suc n) [] x (Some mark) = ap (λ b. ended_if b x mark (cut_list [] [])) (some_room n)
  split_push n ((y, None) ∷ ms) x mark =
      ap (in_front y) (split_push n ms x mark) ∙ first_last n y (split n ms).closed (split n ms).recent x mark
  split_push zero ((y, Some u) ∷ ms) x mark =
      ap (in_front y) (split_push zero ms x mark)
      ∙ first_last zero y (split zero ms).closed (split zero ms).recent x mark
  split_push (suc n) ((y, Some u) ∷ ms) x mark =
      ap (closes y u) (split_push n ms x mark) ∙ closes_last n y u (split n ms) x mark

marks_of : (syms : SymbolMap) (asked : DumpPoints) (earlier xs : List Step)
    → map (λ m. m.0) (each_after (marked_after syms asked) earlier xs) ≡ xs
marks_of syms asked earlier [] = refl
marks_of syms asked earlier (x ∷ xs) = ap (λ ys. x ∷ ys) (marks_of syms asked (earlier ++ x ∷ []) xs)

pub cuts_together : (syms : SymbolMap) (asked : DumpPoints) (trace : List Step)
    → flat_map (λ s. s.0) (cuts syms asked trace).closed ++ (cuts syms asked trace).recent ≡ trace
unfolding cuts
cuts_together syms asked trace =
    split_together most_cuts (each_after (marked_after syms asked) [] trace) ∙ marks_of syms asked [] trace

pub cuts_limit : (syms : SymbolMap) (asked : DumpPoints) (trace : List Step)
    → length (cuts syms asked trace).closed ≤ most_cuts
unfolding cuts
cuts_limit syms asked trace = split_limit most_cuts (each_after (marked_after syms asked) [] trace)

pub cuts_push : (syms : SymbolMap) (asked : DumpPoints) (trace : List Step) (x : Step) → cuts syms asked (trace ++ x ∷ [])
    ≡ with_last most_cuts (cuts syms asked trace) x (cut_after syms asked (length trace + 1) x.on_stack)
unfolding cuts
cuts_push syms asked trace x =
    ap (split most_cuts) (each_after-push (marked_after syms asked) [] trace x)
    ∙ split_push most_cuts (each_after (marked_after syms asked) [] trace) x
    (cut_after syms asked (length trace + 1) x.on_stack)
