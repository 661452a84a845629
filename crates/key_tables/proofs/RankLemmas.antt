-- Texts side by side, and numbers among texts in order.
use Rattle.std.proofs.Common.{◌≡◌, ℕ, ◌-◌, List, [], ◌∷◌, ◌++◌, length, take, drop, ap, ◌∙◌, arith}
use Rattle.std.specs.Prelude.{All, slice_index, slice_index_or}
use Rattle.std.specs.Cmp.Lexicographic.{nat_list_cmp_total}
use Rattle.std.specs.List.Sorted.{IsStrictlySortedBy}
use Rattle.std.proofs.Math.Seq.{drop-append_seam}
use Rattle.std.proofs.lemmas.List.{length-append, take_all}
use Rattle.std.proofs.lemmas.Option.{slice_get-get_or}
use Rattle.name_numbers.specs.Keys.{NumberEach}
use Rattle.name_numbers.specs.Texts.{IsInFile, text_at, texts_at}
use Rattle.name_numbers.specs.declared.text_place.TextPlace.{TextPlace}
use Rattle.name_numbers.proofs.CleanTexts.{grows_append, pushed}
use Rattle.name_numbers.proofs.NumberOrder.{number_order}
use Rattle.key_tables.specs.Ranks.{AreTextRanks, text_order}

-- texts that stand side by side
abbrev pub Stand : List ℕ → List TextPlace → List (List ℕ) → Type 0
Stand bytes places texts = All (IsInFile bytes) places × (texts_at bytes places ≡ texts)

-- and one more of them
pub one_more : (bytes text : List ℕ) (places : List TextPlace) (texts : List (List ℕ)) (start end : ℕ)
    → start ≡ length bytes → end ≡ length (bytes ++ text) → Stand bytes places texts
    → Stand (bytes ++ text) (places ++ record { start = start; end = end } ∷ []) (texts ++ text ∷ [])
one_more bytes text places texts start end at to so =
    let place : TextPlace = record { start = start; end = end } in
    let long = length-append bytes text in
    let is : text_at (bytes ++ text) place ≡ text =
    (λ i. take (end - start) (drop (at i) (bytes ++ text))) ∙ ap (take (end - start)) (drop-append_seam bytes text)
    ∙ take_all (end - start) text (omega (arith, at, to, long)) in
    let both = pushed bytes (bytes ++ text) (grows_append bytes text) places so.0 place
    (omega (arith, at, to, long), omega (arith, to)) text is in
    (both.0, both.1 ∙ ap (λ ts. ts ++ text ∷ []) so.1)

-- numbers among texts in order are ranks
pub ranks_of_texts : (texts names : List (List ℕ)) (ranks : List ℕ) → IsStrictlySortedBy text_order names
    → NumberEach names ranks texts → AreTextRanks texts ranks
ranks_of_texts texts names ranks rise each = record {
  size = each.as_many;
  order = λ i j at_i at_j.
      number_order text_order nat_list_cmp_total names rise (slice_index ranks i) (slice_index ranks j)
      (slice_index_or texts i []) (slice_index_or texts j []) (each.each i at_i ∙ slice_get-get_or texts i [] at_i)
      (each.each j at_j ∙ slice_get-get_or texts j [] at_j);
}
