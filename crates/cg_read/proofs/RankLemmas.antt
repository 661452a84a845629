-- Functions by the ranks of their texts.
use Rattle.std.proofs.Common.{◌≡◌, ℕ, ◌<◌, List, length, get_or, map, refl, sym, ap, ◌∙◌, arith}
use Rattle.std.specs.Prelude.{All, slice_index}
use Rattle.std.specs.Ordering.{nat_cmp}
use Rattle.std.proofs.lemmas.List.{length-map, get_or-map}
use Rattle.key_tables.specs.Ranks.{AreTextRanks}
use Rattle.cg_read.specs.Profiles.{function_at, unknown_function}
use Rattle.cg_read.specs.Ranks.{AreRanks, CompareAlike, rank_at, text_order}
use Rattle.cg_read.specs.inner.Gains.{renumber}
use Rattle.cg_read.specs.inner.Texts.{IsOfTexts, function_in, text_in}
use Rattle.cg_read.specs.declared.function_numbers.FunctionNumbers.{FunctionNumbers}
use Rattle.cg_read.specs.declared.rows.FuncKey.{FuncKey}

abbrev nowhere : FunctionNumbers
nowhere = record { object = 0; file = 0; name = 0 }

module _ (texts : List (List ℕ)) (numbered : List FunctionNumbers) (ranks : List ℕ)
    (known : All (IsOfTexts (length texts)) numbered) (are : AreTextRanks texts ranks) where
  abbrev functions : List FuncKey
  functions = map (function_in texts) numbered

  abbrev renamed : List FunctionNumbers
  renamed = map (renumber ranks) numbered

  -- a text of the functions and its rank
  alike : (text : FuncKey → List ℕ) (number : FunctionNumbers → ℕ)
      → ((n : FunctionNumbers) → text (function_in texts n) ≡ text_in texts (number n))
      → ((n : FunctionNumbers) → number (renumber ranks n) ≡ slice_index ranks (number n))
      → ((n : FunctionNumbers) → IsOfTexts (length texts) n → number n < length texts)
      → CompareAlike functions renamed text number
  alike text number is_text is_rank within f g at_f at_g =
      let inside_f : f < length numbered = omega (arith, at_f, length-map numbered (function_in texts)) in
      let inside_g : g < length numbered = omega (arith, at_g, length-map numbered (function_in texts)) in
      let rank : (k : ℕ) → k < length numbered
      → number (rank_at renamed k) ≡ slice_index ranks (number (get_or numbered k nowhere))
      = λ k lt.
      ap number (get_or-map (renumber ranks) numbered k nowhere nowhere lt) ∙ is_rank (get_or numbered k nowhere) in
      let word : (k : ℕ) → k < length numbered
      → text (function_at functions k) ≡ text_in texts (number (get_or numbered k nowhere))
      = λ k lt.
      ap text (get_or-map (function_in texts) numbered k nowhere unknown_function lt)
      ∙ is_text (get_or numbered k nowhere) in
      ap (λ r. nat_cmp r (number (rank_at renamed g))) (rank f inside_f)
      ∙ ap (nat_cmp (slice_index ranks (number (get_or numbered f nowhere)))) (rank g inside_g)
      ∙ are.order (number (get_or numbered f nowhere)) (number (get_or numbered g nowhere))
      (within (get_or numbered f nowhere) (known f nowhere inside_f))
      (within (get_or numbered g nowhere) (known g nowhere inside_g))
      ∙ sym (ap (λ t. text_order t (text (function_at functions g))) (word f inside_f)
      ∙ ap (text_order (text_in texts (number (get_or numbered f nowhere)))) (word g inside_g))

  pub function_ranks : AreRanks functions renamed
  function_ranks = record {
    size = length-map numbered (renumber ranks) ∙ sym (length-map numbered (function_in texts));
    object = alike (λ f. f.object) (λ n. n.object) (λ n. refl) (λ n. refl) (λ n known. known.object);
    file = alike (λ f. f.file) (λ n. n.file) (λ n. refl) (λ n. refl) (λ n known. known.file);
    name = alike (λ f. f.name) (λ n. n.name) (λ n. refl) (λ n. refl) (λ n known. known.name);
  }

  pub ranks_known : All (IsOfTexts (length ranks)) numbered
  ranks_known k d lt =
      let at = known k d lt in
      record {
        object = omega (arith, at.object, are.size);
        file = omega (arith, at.file, are.size);
        name = omega (arith, at.name, are.size);
      }
