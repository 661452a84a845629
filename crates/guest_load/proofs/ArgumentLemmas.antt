-- How many bytes arguments need, argument by argument.
use Rattle.std.proofs.Common.{◌≡◌, ℕ, ◌+◌, ◌≤◌, ◌<◌, List, [], ◌∷◌, length, get_or, take, map, refl, sym, ◌∙◌, ap, ◌++◌}
use Rattle.std.proofs.Common.{arith, append_assoc}
use Rattle.std.specs.Prelude.{sum_by}
use Rattle.std.specs.List.{range_with_len}
use Rattle.std.proofs.lemmas.List.{map_more, take-map}
use Rattle.std.proofs.lemmas.List.FromFn.{map-range_with_len_more}
use Rattle.std.proofs.lemmas.List.Sums.{sum_by_push, sum_by-cons, sum_by-take-le}
use Rattle.guest_load.specs.Arguments.{arguments_len}

pub no_arguments : arguments_len [] ≡ 0
unfolding arguments_len
no_arguments = refl

module _ {X : Type 0} (f : X → List ℕ) where
  -- one argument more
  pub len_more : (args : List X) (i : ℕ) (d : X) → i < length args
      → arguments_len (map f (take (i + 1) args))
      ≡ arguments_len (map f (take i args)) + (length (f (get_or args i d)) + 1)
  unfolding arguments_len
  len_more args i d h = ap (sum_by (λ a. length a + 1)) (map_more f args i d h)
      ∙ sum_by_push (λ a. length a + 1) (map f (take i args)) (f (get_or args i d))

  -- a front of them needs no more than all
  pub len_within : (args : List X) (i : ℕ) → arguments_len (map f (take i args)) ≤ arguments_len (map f args)
  unfolding arguments_len
  len_within args i =
      omega (
        arith,
        sum_by-take-le (λ a. length a + 1) (map f args) i,
        ap (sum_by (λ a. length a + 1))
            (take-map f i args),
      )

  -- where each begins, from start on
  abbrev pub begins : List X → ℕ → ℕ → ℕ
  begins args start k = start + arguments_len (take k (map f args))

  -- one address more
  pub addresses_more : (args : List X) (i start addr : ℕ) (old words new : List ℕ)
      → addr ≡ start + arguments_len (map f (take i args)) → words ≡ old ++ map (begins args start) (range_with_len 0 i)
      → new ≡ words ++ addr ∷ [] → new ≡ old ++ map (begins args start) (range_with_len 0 (i + 1))
  addresses_more args i start addr old words new place before pushed =
      let here : addr ≡ begins args start i = place ∙ ap (λ xs. start + arguments_len xs) (sym (take-map f i args)) in
      let more = map-range_with_len_more (begins args start) 0 i i (omega arith) in
      pushed ∙ ap (λ ws. ws ++ addr ∷ []) before ∙ append_assoc old _ _
      ∙ ap (λ a. old ++ (map (begins args start) (range_with_len 0 i) ++ a ∷ [])) here
      ∙ ap (λ ws. old ++ ws) (sym more)

-- each needs at least one byte
pub length-le-arguments_len : (args : List (List ℕ)) → length args ≤ arguments_len args
unfolding arguments_len
length-le-arguments_len [] = omega arith
length-le-arguments_len (a ∷ rest) =
    omega (arith, length-le-arguments_len rest, sum_by-cons (λ (b : List ℕ). length b + 1) a rest)
