-- Names in files by the ranks of the cleaned names.
use Rattle.std.proofs.Common.{◌≡◌, ℕ, ◌+◌, ◌<◌, ◌≤◌, List, [], ◌∷◌, length, get_or, map, refl, sym, ap, ◌∙◌, subst, suc, zero}
use Rattle.std.proofs.Common.{Some, arith, option_map}
use Rattle.std.specs.Prelude.{All, slice_get, slice_index}
use Rattle.std.specs.List.{AllByRecursion}
use Rattle.std.specs.List.Sorted.{IsStrictlySortedBy}
use Rattle.std.specs.Cmp.Lexicographic.{slice_cmp}
use Rattle.std.specs.Ordering.{nat_cmp, ordering_then}
use Rattle.std.specs.declared.cmp.Ordering.TheVariants.{Less}
use Rattle.std.proofs.lemmas.Cmp.{nat_list_cmp_total}
use Rattle.std.proofs.lemmas.List.{length-map, get_or-map}
use Rattle.std.proofs.lemmas.Option.{slice_get-get_or, slice_get-map, slice_get_within, get_or_from_slice_get}
use Rattle.std.proofs.lemmas.List.Elements.{All-map, All-weaker}
use Rattle.byte_text.specs.Names.{clean_name, unknown as unknown_name}
use Rattle.name_numbers.specs.Keys.{NumberEach}
use Rattle.name_numbers.specs.Texts.{text_at, texts_at, IsInFile}
use Rattle.name_numbers.specs.FileNames.{by_file_name, file_name, unknown_in}
use Rattle.name_numbers.specs.declared.file_names.FileName.{FileName}
use Rattle.name_numbers.specs.declared.file_names.FileNameAt.{FileNameAt}
use Rattle.name_numbers.specs.declared.file_names.RankInFile.{RankInFile}
use Rattle.name_numbers.specs.declared.text_place.TextPlace.{TextPlace}
use Rattle.name_numbers.specs.inner.FileNamePlaces.{name_at}
use Rattle.name_numbers.specs.inner.FileNameKeys.{by_rank_in_file, clean_key, placed_key, name_of_key}
use Rattle.name_numbers.specs.inner.Places.{nowhere}
use Rattle.name_numbers.proofs.Members.{Alike, Alike-refl, Alike-trans, Alike-map, All-alike}
use Rattle.name_numbers.proofs.NumberOrder.{number_order, numbers_mapped}

-- the rank is that of one of so many names
abbrev pub HasRank : ℕ → RankInFile → Type 0
HasRank count key = key.rank < count

first : {X : Type 0} (P : X → Type 0) (x : X) (xs : List X) → All P (x ∷ xs) → P x
first P x xs all = all 0 x (omega arith)

rest : {X : Type 0} (P : X → Type 0) (x : X) (xs : List X) → All P (x ∷ xs) → All P xs
rest P x xs all = λ k d lt. all (suc k) d (omega arith)

-- ---- names by keys, where names are places

pub placed_names : (bytes : List ℕ) (places : List TextPlace) (keys : List RankInFile)
    → All (HasRank (length places)) keys
    → map (name_at bytes) (map (placed_key places) keys) ≡ map (name_of_key (texts_at bytes places)) keys
placed_names bytes places [] all = refl
placed_names bytes places (key ∷ keys) all =
    let lt : key.rank < length places = first (HasRank (length places)) key keys all in
    let name : get_or (texts_at bytes places) key.rank [] ≡ text_at bytes (get_or places key.rank nowhere) =
    get_or-map (text_at bytes) places key.rank nowhere [] lt in
    (λ i. record { file = key.file; name = sym name i }
    ∷ placed_names bytes places keys (rest (HasRank (length places)) key keys all) i)

pub placed_in_file : (bytes : List ℕ) (places : List TextPlace) (keys : List RankInFile)
    → All (HasRank (length places)) keys → All (IsInFile bytes) places
    → All (λ (item : FileNameAt). IsInFile bytes item.name) (map (placed_key places) keys)
placed_in_file bytes places keys ranks inside =
    All-map (λ (item : FileNameAt). IsInFile bytes item.name) (placed_key places) keys
    (λ k d lt. inside (get_or keys k d).rank nowhere (ranks k d lt))

-- ---- keys in order

module _ (names : List (List ℕ)) (rise : IsStrictlySortedBy (slice_cmp nat_cmp) names) where
  key_order : (x y : RankInFile) → x.rank < length names → y.rank < length names
      → by_file_name (name_of_key names x) (name_of_key names y) ≡ by_rank_in_file x y
  key_order x y here there =
      ap (ordering_then (nat_cmp x.file y.file))
      (sym (number_order (slice_cmp nat_cmp) nat_list_cmp_total names rise x.rank y.rank (get_or names x.rank [])
      (get_or names y.rank []) (slice_get-get_or names x.rank [] here) (slice_get-get_or names y.rank [] there)))

  names_rise : (keys : List RankInFile) → All (HasRank (length names)) keys
      → IsStrictlySortedBy by_rank_in_file keys → IsStrictlySortedBy by_file_name (map (name_of_key names) keys)
  unfolding IsStrictlySortedBy
  names_rise [] all sorted = sorted
  names_rise (key ∷ keys) all sorted = (
    above keys (rest (HasRank (length names)) key keys all) sorted.0,
    names_rise keys (rest (HasRank (length names)) key keys all) sorted.1,
  )
    where
      above : (ks : List RankInFile) → All (HasRank (length names)) ks
          → AllByRecursion (λ k. by_rank_in_file key k ≡ Less) ks
          → AllByRecursion (λ f. by_file_name (name_of_key names key) f ≡ Less) (map (name_of_key names) ks)
      above [] some less = less
      above (k ∷ ks) some less = (
        key_order key k (first (HasRank (length names)) key keys all) (first (HasRank (length names)) k ks some)
            ∙ less.0,
        above ks (rest (HasRank (length names)) k ks some) less.1,
      )

-- ---- keys by the ranks of names that aren't cleaned

module _ (names clean : List (List ℕ)) (ranks : List ℕ) (each : NumberEach clean ranks (map clean_name names)) where
  rank_in : (n : ℕ) → n < length names → slice_index ranks n < length clean
  rank_in n lt =
      let long = length-map names clean_name in
      let inside : n < length (map clean_name names) = omega (arith, long) in
      slice_get_within clean (slice_index ranks n) (get_or (map clean_name names) n [])
      (each.each n inside ∙ slice_get-get_or (map clean_name names) n [] inside)

  clean_name_at : (n : ℕ) → n < length names → get_or clean (slice_index ranks n) [] ≡ clean_name (get_or names n [])
  clean_name_at n lt =
      let long = length-map names clean_name in
      let inside : n < length (map clean_name names) = omega (arith, long) in
      get_or_from_slice_get clean (slice_index ranks n) (get_or (map clean_name names) n []) []
      (each.each n inside ∙ slice_get-get_or (map clean_name names) n [] inside)
      ∙ get_or-map clean_name names n [] [] lt

  clean_names : (keys : List RankInFile) → All (HasRank (length names)) keys
      → map (name_of_key clean) (map (clean_key ranks) keys) ≡ map (file_name names) keys
  clean_names [] all = refl
  clean_names (key ∷ keys) all =
      let P : RankInFile → Type 0 = HasRank (length names) in
      (λ i. record { file = key.file; name = clean_name_at key.rank (first P key keys all) i }
      ∷ clean_names keys (rest P key keys all) i)

  clean_ranks : (keys : List RankInFile) → All (HasRank (length names)) keys
      → All (HasRank (length clean)) (map (clean_key ranks) keys)
  clean_ranks keys all =
      All-map (HasRank (length clean)) (clean_key ranks) keys
      (All-weaker (HasRank (length names)) (λ (key : RankInFile). HasRank (length clean) (clean_key ranks key))
      (λ key lt. rank_in key.rank lt) keys all)

-- ---- all names with the unknown one

-- names in files are numbered
pub record AreNumbered (names : List (List ℕ)) (file : ℕ) (keys : List RankInFile) (made : List FileName)
    (numbers : List ℕ) (last : ℕ) : Type 0 where
  pub rise : IsStrictlySortedBy by_file_name made
  pub same : Alike made (unknown_in file ∷ map (file_name names) keys)
  pub few : length made ≤ length keys + 1
  pub each : NumberEach made numbers (map (file_name names) keys)
  pub unknown : slice_get made last ≡ Some (unknown_in file)

-- keys by the ranks of cleaned names are numbered, with one of the name that stands where none is known
pub record AreKeys (file unknown : ℕ) (all apart : List RankInFile) (numbers : List ℕ) (last : ℕ) : Type 0 where
  pub rise : IsStrictlySortedBy by_rank_in_file apart
  pub same : Alike apart (record { file = file; rank = unknown } ∷ all)
  pub few : length apart ≤ length all + 1
  pub each : NumberEach apart numbers all
  pub there : slice_get apart last ≡ Some (record { file = file; rank = unknown })

module _ (names clean : List (List ℕ)) (ranks : List ℕ) (each : NumberEach clean ranks (map clean_name names)) (unknown : ℕ)
    (at : slice_get clean unknown ≡ Some unknown_name) (file : ℕ) (keys all apart : List RankInFile)
    (numbers : List ℕ) (last : ℕ) (some : All (HasRank (length names)) keys) (made : all ≡ map (clean_key ranks) keys)
    (so : AreKeys file unknown all apart numbers last) where
  -- all keys have ranks of names
  pub ranks_within : All (HasRank (length clean)) apart
  ranks_within = All-alike (HasRank (length clean)) (record { file = file; rank = unknown } ∷ all) apart so.same
      (λ k d lt. go k d lt)
    where
      go : (k : ℕ) (d : RankInFile) → k < length (record { file = file; rank = unknown } ∷ all)
          → (get_or (record { file = file; rank = unknown } ∷ all) k d).rank < length clean
      go zero d lt = slice_get_within clean unknown unknown_name at
      go (suc k) d lt =
          subst (All (HasRank (length clean))) (sym made) (clean_ranks names clean ranks each keys some) k d (omega arith)

  all_names : map (name_of_key clean) all ≡ map (file_name names) keys
  all_names = ap (map (name_of_key clean)) made ∙ clean_names names clean ranks each keys some

  is : name_of_key clean (record { file = file; rank = unknown }) ≡ unknown_in file
  is = λ i. record { file = file; name = get_or_from_slice_get clean unknown unknown_name [] at i }

  pub are_numbered : IsStrictlySortedBy (slice_cmp nat_cmp) clean
      → AreNumbered names file keys (map (name_of_key clean) apart) numbers last
  are_numbered rise =
      let f : RankInFile → FileName = name_of_key clean in
      let first_key : RankInFile = record { file = file; rank = unknown } in
      let long : length (map f apart) ≡ length apart = length-map apart f in
      let wide : length all ≡ length keys = ap length made ∙ length-map keys (clean_key ranks) in
      let few = so.few in
      record {
        rise = names_rise clean rise apart ranks_within so.rise;
        same = Alike-trans (map f apart) (map f (first_key ∷ all)) (unknown_in file ∷ map (file_name names) keys)
            (Alike-map f apart (first_key ∷ all) so.same)
            (Alike-refl (map f (first_key ∷ all)) (unknown_in file ∷ map (file_name names) keys)
            (λ i. is i ∷ all_names i));
        few = (omega (arith, long, wide, few));
        each = subst (NumberEach (map f apart) numbers) all_names (numbers_mapped f apart numbers all so.each);
        unknown = slice_get-map f apart last ∙ ap (option_map f) so.there ∙ ap (λ (name : FileName). Some name) is;
      }
