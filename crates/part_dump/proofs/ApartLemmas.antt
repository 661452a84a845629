-- The names of a run's files differ.
use Rattle.std.proofs.Common.{◌≡◌, ◌≢◌, ℕ, zero, suc, ◌+◌, ◌^◌, ◌<◌, ◌≤◌, max, List, [], ◌∷◌, ◌++◌, flat_map, fold}
use Rattle.std.proofs.Common.{length, All, AllPairs, refl, ap, sym, ◌∙◌, subst, append_assoc, arith}
use Rattle.std.specs.List.{AllByRecursion, enumerate_from}
use Rattle.std.proofs.lemmas.List.{append-nil, length_push}
use Rattle.std.proofs.lemmas.List.Concat.{flat_map-append}
use Rattle.std.proofs.lemmas.List.Elements.{All-from_recursion, All-head, All-tail}
use Rattle.std.proofs.lemmas.List.Kept.{AllPairs-cons}
use Rattle.cg_format.specs.declared.trigger.Trigger.{Trigger}
use Rattle.cg_format.specs.declared.trigger.Trigger.TheVariants.{Termination}
use Rattle.sym_map.specs.SymbolMap.{SymbolMap}
use Rattle.shadow_stack.specs.Traces.{EventOnStack}
use Rattle.arc_costs.specs.Contents.{Listed}
use Rattle.cg_format.specs.Rows.{below}
use Rattle.cg_format.specs.declared.head.PartHead.{PartHead}
use Rattle.part_dump.specs.Cuts.{DumpPoints, cuts}
use Rattle.outside.specs.Outside.{Named}
use Rattle.part_dump.specs.Files.{part_name}
use Rattle.part_dump.specs.Parts.{closed_files, files, segment_files, thread_files}
use Rattle.part_dump.specs.Steps.{Step, greatest, events_on_stack_of, thread_of}
use Rattle.part_dump.proofs.CutLemmas.{cuts_limit, cuts_together}
use Rattle.part_dump.proofs.NameLemmas.{names_apart}

abbrev Each : {X : Type 0} → (X → Type 0) → List X → Type 0
Each = AllByRecursion

Each-append : {X : Type 0} (P : X → Type 0) (xs ys : List X) → Each P xs → Each P ys → Each P (xs ++ ys)
Each-append P [] ys all others = others
Each-append P (x ∷ xs) ys all others = (all.0, Each-append P xs ys all.1 others)

Each-weaker : {X : Type 0} (P Q : X → Type 0) → ((x : X) → P x → Q x) → (xs : List X) → Each P xs → Each Q xs
Each-weaker P Q weaker [] all = tt
Each-weaker P Q weaker (x ∷ xs) all = (weaker x all.0, Each-weaker P Q weaker xs all.1)

Each-left : {X : Type 0} (P : X → Type 0) (xs ys : List X) → Each P (xs ++ ys) → Each P xs
Each-left P [] ys all = tt
Each-left P (x ∷ xs) ys all = (all.0, Each-left P xs ys all.1)

Each-right : {X : Type 0} (P : X → Type 0) (xs ys : List X) → Each P (xs ++ ys) → Each P ys
Each-right P [] ys all = all
Each-right P (x ∷ xs) ys all = Each-right P xs ys all.1

Each-from_all : {X : Type 0} (P : X → Type 0) (xs : List X) → All P xs → Each P xs
Each-from_all P [] all = tt
Each-from_all P (x ∷ xs) all = (All-head P x xs all, Each-from_all P xs (All-tail P x xs all))

-- the name of a file differs from those of others
abbrev DiffersFrom : List Named → Named → Type 0
DiffersFrom fs f = Each (λ g. f.0 ≢ g.0) fs

-- names that differ from each other
abbrev AreApart : List Named → Type 0
AreApart [] = Unit {0}
AreApart (f ∷ fs) = DiffersFrom fs f × AreApart fs

AreApart-append : (fs gs : List Named) → AreApart fs → AreApart gs → Each (DiffersFrom gs) fs → AreApart (fs ++ gs)
AreApart-append [] gs apart others differ = others
AreApart-append (f ∷ fs) gs apart others differ =
    (Each-append (λ g. f.0 ≢ g.0) fs gs apart.0 differ.0, AreApart-append fs gs apart.1 others differ.1)

AllPairs-apart : (fs : List Named) → AreApart fs → AllPairs (λ f g. f.0 ≢ g.0) fs
AllPairs-apart [] apart = λ i j d below within. absurd (omega arith)
AllPairs-apart (f ∷ fs) apart =
    AllPairs-cons (λ f g. f.0 ≢ g.0) f fs (All-from_recursion (λ g. f.0 ≢ g.0) fs apart.0) (AllPairs-apart fs apart.1)

-- the greatest number of a thread is small where all are
greatest_below : (limit most : ℕ) (xs : List Step) → most < limit → Each (λ x. thread_of x < limit) xs
    → fold (λ most x. max most (thread_of x)) most xs < limit
greatest_below limit most [] small all = small
greatest_below limit most (x ∷ xs) small all =
    let this = all.0 in greatest_below limit (max most (thread_of x)) xs (omega arith) all.1

module _ (rows_of : List EventOnStack → Listed) (head : PartHead) (syms : SymbolMap) (base : List ℕ) where
  -- a file of a part, of a thread below a number
  abbrev IsOfPart : ℕ → ℕ → Named → Type 0
  IsOfPart part n f = (thread : ℕ) × (thread < n) × (f.0 ≡ part_name base part thread)

  -- a file of a part from this number on
  abbrev IsFromPart : ℕ → Named → Type 0
  IsFromPart part f =
      (other : ℕ) × (part ≤ other) × (other < 2 ^ 32)
      × ((thread : ℕ) × (thread < 2 ^ 32) × (f.0 ≡ part_name base other thread))

  other_thread : (part n : ℕ) → part < 2 ^ 32 → n < 2 ^ 32 → (f g : Named) → IsOfPart part n f
      → g.0 ≡ part_name base part n → f.0 ≢ g.0
  other_thread part n small below f g of-part is same =
      let both = names_apart base part of-part.0 part n small (omega (arith, of-part.1)) small below
      (sym of-part.2 ∙ same ∙ is) in
      absurd (omega (arith, of-part.1, both.1))

  other_part : (part n : ℕ) → part < 2 ^ 32 → n ≤ 2 ^ 32 → (f g : Named) → IsOfPart part n f
      → IsFromPart (part + 1) g → f.0 ≢ g.0
  other_part part n small below f g of-part later same =
      let both =
      names_apart base part of-part.0 later.0 later.3.0 small (omega (arith, of-part.1)) later.2 later.3.1
      (sym of-part.2 ∙ same ∙ later.3.2)
      in
      absurd (omega (arith, later.1, both.0))

  -- the files of a part, of the threads below a number
  abbrev files_below : ℕ → Trigger → List Step → ℕ → List Named
  files_below part trigger segment n =
      flat_map (λ thread. thread_files rows_of head syms base part trigger thread (events_on_stack_of thread segment)) (below n)

  one_of_part : (part : ℕ) (trigger : Trigger) (n : ℕ) (xs : List EventOnStack)
      → Each (λ f. f.0 ≡ part_name base part n) (thread_files rows_of head syms base part trigger n xs)
  one_of_part part trigger n [] = tt
  one_of_part part trigger n (x ∷ xs) = (refl, tt)

  one_apart : (part : ℕ) (trigger : Trigger) (n : ℕ) (xs : List EventOnStack)
      → AreApart (thread_files rows_of head syms base part trigger n xs)
  one_apart part trigger n [] = tt
  one_apart part trigger n (x ∷ xs) = (tt, tt)

  pub files_more : (part : ℕ) (trigger : Trigger) (segment : List Step) (n : ℕ)
      → files_below part trigger segment (suc n)
      ≡ files_below part trigger segment n ++ thread_files rows_of head syms base part trigger n (events_on_stack_of n segment)
  files_more part trigger segment n =
      let file = λ (thread : ℕ). thread_files rows_of head syms base part trigger thread (events_on_stack_of thread segment) in
      flat_map-append file (below n) (n ∷ []) ∙ ap (λ fs. flat_map file (below n) ++ fs) (append-nil (file n))

  part_files : (part : ℕ) (trigger : Trigger) (segment : List Step) (n : ℕ) → part < 2 ^ 32 → n ≤ 2 ^ 32
      → Each (IsOfPart part n) (files_below part trigger segment n) × AreApart (files_below part trigger segment n)
  part_files part trigger segment zero small below = (tt, tt)
  part_files part trigger segment (suc n) small below =
      let before = part_files part trigger segment n small (omega arith) in
      let old = files_below part trigger segment n in
      let new = thread_files rows_of head syms base part trigger n (events_on_stack_of n segment) in
      let named = one_of_part part trigger n (events_on_stack_of n segment) in
      let both : List Named → Type 0 = λ fs. Each (IsOfPart part (suc n)) fs × AreApart fs in
      subst both (sym (files_more part trigger segment n)) (
        Each-append (IsOfPart part (suc n)) old new
            (Each-weaker (IsOfPart part n) (IsOfPart part (suc n))
            (λ f of-part. (of-part.0, omega (arith, of-part.1), of-part.2)) old before.0)
            (Each-weaker (λ f. f.0 ≡ part_name base part n) (IsOfPart part (suc n))
            (λ f is. (n, omega arith, is)) new named),
        AreApart-append old new before.1 (one_apart part trigger n (events_on_stack_of n segment))
            (Each-weaker (IsOfPart part n) (DiffersFrom new)
            (λ f of-part. Each-weaker (λ g. g.0 ≡ part_name base part n) (λ g. f.0 ≢ g.0)
            (λ g is. other_thread part n small (omega arith) f g of-part is) new named) old before.0),
      )

  abbrev FewThreads : List Step × Trigger → Type 0
  FewThreads s = Each (λ x. thread_of x < 2 ^ 32) s.0

  -- the files of segments that count from a number
  abbrev files_from : ℕ → List (List Step × Trigger) → List Named
  files_from k segments =
      flat_map (λ s. segment_files rows_of head syms base s.0 s.1.0 s.1.1) (enumerate_from k segments)

  segments_apart : (k : ℕ) (segments : List (List Step × Trigger)) → k + length segments < 2 ^ 32
      → Each FewThreads segments
      → Each (IsFromPart k) (files_from k segments) × AreApart (files_from k segments)
  segments_apart k [] few threads-few = (tt, tt)
  segments_apart k (s ∷ segments) few threads-few =
      let n = suc (greatest s.0) in
      let least = greatest_below (2 ^ 32) 0 s.0 (omega arith) threads-few.0 in
      let this = part_files k s.1 s.0 n (omega arith) (omega arith) in
      let rest = segments_apart (k + 1) segments (omega arith) threads-few.1 in
      let here = segment_files rows_of head syms base k s.0 s.1 in
      let later = files_from (k + 1) segments in (
        Each-append (IsFromPart k) here later
            (Each-weaker (IsOfPart k n) (IsFromPart k)
            (λ f of-part. (k, omega arith, omega arith, (of-part.0, omega (arith, of-part.1), of-part.2))) here this.0)
            (Each-weaker (IsFromPart (k + 1)) (IsFromPart k)
            (λ f later. (later.0, omega (arith, later.1), later.2, later.3)) later rest.0),
        AreApart-append here later this.1 rest.1
            (Each-weaker (IsOfPart k n) (DiffersFrom later)
            (λ f of-part. Each-weaker (IsFromPart (k + 1)) (λ g. f.0 ≢ g.0)
            (λ g from. other_part k n (omega arith) (omega arith) f g of-part from) later rest.0) here this.0),
      )

  -- the last segment comes after those that cuts end
  with_last_segment : (k last : ℕ) (segments : List (List Step × Trigger)) (s : List Step × Trigger)
      → last ≡ k + length segments
      → files_from k (segments ++ s ∷ []) ≡ files_from k segments ++ segment_files rows_of head syms base last s.0 s.1
  with_last_segment k last [] s is =
      append-nil (segment_files rows_of head syms base k s.0 s.1)
      ∙ ap (λ n. segment_files rows_of head syms base n s.0 s.1) (omega (arith, is))
  with_last_segment k last (first ∷ segments) s is =
      let here = segment_files rows_of head syms base k first.0 first.1 in
      ap (λ fs. here ++ fs) (with_last_segment (k + 1) last segments s (omega (arith, is)))
      ∙ sym (append_assoc here (files_from (k + 1) segments) (segment_files rows_of head syms base last s.0 s.1))

  few_in_closed : (segments : List (List Step × Trigger))
      → Each (λ x. thread_of x < 2 ^ 32) (flat_map (λ s. s.0) segments)
      → Each FewThreads segments
  few_in_closed [] few = tt
  few_in_closed (s ∷ segments) few =
      let P : Step → Type 0 = λ x. thread_of x < 2 ^ 32 in
      let rest = flat_map (λ (s : List Step × Trigger). s.0) segments in
      (Each-left P s.0 rest few, few_in_closed segments (Each-right P s.0 rest few))

  pub files_apart : (asked : DumpPoints) (trace : List Step) → All (λ x. thread_of x < 2 ^ 32) trace
      → AllPairs (λ f g. f.0 ≢ g.0) (files rows_of head syms base asked trace)
  unfolding files
  files_apart asked trace few =
      let closed = (cuts syms asked trace).closed in
      let recent = (cuts syms asked trace).recent in
      let P : Step → Type 0 = λ x. thread_of x < 2 ^ 32 in
      let all = flat_map (λ (s : List Step × Trigger). s.0) closed in
      let each = subst (Each P) (sym (cuts_together syms asked trace)) (Each-from_all P trace few) in
      let segments = closed ++ (recent, Termination) ∷ [] in
      let threads-few =
      Each-append FewThreads closed ((recent, Termination) ∷ []) (few_in_closed closed (Each-left P all recent each))
      (Each-right P all recent each, tt)
      in
      let few-parts = length_push closed (recent, Termination) in
      let whole = segments_apart 1 segments (omega (arith, few-parts, cuts_limit syms asked trace)) threads-few in
      let is = with_last_segment 1 (length closed + 1) closed (recent, Termination) (omega arith) in
      AllPairs-apart (closed_files rows_of head syms base closed
      ++ segment_files rows_of head syms base (length closed + 1) recent Termination) (subst AreApart is whole.1)
