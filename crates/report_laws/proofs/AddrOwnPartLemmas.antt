-- The parts of a run by address, each beside the plain part of its thread in its segment.
use Rattle.std.proofs.Common.{◌≡◌, ◌≢◌, ℕ, ◌+◌, List, [], ◌∷◌, ◌++◌, length, map, flat_map, get_or, refl, sym, ap}
use Rattle.std.proofs.Common.{subst, ◌∙◌, arith, append_assoc, append-nil}
use Rattle.std.specs.List.{AllByRecursion, AllPairs, enumerate_from}
use Rattle.std.proofs.Math.ListN.{get_or-map}
use Rattle.std.proofs.lemmas.List.{length-map, map-append}
use Rattle.std.proofs.lemmas.List.Concat.{flat_map-append}
use Rattle.outside.specs.Outside.{Named}
use Rattle.cg_format.specs.declared.trigger.Trigger.{Trigger}
use Rattle.cg_format.specs.declared.trigger.Trigger.TheVariants.{Termination}
use Rattle.sym_map.specs.SymbolMap.{SymbolMap}
use Rattle.shadow_stack.specs.Traces.{EventOnStack}
use Rattle.arc_costs.specs.Contents.{Listed}
use Rattle.cg_format.specs.declared.head.PartHead.{PartHead}
use Rattle.part_dump.specs.Calls.{head_of}
use Rattle.part_dump.specs.Cuts.{DumpPoints, cuts}
use Rattle.part_dump.specs.Files.{part_name}
use Rattle.part_dump.specs.Parts.{files}
use Rattle.part_dump.specs.Steps.{Step, events_on_stack_of, threads, IsPiece}
use Rattle.part_dump.proofs.CutLemmas.{cuts_together}
use Rattle.once_each.specs.Parts.{ThreadRows}
use Rattle.once_each.specs.Written as written
use Rattle.once_each.specs.Written.{file_of, segments_of, thread_part}
use Rattle.report_laws.proofs.Others.{run_files, all_append, map_map}
use Rattle.reads_back.specs.Joined.{WrittenPart}
use Rattle.addr_rows.specs.Rows.{AddrListed}
use Rattle.addr_rows.specs.Texts.{addr_text}
use Rattle.addr_rows.specs.Files as by_address
use Rattle.addr_rows.specs.Files.{addr_files, addr_rows_in}

abbrev pub Segment : Type 0
Segment = List Step × Trigger

-- the plain part, and its rows by address
pub record AddrPart : Type 0 where
  pub part : WrittenPart
  pub rows : AddrListed

map_flat : {X Y Z : Type 0} (f : Y → Z) (g : X → List Y) (h : X → List Z) → ((x : X) → map f (g x) ≡ h x)
    → (xs : List X)
    → map f (flat_map g xs) ≡ flat_map h xs
map_flat f g h same [] = refl
map_flat f g h same (x ∷ xs) = map-append f (g x) (flat_map g xs) ∙ (λ i. same x i ++ map_flat f g h same xs i)

pub each_flat : {X Y : Type 0} (P : Y → Type 0) (g : X → List Y) → ((x : X) → AllByRecursion P (g x)) → (xs : List X)
    → AllByRecursion P (flat_map g xs)
each_flat P g all [] = tt
each_flat P g all (x ∷ xs) = all_append P (g x) (flat_map g xs) (all x) (each_flat P g all xs)

-- the steps of segments; those of a run's segments are its steps
abbrev pub flat : List Segment → List Step
flat segments = flat_map (λ (s : Segment). s.0) segments

pub whole_run : (m : SymbolMap) (asked : DumpPoints) (steps : List Step) → flat (segments_of m asked steps) ≡ steps
whole_run m asked steps =
    let closed = (cuts m asked steps).closed in
    let recent = (cuts m asked steps).recent in
    flat_map-append (λ (s : Segment). s.0) closed ((recent, Termination) ∷ [])
    ∙ ap (λ xs. flat_map (λ (s : Segment). s.0) closed ++ xs) (append-nil recent) ∙ cuts_together m asked steps

-- files are apart by their names
pub apart_as : (xs ys : List Named) → map (λ (f : Named). f.0) xs ≡ map (λ (f : Named). f.0) ys
    → AllPairs (λ f g. f.0 ≢ g.0) xs → AllPairs (λ f g. f.0 ≢ g.0) ys
apart_as xs ys same apart i j d less within e =
    let long : length xs ≡ length ys
    = sym (length-map xs (λ (f : Named). f.0)) ∙ ap length same ∙ length-map ys (λ (f : Named). f.0) in
    let name : (k : ℕ) → (get_or xs k d).0 ≡ (get_or ys k d).0
    = λ k. sym (get_or-map (λ (f : Named). f.0) xs k d) ∙ ap (λ (ns : List (List ℕ)). get_or ns k d.0) same
    ∙ get_or-map (λ (f : Named). f.0) ys k d in
    apart i j d less (omega (arith, within, long)) (name i ∙ e ∙ sym (name j))

module _ (rows_of : List EventOnStack → Listed) (head : PartHead) (m : SymbolMap) (base : List ℕ) where
  abbrev part_of : ℕ → Trigger → ThreadRows → WrittenPart
  part_of number trigger part = record { head = head_of head number trigger part.thread.0; rows = part.rows }

  -- that of a thread; there is none where it has no event in the segment
  abbrev pub thread_parts : ℕ → Trigger → ℕ → AddrListed → List EventOnStack → List AddrPart
  thread_parts number trigger thread rows [] = []
  thread_parts number trigger thread rows (x ∷ xs) =
      record {
        part = record { head = head_of head number trigger thread; rows = rows_of (x ∷ xs) };
        rows = rows;
      } ∷ []

  abbrev pub segment_parts : List Step → ℕ → List Step → Trigger → List AddrPart
  segment_parts earlier number segment trigger =
      flat_map (λ thread. thread_parts number trigger thread (addr_rows_in m thread earlier segment)
      (events_on_stack_of thread segment)) (threads segment)

  abbrev pub parts_from : List Step → ℕ → List Segment → List AddrPart
  parts_from earlier number [] = []
  parts_from earlier number (s ∷ segments) =
      segment_parts earlier number s.0 s.1 ++ parts_from (earlier ++ s.0) (number + 1) segments

  abbrev pub parts_by_address : DumpPoints → List Step → List AddrPart
  parts_by_address asked steps = parts_from [] 1 (segments_of m asked steps)

  -- ---- their files

  abbrev pub name_of : WrittenPart → List ℕ
  name_of part = part_name base part.head.part part.head.thread.0

  abbrev pub text_of : AddrPart → List ℕ
  text_of p = addr_text p.part.head p.rows m

  abbrev file : AddrPart → Named
  file p = (name_of p.part, text_of p)

  thread_files_are : (number : ℕ) (trigger : Trigger) (earlier segment : List Step) (thread : ℕ) (xs : List EventOnStack)
      → map file (thread_parts number trigger thread (addr_rows_in m thread earlier segment) xs)
      ≡ by_address.thread_files head m base number trigger thread
      (addr_rows_in m thread earlier segment) xs
  thread_files_are number trigger earlier segment thread [] = refl
  thread_files_are number trigger earlier segment thread (x ∷ xs) = refl

  segment_files_are : (earlier : List Step) (number : ℕ) (segment : List Step) (trigger : Trigger)
      → map file (segment_parts earlier number segment trigger)
      ≡ by_address.segment_files head m base earlier number segment trigger
  segment_files_are earlier number segment trigger =
      map_flat file
      (λ thread. thread_parts number trigger thread (addr_rows_in m thread earlier segment) (events_on_stack_of thread segment))
      (λ thread. by_address.thread_files head m base number trigger thread
      (addr_rows_in m thread earlier segment) (events_on_stack_of thread segment))
      (λ thread. thread_files_are number trigger earlier segment thread (events_on_stack_of thread segment)) (threads segment)

  -- the last segment stands behind those that cuts end
  files_are : (earlier : List Step) (number last : ℕ) (segments : List Segment) (s : Segment)
      → last ≡ number + length segments
      → map file (parts_from earlier number (segments ++ s ∷ []))
      ≡ by_address.files_from head m base earlier number segments
      ++ by_address.segment_files head m base (earlier ++ by_address.steps_of head m base segments) last s.0 s.1
  files_are earlier number last [] s is =
      map-append file (segment_parts earlier number s.0 s.1) []
      ∙ append-nil (map file (segment_parts earlier number s.0 s.1)) ∙ segment_files_are earlier number s.0 s.1
      ∙ (λ i. by_address.segment_files head m base (sym (append-nil earlier) i)
      (let e : number ≡ last = omega (arith, is) in e i) s.0 s.1)
  files_are earlier number last (first ∷ segments) s is =
      let here = by_address.segment_files head m base earlier number first.0 first.1 in
      let later = by_address.files_from head m base (earlier ++ first.0) (number + 1) segments in
      map-append file (segment_parts earlier number first.0 first.1)
      (parts_from (earlier ++ first.0) (number + 1) (segments ++ s ∷ []))
      ∙ (λ i. segment_files_are earlier number first.0 first.1 i
      ++ files_are (earlier ++ first.0) (number + 1) last segments s (omega (arith, is)) i)
      ∙ sym (append_assoc here later (by_address.segment_files head m base
      ((earlier ++ first.0) ++ by_address.steps_of head m base segments) last s.0 s.1))
      ∙ (λ i. (here ++ later) ++ by_address.segment_files head m base
      (append_assoc earlier first.0 (by_address.steps_of head m base segments) i) last s.0 s.1)

  pub addr_files_are : (asked : DumpPoints) (steps : List Step)
      → map file (parts_by_address asked steps) ≡ addr_files head m base asked steps
  unfolding addr_files
  addr_files_are asked steps =
      let closed = (cuts m asked steps).closed in
      files_are [] 1 (length closed + 1) closed ((cuts m asked steps).recent, Termination) (omega arith)

  -- ---- the plain parts beside them

  abbrev plain_from : ℕ → List Segment → List WrittenPart
  plain_from number segments =
      flat_map (λ s. map (part_of s.0 s.1.1) (written.segment_parts rows_of s.1.0)) (enumerate_from number segments)

  abbrev pub plain_parts : DumpPoints → List Step → List WrittenPart
  plain_parts asked steps = plain_from 1 (segments_of m asked steps)

  thread_parts_are : (number : ℕ) (trigger : Trigger) (thread : ℕ) (rows : AddrListed) (xs : List EventOnStack)
      → map (λ (p : AddrPart). p.part) (thread_parts number trigger thread rows xs)
      ≡ map (part_of number trigger) (thread_part rows_of thread xs)
  thread_parts_are number trigger thread rows [] = refl
  thread_parts_are number trigger thread rows (x ∷ xs) = refl

  segment_parts_are : (earlier : List Step) (number : ℕ) (segment : List Step) (trigger : Trigger)
      → map (λ (p : AddrPart). p.part) (segment_parts earlier number segment trigger)
      ≡ map (part_of number trigger) (written.segment_parts rows_of segment)
  segment_parts_are earlier number segment trigger =
      map_flat (λ (p : AddrPart). p.part)
      (λ thread. thread_parts number trigger thread (addr_rows_in m thread earlier segment) (events_on_stack_of thread segment))
      (λ thread. map (part_of number trigger) (thread_part rows_of thread (events_on_stack_of thread segment)))
      (λ thread. thread_parts_are number trigger thread (addr_rows_in m thread earlier segment)
      (events_on_stack_of thread segment)) (threads segment)
      ∙ sym (map_flat (part_of number trigger) (λ thread. thread_part rows_of thread (events_on_stack_of thread segment))
      (λ thread. map (part_of number trigger) (thread_part rows_of thread (events_on_stack_of thread segment)))
      (λ thread. refl) (threads segment))

  parts_are : (earlier : List Step) (number : ℕ) (segments : List Segment)
      → map (λ (p : AddrPart). p.part) (parts_from earlier number segments) ≡ plain_from number segments
  parts_are earlier number [] = refl
  parts_are earlier number (s ∷ segments) =
      map-append (λ (p : AddrPart). p.part) (segment_parts earlier number s.0 s.1)
      (parts_from (earlier ++ s.0) (number + 1) segments)
      ∙ (λ i. segment_parts_are earlier number s.0 s.1 i ++ parts_are (earlier ++ s.0) (number + 1) segments i)

  pub plain_parts_are : (asked : DumpPoints) (steps : List Step)
      → map (λ (p : AddrPart). p.part) (parts_by_address asked steps) ≡ plain_parts asked steps
  plain_parts_are asked steps = parts_are [] 1 (segments_of m asked steps)

  -- ---- their names

  plain_named : (asked : DumpPoints) (steps : List Step)
      → map (λ (f : Named). f.0) (files rows_of head m base asked steps) ≡ map name_of (plain_parts asked steps)
  plain_named asked steps =
      ap (map (λ (f : Named). f.0)) (run_files rows_of head m base asked steps)
      ∙ map_flat (λ (f : Named). f.0)
      (λ (s : ℕ × Segment). map (file_of head m base s.0 s.1.1) (written.segment_parts rows_of s.1.0))
      (λ (s : ℕ × Segment). map (λ (p : ThreadRows). part_name base s.0 p.thread.0)
      (written.segment_parts rows_of s.1.0))
      (λ s. map_map (λ (f : Named). f.0) (file_of head m base s.0 s.1.1) (written.segment_parts rows_of s.1.0))
      (enumerate_from 1 (segments_of m asked steps))
      ∙ sym (map_flat name_of
      (λ (s : ℕ × Segment). map (part_of s.0 s.1.1) (written.segment_parts rows_of s.1.0))
      (λ (s : ℕ × Segment). map (λ (p : ThreadRows). part_name base s.0 p.thread.0)
      (written.segment_parts rows_of s.1.0))
      (λ s. map_map name_of (part_of s.0 s.1.1) (written.segment_parts rows_of s.1.0))
      (enumerate_from 1 (segments_of m asked steps)))

  pub same_names : (asked : DumpPoints) (steps : List Step)
      → map (λ (f : Named). f.0) (files rows_of head m base asked steps)
      ≡ map (λ (f : Named). f.0) (addr_files head m base asked steps)
  same_names asked steps =
      plain_named asked steps ∙ ap (map name_of) (sym (plain_parts_are asked steps))
      ∙ map_map name_of (λ (p : AddrPart). p.part) (parts_by_address asked steps)
      ∙ sym (map_map (λ (f : Named). f.0) file (parts_by_address asked steps))
      ∙ ap (map (λ (f : Named). f.0)) (addr_files_are asked steps)

  -- ---- what is so of each

  -- what is so of the rows by address of each thread's events in a piece of the run
  pub each_part : (P : AddrPart → Type 0) (steps : List Step)
      → ((number : ℕ) (trigger : Trigger) (thread : ℕ) (segment : List Step) (piece : IsPiece steps segment)
      → P (record {
        part = record { head = head_of head number trigger thread; rows = rows_of (events_on_stack_of thread segment) };
        rows = addr_rows_in m thread piece.before segment;
      }))
      → (asked : DumpPoints) → AllByRecursion P (parts_by_address asked steps)
  each_part P steps so asked = all_from [] 1 (segments_of m asked steps) (whole_run m asked steps)
    where
      of_thread : (number : ℕ) (trigger : Trigger) (thread : ℕ) (segment : List Step) (piece : IsPiece steps segment)
          (xs : List EventOnStack) → events_on_stack_of thread segment ≡ xs
          → AllByRecursion P (thread_parts number trigger thread (addr_rows_in m thread piece.before segment) xs)
      of_thread number trigger thread segment piece [] own = tt
      of_thread number trigger thread segment piece (x ∷ xs) own = (
        subst (λ (ys : List EventOnStack). P (record {
          part = record { head = head_of head number trigger thread; rows = rows_of ys };
          rows = addr_rows_in m thread piece.before segment;
        })) own (so number trigger thread segment piece),
        tt,
      )

      of_segment : (number : ℕ) (trigger : Trigger) (segment : List Step) (piece : IsPiece steps segment)
          → AllByRecursion P (segment_parts piece.before number segment trigger)
      of_segment number trigger segment piece =
          each_flat P
          (λ thread. thread_parts number trigger thread (addr_rows_in m thread piece.before segment)
          (events_on_stack_of thread segment))
          (λ thread. of_thread number trigger thread segment piece (events_on_stack_of thread segment) refl) (threads segment)

      all_from : (earlier : List Step) (number : ℕ) (segments : List Segment) → earlier ++ flat segments ≡ steps
          → AllByRecursion P (parts_from earlier number segments)
      all_from earlier number [] is = tt
      all_from earlier number (s ∷ segments) is =
          let piece : IsPiece steps s.0 = record { before = earlier; after = flat segments; whole = is } in
          all_append P (segment_parts earlier number s.0 s.1) (parts_from (earlier ++ s.0) (number + 1) segments)
          (of_segment number s.1 s.0 piece)
          (all_from (earlier ++ s.0) (number + 1) segments (append_assoc earlier s.0 (flat segments) ∙ is))
