-- The program of the demonstration fits into the guest's memory: it has few pages, and few arguments.
use Rattle.std.proofs.Common.{◌≡◌, ◌⊎◌, ℕ, zero, suc, ◌+◌, ◌*◌, ◌/◌, ◌<◌, ◌≤◌, ◌^◌, ◌&&◌, ◌||◌, Bool, true, false}
use Rattle.std.proofs.Common.{cond, List, [], ◌∷◌, length, map, None, refl, sym, ap, ◌∙◌, arith, inl, inr, nat_lt}
use Rattle.std.proofs.Common.{nat_le}
use Rattle.std.specs.List.{list_any}
use Rattle.std.proofs.lemmas.Bool.{and_from, and_parts, le-leb, leb-true, lt-ltb, ltb-true, or_cases}
use Rattle.std.proofs.Math.Bool.{or-true}
use Rattle.elf_read.specs.Image.{image_of}
use Rattle.elf_read.specs.declared.program.Segment.{Segment}
use Rattle.guest_mem.specs.Memory.{count_below, in_range}
use Rattle.guest_load.specs.Arguments.{arguments_len}
use Rattle.guest_load.specs.Segments.{is_loaded, is_touched, pages_of, touches}
use Rattle.guest_load.specs.Stack.{stack_pages, stack_start}
use Rattle.prog_make.specs.Contents.{segment_in}
use Rattle.prog_make.specs.SegmentContent.{SegmentContent}
use Rattle.demo_make.specs.Program.{IsFileOf, demo, instructions, routines}
use Rattle.demo_make.proofs.Lengths.{length-all}
use Rattle.profile_cli.specs.Demo.{demo_job}
use Rattle.profile_cli.specs.Order.{arguments_fault, pages_fault}
use Rattle.profile_cli.proofs.LoadLemmas.{few_pages}

-- ---- counts

-- what passes one of two tests, if it passes a third, is no more than what passes each
count-either : (f g h : ℕ → Bool) (n : ℕ) → ((p : ℕ) → f p ≡ true → (g p || h p) ≡ true)
    → count_below f n ≤ count_below g n + count_below h n
unfolding count_below
count-either f g h zero more = omega arith
count-either f g h (suc n) more =
    let before = count-either f g h n more in
    let here = either (f n) (g n) (h n) (more n) in
    omega (arith, before, here)
  where
    either : (a b c : Bool) → (a ≡ true → (b || c) ≡ true) → cond a 1 0 ≤ cond b 1 0 + cond c 1 0
    either false b c more = omega arith
    either true true c more = omega arith
    either true false true more = omega arith
    either true false false more = absurd (cc (more refl))

-- a range has no more numbers than its length
count-range : (start len n : ℕ) → (count_below (in_range start len) n ≤ len)
    × ((count_below (in_range start len) n ≡ 0) ⊎ (count_below (in_range start len) n + start ≤ n))
unfolding count_below
count-range start len zero = (omega arith, inl refl)
count-range start len (suc n) = by (in_range start len n) refl (count-range start len n)
  where
    by : (b : Bool) → in_range start len n ≡ b
        → (count_below (in_range start len) n ≤ len)
        × ((count_below (in_range start len) n ≡ 0) ⊎ (count_below (in_range start len) n + start ≤ n))
        → (count_below (in_range start len) n + cond b 1 0 ≤ len)
        × ((count_below (in_range start len) n + cond b 1 0 ≡ 0)
        ⊎ (count_below (in_range start len) n + cond b 1 0 + start ≤ suc n))
    by false is (few, inl none) = (omega (arith, few), inl (omega (arith, none)))
    by false is (few, inr late) = (omega (arith, few), inr (omega (arith, late)))
    by true is (few, inl none) =
        let tests = and_parts (nat_le start n) (nat_lt n (start + len)) is in
        let from = leb-true start n tests.0 in
        let to = ltb-true n (start + len) tests.1 in
        (omega (arith, none, from, to), inr (omega (arith, none, from)))
    by true is (few, inr late) =
        let tests = and_parts (nat_le start n) (nat_lt n (start + len)) is in
        let to = ltb-true n (start + len) tests.1 in
        (omega (arith, late, to), inr (omega (arith, late)))

-- ---- the pages

-- whether a segment of the program touches a page
abbrev touches_made : ℕ → SegmentContent → Bool
touches_made page s = nat_lt (page * 4096) (s.addr + s.mem_len) && nat_lt s.addr ((page + 1) * 4096)

touched_made : (file : List ℕ) (page : ℕ) (segments : List Segment)
    → list_any (touches page) segments ≡ list_any (touches_made page) (map (segment_in file) segments)
touched_made file page [] = refl
touched_made file page (s ∷ segments) = ap (λ b. touches page s || b) (touched_made file page segments)

-- the pages from that of the code to the last one of the data
abbrev low : ℕ → Bool
low page = in_range 16 32 page

abbrev stack : ℕ → Bool
stack page = in_range (stack_start / 4096) stack_pages page

is_low : (page : ℕ) → 16 ≤ page → page < 48 → low page ≡ true
is_low page from to = and_from _ _ (le-leb 16 page from) (lt-ltb page 48 to)

-- both segments of the program lie there
touched_low : (size page : ℕ) → list_any (touches_made page) (demo size).segments ≡ true → low page ≡ true
touched_low size page is = by (or_cases _ _ is)
  where
    in_code : (len : ℕ) → len ≡ 619
        → (nat_lt (page * 4096) (0x10000 + 4 * len) && nat_lt 0x10000 ((page + 1) * 4096)) ≡ true → low page ≡ true
    in_code len count both =
        let tests = and_parts _ _ both in
        let before = ltb-true (page * 4096) (0x10000 + 4 * len) tests.0 in
        let behind = ltb-true 0x10000 ((page + 1) * 4096) tests.1 in
        is_low page (omega (arith, behind)) (omega (arith, before, count))

    in_data : (nat_lt (page * 4096) (0x20000 + 0x10000) && nat_lt 0x20000 ((page + 1) * 4096)) ≡ true → low page ≡ true
    in_data both =
        let tests = and_parts _ _ both in
        let before = ltb-true (page * 4096) (0x20000 + 0x10000) tests.0 in
        let behind = ltb-true 0x20000 ((page + 1) * 4096) tests.1 in
        is_low page (omega (arith, behind)) (omega (arith, before))

    none : false ≡ true → low page ≡ true
    none e = absurd (cc)

    by : ((nat_lt (page * 4096) (0x10000 + 4 * length (instructions (routines size)))
        && nat_lt 0x10000 ((page + 1) * 4096)) ≡ true)
        ⊎ (((nat_lt (page * 4096) (0x20000 + 0x10000) && nat_lt 0x20000 ((page + 1) * 4096)) || false) ≡ true)
        → low page ≡ true
    by (inl both) = in_code (length (instructions (routines size))) (length-all size) both
    by (inr rest) = last (or_cases _ _ rest)
      where
        last : ((nat_lt (page * 4096) (0x20000 + 0x10000) && nat_lt 0x20000 ((page + 1) * 4096)) ≡ true)
            ⊎ (false ≡ true)
            → low page ≡ true
        last (inl both) = in_data both
        last (inr e) = none e

loaded_few : (size : ℕ) (file : List ℕ) → IsFileOf (demo size) file → (page : ℕ)
    → is_loaded (image_of file).segments page ≡ true → (low page || stack page) ≡ true
unfolding is_touched
loaded_few size file made page is = by (or_cases _ _ is)
  where
    by : (list_any (touches page) (image_of file).segments ≡ true) ⊎ (stack page ≡ true)
        → (low page || stack page) ≡ true
    by (inl touched) =
        let there = touched_low size page
        (ap (list_any (touches_made page)) (sym made.segments) ∙ sym (touched_made file page (image_of file).segments)
        ∙ touched) in
        ap (λ b. b || stack page) there
    by (inr on_stack) = ap (λ b. low page || b) on_stack ∙ or-true (low page)

few_there : (size : ℕ) (file : List ℕ) → IsFileOf (demo size) file → pages_of (image_of file) ≤ 65536
unfolding pages_of
few_there size file made =
    let all = count-either (is_loaded (image_of file).segments) low stack (2 ^ 20) (loaded_few size file made) in
    let first = (count-range 16 32 (2 ^ 20)).0 in
    let second = (count-range (stack_start / 4096) stack_pages (2 ^ 20)).0 in
    omega (arith, all, first, second)

pub demo_pages : (size : ℕ) (file : List ℕ) → IsFileOf (demo size) file → pages_fault (image_of file) ≡ None
demo_pages size file made = few_pages (image_of file) (few_there size file made)

-- ---- the arguments

pub demo_arguments : arguments_fault demo_job.args ≡ None
unfolding arguments_len
demo_arguments = refl
