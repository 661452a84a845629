-- A program can be made of the parts.
use Rattle.std.proofs.Common.{◌≡◌, ◌≢◌, ℕ, zero, suc, ◌+◌, ◌*◌, ◌%◌, ◌^◌}
use Rattle.std.proofs.Common.{◌<◌, ◌≤◌, Bool, true, false, cond, List, [], ◌∷◌, ◌++◌}
use Rattle.std.proofs.Common.{length, map, refl, sym, ap, ◌∙◌, arith}
use Rattle.std.proofs.Common.{lit<, lit≤, length-append, append-nil, IsTrue, le-leb, subst}
use Rattle.std.specs.Prelude.{codes, decimal}
use Rattle.std.specs.List.{All, count_by, list_any, range_with_len, sum_by}
use Rattle.std.proofs.lemmas.Bool.Decides.{nat_tests}
use Rattle.std.proofs.lemmas.List.Elements.{All-append, All-cons, All-from_recursion, All-nil}
use Rattle.std.proofs.lemmas.List.Sums.{sum_by-cons}
use Rattle.elf_read.specs.Standard.{pf_r, pf_w, pf_x}
use Rattle.rv_decode.specs.declared.instr.Instr.{Instr}
use Rattle.prog_make.specs.declared.function_part.FunctionPart.{FunctionPart}
use Rattle.prog_make.specs.Conditions.{CanBeMade}
use Rattle.prog_make.specs.Functions.{holds, lies_in, IsWhole}
use Rattle.prog_make.specs.Names.{IsName}
use Rattle.prog_make.specs.Parts.{Parts, total_len}
use Rattle.prog_make.specs.SegmentContent.{SegmentContent}
use Rattle.prog_make.specs.inner.Conditions.{AreSegmentsFit, IsPlaced, covers}
use Rattle.prog_make.proofs.Fit.{segments_sound}
use Rattle.prog_make.proofs.SegmentsRead.{All-rest}
use Rattle.std.proofs.lemmas.Grind.{flat_map-append}
use Rattle.std.proofs.lemmas.Fmt.{decimal_by_steps, length-decimal-le_succ}
use Rattle.prog_make.specs.Code.{code_of}
use Rattle.demo_make.proofs.Lengths.{length-all, length-code_of}
use Rattle.demo_make.specs.Functions.{main, child}
use Rattle.demo_make.specs.Program.{Routine, demo, instructions, numbered_routine}
use Rattle.demo_make.specs.Program.{part_behind, parts_behind, program_of, routines}

lit-first : {X : Type 0} (xs : List X) → 0 < suc (length xs)
lit-first xs = omega arith

-- ---- segments

-- the two segments, where the first one has these bytes
abbrev segments_of : List ℕ → List SegmentContent
segments_of bytes =
    record { addr = 0x10000; bytes = bytes; mem_len = 2476; flags = pf_r + pf_x }
    ∷ record { addr = 0x20000; bytes = []; mem_len = 0x10000; flags = pf_r + pf_w } ∷ []

all-placed : (bytes : List ℕ) → length bytes ≡ 2476 → All IsPlaced (segments_of bytes)
all-placed bytes len =
    let code : IsPlaced (record { addr = 0x10000; bytes = bytes; mem_len = 2476; flags = pf_r + pf_x }) = record {
      loaded = lit< tt;
      sizes = omega arith;
      low = lit≤ tt;
      high = lit≤ tt;
    } in
    let zeros : IsPlaced (record { addr = 0x20000; bytes = []; mem_len = 0x10000; flags = pf_r + pf_w }) = record {
      loaded = lit< tt;
      sizes = lit≤ tt;
      low = lit≤ tt;
      high = lit≤ tt;
    } in
    All-from_recursion IsPlaced (segments_of bytes) (code, (zeros, tt))

at_most_one : (b : Bool) → cond {A = ℕ} b 1 0 ≤ 1
at_most_one true = lit≤ tt
at_most_one false = lit≤ tt

apart-two : {X : Type 0} (p : X → Bool) (s t : X) → (p s ≡ true → p t ≡ false) → count_by p (s ∷ t ∷ []) ≤ 1
apart-two p s t out = go (p s) refl
  where
    go : (b : Bool) → p s ≡ b → count_by p (s ∷ t ∷ []) ≤ 1
    go true e =
        let none = out e in
        let here : cond {A = ℕ} (p s) 1 0 ≡ 1 = rw e refl in
        let there : cond {A = ℕ} (p t) 1 0 ≡ 0 = rw none refl in
        let first = sum_by-cons (λ x. cond (p x) 1 0) s (t ∷ []) in
        let second = sum_by-cons (λ x. cond (p x) 1 0) t [] in
        omega arith
    go false e =
        let here : cond {A = ℕ} (p s) 1 0 ≡ 0 = rw e refl in
        let there = at_most_one (p t) in
        let first = sum_by-cons (λ x. cond (p x) 1 0) s (t ∷ []) in
        let second = sum_by-cons (λ x. cond (p x) 1 0) t [] in
        omega arith

-- an address of the code is none of the zeros
past : (a : ℕ) (s t : SegmentContent) → s.addr + s.mem_len ≤ t.addr → covers a s ≡ true → covers a t ≡ false
past a s t le e = grind (arith, nat_tests)

segments-fit : (bytes : List ℕ) (functions : List FunctionPart) (file : List ℕ) → length bytes ≡ 2476
    → AreSegmentsFit (record { entry = 0x10000; segments = segments_of bytes; functions = functions; file = file })
segments-fit bytes functions file len =
    let s : SegmentContent = record { addr = 0x10000; bytes = bytes; mem_len = 2476; flags = pf_r + pf_x } in
    let t : SegmentContent = record { addr = 0x20000; bytes = []; mem_len = 0x10000; flags = pf_r + pf_w } in
    record {
      count = lit≤ tt;
      placed = all-placed bytes len;
      apart = λ a. apart-two (covers a) s t (past a s t (lit≤ tt));
      entry_aligned = refl;
      entry_in_code = refl;
    }

-- ---- functions, one behind another

-- how many instructions functions have
abbrev count : List Routine → ℕ
count rs = length (instructions rs)

count-more : (before : List Routine) (r : Routine) → count (before ++ r ∷ []) ≡ count before + length r.code
count-more before r =
    ap length (flat_map-append (λ (r : Routine). r.code) before (r ∷ []))
    ∙ length-append (instructions before) (r.code ++ [])
    ∙ ap (λ (c : List Instr). count before + length c) (append-nil r.code)

count-cons : (r : Routine) (rs : List Routine) → count (r ∷ rs) ≡ length r.code + count rs
count-cons r rs = length-append r.code (instructions rs)

-- a function with a name and some code
record IsRoutine (r : Routine) : Type 0 where
  name : IsName r.name
  short : length r.name ≤ 100
  some : 0 < length r.code

all-whole : (before rs : List Routine) → All IsRoutine rs → length before + length rs ≤ 1000
    → count before + count rs ≤ 1000 → All IsWhole (parts_behind before rs)
all-whole before [] all few short = All-nil IsWhole
all-whole before (r ∷ rs) all few short =
    let is = all 0 r (lit-first rs) in
    let some : 0 < length r.code = is.some in
    let more = count-more before r in
    let cons = count-cons r rs in
    let longer = length-append before (r ∷ []) in
    let here : IsWhole (part_behind before r) = record {
      addr_aligned = omega arith;
      size_aligned = omega arith;
      not_empty = omega arith;
      lines_fit = omega arith;
    } in
    All-cons IsWhole (part_behind before r) (parts_behind (before ++ r ∷ []) rs) here
    (all-whole (before ++ r ∷ []) rs (All-rest IsRoutine r rs all) (omega arith) (omega arith))

all-named : (before rs : List Routine) → All IsRoutine rs → All (λ f. IsName f.name) (parts_behind before rs)
all-named before [] all = All-nil (λ f. IsName f.name)
all-named before (r ∷ rs) all =
    All-cons (λ (f : FunctionPart). IsName f.name) (part_behind before r) (parts_behind (before ++ r ∷ []) rs)
    (all 0 r (lit-first rs)).name (all-named (before ++ r ∷ []) rs (All-rest IsRoutine r rs all))

-- a function whose code ends within the bytes of the first segment
held : (f : FunctionPart) (bytes : List ℕ) → 0x10000 ≤ f.addr → f.addr + f.size ≤ 0x10000 + length bytes
    → IsTrue (list_any (holds f) (segments_of bytes))
held f bytes low high =
    rw (le-leb 0x10000 f.addr low, le-leb (f.addr + f.size) (0x10000 + length bytes) high) refl

all-held : (bytes : List ℕ) (before rs : List Routine) → length bytes ≡ 4 * (count before + count rs)
    → All (λ f. IsTrue (list_any (holds f) (segments_of bytes))) (parts_behind before rs)
all-held bytes before [] len = All-nil (λ f. IsTrue (list_any (holds f) (segments_of bytes)))
all-held bytes before (r ∷ rs) len =
    let more = count-more before r in
    let cons = count-cons r rs in
    All-cons (λ (f : FunctionPart). IsTrue (list_any (holds f) (segments_of bytes))) (part_behind before r)
    (parts_behind (before ++ r ∷ []) rs)
    (held (part_behind before r) bytes (omega arith) (omega arith))
    (all-held bytes (before ++ r ∷ []) rs (omega arith))

-- an address before the functions lies in none
none-before : (a : ℕ) (before rs : List Routine) → a < 0x10000 + 4 * count before
    → count_by (lies_in a) (parts_behind before rs) ≡ 0
none-before a before [] lt = refl
none-before a before (r ∷ rs) lt =
    let more = count-more before r in
    let out : lies_in a (part_behind before r) ≡ false = outside a (part_behind before r) lt in
    let here : cond {A = ℕ} (lies_in a (part_behind before r)) 1 0 ≡ 0 = rw out refl in
    let rest = none-before a (before ++ r ∷ []) rs (omega arith) in
    let sum =
    sum_by-cons (λ f. cond (lies_in a f) 1 0) (part_behind before r) (parts_behind (before ++ r ∷ []) rs) in
    omega arith
  where
    outside : (a : ℕ) (f : FunctionPart) → a < f.addr → lies_in a f ≡ false
    outside a f lt = grind (arith, nat_tests)

inside_ends : (a : ℕ) (f : FunctionPart) → lies_in a f ≡ true → a < f.addr + f.size
inside_ends a f e = grind (arith, nat_tests)

functions-apart : (a : ℕ) (before rs : List Routine) → count_by (lies_in a) (parts_behind before rs) ≤ 1
functions-apart a before [] = lit≤ tt
functions-apart a before (r ∷ rs) = go (lies_in a (part_behind before r)) refl (functions-apart a (before ++ r ∷ []) rs)
  where
    go : (b : Bool) → lies_in a (part_behind before r) ≡ b
        → count_by (lies_in a) (parts_behind (before ++ r ∷ []) rs) ≤ 1
        → count_by (lies_in a) (parts_behind before (r ∷ rs)) ≤ 1
    go true e few =
        let end = inside_ends a (part_behind before r) e in
        let more = count-more before r in
        let rest = none-before a (before ++ r ∷ []) rs (omega arith) in
        let here : cond {A = ℕ} (lies_in a (part_behind before r)) 1 0 ≡ 1 = rw e refl in
        let sum =
        sum_by-cons (λ f. cond (lies_in a f) 1 0) (part_behind before r) (parts_behind (before ++ r ∷ []) rs) in
        omega arith
    go false e few =
        let here : cond {A = ℕ} (lies_in a (part_behind before r)) 1 0 ≡ 0 = rw e refl in
        let sum =
        sum_by-cons (λ f. cond (lies_in a f) 1 0) (part_behind before r) (parts_behind (before ++ r ∷ []) rs) in
        omega arith

-- what functions count
functions-total : (before rs : List Routine) → All IsRoutine rs
    → sum_by (λ f. length f.name + 1024) (parts_behind before rs) ≤ 2000 * length rs
functions-total before [] all = lit≤ tt
functions-total before (r ∷ rs) all =
    let short = (all 0 r (lit-first rs)).short in
    let rest = functions-total (before ++ r ∷ []) rs (All-rest IsRoutine r rs all) in
    let sum =
    sum_by-cons (λ (f : FunctionPart). length f.name + 1024) (part_behind before r)
    (parts_behind (before ++ r ∷ []) rs) in
    omega arith

-- ---- the names of the program's functions

digits-not_zero : (n : ℕ) → n < 2 ^ 64 → All (λ b. b ≢ 0) (decimal n)
digits-not_zero n lt =
    decimal_by_steps (λ _ ds. All (λ b. b ≢ 0) ds)
    (λ d small. All-from_recursion (λ (b : ℕ). b ≢ 0) ((48 + d) ∷ []) ((λ e. omega arith), tt))
    (λ m ds more all. All-append (λ (b : ℕ). b ≢ 0) ds ((48 + m % 10) ∷ []) all
    (All-from_recursion (λ (b : ℕ). b ≢ 0) ((48 + m % 10) ∷ []) ((λ e. omega arith), tt))) n lt

main-is : (size : ℕ) → IsRoutine (record { name = codes "main"; code = main size })
main-is size = record {
  name = record {
    not_empty = λ e. cc;
    no_mark = refl;
    not_local = refl;
    no_zero = All-from_recursion (λ (b : ℕ). b ≢ 0) (codes "main")
        ((λ e. omega arith), ((λ e. omega arith), ((λ e. omega arith), ((λ e. omega arith), tt))));
  };
  short = lit≤ tt;
  some = lit< tt;
}

child-is : (size : ℕ) → IsRoutine (record { name = codes "child"; code = child size })
child-is size = record {
  name = record {
    not_empty = λ e. cc;
    no_mark = refl;
    not_local = refl;
    no_zero = All-from_recursion (λ (b : ℕ). b ≢ 0) (codes "child") (
      (λ e. omega arith),
      (
        (λ e. omega arith),
        (
          (λ e. omega arith),
          (
            (λ e. omega arith),
            ((λ e. omega arith), tt),
          ),
        ),
      ),
    );
  };
  short = lit≤ tt;
  some = lit< tt;
}

numbered_routine-is : (size k : ℕ) → k < 32 → IsRoutine (numbered_routine size k)
numbered_routine-is size k lt =
    let word : k < 2 ^ 64 = omega arith in
    let digits = length-decimal-le_succ k word in
    record {
      name = record {
        not_empty = λ e. cc;
        no_mark = refl;
        not_local = refl;
        no_zero = All-cons (λ (b : ℕ). b ≢ 0) 102 (decimal k) (λ e. omega arith) (digits-not_zero k word);
      };
      short = omega arith;
      some = lit< tt;
    }

random_below-are : (size a n : ℕ) → a + n ≤ 32 → All IsRoutine (map (numbered_routine size) (range_with_len a n))
random_below-are size a zero le = All-nil IsRoutine
random_below-are size a (suc n) le =
    All-cons IsRoutine (numbered_routine size a) (map (numbered_routine size) (range_with_len (a + 1) n))
    (numbered_routine-is size a (omega arith)) (random_below-are size (a + 1) n (omega arith))

routines-are : (size : ℕ) → All IsRoutine (routines size)
unfolding routines
routines-are size =
    let random_below = map (numbered_routine size) (range_with_len 0 32) in
    let second : Routine = record { name = codes "child"; code = child size } in
    All-cons IsRoutine (record { name = codes "main"; code = main size }) (second ∷ random_below) (main-is size)
    (All-cons IsRoutine second random_below (child-is size) (random_below-are size 0 32 (lit≤ tt)))

-- ---- the whole

-- the parts where the code has so many bytes in memory
abbrev with_len : List Routine → ℕ → Parts
with_len rs len = record {
  entry = 0x10000;
  segments = record { addr = 0x10000; bytes = code_of (instructions rs); mem_len = len; flags = pf_r + pf_x }
      ∷ record { addr = 0x20000; bytes = []; mem_len = 0x10000; flags = pf_r + pf_w } ∷ [];
  functions = parts_behind [] rs;
  file = codes "demo.s";
}

short-enough : (rs : List Routine) → All IsRoutine rs → length rs ≡ 34 → length (code_of (instructions rs)) ≡ 2476
    → total_len (with_len rs 2476) < 2 ^ 31
short-enough rs all few len =
    let code : SegmentContent =
    record { addr = 0x10000; bytes = code_of (instructions rs); mem_len = 2476; flags = pf_r + pf_x } in
    let zeros : SegmentContent = record { addr = 0x20000; bytes = []; mem_len = 0x10000; flags = pf_r + pf_w } in
    let first = sum_by-cons (λ (s : SegmentContent). length s.bytes + 1024) code (zeros ∷ []) in
    let second = sum_by-cons (λ (s : SegmentContent). length s.bytes + 1024) zeros [] in
    let named = functions-total [] rs all in
    omega arith

sound : (rs : List Routine) → All IsRoutine rs → length rs ≡ 34 → count rs ≡ 619 → CanBeMade (program_of rs)
sound rs all few many =
    let len : length (code_of (instructions rs)) ≡ 2476 =
    length-code_of (instructions rs) ∙ ap (λ (n : ℕ). 4 * n) many in
    let whole : length (code_of (instructions rs)) ≡ 4 * count rs = length-code_of (instructions rs) in
    let made : CanBeMade (with_len rs 2476) = record {
      segments = segments_sound (with_len rs 2476)
          (segments-fit (code_of (instructions rs)) (parts_behind [] rs) (codes "demo.s") len);
      functions = record {
        in_code = all-held (code_of (instructions rs)) [] rs (omega arith);
        whole = all-whole [] rs all (omega arith) (omega arith);
        functions_apart = λ a. functions-apart a [] rs;
        names = all-named [] rs all;
      };
      file = All-from_recursion (λ (b : ℕ). b ≢ 0) (codes "demo.s") (
        (λ e. omega arith),
        (
          (λ e. omega arith),
          (
            (λ e. omega arith),
            (
              (λ e. omega arith),
              (
                (λ e. omega arith),
                ((λ e. omega arith), tt),
              ),
            ),
          ),
        ),
      );
      total = short-enough rs all few len;
    } in
    let P : ℕ → Type 0 = λ n. CanBeMade (with_len rs n) in
    subst P (sym (ap (λ (n : ℕ). 4 * n) many)) made

length-routines : (size : ℕ) → length (routines size) ≡ 34
unfolding routines
length-routines size = refl

pub demo-sound : (size : ℕ) → CanBeMade (demo size)
demo-sound size = sound (routines size) (routines-are size) (length-routines size) (length-all size)
