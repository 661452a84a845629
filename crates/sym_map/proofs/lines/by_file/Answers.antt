use Rattle.std.proofs.Common.{◌≡◌, ◌≢◌, ℕ, ◌+◌, ◌<◌, ◌∙◌, List, length, get_or, sym, ap, below_more, arith}
use Rattle.std.proofs.Common.{get_or-set_same, get_or-set_other}
use Rattle.std.proofs.Math.ListN.{set}
use Rattle.std.proofs.lemmas.List.{length-set}
use Rattle.std.specs.Ordering.{nat_cmp}
use Rattle.std.specs.declared.cmp.Ordering.TheVariants.{Equal}
use Rattle.std.specs.List.Sorted.{IsStrictlySortedBy}
use Rattle.std.proofs.lemmas.Cmp.{nat_cmp_total, tied_itself}
use Rattle.sym_map.proofs.Rising.{far}
use Rattle.sym_map.proofs.lines.by_file.Goals as goal

-- one more is placed
placed_more : (files placed ids : List ℕ) (i : ℕ) → IsStrictlySortedBy nat_cmp files → i < length files
    → get_or files i 0 < length placed
    → ((k : ℕ) → k < i → get_or placed (get_or files k 0) 0 ≡ get_or ids k 0) → (k : ℕ) → k < i + 1
    → get_or (set placed (get_or files i 0) (get_or ids i 0)) (get_or files k 0) 0 ≡ get_or ids k 0
placed_more files placed ids i rise lt within so = below_more _ _
    (λ k below. get_or-set_other placed (get_or files i 0) (get_or files k 0) (get_or ids i 0) 0 (apart k below)
    ∙ so k below)
    (get_or-set_same placed (get_or files i 0) (get_or ids i 0) 0 within)
  where
    apart : (k : ℕ) → k < i → get_or files k 0 ≢ get_or files i 0
    apart k below e =
        let less = far nat_cmp nat_cmp_total files rise k i 0 below lt in
        let tie : nat_cmp (get_or files k 0) (get_or files i 0) ≡ Equal =
        ap (nat_cmp (get_or files k 0)) (sym e) ∙ tied_itself nat_cmp_total (get_or files k 0) in
        absurd (cc)

pub files-preserved : goal.files-preserved
files-preserved c =
    let so = c.files.invariant in
    let lt : c.files.i < length c.args.files.now = omega arith in
    let within : get_or c.args.files.now c.files.i 0 < length c.files.placed.items =
    rw so.as_many (c.requires.within c.files.i 0 lt) in
    record {
      as_many = length-set c.files.placed.items _ _ ∙ so.as_many;
      each = placed_more c.args.files.now c.files.placed.items c.args.ids.now c.files.i c.requires.rise lt within so.each;
    }
