-- A file is made and written piece by piece.
use Rattle.std.proofs.Common.{◌≡◌, ◌≢◌, ℕ, ◌+◌, Bool, true, false, cond, List, ◌++◌, Option, Some, Result, Ok, Err}
use Rattle.std.proofs.Common.{take, drop, refl, sym, ap, subst, ◌∙◌, arith}
use Rattle.std.specs.Prelude.{IsErrAnd}
use Rattle.std.specs.FinMap.{get-insert, same_map, slice_cmp-IsAntisymmetric, nat_cmp-IsAntisymmetric}
use Rattle.std.specs.Ordering.{nat_cmp, eq_by_cmp}
use Rattle.std.specs.Cmp.Lexicographic.{nat_list_cmp_total, slice_cmp, texts_ties}
use Rattle.std.specs.Str.{bytes_eq}
use Rattle.std.proofs.lemmas.Bool.{false_from_ne_true}
use Rattle.std.proofs.lemmas.Slice.Eq.{bytes_eq-Decides}
use Rattle.std.specs.declared.io.Error.{Error}
use Rattle.outside.specs.Calls.{Disk, GoesOn, IsRefused, OpenFile, Tell, Writes}
use Rattle.outside.specs.Files.{Files, SameBut, file, with_file}
use Rattle.outside.specs.inner.Front.{HasWritten, IsWritten}
use Rattle.outside.proofs.FrontLemmas.{refused_since}
use Rattle.outside.proofs.TellLemmas.{tell_both, tell_then}
use Rattle.outside.proofs.WriteLemmas.{front_and_more}

goes_then : (x y z : Disk) → GoesOn x y → GoesOn y z → GoesOn x z
goes_then x y z p q = record { tells_lengths = q.tells_lengths ∙ p.tells_lengths; faults = omega (arith, p.faults, q.faults) }

cond_twice : {A : Type 0} (b : Bool) (u v w : A) → cond b u (cond b v w) ≡ cond b u w
cond_twice true u v w = refl
cond_twice false u v w = refl

-- the later of two writes under one name counts
put_twice : (files : Files) (name first next : List ℕ)
    → with_file (with_file files name first) name next ≡ with_file files name next
put_twice files name first next =
    same_map nat_list_cmp_total (slice_cmp-IsAntisymmetric nat_cmp-IsAntisymmetric)
    (with_file (with_file files name first) name next) (with_file files name next)
    (λ q. get-insert nat_list_cmp_total (with_file files name first) name next q
    ∙ ap (λ o. cond (eq_by_cmp (slice_cmp nat_cmp) q name) (Some next) o) (get-insert nat_list_cmp_total files name first q)
    ∙ cond_twice (eq_by_cmp (slice_cmp nat_cmp) q name) (Some next) (Some first) (file files q)
    ∙ sym (get-insert nat_list_cmp_total files name next q))

-- a piece more
pub written_more : (a b c : Option Disk) (name bytes rest : List ℕ) (i count : ℕ) (old new : OpenFile)
    → rest ≡ drop i bytes → Tell a b (HasWritten name (take i bytes) old) → Tell b c (Writes old new rest (Ok count))
    → Tell b c GoesOn → Tell a c (HasWritten name (take (i + count) bytes) new)
written_more a b c name bytes rest i count old new is before writes goes =
    tell_then (HasWritten name (take i bytes) old) (λ y z. Writes old new rest (Ok count) y z × GoesOn y z)
    (HasWritten name (take (i + count) bytes) new) a b c
    (λ x y z p q.
    let written : new.written ≡ take (i + count) bytes = q.0.2 ∙ ap (λ w. w ++ take count rest) p.written_is
    ∙ ap (λ r. take i bytes ++ take count r) is ∙ front_and_more i count bytes in
    record {
      goes_on = goes_then x y z p.goes_on q.1;
      name_is = q.0.1 ∙ p.name_is;
      written_is = written;
      files = q.0.3 ∙ ap (λ n. with_file y.files n new.written) p.name_is
          ∙ ap (λ w. with_file y.files name w) written
          ∙ ap (λ f. with_file f name (take (i + count) bytes)) p.files
          ∙ put_twice x.files name (take i bytes) (take (i + count) bytes);
    })
    before
    (tell_both (Writes old new rest (Ok count)) GoesOn (λ y z. Writes old new rest (Ok count) y z × GoesOn y z) b c
    (λ y z p q. (p, q)) writes goes)

-- another name than the one that was put
other_file : (files : Files) (name bytes other : List ℕ) → other ≢ name
    → file (with_file files name bytes) other ≡ file files other
other_file files name bytes other ne =
    get-insert nat_list_cmp_total files name bytes other
    ∙ ap (λ b. cond b (Some bytes) (file files other))
    (sym (texts_ties other name)
    ∙ false_from_ne_true (bytes_eq other name) (λ same. ne ((bytes_eq-Decides other name).0 same)))

written_exit : {U : Type 0} (name bytes : List ℕ) (result : Result U Error) (error : Error) (x z : Disk)
    → IsErrAnd result (λ e. e ≡ error) → IsRefused error x z → SameBut name (Some x.files) (Some z.files)
    → IsWritten name bytes result x z
written_exit name bytes (Ok u) error x z is refused same = absurd is
written_exit name bytes (Err e) error x z is refused same = (subst (λ e. IsRefused e x z) (sym is) refused, same)

-- a piece that was refused
pub written_refused : {U : Type 0} (a b c : Option Disk) (name bytes written rest : List ℕ) (old new : OpenFile)
    (error : Error) (result : Result U Error) → IsErrAnd result (λ e. e ≡ error)
    → Tell a b (HasWritten name written old) → Tell b c (Writes old new rest (Err error))
    → Tell a c (IsWritten name bytes result)
written_refused a b c name bytes written rest old new error result is =
    tell_then (HasWritten name written old) (Writes old new rest (Err error)) (IsWritten name bytes result) a b c
    (λ x y z p q. written_exit name bytes result error x z is
    (refused_since error x y z p.goes_on.faults q.0)
    (λ other ne. q.1 other (λ same. ne (same ∙ p.name_is)) ∙ ap (λ f. file f other) p.files
    ∙ other_file x.files name written other ne))
