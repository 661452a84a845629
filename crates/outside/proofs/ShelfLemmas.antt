-- Files kept as a list of names with their bytes.
use Rattle.std.proofs.Common.{◌≡◌, ℕ, ◌+◌, ◌<◌, suc, Bool, cond, List, [], ◌∷◌, Some, None, Vec, String, string_bytes}
use Rattle.std.proofs.Common.{length, get_or, drop, sym, ap, ◌∙◌, add-one}
use Rattle.std.proofs.Math.Seq.{drop-cons}
use Rattle.std.proofs.lemmas.Cmp.{eq_by_cmp_equiv}
use Rattle.std.specs.FinMap.{get-insert, get-empty}
use Rattle.std.specs.Ordering.{nat_cmp, eq_by_cmp}
use Rattle.std.specs.Cmp.Lexicographic.{texts_ties, nat_list_cmp_total, slice_cmp}
use Rattle.std.specs.Str.{bytes_eq}
use Rattle.std.specs.declared.alloc.Global.{Global}
use Rattle.outside.specs.Files.{file}
use Rattle.outside.specs.Shelf.{files_of}

ties_other_way : (xs ys : List ℕ) → eq_by_cmp (slice_cmp nat_cmp) xs ys ≡ bytes_eq ys xs
ties_other_way xs ys = (eq_by_cmp_equiv nat_list_cmp_total).symm xs ys ∙ sym (texts_ties ys xs)

-- the first entry has the name or hasn't
file_at_first : (entry : String Global × Vec ℕ Global) (entries : List (String Global × Vec ℕ Global)) (name : List ℕ)
    → file (files_of (entry ∷ entries)) name ≡ cond (bytes_eq (string_bytes entry.0) name) (Some entry.1.items)
    (file (files_of entries) name)
file_at_first entry entries name =
    get-insert nat_list_cmp_total _ _ _ name
    ∙ ap (λ b. cond b (Some entry.1.items) (file (files_of entries) name)) (ties_other_way name (string_bytes entry.0))

-- a look through the entries from a place on
pub file_from_place : (entries : List (String Global × Vec ℕ Global)) (place : ℕ) (entry : String Global × Vec ℕ Global)
    (name : List ℕ) (same : Bool)
    → place < length entries → entry ≡ get_or entries place entry → same ≡ bytes_eq (string_bytes entry.0) name
    → file (files_of (drop place entries)) name
    ≡ cond same (Some entry.1.items) (file (files_of (drop (place + 1) entries)) name)
file_from_place entries place entry name same lt is test =
    ap (λ es. file (files_of es) name)
    (drop-cons entries place entry lt ∙ ap (λ e. e ∷ drop (suc place) entries) (sym is))
    ∙ file_at_first entry (drop (suc place) entries) name
    ∙ ap (λ n. cond (bytes_eq (string_bytes entry.0) name) (Some entry.1.items) (file (files_of (drop n entries)) name))
    (sym (add-one place))
    ∙ ap (λ b. cond b (Some entry.1.items) (file (files_of (drop (place + 1) entries)) name)) (sym test)

pub no_file : (name : List ℕ) → file (files_of []) name ≡ None
no_file name = get-empty (slice_cmp nat_cmp) name
