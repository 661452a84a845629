-- One function more behind others.
use Rattle.std.proofs.Common.{◌≡◌, ℕ, ◌+◌, ◌*◌, List, [], ◌∷◌, ◌++◌}
use Rattle.std.proofs.Common.{length, refl, sym, ap, ◌∙◌, arith, append_assoc, append-nil}
use Rattle.std.proofs.lemmas.List.{flat_map_more}
use Rattle.rv_decode.specs.declared.instr.Instr.{Instr}
use Rattle.prog_make.specs.declared.function_part.FunctionPart.{FunctionPart}
use Rattle.demo_make.specs.Program.{Routine, instructions, part_behind, parts_behind}

pub code-more : (code : List Instr) (before : List Routine) (r : Routine) → code ≡ instructions before
    → code ++ r.code ≡ instructions (before ++ r ∷ [])
code-more code before r e = ap (λ (c : List Instr). c ++ r.code) e ∙ flat_map_more (λ (r : Routine). r.code) [] before r

parts-last : (before rs : List Routine) (r : Routine)
    → parts_behind before rs ++ part_behind (before ++ rs) r ∷ [] ≡ parts_behind before (rs ++ r ∷ [])
parts-last before [] r = ap (λ (b : List Routine). part_behind b r ∷ []) (append-nil before)
parts-last before (s ∷ rs) r =
    let same : before ++ s ∷ rs ≡ (before ++ s ∷ []) ++ rs = sym (append_assoc before (s ∷ []) rs) in
    ap (λ (b : List Routine). part_behind before s ∷ (parts_behind (before ++ s ∷ []) rs ++ part_behind b r ∷ [])) same
    ∙ ap (λ (fs : List FunctionPart). part_behind before s ∷ fs) (parts-last (before ++ s ∷ []) rs r)

pub length-parts : (before rs : List Routine) → length (parts_behind before rs) ≡ length rs
length-parts before [] = refl
length-parts before (r ∷ rs) = let rest = length-parts (before ++ r ∷ []) rs in omega arith

pub parts-more : (parts : List FunctionPart) (code : List Instr) (before : List Routine) (r : Routine)
    (f : FunctionPart)
    → code ≡ instructions before → parts ≡ parts_behind [] before
    → f ≡ record {
      name = r.name;
      addr = 0x10000 + 4 * length code;
      size = 4 * length r.code;
      first_line = 100 * length parts + 1;
    } → parts ++ f ∷ [] ≡ parts_behind [] (before ++ r ∷ [])
parts-more parts code before r f is_code is_parts is =
    let count : length parts ≡ length before = ap length is_parts ∙ length-parts [] before in
    let same : f ≡ part_behind before r =
    is ∙ ap (λ (c : List Instr). record {
      name = r.name;
      addr = 0x10000 + 4 * length c;
      size = 4 * length r.code;
      first_line = 100 * length parts + 1;
    }) is_code ∙ ap (λ (n : ℕ). record {
      name = r.name;
      addr = 0x10000 + 4 * length (instructions before);
      size = 4 * length r.code;
      first_line = 100 * n + 1;
    }) count in
    ap (λ (g : FunctionPart). parts ++ g ∷ []) same
    ∙ ap (λ (fs : List FunctionPart). fs ++ part_behind before r ∷ []) is_parts ∙ parts-last [] before r
