-- What is left of what was put out.
use Rattle.std.proofs.Common.{◌≡◌, ℕ, List, [], Option, Some, None, sym, ap, subst, ◌∙◌}
use Rattle.std.proofs.lemmas.List.{append-nil}
use Rattle.outside.specs.Files.{Files}
use Rattle.outside.specs.Write.{taken_more}
use Rattle.outside.specs.Outside.{Holds, Leaves, Output, Outside, Stream, and_then, nothing}
use Rattle.outside.proofs.WriteLemmas.{taken_nothing}

pub holds_nothing : (old new : Option Files) → new ≡ old → Holds [] None old new
holds_nothing None new same = same
holds_nothing (Some files) new same = same

pub Leaves-nothing : (old new : Outside) → new.files ≡ old.files → new.out.taken ≡ old.out.taken
    → new.err.taken ≡ old.err.taken → Leaves old nothing new
Leaves-nothing old new same out err = record {
  files = holds_nothing old.files new.files same;
  out = out ∙ taken_nothing old.out.taken;
  err = err ∙ taken_nothing old.err.taken;
}

-- the sink of output has taken bytes
pub Leaves-out : (old new : Outside) (bytes : List ℕ) → new.files ≡ old.files → new.err.taken ≡ old.err.taken
    → new.out.taken ≡ taken_more old.out.taken bytes
    → Leaves old (record nothing { out = bytes }) new
Leaves-out old new bytes files err out = record {
  files = holds_nothing old.files new.files files;
  out = out;
  err = err ∙ taken_nothing old.err.taken;
}

-- what is left of an outside is left of any other with the same contents and bytes taken
pub Leaves-earlier : (old mid new : Outside) (output : Output) → mid.files ≡ old.files → mid.out ≡ old.out
    → mid.err ≡ old.err
    → Leaves mid output new → Leaves old output new
Leaves-earlier old mid new output files out err leaves = record {
  files = subst (λ f. Holds output.files output.refused f new.files) files leaves.files;
  out = leaves.out ∙ ap (λ (s : Stream). taken_more s.taken output.out) out;
  err = leaves.err ∙ ap (λ (s : Stream). taken_more s.taken output.err) err;
}

-- nothing is put out after what was put out, where no put was refused
pub Leaves-and_nothing : (old new : Outside) (output : Output) → output.refused ≡ None → Leaves old output new
    → Leaves old (and_then output nothing) new
Leaves-and_nothing old new output whole leaves = record {
  files = subst (λ files. Holds files None old.files new.files) (sym (append-nil output.files))
      (subst (λ refused. Holds output.files refused old.files new.files) whole leaves.files);
  out = leaves.out ∙ ap (taken_more old.out.taken) (sym (append-nil output.out));
  err = leaves.err ∙ ap (taken_more old.err.taken) (sym (append-nil output.err));
}
