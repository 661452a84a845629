use Rattle.std.proofs.Common.{◌≡◌, ℕ, ◌+◌, ◌<◌, List, [], ◌∷◌, ◌++◌, length, ap, take, ◌∙◌, length-append, arith}
use Rattle.std.proofs.Math.Seq.{take-append_seam}
use Rattle.dwarf_line.specs.inner.Files.{files_by}
use Rattle.dwarf_line.proofs.Naming.{all_more, all_pushed, file_pushed}
use Rattle.dwarf_line.proofs.files.Files.push.Goals as goal

pub invariant_of-self-in-Err : goal.invariant_of-self-in-Err
invariant_of-self-in-Err c =
    let texts = c.self.inside.texts.items in
    let is : c.len-count.result ≡ length texts = omega (arith, c.len-count.ensures, c.self.inside.texts.ok.0) in
    let cut = c.truncate.ensures.items ∙ ap (take c.len-count.result) c.in_ok-push.ensures.items
    ∙ ap (λ n. take n (texts ++ c.args.text ∷ [])) is ∙ take-append_seam texts (c.args.text ∷ []) in
    rw (c.in-Err.ensures.items, cut) c.self.invariant

pub invariant_of-self-in_default : goal.invariant_of-self-in_default
invariant_of-self-in_default c =
    let numbers = c.self.inside.numbers.items in
    let texts = c.self.inside.texts.items in
    let number = c.len-count.result in
    let is : number ≡ length texts = omega (arith, c.len-count.ensures, c.self.inside.texts.ok.0) in
    let more : List (List ℕ) = texts ++ c.args.text ∷ [] in
    let len : length more ≡ length texts + 1 = length-append texts (c.args.text ∷ []) in
    let long : length (numbers ++ number ∷ []) ≡ length numbers + 1 = length-append numbers (number ∷ []) in
    rw (c.in_default.ensures.items, c.in_ok-push.ensures.items) (record {
      in_range = all_pushed (λ n. n < length more) numbers number
          (all_more (length texts) (length more) numbers (omega (arith, len)) c.self.invariant.in_range)
          (omega (arith, len, is));
      few = omega (arith, len, long, c.self.invariant.few);
    })

pub returns : goal.returns
returns c =
    let numbers = c.self.inside.numbers.items in
    let texts = c.self.inside.texts.items in
    let is : c.len-count.result ≡ length texts = omega (arith, c.len-count.ensures, c.self.inside.texts.ok.0) in
    ap (λ (ns : List ℕ). files_by ns c.push.new.self.items) c.in_default.ensures.items
    ∙ ap (files_by (numbers ++ c.len-count.result ∷ [])) c.in_ok-push.ensures.items
    ∙ file_pushed numbers texts c.args.text c.len-count.result c.self.invariant.in_range is
    ∙ ap (λ (fs : List (List ℕ)). fs ++ c.args.text ∷ []) c.self.view_is
