use Rattle.std.proofs.Common.{take, sym, ap, ◌∙◌, subst, arith, ◌++◌, ◌∷◌, []}
use Rattle.std.specs.List.{All}
use Rattle.std.proofs.lemmas.List.{take_more}
use Rattle.std.proofs.lemmas.List.Elements.{All-push}
use Rattle.std.proofs.lemmas.Option.{get_or_from_slice_get}
use Rattle.elf_read.specs.Programs.{IsPlaced}
use Rattle.guest_load.proofs.segments.segments_of.Goals as goal

pub segments-preserved : goal.segments-preserved
segments-preserved c =
    let all = c.args.elf.now.segments in
    let pushed = c.in_ok-push.ensures.items in
    let here = get_or_from_slice_get all c.segments.i c.segment.result c.segment.result c.segment.ensures.segment in
    record {
      segments = pushed ∙ ap (λ xs. xs ++ c.segment.result ∷ []) c.segments.invariant.segments
          ∙ ap (λ s. take c.segments.i all ++ s ∷ []) (sym here)
          ∙ sym (take_more all c.segments.i c.segment.result (omega arith));
      placed = subst (λ xs. All (IsPlaced c.args.elf.now.bytes) xs) (sym pushed)
          (All-push (IsPlaced c.args.elf.now.bytes) c.segments.segments.items c.segment.result
          c.segments.invariant.placed c.segment.ensures.placed);
    }
