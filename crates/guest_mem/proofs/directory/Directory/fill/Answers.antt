use Rattle.std.proofs.Common.{◌≡◌, ◌+◌, ap, arith, sym, ◌∙◌, refl, ◌∷◌, [], ◌++◌, length, get_or}
use Rattle.std.proofs.lemmas.List.{get_or_push, get_or_append_left, length_push}
use Rattle.std.specs.Prelude.{Some}
use Rattle.guest_mem.specs.inner.Page.{zero_page}
use Rattle.guest_mem.specs.inner.Directory.{page_at}
use Rattle.guest_mem.proofs.Places.{range_earlier}
use Rattle.guest_mem.proofs.directory.Directory.fill.Goals as goal

pub loop-page-preserved : goal.loop-page-preserved
loop-page-preserved c =
    let items : c.loop-page.fresh.items ≡ c.pop.new.self.items ++ c.in-Some.page ∷ [] = c.in-Some.ensures.items in
    let long : length c.loop-page.fresh.items ≡ length c.pop.new.self.items + 1 = ap length items
    ∙ length_push c.pop.new.self.items c.in-Some.page in
    let page : c.in-Some.page ≡ zero_page c.args.permission =
    sym (get_or_push c.pop.new.self.items c.in-Some.page c.in-Some.page (length c.pop.new.self.items) refl)
    ∙ ap (λ xs. get_or xs (length c.pop.new.self.items) c.in-Some.page) (sym items)
    ∙ c.loop-page.invariant.fresh (length c.pop.new.self.items) c.in-Some.page (omega arith) in
    record {
      shorter = omega arith;
      after = range_earlier (page_at c.args.self.now) (page_at c.loop-page.self) (page_at c.put.new.self) _ _ _ _ _ _ _
          (omega arith) (omega arith) (omega arith) (ap Some page) c.loop-page.invariant.after c.put.ensures.after;
      places = λ k h. c.put.ensures.places _ ∙ c.loop-page.invariant.places k (omega arith);
      fresh = λ k d h. sym (get_or_append_left c.pop.new.self.items (c.in-Some.page ∷ []) d k h)
          ∙ ap (λ xs. get_or xs k d) (sym items) ∙ c.loop-page.invariant.fresh k d (omega arith);
    }
