use Rattle.std.proofs.Common.{◌≡◌, length, get_or, sym, ap, ◌∙◌, arith, vec_len}
use Rattle.std.proofs.lemmas.List.{length-set, with_items_is}
use Rattle.std.specs.Vec.{with_items}
use Rattle.cycles.proofs.AddingLemmas.{added_along, list_at-set_same, list_at-set_other, list_at_read}
use Rattle.cycles.proofs.cost_sums.add_cost_at.Goals as goal

pub returns : goal.returns
returns c =
    let table = c.args.table.now in
    let place = c.args.place in
    let v = c.index-table-place.result in
    let new = c.add_cost.new.sums in
    let old = get_or table place v in
    let whole : length old.items ≡ vec_len old = omega arith in
    let size : length new ≡ vec_len old = c.add_cost.auto.sums ∙ ap length c.deref_mut.ensures.value ∙ whole in
    let written = with_items old new in
    let items : written.items ≡ new = with_items_is old new size in
    record {
      size = length-set table place written;
      here =
          added_along
          (c.deref_mut.ensures.value ∙ ap (λ row. row.items) (sym c.index-table-place.is)
          ∙ list_at_read table place v c.requires.place c.index-table-place.is)
          (sym (list_at-set_same table place written c.requires.place ∙ items)) c.add_cost.ensures;
      others = λ q differ. list_at-set_other table place q written differ;
    }
