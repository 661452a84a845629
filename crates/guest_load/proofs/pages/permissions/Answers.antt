use Rattle.std.proofs.Common.{rules, ◌≡◌, None, length, ◌∙◌, ap, arith, slice_index_or}
use Rattle.guest_load.specs.Segments.{is_touched}
use Rattle.guest_load.proofs.PageLemmas.{IsTable_more}
use Rattle.guest_load.proofs.TableLemmas.{get_or-none, written_back}
use Rattle.guest_load.proofs.pages.permissions.Goals as goal

pub segments-init : goal.segments-init
unfolding is_touched
segments-init c =
    let fresh = c.in_ok-table.ensures.items_if_clones_equal (search rules) in
    record {
      table = λ page. ap (λ t. slice_index_or t page None) fresh ∙ get_or-none c.args.pages page;
      length = omega (arith, c.in_ok-table.ensures.len, c.in_ok-table.table.ok.0);
    }

pub segments-preserved : goal.segments-preserved
segments-preserved c =
    let old = c.segments.table in
    let long : length c.permit.new.table ≡ old.len = omega (arith, c.permit.auto.table, c.deref_mut.ensures.len) in
    let back = written_back old.len c.permit.new.table old.items long in
    let table = IsTable_more c.args.segments.now c.segments.segment-index _ old.items c.deref_mut.result.now
    c.permit.new.table c.segments-test.true c.segments.invariant.table c.deref_mut.ensures.value c.permit.ensures in
    record {
      table = λ page. ap (λ t. slice_index_or t page None) back ∙ table page;
      length = omega (arith, ap length back, long, c.segments.invariant.length, old.ok.0);
    }
