use Rattle.std.proofs.Common.{◌≡◌, ℕ, ◌+◌, ◌*◌, ◌<◌, Err, List, length, Some, None, Option, ◌∙◌, ap, subst, arith}
use Rattle.std.proofs.Common.{length-drop}
use Rattle.std.specs.Prelude.{unwrap_or}
use Rattle.std.proofs.lemmas.List.{take_rest}
use Rattle.std.proofs.lemmas.Result.{err_from_is_err_and}
use Rattle.guest_mem.specs.declared.error.MapError.TheVariants.{Full}
use Rattle.guest_mem.specs.Memory.{page_count, zero_range}
use Rattle.guest_load.proofs.TableLemmas.{run_from, table_empty, table_run, table_gap, front_pages}
use Rattle.guest_load.proofs.pages.map_table.Goals as goal
use Rattle.guest_load.proofs.pages.map_table.Goals.{in-Some+in_ok-map, in_default}

pub runs-init : goal.runs-init
runs-init c = record {
  within = omega arith;
  memory = c.new-mem.ensures ∙ table_empty;
}

pub map-requires-clause-permission : goal.map-requires-clause-permission
map-requires-clause-permission c = subst (λ o. unwrap_or o 0 < 8) c.in-Some.is (c.requires.lawful c.runs.page)

pub returns-in_err-map-clause-full : goal.returns-in_err-map-clause-full
returns-in_err-map-clause-full c refused =
    let p = err_from_is_err_and c.from_residual.result c.from_residual.ensures.1 in
    let asked : c.map.result ≡ Err Full = cc (p.1, p.2, refused, c.in_err-map.was) in
    let run = run_from c.args.table.now c.runs.page c.run_len-count.result
    (Some c.in-Some.permission) c.in-Some.is c.run_len-count.ensures.same in
    let after = ap (λ m. zero_range m (c.runs.page * 4096) (c.run_len-count.result * 4096) c.in-Some.permission)
    c.runs.invariant.memory ∙ table_run c.args.table.now c.runs.page c.run_len-count.result c.in-Some.permission
    run in
    omega (
      arith,
      c.map.ensures.full.0 asked,
      ap page_count after,
      front_pages c.args.table.now
          (c.runs.page + c.run_len-count.result),
    )

pub runs-preserved : goal.runs-preserved
runs-preserved c = record {
  within = omega (
    arith,
    c.run_len-count.ensures.within,
    ap (λ (t : List (Option ℕ)). length t)
        (take_rest c.args.table.now c.runs.page),
    length-drop c.runs.page c.args.table.now,
  );
  memory = elim c.match-table-page.branch [
    | in-Some+in_ok-map w ↦ (let run =
        run_from c.args.table.now c.runs.page c.run_len-count.result
        (Some w.in-Some.permission) w.in-Some.is c.run_len-count.ensures.same in
        w.mem-is ∙ w.in_ok-map.ensures.ok
        ∙ ap (λ m. zero_range m (c.runs.page * 4096) (c.run_len-count.result * 4096) w.in-Some.permission)
        c.runs.invariant.memory
        ∙ table_run c.args.table.now c.runs.page c.run_len-count.result w.in-Some.permission run)
    | in_default w ↦ w.mem-is ∙ c.runs.invariant.memory
        ∙ table_gap c.args.table.now c.runs.page c.run_len-count.result
        (run_from c.args.table.now c.runs.page c.run_len-count.result None w.in_default.is
        c.run_len-count.ensures.same)
  ];
}
