use Rattle.std.proofs.Common.{ℕ, List, [], ◌∷◌, ◌++◌, map, ap, sym, ◌∙◌, arith}
use Rattle.std.specs.List.{range_with_len}
use Rattle.std.proofs.lemmas.List.FromFn.{map-range_with_len_more}
use Rattle.cg_format.specs.Rows.{function_of}
use Rattle.addr_rows.specs.Texts.{all_rows, plain_row}
use Rattle.addr_rows.specs.declared.row.AddrRow.{AddrRow}
use Rattle.addr_rows.specs.declared.row.RowRef.{RowRef}
use Rattle.addr_rows.specs.inner.Refs.{listed, ref_to}
use Rattle.addr_rows.proofs.row.Rows.refs.Goals as goal

pub rows-preserved : goal.rows-preserved
rows-preserved c =
    let rows = all_rows (listed c.args.syms.now c.args.self.now) in
    let i = c.rows.index in
    let new : ℕ → RowRef = λ function. record { function = function; index = i } in
    c.in_ok-push.ensures.items
    ∙ ap (λ (refs : List RowRef). refs ++ new c.function_number-function.result ∷ []) c.rows.invariant
    ∙ ap (λ function. map (ref_to rows) (range_with_len 0 i) ++ new function ∷ [])
    (c.function_number-function.ensures ∙ ap (λ (row : AddrRow). (function_of (plain_row row)).0) c.row.ensures)
    ∙ sym (map-range_with_len_more (ref_to rows) 0 i i (omega arith))
