use Rattle.std.proofs.Common.{arith, inl, inr}
use Rattle.ctx_rows.proofs.MapLemmas.{name_grows}
use Rattle.ctx_rows.proofs.writing.context_name.Goals.{else-place-gt0, then-place-gt0+in_ok-push}
use Rattle.ctx_rows.proofs.writing.context_name.Goals as goal

pub functions-preserved : goal.functions-preserved
functions-preserved c =
    name_grows c.args.syms.now c.as_slice-func-items.result.now c.functions.place c.functions.text c.if-place-gt0.text
    c.push-in-functions.new.self c.name.result.now c.functions-test.true c.functions.invariant c.name.ensures
    c.in_ok-push-2.ensures.ok
    (elim c.if-place-gt0.branch [
      | then-place-gt0+in_ok-push w ↦ inl (w.if-place-gt0.true, cc (w.in_ok-push.ensures.ok))
      | else-place-gt0 w ↦ inr (omega (arith, w.if-place-gt0.false), cc)
    ])
