use Rattle.std.proofs.Common.{◌≡◌, ◌==◌, length, refl, ap, subst, arith}
use Rattle.std.specs.Prelude.{IfOk}
use Rattle.cg_read.specs.Profiles.{Contents}
use Rattle.annotate.specs.Functions.{self_text}
use Rattle.annotate.specs.inner.Layout.{AreTexts}
use Rattle.annotate.proofs.reporting.function_selfs.Goals as goal

pub returns : goal.returns
returns c =
    let p = c.args.profile.now in
    let count : c.len.result ≡ length p.functions =
    omega (arith, c.len.ensures, ap (λ (q : Contents). length q.functions) c.profile.view_is) in
    subst (λ n. IfOk c.list_texts.result (λ texts. AreTexts n (λ f. self_text p (λ g. g == f)) texts.items)) count
    (c.list_texts.ensures (λ f g. g == f) (λ n lt i d below. refl))
