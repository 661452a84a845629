-- The function goes behind the others.
use Rattle.std.proofs.Common.{◌≡◌, ◌∙◌, ◌++◌, ap}
use Rattle.std.specs.Prelude.{codes, decimal}
use Rattle.std.proofs.lemmas.Result.{on_ok_weaker}
use Rattle.demo_make.specs.Functions.{function}
use Rattle.demo_make.specs.inner.Lists.{routines_before}
use Rattle.demo_make.proofs.Listed.{random_below-listed}
use Rattle.demo_make.proofs.program.add_drawn.Goals as goal

pub returns : goal.returns
returns c =
    let is_name : c.as_bytes.result.now ≡ codes "f" ++ decimal c.args.k = c.as_bytes.ensures ∙ c.in_ok-name.ensures in
    on_ok_weaker c.add.result (λ adds. λ size is lists.
    random_below-listed c.add.new.self size c.args.k c.as_bytes.result.now c.function-code.result is_name
    (c.function-code.ensures ∙ ap (function c.args.k) is) (adds (routines_before size c.args.k) lists)) c.add.ensures
