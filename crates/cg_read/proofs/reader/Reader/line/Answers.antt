use Rattle.std.proofs.Common.{sym, ◌∙◌, ◌∷◌, subst, ℕ}
use Rattle.cg_read.specs.inner.Knowing.{Knows, counting_from}
use Rattle.cg_read.proofs.KnowingLemmas.{fault_is}
use Rattle.cg_read.proofs.reader.Reader.line.Goals as goal

pub returns : goal.returns
returns c = λ before k.
    let alone = c.in_ok-line_alone.ensures before k in
    rw (fault_is c.args.self.now.texts c.args.self.now.open_call before c.args.line.now k.open_call
    (sym c.breaks_call.ensures ∙ c.if-breaks_call.false)) (
      subst (λ (p : ℕ). Knows (counting_from p c.line_alone.new.self) (c.args.line.now ∷ before))
          (sym (c.position_after-position.ensures before k.position)) alone.0,
      alone.1,
    )
