use Rattle.std.proofs.Common.{ℕ, ◌/◌, ◌%◌, ◌^◌, ap, sym, ◌∙◌}
use Rattle.recorder.proofs.ActiveLemmas.{none_from}
use Rattle.recorder.proofs.active.Active.quiet_from.Goals as goal

pub returns : goal.returns
returns c = λ o low high.
    none_from c.args.self.now.words.items c.args.thread o
    (ap (λ (w : ℕ). w / 2 ^ (c.args.thread.0 % 64)) (sym c.word.ensures) ∙ c.if-word-bit-ne0.false) low high
