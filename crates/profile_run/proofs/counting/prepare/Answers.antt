use Rattle.std.proofs.Common.{inl, refl, sym, ◌∙◌}
use Rattle.std.proofs.lemmas.Bool.{false≢true}
use Rattle.profile_run.proofs.counting.prepare.Goals as goal

pub returns-then-is_remembered : goal.returns-then-is_remembered
returns-then-is_remembered c =
    let is = c.is_remembered.ensures c.if-is_remembered.true in
    record {
      ready = is.1;
      known = λ other known. inl known;
      still_known = λ other known. known;
      own_known = is.0;
      others = λ other known. refl;
      started = λ unknown. absurd (false≢true (sym unknown ∙ is.0));
      live = refl;
    }
