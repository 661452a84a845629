use Rattle.std.proofs.Common.{is_some, ap, sym, ◌∙◌, refl, true≢false}
use mathlib.Core.Option as maybe
use Rattle.recorder.proofs.recorder.Recorder.lend.Goals as goal

pub returns-in_err-place : goal.returns-in_err-place
returns-in_err-place c =
    let unknown = sym c.place_of.ensures.found ∙ ap is_some c.in_err-place.was in
    rw c.from_residual.ensures (
      (refl, (λ w. tt), refl),
      record {
        lends = tt;
        none = ((λ none. unknown), (λ none. refl));
        recorder = tt;
        thread = tt;
        lender = tt;
      },
    )

pub returns : goal.returns
returns c =
    let known = sym c.place_of.ensures.found ∙ ap is_some c.in_ok-place.was in (
      (ap (λ n. maybe.some n) (sym c.new.ensures.lender), (λ w. refl), tt),
      record {
        lends = tt;
        none = ((λ is. absurd (true≢false is)), (λ none. sym known ∙ none));
        recorder = c.new.ensures.recorder;
        thread = c.new.ensures.thread;
        lender = c.new.ensures.lender;
      },
    )
