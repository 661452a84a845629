use Rattle.std.specs.Map.{keys_of}
use Rattle.std.specs.Str.{bytes_eq}
use Rattle.std.proofs.Common.{◌≡◌, sym, ap, ◌∙◌, false}
use Rattle.std.proofs.lemmas.List.{length-map}
use Rattle.contexts.specs.Contexts.{has_context, Held}
use Rattle.contexts.proofs.SearchLemmas.{found_place, none_any, past_all}
use Rattle.contexts.proofs.NumberLemmas.{none_place, place}
use Rattle.contexts.proofs.contexts.Contexts.next_number.Goals as goal

pub returns-in-Some : goal.returns-in-Some
returns-in-Some c =
    let c_ = c.args.context.now in
    let is : c.in-Some.index ≡ place c.args.self.now.contexts c_ =
    found_place (bytes_eq c_) (keys_of c.self.inside.known.entries) c.in-Some.index c.in-Some.ensures.index
    ∙ ap (λ (held : Held). place held.contexts c_) c.self.view_is in
    λ i. record { 0 = is i }

pub returns-in-None : goal.returns-in-None
returns-in-None c =
    let keys = keys_of c.self.inside.known.entries in
    let c_ = c.args.context.now in
    let none : has_context keys c_ ≡ false = none_any (bytes_eq c_) keys (past_all (bytes_eq c_) keys (sym c.in-None.ensures.index)) in
    let is : c.len.result ≡ place c.args.self.now.contexts c_ =
    c.len.ensures.len ∙ sym (length-map c.self.inside.known.entries (λ e. e.0)) ∙ sym (none_place keys c_ none)
    ∙ ap (λ (held : Held). place held.contexts c_) c.self.view_is in
    λ i. record { 0 = is i }
