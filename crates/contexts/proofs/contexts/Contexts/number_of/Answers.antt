use Rattle.std.proofs.Common.{◌≡◌, ◌<◌, ◌∙◌, ◌∷◌, ◌++◌, [], ap, arith, false, if◌then◌else◌, length, sym}
use Rattle.std.specs.Map.{keys_of}
use Rattle.std.specs.Str.{bytes_eq}
use Rattle.std.proofs.lemmas.List.{length-map, map-append}
use Rattle.std.proofs.lemmas.Result.{IfOk-at_ok}
use Rattle.contexts.specs.Contexts.{has_context, Held, with_context}
use Rattle.contexts.proofs.NumberLemmas.{none_place, place}
use Rattle.contexts.proofs.SearchLemmas.{found_place, none_any, not_next, past_all}
use Rattle.contexts.proofs.contexts.Contexts.number_of.Goals as goal

is_place : (c : goal.In-Some) → c.in-Some.index ≡ place c.args.self.now.contexts c.args.context
is_place c =
    found_place (bytes_eq c.args.context) (keys_of c.self.inside.known.entries) c.in-Some.index c.in-Some.ensures.index
    ∙ ap (λ (held : Held). place held.contexts c.args.context) c.self.view_is

pub returns-in-Some-clause-number : goal.returns-in-Some-clause-number
returns-in-Some-clause-number c = λ i. record { 0 = is_place c i }

pub returns-in-Some-clause-contexts : goal.returns-in-Some-clause-contexts
returns-in-Some-clause-contexts c =
    not_next c.args.self.now.contexts c.args.context
    (λ last.
    let many = ap (λ (held : Held). length held.contexts) (sym c.self.view_is)
    ∙ length-map c.self.inside.known.entries (λ e. e.0) in
    let within : c.in-Some.index < length c.self.inside.known.entries = c.in-Some.ensures.within in
    omega (arith, is_place c, last, many, within))

-- the context has not come up
is_new : (c : goal.After-self-1) → has_context (keys_of c.self.inside.known.entries) c.args.context ≡ false
is_new c =
    let keys = keys_of c.self.inside.known.entries in
    none_any (bytes_eq c.args.context) keys (past_all (bytes_eq c.args.context) keys (sym c.in-None.ensures.index))

pub returns-in-None-clause-number : goal.returns-in-None-clause-number
returns-in-None-clause-number c =
    let keys = keys_of c.self.inside.known.entries in
    let is : c.len.result ≡ place c.args.self.now.contexts c.args.context =
    c.len.ensures.len ∙ sym (length-map c.self.inside.known.entries (λ e. e.0))
    ∙ sym (none_place keys c.args.context (is_new c))
    ∙ ap (λ (held : Held). place held.contexts c.args.context) c.self.view_is in
    λ i. record { 0 = is i }

pub returns-in-None-clause-contexts : goal.returns-in-None-clause-contexts
returns-in-None-clause-contexts c =
    let keys = keys_of c.self.inside.known.entries in
    let key = c.args.context in
    ap keys_of (IfOk-at_ok _ c.unwrap.ensures c.push.ensures.entries)
    ∙ map-append (λ e. e.0) c.self.inside.known.entries ((key, tt) ∷ [])
    ∙ ap (λ b. if b then keys else keys ++ key ∷ []) (sym (is_new c))
    ∙ ap (λ (held : Held). with_context held.contexts key) c.self.view_is
