-- What is left to ask is that the functions are apart.
use Rattle.std.proofs.Common.{◌≡◌, false, rules}
use Rattle.std.specs.Prelude.{IsTrue, ◌↔◌}
use Rattle.std.specs.List.{All, list_any}
use Rattle.std.proofs.lemmas.Result.{IfOk-weaker}
use Rattle.prog_make.specs.Functions.{holds, IsWhole}
use Rattle.prog_make.specs.Names.{IsName}
use Rattle.prog_make.specs.Conditions.{AreFunctionsApart, AreFunctionsSound}
use Rattle.prog_make.proofs.conditions.are_functions_sound.Goals as goal

pub returns-then-not-are_named : goal.returns-then-not-are_named
returns-then-not-are_named c =
    let same : c.deref-3.result.now ≡ c.args.parts.now.functions = search rules in
    (λ (h : IsTrue false). absurd cc, λ sound. (c.if-not-are_named.ensures).1 (rw same sound.names))

pub returns : goal.returns
returns c =
    let in_code : All (λ f. IsTrue (list_any (holds f) c.args.parts.now.segments)) c.args.parts.now.functions =
    search rules in
    let whole : All IsWhole c.args.parts.now.functions = search rules in
    let named : All (λ f. IsName f.name) c.args.parts.now.functions = search rules in
    let same : c.deref-4.result.now ≡ c.args.parts.now.functions = search rules in
    IfOk-weaker c.are_functions_apart.result (λ apart. IsTrue apart ↔ AreFunctionsApart c.args.parts.now.functions)
    (λ sound. IsTrue sound ↔ AreFunctionsSound c.args.parts.now)
    (λ apart h. (
      λ t. record { in_code = in_code; whole = whole; functions_apart = h.0 t; names = named },
      λ sound. h.1
          sound.functions_apart,
    ))
    (rw same at c.are_functions_apart.ensures)
