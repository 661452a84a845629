-- An address lies in as many spans as functions.
use Rattle.std.proofs.Common.{◌≡◌, map, rules}
use Rattle.std.proofs.lemmas.List.{take_all}
use Rattle.prog_make.proofs.SpanLemmas.{function_span, functions-apart}
use Rattle.prog_make.proofs.conditions.are_functions_apart.Goals as goal

pub returns : goal.returns
returns c =
    let all : c.functions.spans.items ≡ map function_span c.args.functions.now =
    rw (take_all c.functions.function-index c.args.functions.now c.functions-test.false) at c.functions.invariant in
    let spans : c.deref.result.now ≡ map function_span c.args.functions.now = search rules in
    functions-apart c.args.functions.now c.deref.result.now c.are_apart.result spans c.are_apart.ensures.apart
    c.are_apart.ensures.shared
