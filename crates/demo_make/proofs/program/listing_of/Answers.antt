-- A function more is listed at each iteration, and after all of them the listing is whole.
use Rattle.std.proofs.Common.{◌≡◌, ◌<◌, arith}
use Rattle.demo_make.proofs.Lengths.{length-code, length-functions, routines-all}
use Rattle.demo_make.proofs.program.listing_of.Goals as goal

pub returns : goal.returns
returns c =
    let all : c.functions.k ≡ 32 = omega arith in
    rw (routines-all c.args.size) (rw all at c.functions.invariant.lists)

pub add_drawn-requires-clause-instructions : goal.add_drawn-requires-clause-instructions
add_drawn-requires-clause-instructions c =
    let many = length-code c.functions.listing c.args.size c.functions.k c.functions.invariant.lists in
    let few : c.functions.k < 32 = c.functions-test.true in
    omega arith

pub add_drawn-requires-clause-functions : goal.add_drawn-requires-clause-functions
add_drawn-requires-clause-functions c =
    let many = length-functions c.functions.listing c.args.size c.functions.k c.functions.invariant.lists in
    let few : c.functions.k < 32 = c.functions-test.true in
    omega arith
