-- main and child are listed, which are few instructions.
use Rattle.std.proofs.Common.{◌≡◌, ◌∙◌, arith, length, ap, [], ◌∷◌}
use Rattle.std.specs.Prelude.{codes}
use Rattle.demo_make.specs.Functions.{main, child}
use Rattle.demo_make.specs.Program.{Routine}
use Rattle.demo_make.proofs.Lengths.{code-one, functions-one}
use Rattle.demo_make.proofs.Listed.{two-listed}
use Rattle.demo_make.proofs.program.first_two.Goals as goal

pub add-requires-2-clause-instructions : goal.add-requires-2-clause-instructions
add-requires-2-clause-instructions c =
    let first : Routine = record { name = codes "main"; code = c.deref.result.now } in
    let many = code-one c.add.new.self first (c.in_ok-add.ensures [] c.new-listing.ensures) in
    let is_main : c.deref.result.now ≡ main c.args.size = c.deref.ensures.value ∙ c.in_ok-main.ensures in
    let is_child : c.deref-2.result.now ≡ child c.args.size = c.deref-2.ensures.value ∙ c.in_ok-child.ensures in
    let m : length c.deref.result.now ≡ 66 = ap length is_main in
    let d : length c.deref-2.result.now ≡ 9 = ap length is_child in
    omega arith

pub add-requires-2-clause-functions : goal.add-requires-2-clause-functions
add-requires-2-clause-functions c =
    let first : Routine = record { name = codes "main"; code = c.deref.result.now } in
    let few = functions-one c.add.new.self first (c.in_ok-add.ensures [] c.new-listing.ensures) in
    omega arith

pub returns : goal.returns
returns c =
    let first : Routine = record { name = codes "main"; code = c.deref.result.now } in
    let is_main : c.deref.result.now ≡ main c.args.size = c.deref.ensures.value ∙ c.in_ok-main.ensures in
    let is_child : c.deref-2.result.now ≡ child c.args.size = c.deref-2.ensures.value ∙ c.in_ok-child.ensures in
    two-listed c.add-2.new.self c.args.size c.deref.result.now c.deref-2.result.now is_main is_child
    (c.in_ok-add-2.ensures (first ∷ []) (c.in_ok-add.ensures [] c.new-listing.ensures))
