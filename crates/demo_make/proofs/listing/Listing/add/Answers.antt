-- The instructions follow the others', and the part is that of a function behind the others.
use Rattle.std.proofs.Common.{rules, ◌≡◌, ◌∙◌, ◌++◌, ◌∷◌, []}
use Rattle.demo_make.specs.Program.{Routine}
use Rattle.demo_make.proofs.Behind.{code-more, parts-more}
use Rattle.demo_make.proofs.listing.Listing.add.Goals as goal

pub returns : goal.returns
returns c = λ before lists.
    let code : c.extend_from_slice.new.self.items ≡ c.args.self.now.code.items ++ c.args.code.now = search rules in
    let functions : c.push.new.self.items
    ≡ c.args.self.now.functions.items ++ c.in_ok-function.function ∷ [] = search rules in
    let r : Routine = record { name = c.args.name.now; code = c.args.code.now } in
    record {
      code = code ∙ code-more c.args.self.now.code.items before r lists.code;
      functions = functions
          ∙ parts-more c.args.self.now.functions.items c.args.self.now.code.items before r c.in_ok-function.function
          lists.code lists.functions (search rules);
    }
