use Rattle.std.proofs.Common.{refl}
use Rattle.cg_read.specs.Meaning.{text_of, function_ids}
use Rattle.cg_read.proofs.KnowingLemmas.{at_exit}
use Rattle.cg_read.proofs.TextLemmas.{no_fault, closed_opens, knows_kept}
use Rattle.cg_read.proofs.reader.Reader.callee_line.Goals as goal

pub returns : goal.returns
returns c = λ before k.
    let known = knows_kept c.args.self.now c.resolve.new.texts before c.in_ok-callee.ensures.kept k in
    let number = c.in_ok-callee.ensures.number (function_ids before) k.ids.functions in (
      record {
        rows = known.rows;
        command = known.command;
        ids = record {
          objects = known.ids.objects;
          files = known.ids.files;
          functions = c.in_ok-callee.ensures.ids (function_ids before) k.ids.functions;
        };
        current = known.current;
        position = refl;
        callee = record { object = known.callee.object; file = known.callee.file; name = number };
        open_call = closed_opens c.resolve.new.texts c.args.self.now.open_call c.requires;
      },
      no_fault c.resolve.new.texts c.in_ok-callee.callee (text_of (function_ids before) c.args.name.now) number,
    )

pub returns-in_err-callee : goal.returns-in_err-callee
returns-in_err-callee c = λ before k. at_exit _ c.in_err-callee.field-0.0 _ _ c.from_residual.ensures.1
    (c.in_err-callee.ensures.err (function_ids before) k.ids.functions)
