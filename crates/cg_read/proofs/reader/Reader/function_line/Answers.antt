use Rattle.std.proofs.Common.{refl}
use Rattle.cg_read.specs.Meaning.{text_of, function_ids}
use Rattle.cg_read.specs.Profiles.{unknown}
use Rattle.cg_read.proofs.KnowingLemmas.{at_exit}
use Rattle.cg_read.proofs.TextLemmas.{no_fault, closed_opens, knows_kept, stands_or}
use Rattle.cg_read.proofs.reader.Reader.function_line.Goals as goal

pub returns : goal.returns
returns c = λ before k.
    let known = knows_kept c.args.self.now c.resolve.new.texts before c.in_ok-name.ensures.kept k in
    let number = c.in_ok-name.ensures.number (function_ids before) k.ids.functions in (
      record {
        rows = known.rows;
        command = known.command;
        ids = record {
          objects = known.ids.objects;
          files = known.ids.files;
          functions = c.in_ok-name.ensures.ids (function_ids before) k.ids.functions;
        };
        current = record {
          object = known.current.object;
          file = known.current.file;
          function = record {
            object = known.current.object;
            file = known.current.file;
            name = stands_or c.resolve.new.texts c.in_ok-name.name (text_of (function_ids before) c.args.name.now)
                unknown number;
          };
        };
        position = refl;
        callee = known.callee;
        open_call = closed_opens c.resolve.new.texts c.args.self.now.open_call c.requires;
      },
      no_fault c.resolve.new.texts c.in_ok-name.name (text_of (function_ids before) c.args.name.now) number,
    )

pub returns-in_err-name : goal.returns-in_err-name
returns-in_err-name c = λ before k. at_exit _ c.in_err-name.field-0.0 _ _ c.from_residual.ensures.1
    (c.in_err-name.ensures.err (function_ids before) k.ids.functions)
