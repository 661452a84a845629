use Rattle.std.proofs.Common.{◌∙◌, refl}
use Rattle.cg_lines.specs.Positions.{position_at}
use Rattle.cg_read.specs.Meaning as meaning
use Rattle.cg_read.proofs.KnowingLemmas.{callee_is, calls_sound, is_some-map}
use Rattle.cg_read.proofs.reader.Reader.calls_line.Goals as goal

pub returns : goal.returns
returns c = λ before k.
    let is =
    callee_is c.args.self.now.texts c.args.self.now.callee c.args.self.now.current before c.in-Some.callee k.callee
    k.current c.in-Some.ensures.callee in (
      record {
        rows = k.rows;
        command = k.command;
        ids = k.ids;
        current = k.current;
        position = refl;
        callee = rw c.take.ensures.after (record { object = tt; file = tt; name = tt });
        open_call = (is.0, rw c.in-Fits.is refl);
      },
      calls_sound (meaning.events before) (meaning.callee_name before) c.args.count
          (position_at (meaning.position before) c.args.place)
          (rw (← k.rows.names) (is_some-map _ c.args.self.now.events ∙ c.if-is_none.ensures)) is.1
          (rw c.in-Fits.is refl)
          (rw (← k.position, ← c.position_at.ensures) c.if-is_none-2.ensures),
    )
