-- What a watch makes of a run that nobody watches: its parts are the texts of their rows.
use Rattle.cg_format.specs.Part.{part_text}
use Rattle.part_dump.specs.Watching.{Meaning}

-- no state
pub data Stateless : Type 0 where
  stateless : Stateless

abbrev pub plain : Meaning Stateless
plain = record {
  after_ready = λ w thread pc syms. w;
  after_seen = λ w event cost wait woken syms. w;
  after_part = λ w head rows syms. w;
  text = λ w head rows syms. part_text head rows syms;
}
