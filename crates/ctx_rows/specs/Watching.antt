-- What a watch makes of a run that counts by calling context.
use Rattle.std.specs.Prelude.{◌≡◌, ◌≤◌, [], None}
use Rattle.part_dump.specs.Watching.{Meaning}
use Rattle.ctx_rows.specs.Telling.{rows_in}
use Rattle.ctx_rows.specs.States.{CtxState, after_part, after_ready, after_seen}
use Rattle.ctx_rows.specs.Texts.{ctx_text}

-- its parts are the texts of their threads' rows by context
abbrev pub by_context : Meaning CtxState
by_context = record {
  after_ready = after_ready;
  after_seen = λ w event cost wait woken syms. after_seen w event cost syms;
  after_part = λ w head rows syms. after_part w head.thread;
  text = λ w head rows syms. ctx_text head (rows_in w head.thread) syms;
}

-- a state before any call, by contexts of up to 16 callers
pub record IsFresh (w : CtxState) : Type 0 where
  pub few : w.callers ≤ 16
  pub contexts : w.contexts ≡ []
  pub tracks : w.tracks ≡ []
  pub ready : w.ready ≡ None
