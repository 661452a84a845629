-- What a watch makes of a run that counts by address.
use Rattle.std.specs.Prelude.{◌≡◌, ℕ, List, [], None, Option, Some}
use Rattle.sym_map.specs.SymbolMap.{SymbolMap}
use Rattle.cg_format.specs.declared.head.PartHead.{PartHead}
use Rattle.part_dump.specs.Watching.{Meaning}
use Rattle.ctx_rows.specs.Watching as contexts
use Rattle.addr_rows.specs.Rows.{AddrListed}
use Rattle.addr_rows.specs.Texts.{addr_text}
use Rattle.addr_rows.specs.Telling.{thread_rows}
use Rattle.addr_rows.specs.States.{AddrState, after_part, after_ready, after_seen}

-- a part is the text of its thread's rows by address
abbrev pub text_in : PartHead → Option AddrListed → SymbolMap → List ℕ
text_in head None m = []
text_in head (Some rows) m = addr_text head rows m

abbrev pub by_address : Meaning AddrState
by_address = record {
  after_ready = after_ready;
  after_seen = λ w event cost wait woken m. after_seen w event cost;
  after_part = λ w head rows m. after_part w head.thread;
  text = λ w head rows m. text_in head (thread_rows w head.thread) m;
}

-- a state before any call
pub record IsFresh (w : AddrState) : Type 0 where
  pub first_syms : w.first_syms ≡ None
  pub callers : w.watched.callers ≡ 0
  pub watched : contexts.IsFresh w.watched
