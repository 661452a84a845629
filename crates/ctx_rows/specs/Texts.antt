-- The text of a part by context: that of a part, with contexts for functions.
use Rattle.std.specs.Prelude.{ℕ, List, [], ◌∷◌, ◌++◌, codes, flat_map, map}
use Rattle.sym_map.specs.SymbolMap.{SymbolMap, entry_of, home_of, identity_of}
use Rattle.arc_costs.specs.Contents.{Listed}
use Rattle.arc_costs.specs.Rows.{ArcRow, LineRow}
use Rattle.cg_format.specs.Part.{part_text}
use Rattle.cg_format.specs.declared.head.PartHead.{PartHead}
use Rattle.arc_costs.specs.Keys.{risen}
use Rattle.contexts.specs.Contexts.{Context, context_order}
use Rattle.ctx_rows.specs.Folding.{function_of}
use Rattle.ctx_rows.specs.Rows.{CtxListed}
use Rattle.contexts.specs.Contexts.{number}
use Rattle.ctx_rows.specs.declared.rows.CtxArc.{CtxArc}
use Rattle.ctx_rows.specs.declared.rows.CtxLine.{CtxLine}

-- the contexts of rows, as often as they come
abbrev pub all_contexts : CtxListed → List Context
all_contexts rows =
    map (λ (row : CtxLine). row.ctx) rows.lines
    ++ flat_map (λ (row : CtxArc). row.caller ∷ (row.callee ∷ [])) rows.arcs

-- each of them once, in order: contexts are numbered so
abbrev pub contexts_in : CtxListed → List Context
contexts_in rows = risen context_order (all_contexts rows)

-- rows with the numbers of contexts in place of functions
abbrev pub numbered_line : List Context → CtxLine → LineRow
numbered_line contexts row = record {
  place = record { func = number contexts row.ctx; file = row.file; line = row.line };
  cost = row.cost;
}

abbrev pub numbered_arc : List Context → CtxArc → ArcRow
numbered_arc contexts row = record {
  arc = record {
    caller = number contexts row.caller;
    file = row.file;
    line = row.line;
    callee = number contexts row.callee;
  };
  calls = row.calls;
  cost = row.cost;
}

abbrev pub numbered : List Context → CtxListed → Listed
numbered contexts rows = record {
  lines = map (numbered_line contexts) rows.lines;
  arcs = map (numbered_arc contexts) rows.arcs;
}

-- the names of a context's functions, joined by an apostrophe
abbrev pub context_name : SymbolMap → Context → List ℕ
context_name m [] = []
context_name m (f ∷ []) = (identity_of m (record { 0 = f })).name
context_name m (f ∷ (g ∷ c)) = (identity_of m (record { 0 = f })).name ++ codes "'" ++ context_name m (g ∷ c)

-- what a map keeps of a function
abbrev pub Element : {A : Type 0} → List A → Type 0
Element {A} list = A

abbrev pub FunctionIn : SymbolMap → Type 0
FunctionIn m = Element m.functions

-- a context as a function: its file is that of its first function
abbrev pub as_function : (m : SymbolMap) → Context → FunctionIn m
as_function m c = record { home = home_of m (function_of c); name = context_name m c }

-- The map with contexts for functions: the entry of a context is that of its first function.
abbrev pub context_map : SymbolMap → List Context → SymbolMap
context_map m contexts = record m {
  functions = map (as_function m) contexts;
  entries = map (λ c. entry_of m (function_of c)) contexts;
}

-- the text of a part
unfoldable pub ctx_text : PartHead → CtxListed → SymbolMap → List ℕ
ctx_text head rows m =
    part_text head (numbered (contexts_in rows) rows) (context_map m (contexts_in rows))
