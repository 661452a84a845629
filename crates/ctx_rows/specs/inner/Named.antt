-- What holds of contexts that stand for functions: each is one of the map's, and has its name.
use Rattle.std.specs.Prelude.{◌≡◌, ℕ, All, List, map}
use Rattle.sym_map.specs.SymbolMap.{SymbolMap}
use Rattle.contexts.specs.Contexts.{Context}
use Rattle.ctx_rows.specs.Known.{IsKnownContext}
use Rattle.ctx_rows.specs.Texts.{context_name}

pub record AreNamed (m : SymbolMap) (contexts : List Context) (names : List (List ℕ)) : Type 0 where
  pub names_are : names ≡ map (context_name m) contexts
  pub known : All (IsKnownContext m) contexts
