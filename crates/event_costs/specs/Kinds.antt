-- The kinds of event that are counted, as Callgrind has them (Valgrind manual, Callgrind, "Cache simulation options"):
-- instructions, data reads and writes, misses of the first level and of the last, then the conditional branches, the
-- indirect ones, and of each those that were predicted wrongly.
use Rattle.std.specs.Prelude.{ℕ, Bool, true, false, not, if◌then◌else◌, List, [], ◌∷◌, codes, filter, length, map}
use Rattle.event_costs.specs.declared.kind.Kind.{Kind}
use Rattle.event_costs.specs.declared.kind.Kind.TheVariants.{Ir, Dr, Dw, I1mr, D1mr, D1mw, ILmr, DLmr, DLmw}
use Rattle.event_costs.specs.declared.kind.Kind.TheVariants.{Bc, Bcm, Bi, Bim}

-- all of them, in the order of their numbers
abbrev pub kinds : List Kind
kinds = Ir ∷ Dr ∷ Dw ∷ I1mr ∷ D1mr ∷ D1mw ∷ ILmr ∷ DLmr ∷ DLmw ∷ Bc ∷ Bcm ∷ Bi ∷ Bim ∷ []

abbrev pub name : Kind → List ℕ
name Ir = codes "Ir"
name Dr = codes "Dr"
name Dw = codes "Dw"
name I1mr = codes "I1mr"
name D1mr = codes "D1mr"
name D1mw = codes "D1mw"
name ILmr = codes "ILmr"
name DLmr = codes "DLmr"
name DLmw = codes "DLmw"
name Bc = codes "Bc"
name Bcm = codes "Bcm"
name Bi = codes "Bi"
name Bim = codes "Bim"

-- the number of each, from 0 on
abbrev pub number : Kind → ℕ
number Ir = 0
number Dr = 1
number Dw = 2
number I1mr = 3
number D1mr = 4
number D1mw = 5
number ILmr = 6
number DLmr = 7
number DLmw = 8
number Bc = 9
number Bcm = 10
number Bi = 11
number Bim = 12

-- the kinds of branches; they come last
abbrev pub is_of_branches : Kind → Bool
is_of_branches Bc = true
is_of_branches Bcm = true
is_of_branches Bi = true
is_of_branches Bim = true
is_of_branches _ = false

-- how many kinds aren't of branches
abbrev pub kinds_without_branches : ℕ
kinds_without_branches = length (filter (λ kind. not (is_of_branches kind)) kinds)

-- What an event costs that counts as these kinds: 1 for each of them, else 0.
abbrev pub cost_by : (Kind → Bool) → List ℕ
cost_by counts = map (λ kind. if counts kind then 1 else 0) kinds
