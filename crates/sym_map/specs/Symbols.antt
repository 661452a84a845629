-- Which symbol an address belongs to (gABI, Symbol Table).
use Rattle.std.specs.Prelude.{ℕ, ◌+◌, Bool, not, false, ◌&&◌, ◌||◌, ◌==◌, nat_eq, nat_lt, nat_le, bit_and}
use Rattle.std.specs.Prelude.{if◌then◌else◌, List, length, filter, find, slice_get, codes, Option, None}
use Rattle.std.specs.List.{list_any, list_all, starts_with}
use Rattle.std.specs.Option.{option_or, option_map_or}
use Rattle.std.specs.Ordering.{nat_cmp, is_lt, ordering_then}
use Rattle.std.specs.Cmp.Lexicographic.{slice_cmp}
use Rattle.std.specs.declared.cmp.Ordering.{Ordering}
use Rattle.elf_read.specs.declared.section.Section.{Section}
use Rattle.elf_read.specs.declared.symbol.Symbol.{Symbol}
use Rattle.elf_read.specs.Image.{Image}
use Rattle.elf_read.specs.Strings.{part_of}

-- the bytes of its name
abbrev pub symbol_name : Image → Symbol → List ℕ
symbol_name image symbol = part_of image.bytes symbol.name

-- The section st_shndx. The index SHN_UNDEF (0) and those from SHN_LORESERVE (0xff00) on name no section.
abbrev pub section_of : Image → Symbol → Option Section
section_of image symbol =
    if nat_lt 0 symbol.section && nat_lt symbol.section 0xff00 then slice_get image.sections symbol.section else None

-- A name that an assembler makes for itself begins with `$` or `.L`.
abbrev pub is_chosen_name : List ℕ → Bool
is_chosen_name name =
    not (length name == 0) && not (starts_with nat_eq name (codes "$")) && not (starts_with nat_eq name (codes ".L"))

-- A symbol that may stand for code: it is a function (STT_FUNC 2) or of no type (STT_NOTYPE 0), its section has code
-- (SHF_EXECINSTR 4), and its name is chosen.
abbrev pub is_candidate : Image → Symbol → Bool
is_candidate image symbol =
    (symbol.kind == 2 || symbol.kind == 0)
    && option_map_or (λ section. not (bit_and section.flags 4 == 0)) (section_of image symbol) false
    && is_chosen_name (symbol_name image symbol)

-- the candidates, in the order of the symbol table
unfoldable pub candidates : Image → List Symbol
candidates image = filter (is_candidate image) image.symbols

-- a function whose size is known
abbrev pub is_sized : Symbol → Bool
is_sized symbol = symbol.kind == 2 && nat_lt 0 symbol.size

-- a sized candidate covers as many bytes as its size says
abbrev pub covers_sized : ℕ → Symbol → Bool
covers_sized address symbol = is_sized symbol && nat_le symbol.value address && nat_lt address
    (symbol.value + symbol.size)

-- Any other candidate covers the addresses of its section from its value up to the next greater value of a candidate of
-- the section.
abbrev pub covers_unsized : Image → ℕ → Symbol → Bool
covers_unsized image address symbol =
    not (is_sized symbol) && nat_le symbol.value address
    && nat_lt address (option_map_or (λ section. section.addr + section.size) (section_of image symbol) 0)
    && not (list_any (λ other. other.section == symbol.section && nat_lt symbol.value other.value
    && nat_le other.value address) (candidates image))

-- global symbols (STB_GLOBAL 1) come before weak ones (STB_WEAK 2), and these before all others
abbrev pub binding_rank : ℕ → ℕ
binding_rank binding = if binding == 1 then 0 else if binding == 2 then 1 else 2

-- Of two symbols the first is preferred where this is `Less`: by the greater value, then by the binding, then by the
-- lesser name.
abbrev pub preference : Image → Symbol → Symbol → Ordering
preference image x y =
    ordering_then (nat_cmp y.value x.value)
    (ordering_then (nat_cmp (binding_rank x.binding) (binding_rank y.binding))
    (slice_cmp nat_cmp (symbol_name image x) (symbol_name image y)))

-- the first of several to which no other is preferred
abbrev pub best_of : Image → List Symbol → Option Symbol
best_of image symbols =
    find (λ symbol. list_all (λ other. not (is_lt (preference image other symbol))) symbols) symbols

-- The symbol of an address: the best of the sized ones that cover it, and where none does, the best of the others.
unfoldable pub symbol_at : Image → ℕ → Option Symbol
symbol_at image address =
    option_or (best_of image (filter (covers_sized address) (candidates image)))
    (best_of image (filter (covers_unsized image address) (candidates image)))
