-- Pages by their numbers, in a directory of tables.
use Rattle.std.specs.Prelude.{ℕ, zero, suc, ◌+◌, ◌/◌, ◌%◌, ◌^◌, Bool, if◌then◌else◌, Option, is_none, is_some}
use Rattle.std.specs.Option.{option_and_then}
use Rattle.guest_mem.specs.Memory.{count_below}
use Rattle.guest_mem.specs.inner.Page.{PageValue}
use Rattle.guest_mem.specs.inner.Table.{at_place}
use Rattle.guest_mem.specs.declared.directory.Directory.{Directory}

-- the page of a number
unfoldable pub page_at : Directory → ℕ → Option PageValue
page_at d number =
    option_and_then (λ t. at_place t.places.items (number % 1024)) (at_place d.tables.items (number / 1024))

-- how many pages there are
unfoldable pub page_total : Directory → ℕ
page_total d = count_below (λ p. is_some (page_at d p)) (2 ^ 20)

-- whether there is a place for the page of a number
unfoldable pub has_place : Directory → ℕ → Bool
has_place d number = is_some (at_place d.tables.items (number / 1024))

-- how many of the n numbers from first on have no page
abbrev pub missing_from : (ℕ → Option PageValue) → ℕ → ℕ → ℕ
missing_from pages first zero = 0
missing_from pages first (suc n) = missing_from pages first n + (if is_none (pages (first + n)) then 1 else 0)
