-- The default geometries are geometries.
use Rattle.std.proofs.Common.{refl, lit≤}
use Rattle.cache_lru.specs.Shape.{IsGeometry}
use Rattle.command_words.specs.Request.{default_first, default_last}

pub default_first-IsGeometry : IsGeometry default_first
default_first-IsGeometry = record {
  line_is_power = (6, refl);
  line_least = lit≤ tt;
  line_most = lit≤ tt;
  assoc_least = lit≤ tt;
  assoc_most = lit≤ tt;
  size_most = lit≤ tt;
  size_is = (64, (6, refl), refl);
}

pub default_last-IsGeometry : IsGeometry default_last
default_last-IsGeometry = record {
  line_is_power = (6, refl);
  line_least = lit≤ tt;
  line_most = lit≤ tt;
  assoc_least = lit≤ tt;
  assoc_most = lit≤ tt;
  size_most = lit≤ tt;
  size_is = (8192, (13, refl), refl);
}
