-- What the arithmetic of a region is made of.
use Rattle.std.specs.Prelude.{ℕ, ◌<◌, ◌+◌, ◌-◌, ◌*◌, ◌/◌, ◌^◌}
use Rattle.lowfat_regions.specs.Regions.{size_of, slots, first_multiple}
use Rattle.lowfat_regions.specs.declared.shapes.Shape.{Shape}

-- 2 ^ 40 by a size, rounded up
abbrev pub reciprocal : ℕ → ℕ
reciprocal size = (2 ^ 40 + (size - 1)) / size

-- the shape of a region
abbrev pub shape_of : ℕ → Shape
shape_of region = record {
  size = size_of region;
  slots = slots region;
  first = first_multiple region * size_of region;
  reciprocal = reciprocal (size_of region);
}

-- Where there is a region before this one, its slots have fewer bytes.
abbrev pub HasNoRoomBefore : ℕ → ℕ → Type 0
HasNoRoomBefore bytes region = 1 < region → size_of (region - 1) < bytes
