-- A table keeps no more rows of a type than count.
use Rattle.std.proofs.Common.{◌≡◌, ℕ, suc, ◌+◌, ◌≤◌, List, [], ◌∷◌, ◌++◌, length, map, refl, ap, arith, length-append}
use Rattle.c_types.specs.Shapes.{Shape, Members, Void, Whole, Pointer, Array, Open, Struct, Union, Incomplete, None_left, Member, Flexible, size, next_offset}
use Rattle.layout_table.specs.Strides.{Row, single, moved, repeated, rows_in, rows_in_struct, rows_in_union, inner, inner_of_members}

length_map : {X Y : Type 0} (f : X → Y) (xs : List X) → length (map f xs) ≡ length xs
length_map f [] = refl
length_map f (x ∷ xs) = ap suc (length_map f xs)

both : (a b : List Row) → length (a ++ b) ≡ length a + length b
both a b = simp (length-append) refl

mutual
  pub rows_count : (kind : Shape) → length (rows_in kind) ≤ inner kind
  rows_count (Void n) = omega arith
  rows_count (Whole n width signed) = omega arith
  rows_count (Pointer n to) = omega arith
  rows_count (Array n of count) =
      omega (arith, length_map (repeated (record { stride = size of; count = count })) (rows_in of), rows_count of)
  rows_count (Open n of) = omega arith
  rows_count (Struct n members) = struct_count members 0
  rows_count (Union n members) = union_count members
  rows_count (Incomplete n) = omega arith

  struct_count : (members : Members) (end : ℕ) → length (rows_in_struct members end) ≤ inner_of_members members
  struct_count None_left end = omega arith
  struct_count (Member first rest) end =
      omega (
        arith,
        both (map (moved (next_offset first end)) (single first 1 ∷ rows_in first)) (rows_in_struct rest (next_offset
            first end + size first)),
        length_map (moved (next_offset first end)) (single first 1 ∷ rows_in first),
        rows_count first,
        struct_count rest (next_offset first end + size first),
      )
  struct_count (Flexible n of) end = omega arith

  union_count : (members : Members) → length (rows_in_union members) ≤ inner_of_members members
  union_count None_left = omega arith
  union_count (Member first rest) =
      omega (
        arith,
        both (map (moved 0) (single first 1 ∷ rows_in first)) (rows_in_union rest),
        length_map (moved 0) (single first 1 ∷ rows_in first),
        rows_count first,
        union_count rest,
      )
  union_count (Flexible n of) = omega arith
