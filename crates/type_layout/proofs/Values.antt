-- What is inside a value is its parts, opened one after the other.
use Rattle.std.proofs.Common.{◌≡◌, ℕ, zero, suc, ◌+◌, ◌*◌, List, [], ◌++◌, None, sym, ap, ◌∙◌, refl, arith, append_assoc}
use Rattle.std.specs.Prelude.{slice_get}
use Rattle.std.proofs.Math.Nat.{suc-mul}
use Rattle.std.proofs.lemmas.List.{append-nil}
use Rattle.c_types.specs.Shapes.{Shape, Members, Void, Whole, Pointer, Array, Open, Struct, Union, Incomplete, None_left, Member, Flexible, size, next_offset}
use Rattle.type_layout.specs.Runs.{ShapeRun, each, inside, inside_struct, inside_union, runs_of}
use Rattle.type_layout.specs.Pending.{struct_parts, union_parts, parts, opened, inside_values}

-- ---- one value after the other

each_front : (n : ℕ) (f : ℕ → List ShapeRun) → each (suc n) f ≡ f 0 ++ each n (λ i. f (suc i))
each_front zero f = sym (append-nil (f 0))
each_front (suc n) f = rw (each_front n f) (append_assoc (f 0) (each n (λ i. f (suc i))) (f (suc n)))

each_same : (n : ℕ) (f g : ℕ → List ShapeRun) → ((i : ℕ) → f i ≡ g i) → each n f ≡ each n g
each_same zero f g h = refl
each_same (suc n) f g h = rw (each_same n f g h, h n) refl

each_empty : (n : ℕ) (f : ℕ → List ShapeRun) → ((i : ℕ) → f i ≡ []) → each n f ≡ []
each_empty zero f h = refl
each_empty (suc n) f h = rw (each_empty n f h, h n) refl

-- the first value and the later ones
pub values_front : (kind : Shape) (lo n : ℕ) →
    inside_values kind lo (suc n) ≡ inside kind lo ++ inside_values kind (lo + size kind) n
values_front kind lo n =
    let first : lo + 0 * size kind ≡ lo = omega arith in
    let next : (i : ℕ) → lo + suc i * size kind ≡ lo + size kind + i * size kind =
    λ i. omega (arith, suc-mul i (size kind)) in
    each_front n (λ i. inside kind (lo + i * size kind)) ∙
    ap (λ at. inside kind at ++ each n (λ i. inside kind (lo + suc i * size kind))) first ∙
    ap (λ later. inside kind lo ++ later)
    (each_same n (λ i. inside kind (lo + suc i * size kind)) (λ i. inside kind (lo + size kind + i * size kind))
    (λ i. ap (inside kind) (next i)))

-- ---- parts

struct_inside : (members : Members) (end at : ℕ) → inside_struct members end at ≡ opened (struct_parts members end at)
struct_inside None_left end at = refl
struct_inside (Member first rest) end at = rw (struct_inside rest (next_offset first end + size first) at) refl
struct_inside (Flexible n of) end at = refl

union_inside : (members : Members) (at : ℕ) → inside_union members at ≡ opened (union_parts members at)
union_inside None_left at = refl
union_inside (Member first rest) at = rw (union_inside rest at) refl
union_inside (Flexible n of) at = refl

pub inside_opened : (kind : Shape) (at : ℕ) → inside kind at ≡ opened (parts kind at)
inside_opened (Void n) at = refl
inside_opened (Whole n width signed) at = refl
inside_opened (Pointer n to) at = refl
inside_opened (Array n of count) at = sym (append-nil (runs_of of at count))
inside_opened (Open n of) at = refl
inside_opened (Struct n members) at = struct_inside members 0 at
inside_opened (Union n members) at = union_inside members at
inside_opened (Incomplete n) at = refl

-- ---- values without parts

struct_empty : (members : Members) (end a b : ℕ) → slice_get (struct_parts members end a) 0 ≡ None →
    inside_struct members end b ≡ []
struct_empty None_left end a b h = refl
struct_empty (Member first rest) end a b h = cc
struct_empty (Flexible n of) end a b h = refl

union_empty : (members : Members) (a b : ℕ) → slice_get (union_parts members a) 0 ≡ None → inside_union members b ≡ []
union_empty None_left a b h = refl
union_empty (Member first rest) a b h = cc
union_empty (Flexible n of) a b h = refl

inside_empty : (kind : Shape) (a b : ℕ) → slice_get (parts kind a) 0 ≡ None → inside kind b ≡ []
inside_empty (Void n) a b h = refl
inside_empty (Whole n width signed) a b h = refl
inside_empty (Pointer n to) a b h = refl
inside_empty (Array n of count) a b h = cc
inside_empty (Open n of) a b h = refl
inside_empty (Struct n members) a b h = struct_empty members 0 a b h
inside_empty (Union n members) a b h = union_empty members a b h
inside_empty (Incomplete n) a b h = refl

pub values_empty : (kind : Shape) (lo count : ℕ) → slice_get (parts kind lo) 0 ≡ None → inside_values kind lo count ≡ []
values_empty kind lo count h =
    each_empty count (λ i. inside kind (lo + i * size kind)) (λ i. inside_empty kind lo (lo + i * size kind) h)
