-- Runs lie inside their object, for every type.
use Rattle.std.proofs.Common.{◌≡◌, ℕ, zero, suc, ◌+◌, ◌-◌, ◌*◌, ◌/◌, ◌%◌, ◌≤◌, List, [], ◌∷◌, ◌++◌, Bool, true, false, cond, Some, None, refl, arith}
use Rattle.std.specs.Prelude.{Option, nat_le, if◌then◌else◌, ◌==◌}
use Rattle.std.proofs.Math.Nat.{suc-mul, div-mul-le_self}
use Rattle.std.proofs.lemmas.Bool.Decides.{nat_tests}
use Rattle.c_types.specs.Shapes.{Shape, Members, Void, Whole, Pointer, Array, Open, Struct, Union, Incomplete, None_left, Member, Flexible, size, next_offset, round_up, end_of_struct, end_of_union, greatest_alignment, alignment}
use Rattle.type_layout.specs.Runs.{ShapeRun, end_of, each, runs_with, inside, inside_struct, inside_union, runs_of, runs_by, runs_of_object, flexible_of}

-- runs that end at a place or before
abbrev pub Within : ℕ → List ShapeRun → Type 0
Within top [] = Unit {0}
Within top (run ∷ runs) = (end_of run ≤ top) × Within top runs

within_append : (top : ℕ) (a b : List ShapeRun) → Within top a → Within top b → Within top (a ++ b)
within_append top [] b h i = i
within_append top (run ∷ a) b h i = (h.0, within_append top a b h.1 i)

each_within : (kind : Shape) (f : ℕ → List ShapeRun) (lo count top : ℕ) → ((at : ℕ) → at + size kind ≤ top → Within top (f at)) →
    lo + count * size kind ≤ top → Within top (each count (λ i. f (lo + i * size kind)))
each_within kind f lo zero top inside h = tt
each_within kind f lo (suc n) top inside h =
    let e : lo + n * size kind + size kind ≤ top = omega (arith, suc-mul n (size kind)) in
    within_append top _ _ (each_within kind f lo n top inside (omega arith)) (inside (lo + n * size kind) e)

runs_within : (kind : Shape) (f : ℕ → List ShapeRun) (lo count top : ℕ) → ((at : ℕ) → at + size kind ≤ top → Within top (f at)) →
    lo + count * size kind ≤ top → Within top (runs_with kind f lo count)
runs_within kind f lo count top inside h = (h, each_within kind f lo count top inside h)

either_above : (b : Bool) (m k : ℕ) → m ≤ k → m ≤ cond b m k
either_above true m k h = omega arith
either_above false m k h = h

pub round_up_above : (step n : ℕ) → n ≤ round_up step n
round_up_above step n = either_above (n % step == 0) n (n + (step - n % step)) (omega arith)

pub struct_grows : (members : Members) (end : ℕ) → end ≤ end_of_struct members end
struct_grows None_left end = omega arith
struct_grows (Member first rest) end =
    omega (arith, round_up_above (alignment first) end, struct_grows rest (next_offset first end + size first))
struct_grows (Flexible n of) end = round_up_above (alignment of) end

mutual
  pub inside_within : (kind : Shape) (at top : ℕ) → at + size kind ≤ top → Within top (inside kind at)
  inside_within (Void n) at top h = tt
  inside_within (Whole n width signed) at top h = tt
  inside_within (Pointer n to) at top h = tt
  inside_within (Array n of count) at top h = runs_within of (inside of) at count top (λ a i. inside_within of a top i) h
  inside_within (Open n of) at top h = tt
  inside_within (Struct n members) at top h =
      struct_within members 0 at top (omega (arith, round_up_above (greatest_alignment members) (end_of_struct members 0)))
  inside_within (Union n members) at top h =
      union_within members at top (omega (arith, round_up_above (greatest_alignment members) (end_of_union members)))
  inside_within (Incomplete n) at top h = tt

  struct_within : (members : Members) (end at top : ℕ) → at + end_of_struct members end ≤ top → Within top (inside_struct members end at)
  struct_within None_left end at top h = tt
  struct_within (Member first rest) end at top h =
      let g = struct_grows rest (next_offset first end + size first) in
      within_append top (runs_with first (inside first) (at + next_offset first end) 1) (inside_struct rest (next_offset first end + size first) at)
      (runs_within first (inside first) (at + next_offset first end) 1 top (λ a i. inside_within first a top i) (omega (arith, g)))
      (struct_within rest (next_offset first end + size first) at top h)
  struct_within (Flexible n of) end at top h = tt

  union_within : (members : Members) (at top : ℕ) → at + end_of_union members ≤ top → Within top (inside_union members at)
  union_within None_left at top h = tt
  union_within (Member first rest) at top h =
      within_append top (runs_with first (inside first) at 1) (inside_union rest at)
      (runs_within first (inside first) at 1 top (λ a i. inside_within first a top i) (omega arith))
      (union_within rest at top (omega arith))
  union_within (Flexible n of) at top h = tt

pub runs_of_within : (kind : Shape) (lo count top : ℕ) → lo + count * size kind ≤ top → Within top (runs_of kind lo count)
runs_of_within kind lo count top h = runs_within kind (inside kind) lo count top (λ at i. inside_within kind at top i) h

one_at_most : (bytes s : ℕ) → 0 + (if nat_le s bytes then 1 else 0) * s ≤ bytes
one_at_most bytes s = grind (arith, nat_tests)

within_if : (top : ℕ) (runs : List ShapeRun) (b : Bool) → (b ≡ true → Within top runs) → Within top (cond b runs [])
within_if top runs true h = h refl
within_if top runs false h = tt

tail_fits : (offset bytes s : ℕ) → nat_le offset bytes ≡ true → offset + (bytes - offset) / s * s ≤ bytes
tail_fits offset bytes s e =
    let h : offset ≤ bytes = grind (arith, nat_tests) in omega (arith, div-mul-le_self (bytes - offset) s)

tail_within : (of : Shape) (offset bytes : ℕ) →
    Within bytes (if nat_le offset bytes then runs_of of offset ((bytes - offset) / size of) else [])
tail_within of offset bytes =
    within_if bytes (runs_of of offset ((bytes - offset) / size of)) (nat_le offset bytes)
    (λ e. runs_of_within of offset ((bytes - offset) / size of) bytes (tail_fits offset bytes (size of) e))

by_within : (flexible : Option (ℕ × Shape)) (elem : Shape) (bytes : ℕ) → Within bytes (runs_by flexible elem bytes)
by_within None elem bytes = runs_of_within elem 0 (bytes / size elem) bytes (omega (arith, div-mul-le_self bytes (size elem)))
by_within (Some (offset, of)) elem bytes =
    within_append bytes (runs_of elem 0 (if nat_le (size elem) bytes then 1 else 0)) (if nat_le offset bytes then runs_of of offset ((bytes - offset) / size of) else [])
    (runs_of_within elem 0 (if nat_le (size elem) bytes then 1 else 0) bytes (one_at_most bytes (size elem)))
    (tail_within of offset bytes)

pub object_within : (elem : Shape) (bytes : ℕ) → Within bytes (runs_of_object elem bytes)
unfolding runs_of_object
object_within elem bytes = by_within (flexible_of elem) elem bytes
