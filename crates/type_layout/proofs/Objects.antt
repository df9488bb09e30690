-- The runs that are listed of an object are its runs.
use Rattle.std.proofs.Common.{◌≡◌, ℕ, ◌-◌, ◌/◌, List, [], ◌++◌, map, Bool, cond, Some, None, sym, ap, ◌∙◌}
use Rattle.std.specs.Prelude.{Option, nat_le, if◌then◌else◌}
use Rattle.c_types.specs.Shapes.{Shape, size}
use Rattle.c_types.specs.Table.{Types, shape_of}
use Rattle.type_layout.specs.declared.object_runs.Run.{Run}
use Rattle.type_layout.specs.Runs.{runs_of, runs_by, runs_of_object, flexible_of, with_number}
use Rattle.type_layout.specs.Search.{run_in}
use Rattle.type_layout.proofs.Wholes.{with_numbers}

module _ (types : Types) (elem bytes : ℕ) (runs start : List Run) (empty : start ≡ []) where
  numbered : (tail : Option (ℕ × Shape)) → tail ≡ flexible_of (shape_of types elem) →
      map (run_in types) runs ≡ runs_by tail (shape_of types elem) bytes →
      runs ≡ map with_number (runs_of_object (shape_of types elem) bytes)
  unfolding runs_of_object
  numbered tail t e =
      sym (with_numbers types runs) ∙ ap (map with_number) (e ∙ ap (λ o. runs_by o (shape_of types elem) bytes) t)

  -- without a flexible member
  pub without_tail : (width : ℕ) → None ≡ flexible_of (shape_of types elem) → width ≡ size (shape_of types elem) →
      map (run_in types) runs ≡ map (run_in types) start ++ runs_of (shape_of types elem) 0 (bytes / width) →
      runs ≡ map with_number (runs_of_object (shape_of types elem) bytes)
  without_tail width t w e =
      numbered None t
      (e ∙ ap (λ s. map (run_in types) s ++ runs_of (shape_of types elem) 0 (bytes / width)) empty ∙
      ap (λ s. runs_of (shape_of types elem) 0 (bytes / s)) w)

  -- with a flexible member
  module _ (offset of : ℕ) (t : Some (offset, shape_of types of) ≡ flexible_of (shape_of types elem)) (width n : ℕ)
      (middle : List Run) where
    pub with_tail : (b : Bool) → width ≡ size (shape_of types elem) → n ≡ (if nat_le width bytes then 1 else 0) →
        map (run_in types) middle ≡ map (run_in types) start ++ runs_of (shape_of types elem) 0 n →
        nat_le offset bytes ≡ b →
        map (run_in types) runs ≡ map (run_in types) middle ++
        cond b (runs_of (shape_of types of) offset ((bytes - offset) / size (shape_of types of))) [] →
        runs ≡ map with_number (runs_of_object (shape_of types elem) bytes)
    with_tail b w m e f g =
        numbered (Some (offset, shape_of types of)) t
        (g ∙
        ap (λ s. s ++ cond b (runs_of (shape_of types of) offset ((bytes - offset) / size (shape_of types of))) [])
        (e ∙ ap (λ s. map (run_in types) s ++ runs_of (shape_of types elem) 0 n) empty ∙
        ap (λ s. runs_of (shape_of types elem) 0 s) (m ∙ ap (λ s. if nat_le s bytes then 1 else 0) w)) ∙
        ap
        (λ c. runs_of (shape_of types elem) 0 (if nat_le (size (shape_of types elem)) bytes then 1 else 0) ++
        cond c (runs_of (shape_of types of) offset ((bytes - offset) / size (shape_of types of))) [])
        (sym f))
