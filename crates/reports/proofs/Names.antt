-- The names of pointed types.
use Rattle.std.proofs.Common.{◌≡◌, ℕ, suc, ◌<◌, ◌-◌, ◌++◌, List, [], ◌∷◌, replicate, Some, sym, ◌∙◌, ap, arith, append_assoc, append-nil, add-one, ◌+◌}
use Rattle.c_types.specs.declared.kinds.CType.{CType}
use Rattle.c_types.specs.declared.kinds.CType.TheVariants.{Pointer}
use Rattle.c_types.specs.Table.{Types, kind_of}
use Rattle.reports.specs.TypeNames.{kind_name, name_within, type_name}

-- one type further
pub name_step : (types : Types) (n i at : ℕ) (kind : CType) → i < n → kind_of types at ≡ Some kind →
    name_within (n - i) types at ≡ kind_name (name_within (n - suc i) types) (Some kind)
name_step types n i at kind h e =
    let s : n - i ≡ suc (n - suc i) = omega arith in
    ap (λ d. name_within d types at) s ∙ ap (kind_name (name_within (n - suc i) types)) e

pub name_start : (types : Types) (n : ℕ) → name_within (n - 0) types n ++ [] ≡ type_name types n
unfolding type_name
name_start types n = append-nil (name_within (n - 0) types n) ∙ ap (λ d. name_within d types n) (omega arith)

-- a pointer's star stands after the name of what it points to, and before the stars of the pointers to it
pub name_pointer : (types : Types) (n i at to : ℕ) (whole : List ℕ) → i < n → kind_of types at ≡ Some (Pointer to) →
    name_within (n - i) types at ++ replicate i 42 ≡ whole → name_within (n - (i + 1)) types to ++ replicate (i + 1) 42 ≡ whole
name_pointer types n i at to whole h e before =
    rw (add-one i)
    (sym (append_assoc (name_within (n - suc i) types to) (42 ∷ []) (replicate i 42))
    ∙ ap (λ x. x ++ replicate i 42) (sym (name_step types n i at (Pointer to) h e)) ∙ before)
