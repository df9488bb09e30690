-- The basic types have few rows in a table of layouts.
use Rattle.std.proofs.Common.{◌≡◌, ◌<◌, refl, subst, arith}
use Rattle.c_types.specs.Table.{Types, basic_types, shape_of}
use Rattle.layout_table.specs.Counting.{IsTold}
use Rattle.layout_table.specs.Tables.{rows_total}
use Rattle.layout_table.specs.declared.table.TableError.{TableError}
use Rattle.layout_table.specs.declared.table.TableError.TheVariants.{TooManyRuns}

rows_are : rows_total basic_types ≡ 8
unfolding shape_of
rows_are = refl

pub not_too_many : (types : Types) (error : TableError) → types ≡ basic_types → error ≡ TooManyRuns → IsTold types error → ⊥
not_too_many types error same is told =
    let over : 1000000 < rows_total types = subst (λ (e : TableError). IsTold types e) is told in
    let here : 1000000 < rows_total basic_types = subst (λ (t : Types). 1000000 < rows_total t) same over in
    absurd (omega (arith, here, rows_are))
