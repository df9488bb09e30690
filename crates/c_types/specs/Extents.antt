-- How far members reach, which only private contracts cite.
use Rattle.std.specs.Prelude.{ℕ, ◌+◌, ◌∷◌, [], Bool, true, false, nat_lt, max, Option, Some, None, if◌then◌else◌}
use Rattle.c_types.specs.declared.kinds.TypeError.{TypeError}
use Rattle.c_types.specs.declared.kinds.TypeError.TheVariants as e
use Rattle.c_types.specs.declared.fields.Extent.{Extent}
use Rattle.c_types.specs.declared.rows.Form.TheVariants as form
use Rattle.c_types.specs.declared.rows.TypeRow.{TypeRow}
use Rattle.c_types.specs.Shapes.{Members, round_up, greatest_alignment, end_of_struct, end_of_union}
use Rattle.c_types.specs.Adding.{first_of, largest}

-- where a member of an alignment stands, those before it reaching to an end
abbrev pub offset_after : Bool → ℕ → ℕ → ℕ
offset_after true alignment end = 0
offset_after false alignment end = round_up alignment end

-- to where members reach, those before them reaching to an end
abbrev pub reach : Bool → Members → ℕ → ℕ
reach true members end = max end (end_of_union members)
reach false members end = end_of_struct members end

abbrev pub extent_of : Bool → Members → Extent
extent_of union_tag members = record { end = reach union_tag members 0; alignment = greatest_alignment members }

abbrev pub too_large : ℕ → Option TypeError
too_large bytes = first_of ((nat_lt largest bytes, e.TooLarge) ∷ [])

abbrev pub row_within : Extent → Bool → Option TypeRow
row_within extent ends_open =
    if nat_lt largest (round_up extent.alignment extent.end) then None else
    Some (record { form = if ends_open then form.Extended else form.Sized; size = round_up extent.alignment extent.end; alignment = extent.alignment })
