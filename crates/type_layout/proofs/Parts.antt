-- The parts of a value are the members of its type, and each is a run of a type with a size.
use Rattle.std.proofs.Common.{◌≡◌, ℕ, zero, suc, ◌+◌, ◌*◌, ◌^◌, ◌<◌, ◌≤◌, List, [], ◌∷◌, ◌++◌, length, Bool, true, false, Some, None, sym, refl, arith, subst, add-zero}
use Rattle.std.specs.Prelude.{Option, slice_get, IfSome, Contains}
use Rattle.std.specs.Option.{option_map}
use Rattle.std.proofs.Math.Nat.{suc-mul}
use Rattle.c_types.specs.declared.kinds.CType.{CType}
use Rattle.c_types.specs.declared.kinds.CType.TheVariants as k
use Rattle.c_types.specs.declared.kinds.Field.{Field}
use Rattle.c_types.specs.Shapes.{Shape, Members, Void, Whole, Pointer, Array, Open, Struct, Union, Incomplete, Member, Flexible, size, next_offset, is_open}
use Rattle.c_types.specs.Table.{Types, Tag, IsNumber, HasTrees, shape_of, shape_of_kind, kind_of, tagged, fields_of, members, members_by, members_from, members_of_fields, struct_members, union_members}
use Rattle.c_types.specs.Holds.{IsTable, IsWhole, IsMade, IsTag}
use Rattle.type_layout.specs.declared.object_runs.Run.{Run}
use Rattle.type_layout.specs.Runs.{ShapeRun, end_of, each, inside}
use Rattle.type_layout.specs.Search.{run_in}
use Rattle.type_layout.specs.Pending.{struct_parts, union_parts, parts, member_part, opened, IsRun, parts_in}
use Rattle.type_layout.proofs.Within.{Within, inside_within}
use Rattle.type_layout.proofs.Wholes.{AllWhole, inside_whole, has_size}
use Rattle.type_layout.proofs.Values.{inside_opened}

-- ---- members as parts

pub member_closed : (s : Shape) (rest : Members) → is_open s ≡ false → members_from s rest ≡ Member s rest
member_closed (Void n) rest e = refl
member_closed (Whole n width signed) rest e = refl
member_closed (Pointer n to) rest e = refl
member_closed (Array n of count) rest e = refl
member_closed (Open n of) rest e = cc
member_closed (Struct n members) rest e = refl
member_closed (Union n members) rest e = refl
member_closed (Incomplete n) rest e = refl

member_open : (s : Shape) (rest : Members) → is_open s ≡ true →
    (n : ℕ) × (of : Shape) × (members_from s rest ≡ Flexible n of)
member_open (Void n) rest e = cc
member_open (Whole n width signed) rest e = cc
member_open (Pointer n to) rest e = cc
member_open (Array n of count) rest e = cc
member_open (Open n of) rest e = (n, of, refl)
member_open (Struct n members) rest e = cc
member_open (Union n members) rest e = cc
member_open (Incomplete n) rest e = cc

-- the parts of a struct from one member on
abbrev StructParts : (ℕ → Shape) → List Field → ℕ → ℕ → ℕ → Type 0
StructParts shape fields end at place =
    place ≤ length (struct_parts (members_of_fields shape fields) end at) →
    slice_get (struct_parts (members_of_fields shape fields) end at) place ≡
    member_part shape at (slice_get (struct_members shape end fields) place)

struct_open : (shape : ℕ → Shape) (f : Field) (fields : List Field) (end at place : ℕ) → is_open (shape f.kind) ≡ true →
    StructParts shape (f ∷ fields) end at place
struct_open shape f fields end at zero e h =
    let r = member_open (shape f.kind) (members_of_fields shape fields) e in rw (r.2, e) refl
struct_open shape f fields end at (suc place) e h =
    let r = member_open (shape f.kind) (members_of_fields shape fields) e in
    let l : suc place ≤ 0 = (rw r.2 at h) in absurd (omega arith)

struct_closed : (shape : ℕ → Shape) (f : Field) (fields : List Field) (end at place : ℕ) →
    ((e p : ℕ) → StructParts shape fields e at p) → is_open (shape f.kind) ≡ false →
    StructParts shape (f ∷ fields) end at place
struct_closed shape f fields end at zero later e h =
    rw (member_closed (shape f.kind) (members_of_fields shape fields) e, e) refl
struct_closed shape f fields end at (suc place) later e h =
    let c = member_closed (shape f.kind) (members_of_fields shape fields) e in
    let l = (rw c at h) in
    rw c (later (next_offset (shape f.kind) end + size (shape f.kind)) place (omega (arith, l)))

struct_step : (shape : ℕ → Shape) (f : Field) (fields : List Field) (end at place : ℕ) (b : Bool) →
    is_open (shape f.kind) ≡ b →
    ((e p : ℕ) → StructParts shape fields e at p) → StructParts shape (f ∷ fields) end at place
struct_step shape f fields end at place true e later = struct_open shape f fields end at place e
struct_step shape f fields end at place false e later = struct_closed shape f fields end at place later e

struct_at : (shape : ℕ → Shape) (fields : List Field) (at end place : ℕ) → StructParts shape fields end at place
struct_at shape [] at end place h = refl
struct_at shape (f ∷ fields) at end place h =
    struct_step shape f fields end at place (is_open (shape f.kind)) refl (λ e p. struct_at shape fields at e p) h

-- the parts of a union from one member on
abbrev UnionParts : (ℕ → Shape) → List Field → ℕ → ℕ → Type 0
UnionParts shape fields at place =
    place ≤ length (union_parts (members_of_fields shape fields) at) →
    slice_get (union_parts (members_of_fields shape fields) at) place ≡
    member_part shape at (slice_get (union_members fields) place)

union_open : (shape : ℕ → Shape) (f : Field) (fields : List Field) (at place : ℕ) → is_open (shape f.kind) ≡ true →
    UnionParts shape (f ∷ fields) at place
union_open shape f fields at zero e h =
    let r = member_open (shape f.kind) (members_of_fields shape fields) e in rw (r.2, e) refl
union_open shape f fields at (suc place) e h =
    let r = member_open (shape f.kind) (members_of_fields shape fields) e in
    let l : suc place ≤ 0 = (rw r.2 at h) in absurd (omega arith)

union_closed : (shape : ℕ → Shape) (f : Field) (fields : List Field) (at place : ℕ) →
    ((p : ℕ) → UnionParts shape fields at p) → is_open (shape f.kind) ≡ false → UnionParts shape (f ∷ fields) at place
union_closed shape f fields at zero later e h =
    rw (member_closed (shape f.kind) (members_of_fields shape fields) e, e, add-zero) refl
union_closed shape f fields at (suc place) later e h =
    let c = member_closed (shape f.kind) (members_of_fields shape fields) e in
    let l = (rw c at h) in
    rw c (later place (omega (arith, l)))

union_step : (shape : ℕ → Shape) (f : Field) (fields : List Field) (at place : ℕ) (b : Bool) →
    is_open (shape f.kind) ≡ b →
    ((p : ℕ) → UnionParts shape fields at p) → UnionParts shape (f ∷ fields) at place
union_step shape f fields at place true e later = union_open shape f fields at place e
union_step shape f fields at place false e later = union_closed shape f fields at place later e

union_at : (shape : ℕ → Shape) (fields : List Field) (at place : ℕ) → UnionParts shape fields at place
union_at shape [] at place h = refl
union_at shape (f ∷ fields) at place h =
    union_step shape f fields at place (is_open (shape f.kind)) refl (λ p. union_at shape fields at p) h

-- ---- parts of a type of a table

abbrev PartsBy : List Tag → (ℕ → Shape) → ℕ → ℕ → ℕ → Option CType → Type 0
PartsBy tags shape n at place kind =
    place ≤ length (parts (shape_of_kind tags shape n kind) at) →
    slice_get (parts (shape_of_kind tags shape n kind) at) place ≡
    member_part shape at (slice_get (members_by tags shape kind) place)

struct_by : (shape : ℕ → Shape) (n at place : ℕ) (fields : List Field) →
    place ≤ length (parts (tagged (Struct n) shape n fields) at) →
    slice_get (parts (tagged (Struct n) shape n fields) at) place ≡
    member_part shape at (slice_get (struct_members shape 0 fields) place)
struct_by shape n at place [] h = refl
struct_by shape n at place (f ∷ fields) h = struct_at shape (f ∷ fields) at 0 place h

union_by : (shape : ℕ → Shape) (n at place : ℕ) (fields : List Field) →
    place ≤ length (parts (tagged (Union n) shape n fields) at) →
    slice_get (parts (tagged (Union n) shape n fields) at) place ≡
    member_part shape at (slice_get (union_members fields) place)
union_by shape n at place [] h = refl
union_by shape n at place (f ∷ fields) h = union_at shape (f ∷ fields) at place h

kind_parts : (tags : List Tag) (shape : ℕ → Shape) (n at place : ℕ) (kind : CType) →
    ((of count : ℕ) → kind ≡ k.Array of count → ⊥) →
    PartsBy tags shape n at place (Some kind)
kind_parts tags shape n at place k.Void not h = refl
kind_parts tags shape n at place (k.Num width signed) not h = refl
kind_parts tags shape n at place (k.Pointer to) not h = refl
kind_parts tags shape n at place (k.Array of count) not h = absurd (not of count refl)
kind_parts tags shape n at place (k.Flexible of) not h = refl
kind_parts tags shape n at place (k.Struct tag) not h = struct_by shape n at place (fields_of tags tag) h
kind_parts tags shape n at place (k.Union tag) not h = union_by shape n at place (fields_of tags tag) h

-- but for an array, they are the members
pub member_parts : (types : Types) (n at place : ℕ) (kind : CType) → HasTrees types → kind_of types n ≡ Some kind →
    ((of count : ℕ) → kind ≡ k.Array of count → ⊥) → place ≤ length (parts (shape_of types n) at) →
    slice_get (parts (shape_of types n) at) place ≡ member_part (shape_of types) at (slice_get (members types n) place)
unfolding members
member_parts types n at place kind trees e not h =
    let P : Shape → Option CType → Type 0 = λ s o. place ≤ length (parts s at) →
    slice_get (parts s at) place ≡
    member_part (shape_of types) at (slice_get (members_by types.tags (shape_of types) o) place) in
    let by : PartsBy types.tags (shape_of types) n at place (kind_of types n) =
    subst (λ o. PartsBy types.tags (shape_of types) n at place o) (sym e)
    (kind_parts types.tags (shape_of types) n at place kind not) in
    subst (λ s. P s (kind_of types n)) (sym (trees n)) by h

-- ---- members are of types of the table

struct_known : (types : Types) (shape : ℕ → Shape) (fields : List Field) (end place : ℕ) →
    ((f : Field) → Contains fields f → IsNumber types f.kind) →
    IfSome (slice_get (struct_members shape end fields) place) (λ m. IsNumber types m.kind)
struct_known types shape [] end place h = tt
struct_known types shape (f ∷ fields) end zero h = h f (0, omega arith, refl)
struct_known types shape (f ∷ fields) end (suc place) h =
    struct_known types shape fields (next_offset (shape f.kind) end + size (shape f.kind)) place
    (λ g c. h g (suc c.0, omega (arith, c.1), c.2))

union_known : (types : Types) (fields : List Field) (place : ℕ) →
    ((f : Field) → Contains fields f → IsNumber types f.kind) →
    IfSome (slice_get (union_members fields) place) (λ m. IsNumber types m.kind)
union_known types [] place h = tt
union_known types (f ∷ fields) zero h = h f (0, omega arith, refl)
union_known types (f ∷ fields) (suc place) h =
    union_known types fields place (λ g c. h g (suc c.0, omega (arith, c.1), c.2))

fields_known : (types : Types) (union_tag : Bool) (n tag : ℕ) → IsTag types union_tag n tag → (f : Field) →
    Contains (fields_of types.tags tag) f → IsNumber types f.kind
fields_known types union_tag n tag is f c = is.parts f (rw is.here at c)

kind_known : (types : Types) (n place : ℕ) (kind : CType) → IsMade types n kind →
    IfSome (slice_get (members_by types.tags (shape_of types) (Some kind)) place) (λ m. IsNumber types m.kind)
kind_known types n place k.Void is = tt
kind_known types n place (k.Num width signed) is = tt
kind_known types n place (k.Pointer to) is = tt
kind_known types n place (k.Array of count) is = tt
kind_known types n place (k.Flexible of) is = tt
kind_known types n place (k.Struct tag) is =
    struct_known types (shape_of types) (fields_of types.tags tag) 0 place (fields_known types false n tag is)
kind_known types n place (k.Union tag) is =
    union_known types (fields_of types.tags tag) place (fields_known types true n tag is)

pub member_known : (types : Types) (n place : ℕ) (kind : CType) → IsTable types → kind_of types n ≡ Some kind →
    IfSome (slice_get (members types n) place) (λ m. IsNumber types m.kind)
unfolding members
member_known types n place kind t e =
    subst (λ o. IfSome (slice_get (members_by types.tags (shape_of types) o) place) (λ m. IsNumber types m.kind))
    (sym e)
    (kind_known types n place kind (t.made n kind e))

-- ---- parts have sizes and lie inside

whole_right : (types : Types) (a b : List ShapeRun) → AllWhole types (a ++ b) → AllWhole types b
whole_right types [] b h = h
whole_right types (run ∷ a) b h = whole_right types a b h.1

whole_part : (types : Types) (runs : List ShapeRun) (place : ℕ) (run : ShapeRun) → AllWhole types (opened runs) →
    slice_get runs place ≡ Some run →
    IsWhole types run.kind
whole_part types [] place run h e = cc
whole_part types (first ∷ runs) zero run h e =
    let same : first ≡ run = cc in subst (λ r. IsWhole types r.kind) same h.0
whole_part types (first ∷ runs) (suc place) run h e =
    whole_part types runs place run
    (whole_right types (each first.count (λ i. inside first.kind (first.lo + i * size first.kind))) (opened runs) h.1) e

within_right : (top : ℕ) (a b : List ShapeRun) → Within top (a ++ b) → Within top b
within_right top [] b h = h
within_right top (run ∷ a) b h = within_right top a b h.1

within_part : (top : ℕ) (runs : List ShapeRun) (place : ℕ) (run : ShapeRun) → Within top (opened runs) →
    slice_get runs place ≡ Some run →
    end_of run ≤ top
within_part top [] place run h e = cc
within_part top (first ∷ runs) zero run h e =
    let same : first ≡ run = cc in subst (λ r. end_of r ≤ top) same h.0
within_part top (first ∷ runs) (suc place) run h e =
    within_part top runs place run
    (within_right top (each first.count (λ i. inside first.kind (first.lo + i * size first.kind))) (opened runs) h.1) e

one_fits : (lo count s : ℕ) → 1 ≤ count → lo + s ≤ lo + count * s
one_fits lo zero s h = absurd (omega arith)
one_fits lo (suc n) s h = omega (arith, suc-mul n s)

module _ (types : Types) (values : Run) (t : IsTable types) (is : IsRun types values) (some : 1 ≤ values.count) where
  part_whole : (place : ℕ) (run : ShapeRun) → slice_get (parts_in types values) place ≡ Some run →
      IsWhole types run.kind
  part_whole place run e =
      whole_part types (parts_in types values) place run
      (subst (λ runs. AllWhole types runs) (inside_opened (shape_of types values.kind) values.lo)
      (inside_whole types (shape_of types values.kind) values.lo (t.whole values.kind is.known.1))) e

  part_within : (place : ℕ) (run : ShapeRun) → slice_get (parts_in types values) place ≡ Some run → end_of run < 2 ^ 64
  part_within place run e =
      let top = values.lo + size (shape_of types values.kind) in
      let h : end_of run ≤ top =
      within_part top (parts_in types values) place run
      (subst (λ runs. Within top runs) (inside_opened (shape_of types values.kind) values.lo)
      (inside_within (shape_of types values.kind) values.lo top (omega arith))) e in
      let one = one_fits values.lo values.count (size (shape_of types values.kind)) some in
      let fits = is.fits in
      omega (arith, h, one, fits)

  fit_step : (place : ℕ) (o : Option ShapeRun) → slice_get (parts_in types values) place ≡ o →
      IfSome o (λ run. end_of run < 2 ^ 64)
  fit_step place None e = tt
  fit_step place (Some run) e = part_within place run e

  pub parts_fit : (place : ℕ) → IfSome (slice_get (parts_in types values) place) (λ run. end_of run < 2 ^ 64)
  parts_fit place = fit_step place (slice_get (parts_in types values) place) refl

  pub part_is_run : (place : ℕ) (run : Run) → slice_get (parts_in types values) place ≡ Some (run_in types run) →
      IsRun types run
  part_is_run place run e = record {
    known = has_size types run.kind (part_whole place (run_in types run) e);
    fits = part_within place (run_in types run) e;
  }

  pub parts_are_runs : (place : ℕ) (o : Option Run) →
      option_map (run_in types) o ≡ slice_get (parts_in types values) place →
      IfSome o (λ run. IsRun types run)
  parts_are_runs place None e = tt
  parts_are_runs place (Some run) e = part_is_run place run (sym e)
