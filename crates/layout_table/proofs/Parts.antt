-- The members of a struct or a union that has a size.
use Rattle.std.proofs.Common.{◌≡◌, ℕ, ◌+◌, ◌-◌, ◌*◌, ◌<◌, ◌≤◌, List, [], ◌∷◌, ◌++◌, map, Bool, true, false, Some, sym, ap, ◌∙◌, refl, arith, subst, inl, inr, ⊎_elim, ◌⊎◌}
use Rattle.std.specs.Prelude.{slice_get, Contains}
use Rattle.c_types.specs.declared.kinds.CType.{CType}
use Rattle.c_types.specs.declared.kinds.CType.TheVariants as k
use Rattle.c_types.specs.declared.kinds.Field.{Field}
use Rattle.c_types.specs.declared.kinds.Member.{Member}
use Rattle.c_types.specs.Shapes.{Shape, Members, is_open, size, next_offset, end_of_struct, end_of_union, greatest_alignment, flexible_member}
use Rattle.c_types.specs.Shapes as s
use Rattle.c_types.specs.Table.{Types, IsNumber, HasSize, kind_of, fields_by, fields_of, shape_of, members, members_by, members_of_fields, struct_members, union_members}
use Rattle.c_types.specs.Holds.{IsTable, IsTag}
use Rattle.type_layout.specs.Listed.{In}
use Rattle.type_layout.proofs.Least.{in_contains, contains_in}
use Rattle.type_layout.proofs.Within.{round_up_above}
use Rattle.layout_table.specs.declared.stored.StoredLevel.{StoredLevel}
use Rattle.layout_table.specs.declared.stored.StoredRow.{StoredRow}
use Rattle.layout_table.specs.declared.stored.StoredEntry.{StoredEntry}
use Rattle.layout_table.specs.Strides.{rows_in}
use Rattle.layout_table.specs.Stored.{decoded}
use Rattle.layout_table.specs.Tables.{IsEntry, rows_at}
use Rattle.layout_table.specs.Making.{AreOwn, AreReadyMembers, IsReady, IsSoFar, kind_of_member, parts, parts_by, rows_of_members}
use Rattle.layout_table.proofs.Growth.{AllRows, by_place}
use Rattle.layout_table.proofs.Lookups.{has_place}
use Rattle.layout_table.proofs.Whole.{OpenLast, array_is, array_whole, number_has_size, struct_is, struct_whole, tag_open_last, union_is, union_whole}
use Rattle.layout_table.proofs.Members.{IsPlaced, SameSet, inside_members, members_ok, members_same, members_short, struct_ends, struct_field, struct_inside, union_ends, union_field, union_inside, field_whole}
use Rattle.layout_table.proofs.Made.{low, part_ok}

-- A type that is done, and has a size, is ready.
pub ready : (types : Types) (done : List ℕ) (entries : List StoredEntry) (rows : List StoredRow) (levels : List
    StoredLevel) (p : ℕ) → IsSoFar types done entries rows levels →
    Contains done p → HasSize types p → IsReady types entries rows p
ready types done entries rows levels p so_far c has = record {
  known = has.0;
  within = omega (arith, has.0.1, so_far.count);
  each = λ entry at.
      let e = so_far.entry p entry c has at in
      record {
        sized = e.sized;
        ordered = e.ordered;
        ended = e.ended;
        short = λ row i. (
          low types levels (rows_at rows entry) (part_ok types levels rows entry so_far.rows_ok) row
              i,
          e.short row i,
        );
      };
}

pub array_part : (types : Types) (t of count : ℕ) → kind_of types t ≡ Some (k.Array of count) →
    Contains (parts types t) of
array_part types t of count e = subst (λ ps. Contains ps of) (sym (ap (parts_by types t) e)) (0, omega arith, refl)

-- the entry of an array's elements
pub record IsArrayPart (types : Types) (entries : List StoredEntry) (rows : List StoredRow) (levels : List
    StoredLevel) (of count : ℕ) : Type 0 where
  pub entry : StoredEntry
  pub here : slice_get entries (of - 1) ≡ Some entry
  pub has : HasSize types of
  pub ok : IsEntry types rows levels of entry
  pub filled : 0 < count
  pub fits : count * entry.size ≤ 1048559

pub array_entry : (types : Types) (table : IsTable types) (t of count : ℕ) → HasSize types t →
    kind_of types t ≡ Some (k.Array of count) → (entries : List StoredEntry) (rows : List StoredRow)
    (levels : List StoredLevel) → IsSoFar types (parts types t) entries rows levels →
    IsArrayPart types entries rows levels of count
array_entry types table t of count has e entries rows levels so_far =
    let w : (1 ≤ count) × HasSize types of = array_whole types table t of count e has in
    let p : (entry : StoredEntry) × (slice_get entries (of - 1) ≡ Some entry) = has_place entries (of - 1) (omega
    (arith, w.1.0.0, w.1.0.1, so_far.count)) in
    let ok : IsEntry types rows levels of p.0 = so_far.entry of p.0 (array_part types t of count e) w.1 p.1 in
    record {
      entry = p.0;
      here = p.1;
      has = w.1;
      ok = ok;
      filled = omega (arith, w.0);
      fits = subst (λ (n : ℕ). count * n ≤ 1048559) (sym ok.sized) (subst (λ sh. size sh ≤ 1048559) (array_is types
          table t of count e) (table.sized t has.1).1);
    }

-- what is known of the members of a type
pub record AreMembersOf (types : Types) (t : ℕ) (ms : List Member) : Type 0 where
  pub in_parts : (m : Member) → In m ms → Contains (parts types t) m.kind
  pub number : (m : Member) → In m ms → IsNumber types m.kind
  pub sized : (m : Member) → In m ms → is_open (shape_of types m.kind) ≡ false → HasSize types m.kind
  pub ends : (m : Member) → In m ms → is_open (shape_of types m.kind) ≡ false →
      m.offset + size (shape_of types m.kind) ≤ size (shape_of types t)
  pub inside : rows_in (shape_of types t) ≡ inside_members (shape_of types) ms

-- ---- their rows

module _ (types : Types) (table : IsTable types) (t : ℕ) (has : HasSize types t) (entries : List StoredEntry) (rows :
    List StoredRow) (levels : List StoredLevel)
    (so_far : IsSoFar types (parts types t) entries rows levels) (ms : List Member) (are : AreMembersOf types t ms)
  where
    small : size (shape_of types t) ≤ 1048559
    small = (table.sized t has.1).1

    placed : (m : Member) → In m ms → is_open (shape_of types m.kind) ≡ false →
        IsPlaced types entries rows levels (size (shape_of types t)) m
    placed m i o =
        let h : HasSize types m.kind = are.sized m i o in
        let p : (entry : StoredEntry) × (slice_get entries (m.kind - 1) ≡ Some entry) = has_place entries (m.kind - 1)
        (omega (arith, h.0.0, h.0.1, so_far.count)) in
        record {
          entry = p.0;
          here = p.1;
          has = h;
          ok = so_far.entry m.kind p.0 (are.in_parts m i) h p.1;
          fits = are.ends m i o;
        }

    pub members_ready : AreReadyMembers types entries rows ms
    members_ready = record {
      numbers = λ m c. are.number m (contains_in ms m c.0 c.1 c.2);
      ready = λ m c o.
          let i = contains_in ms m c.0 c.1 c.2 in (
            ready types (parts types t) entries rows levels m.kind so_far (are.in_parts m i) (are.sized m i o),
            omega
                (arith, are.ends m i o, small),
          );
    }

    pub members_own : (own : List StoredRow) → own ≡ rows_of_members types entries rows ms →
        AreOwn types levels levels t own
    members_own own e =
        let same : SameSet (map (decoded types levels) own) (rows_in (shape_of types t)) =
        λ row. (
          λ i. subst (λ rs. In row rs) (sym are.inside) ((members_same types entries rows levels so_far.rows_ok (size
              (shape_of types t)) ms [] placed row).0
              (subst (λ rs. In row (map (decoded types levels) rs)) e i)),
          λ i. subst (λ rs. In row (map (decoded types levels) rs)) (sym e) ((members_same types entries rows levels
              so_far.rows_ok (size (shape_of types t)) ms [] placed row).1
              (subst (λ rs. In row rs) are.inside i)),
        ) in
        record {
          more = [];
          longer = nothing levels;
          levels_ok = so_far.levels_ok;
          rows_ok = by_place types levels own (subst (AllRows types levels) (sym e) (members_ok types entries rows
              levels so_far.rows_ok (size (shape_of types t)) ms [] small placed tt));
          all = λ row i. (same row).1 i;
          no_more = λ row i. (same row).0 i;
          short = λ row i. members_short types entries rows levels so_far.rows_ok (size (shape_of types t)) ms []
              placed (λ r j. absurd j) row (subst (λ rs. In row rs) e i);
        }
      where
        nothing : (ls : List StoredLevel) → ls ≡ ls ++ []
        nothing [] = refl
        nothing (l ∷ ls) = ap (λ ms. l ∷ ms) (nothing ls)

-- ---- a struct

pub kinds_in : (ms : List Member) (m : Member) → In m ms → Contains (map kind_of_member ms) m.kind
kinds_in ms m i = in_contains (map kind_of_member ms) m.kind (in_map_kind ms m i)
  where
    in_map_kind : (ms : List Member) (m : Member) → In m ms → In m.kind (map kind_of_member ms)
    in_map_kind [] m i = absurd i
    in_map_kind (x ∷ ms) m i = ⊎_elim (λ e. inl (ap kind_of_member e)) (λ j. inr (in_map_kind ms m j)) i

field_numbers : (types : Types) (union_tag : Bool) (t tag : ℕ) → IsTag types union_tag t tag → (f : Field) →
    In f (fields_of types.tags tag) → IsNumber types f.kind
field_numbers types union_tag t tag is f i =
    is.parts f (in_contains is.found.fields f (subst (λ fs. In f fs) (ap fields_by is.here) i))

module _ (types : Types) (table : IsTable types) (t tag : ℕ) (has : HasSize types t) where
  module _ (is : kind_of types t ≡ Some (k.Struct tag)) where
    tagged : IsTag types false t tag
    tagged = table.made t (k.Struct tag) is

    struct_last : OpenLast (shape_of types) (fields_of types.tags tag)
    struct_last = tag_open_last types false t tag tagged

    members_are : members types t ≡ struct_members (shape_of types) 0 (fields_of types.tags tag)
    unfolding members
    members_are = ap (members_by types.tags (shape_of types)) is

    pub struct_members_are : AreMembersOf types t (members types t)
    struct_members_are = record {
      in_parts = λ m i. subst (λ ps. Contains ps m.kind) (sym (ap (parts_by types t) is)) (kinds_in (members types t)
          m i);
      number = λ m i.
          let r = struct_field (shape_of types) (fields_of types.tags tag) 0 m (subst (λ ms. In m ms) members_are i) in
          subst (IsNumber types) (sym r.2) (field_numbers types false t tag tagged r.0 r.1);
      sized = λ m i o.
          let r = struct_field (shape_of types) (fields_of types.tags tag) 0 m (subst (λ ms. In m ms) members_are i) in
          subst (HasSize types) (sym r.2) (number_has_size types r.0.kind (field_whole types (shape_of types)
          (fields_of types.tags tag) struct_last
          (struct_whole types table t tag is has) r.0 r.1 (subst (λ n. is_open (shape_of types n) ≡ false) r.2 o)));
      ends = λ m i o. subst (λ sh. m.offset + size (shape_of types m.kind) ≤ size sh) (sym (struct_is types table t
          tag is has))
          (above (members_of_fields (shape_of types) (fields_of types.tags tag)) (m.offset + size (shape_of types
          m.kind))
          (struct_ends (shape_of types) (fields_of types.tags tag) 0 struct_last m (subst (λ ms. In m ms) members_are
          i) o));
      inside = ap rows_in (struct_is types table t tag is has) ∙ struct_inside (shape_of types) (fields_of types.tags
          tag) 0 struct_last ∙
          ap (inside_members (shape_of types)) (sym members_are);
    }
      where
        above : (ms : Members) (n : ℕ) → n ≤ end_of_struct ms 0 → n ≤ size (s.Struct t ms)
        above ms n h = omega (arith, h, round_up_above (greatest_alignment ms) (end_of_struct ms 0))

  -- ---- a union
  module _ (is : kind_of types t ≡ Some (k.Union tag)) where
    tagged_union : IsTag types true t tag
    tagged_union = table.made t (k.Union tag) is

    union_last : OpenLast (shape_of types) (fields_of types.tags tag)
    union_last = tag_open_last types true t tag tagged_union

    union_members_is : members types t ≡ union_members (fields_of types.tags tag)
    unfolding members
    union_members_is = ap (members_by types.tags (shape_of types)) is

    pub union_members_are : AreMembersOf types t (members types t)
    union_members_are = record {
      in_parts = λ m i. subst (λ ps. Contains ps m.kind) (sym (ap (parts_by types t) is)) (kinds_in (members types t)
          m i);
      number = λ m i.
          let r = union_field (fields_of types.tags tag) m (subst (λ ms. In m ms) union_members_is i) in
          subst (IsNumber types) (sym r.2) (field_numbers types true t tag tagged_union r.0 r.1);
      sized = λ m i o.
          let r = union_field (fields_of types.tags tag) m (subst (λ ms. In m ms) union_members_is i) in
          subst (HasSize types) (sym r.2) (number_has_size types r.0.kind (field_whole types (shape_of types)
          (fields_of types.tags tag) union_last
          (union_whole types table t tag is has) r.0 r.1 (subst (λ n. is_open (shape_of types n) ≡ false) r.2 o)));
      ends = λ m i o. subst (λ sh. m.offset + size (shape_of types m.kind) ≤ size sh) (sym (union_is types table t
          tag is has))
          (above (members_of_fields (shape_of types) (fields_of types.tags tag)) (m.offset + size (shape_of types
          m.kind))
          (union_ends (shape_of types) (fields_of types.tags tag) union_last m (subst (λ ms. In m ms)
          union_members_is i) o));
      inside = ap rows_in (union_is types table t tag is has) ∙ union_inside (shape_of types) (fields_of types.tags
          tag) union_last ∙
          ap (inside_members (shape_of types)) (sym union_members_is);
    }
      where
        above : (ms : Members) (n : ℕ) → n ≤ end_of_union ms → n ≤ size (s.Union t ms)
        above ms n h = omega (arith, h, round_up_above (greatest_alignment ms) (end_of_union ms))

-- of a struct or a union
pub members_are_of : (types : Types) (table : IsTable types) (t : ℕ) (has : HasSize types t) (kind : CType) →
    kind_of types t ≡ Some kind →
    ((tag : ℕ) × (kind ≡ k.Struct tag)) ⊎ ((tag : ℕ) × (kind ≡ k.Union tag)) → AreMembersOf types t (members types t)
members_are_of types table t has kind e is =
    ⊎_elim (λ h. struct_members_are types table t h.0 has (e ∙ ap Some h.1)) (λ h. union_members_are types table t
    h.0 has (e ∙ ap Some h.1)) is
