-- The flexible member of a struct.
use Rattle.std.proofs.Common.{◌≡◌, ◌≢◌, ℕ, ◌+◌, ◌≤◌, List, [], ◌∷◌, Bool, true, false, cond, Some, None, sym, ap, ◌∙◌, refl, arith, subst}
use Rattle.std.specs.Prelude.{Option, fold, ◌==◌, if◌then◌else◌}
use Rattle.std.proofs.lemmas.Bool.Decides.{nat_tests}
use Rattle.c_types.specs.declared.kinds.CType.{CType}
use Rattle.c_types.specs.declared.kinds.CType.TheVariants as k
use Rattle.c_types.specs.declared.kinds.Field.{Field}
use Rattle.c_types.specs.Shapes.{Shape, Members, is_complete, is_open, size, next_offset, flexible_member}
use Rattle.c_types.specs.Shapes as s
use Rattle.c_types.specs.Table.{Types, HasSize, kind_of, fields_of, tagged, shape_of, shape_of_kind, members, members_by, members_from, members_of_fields, struct_members}
use Rattle.c_types.specs.Holds.{IsTable, AreWhole}
use Rattle.type_layout.specs.Runs.{flexible_of}
use Rattle.layout_table.specs.declared.stored.StoredTail.{StoredTail}
use Rattle.layout_table.specs.Making.{IsTail, next_tail, no_tail, tail_by, tail_of_members}
use Rattle.layout_table.proofs.Tiers.{open_known}
use Rattle.layout_table.proofs.Whole.{OpenLast, by_kind, from_member, number_has_size, struct_is, struct_whole, tag_open_last}

-- a flexible member beside what is kept of it
pub record TailIs (types : Types) (found : Option (ℕ × Shape)) (tail : StoredTail) : Type 0 where
  pub is : found ≡ (if tail.of == 0 then None else Some (tail.at, shape_of types tail.of))
  pub known : tail.of ≢ 0 → HasSize types tail.of

no_tail_is : (types : Types) → TailIs types None no_tail
no_tail_is types = record { is = refl; known = λ h. absurd (h refl) }

not_zero : (n : ℕ) → 1 ≤ n → (n == 0) ≡ false
not_zero n h = grind (arith, nat_tests)

some_tail : (types : Types) (of at : ℕ) → HasSize types of → TailIs types (Some (at, shape_of types of)) (record {
  of
      = of;
  at = at;
})
some_tail types of at has = record {
  is = sym (ap (λ b. cond {A = Option (ℕ × Shape)} b None (Some (at, shape_of types of))) (not_zero of has.0.0));
  known = λ h. has;
}

-- A member that is not open leaves it.
kept_by : (types : Types) (n at : ℕ) (tail : StoredTail) (o : Option CType) → kind_of types n ≡ o →
    is_open (shape_of types n) ≡ false → tail_by o at tail ≡ tail
kept_by types n at tail None e c = refl
kept_by types n at tail (Some k.Void) e c = refl
kept_by types n at tail (Some (k.Num width signed)) e c = refl
kept_by types n at tail (Some (k.Pointer to)) e c = refl
kept_by types n at tail (Some (k.Array of count)) e c = refl
kept_by types n at tail (Some (k.Flexible of)) e c = let f : true ≡ false = sym (open_known types n (k.Flexible of)
    e) ∙ c in cc
kept_by types n at tail (Some (k.Struct tag)) e c = refl
kept_by types n at tail (Some (k.Union tag)) e c = refl

-- One that is open is it.
open_kind : (types : Types) (n : ℕ) (o : Option CType) → kind_of types n ≡ o → IsTable types →
    is_open (shape_of types n) ≡ true → (of : ℕ) × (kind_of types n ≡ Some (k.Flexible of))
open_kind types n None e table c =
    let f : false ≡ true = sym (ap is_open (table.trees n ∙ ap (shape_of_kind types.tags (shape_of types) n) e)) ∙
    c in cc
open_kind types n (Some k.Void) e table c = let f : false ≡ true = sym (open_known types n k.Void e) ∙ c in cc
open_kind types n (Some (k.Num width signed)) e table c = let f : false ≡ true = sym (open_known types n (k.Num width
    signed) e) ∙ c in cc
open_kind types n (Some (k.Pointer to)) e table c = let f : false ≡ true = sym (open_known types n (k.Pointer to) e)
    ∙ c in cc
open_kind types n (Some (k.Array of count)) e table c = let f : false ≡ true = sym (open_known types n (k.Array of
    count) e) ∙ c in cc
open_kind types n (Some (k.Flexible of)) e table c = (of, e)
open_kind types n (Some (k.Struct tag)) e table c = let f : false ≡ true = sym (open_known types n (k.Struct tag) e)
    ∙ c in cc
open_kind types n (Some (k.Union tag)) e table c = let f : false ≡ true = sym (open_known types n (k.Union tag) e) ∙
    c in cc

module _ (types : Types) (table : IsTable types) where
  tail_step : (f : Field) (fields : List Field) (end : ℕ) (b : Bool) → is_open (shape_of types f.kind) ≡ b →
      (b ≡ true → fields ≡ []) →
      AreWhole types (members_from (shape_of types f.kind) (members_of_fields (shape_of types) fields)) →
      (AreWhole types (members_of_fields (shape_of types) fields) →
      TailIs types (flexible_member (members_of_fields (shape_of types) fields) (next_offset (shape_of types f.kind)
      end + size (shape_of types f.kind)))
      (fold (next_tail types) no_tail (struct_members (shape_of types) (next_offset (shape_of types f.kind) end +
      size (shape_of types f.kind)) fields))) →
      TailIs types (flexible_member (members_from (shape_of types f.kind) (members_of_fields (shape_of types)
      fields)) end)
      (fold (next_tail types) (tail_by (kind_of types f.kind) (next_offset (shape_of types f.kind) end) no_tail)
      (struct_members (shape_of types) (next_offset (shape_of types f.kind) end + size (shape_of types f.kind)) fields))
  tail_step f fields end false e o w h =
      let v : AreWhole types (s.Member (shape_of types f.kind) (members_of_fields (shape_of types) fields)) =
      subst (AreWhole types) (from_member (shape_of types f.kind) (members_of_fields (shape_of types) fields) e) w in
      subst (λ ms. TailIs types (flexible_member ms end)
      (fold (next_tail types) (tail_by (kind_of types f.kind) (next_offset (shape_of types f.kind) end) no_tail)
      (struct_members (shape_of types) (next_offset (shape_of types f.kind) end + size (shape_of types f.kind))
      fields)))
      (sym (from_member (shape_of types f.kind) (members_of_fields (shape_of types) fields) e))
      (subst (λ t. TailIs types (flexible_member (members_of_fields (shape_of types) fields) (next_offset (shape_of
      types f.kind) end + size (shape_of types f.kind)))
      (fold (next_tail types) t (struct_members (shape_of types) (next_offset (shape_of types f.kind) end + size
      (shape_of types f.kind)) fields)))
      (sym (kept_by types f.kind (next_offset (shape_of types f.kind) end) no_tail (kind_of types f.kind) refl e)) (h
      v.2))
  tail_step f fields end true e o w h =
      let opened : (of : ℕ) × (kind_of types f.kind ≡ Some (k.Flexible of)) = open_kind types f.kind (kind_of types
      f.kind) refl table e in
      let shape : shape_of types f.kind ≡ s.Open f.kind (shape_of types opened.0) = by_kind types table f.kind
      (k.Flexible opened.0) opened.1 in
      let v : AreWhole types (s.Flexible f.kind (shape_of types opened.0)) = subst (λ sh. AreWhole types
      (members_from sh (members_of_fields (shape_of types) fields))) shape w in
      subst (λ fs. TailIs types (flexible_member (members_from (shape_of types f.kind) (members_of_fields (shape_of
      types) fs)) end)
      (fold (next_tail types) (tail_by (kind_of types f.kind) (next_offset (shape_of types f.kind) end) no_tail)
      (struct_members (shape_of types) (next_offset (shape_of types f.kind) end + size (shape_of types f.kind)) fs)))
      (sym (o refl))
      (subst (λ kd. TailIs types (flexible_member (members_from (shape_of types f.kind) s.None_left) end) (tail_by kd
      (next_offset (shape_of types f.kind) end) no_tail)) (sym opened.1)
      (subst (λ sh. TailIs types (flexible_member (members_from sh s.None_left) end) (record {
        of = opened.0;
        at = next_offset sh end;
      })) (sym shape)
      (some_tail types opened.0 (next_offset (shape_of types opened.0) end) (number_has_size types opened.0 v.1))))

  tail_from : (fields : List Field) (end : ℕ) → OpenLast (shape_of types) fields →
      AreWhole types (members_of_fields (shape_of types) fields) →
      TailIs types (flexible_member (members_of_fields (shape_of types) fields) end) (fold (next_tail types) no_tail
      (struct_members (shape_of types) end fields))
  tail_from [] end o w = no_tail_is types
  tail_from (f ∷ fields) end o w =
      tail_step f fields end (is_open (shape_of types f.kind)) refl o.0 w (λ v. tail_from fields (next_offset
      (shape_of types f.kind) end + size (shape_of types f.kind)) o.1 v)

  module _ (t : ℕ) (has : HasSize types t) where
    as_tail : (found : Option (ℕ × Shape)) (tail : StoredTail) → flexible_of (shape_of types t) ≡ found →
        TailIs types found tail → IsTail types t tail
    as_tail found tail e is = record { is = e ∙ is.is; known = is.known }

    members_are : (tag : ℕ) → kind_of types t ≡ Some (k.Struct tag) → members types t ≡ struct_members (shape_of
        types) 0 (fields_of types.tags tag)
    unfolding members
    members_are tag is = ap (members_by types.tags (shape_of types)) is

    -- of a struct
    pub struct_tail : (tag : ℕ) → kind_of types t ≡ Some (k.Struct tag) →
        IsTail types t (tail_of_members types (members types t))
    struct_tail tag is =
        subst (λ ms. IsTail types t (tail_of_members types ms)) (sym (members_are tag is))
        (as_tail (flexible_member (members_of_fields (shape_of types) (fields_of types.tags tag)) 0) (tail_of_members
        types (struct_members (shape_of types) 0 (fields_of types.tags tag)))
        (ap flexible_of (struct_is types table t tag is has))
        (tail_from (fields_of types.tags tag) 0 (tag_open_last types false t tag (table.made t (k.Struct tag) is))
        (struct_whole types table t tag is has)))

    tagged_none : (make : Members → Shape) (fields : List Field) → ((ms : Members) →
        flexible_of (make ms) ≡ None) → flexible_of (tagged make (shape_of types) t fields) ≡ None
    tagged_none make [] h = refl
    tagged_none make (f ∷ fields) h = h _

    no_member : (kind : CType) → ((tag : ℕ) → kind ≡ k.Struct tag → ⊥) →
        flexible_of (shape_of_kind types.tags (shape_of types) t (Some kind)) ≡ None
    no_member k.Void n = refl
    no_member (k.Num width signed) n = refl
    no_member (k.Pointer to) n = refl
    no_member (k.Array of count) n = refl
    no_member (k.Flexible of) n = refl
    no_member (k.Struct tag) n = absurd (n tag refl)
    no_member (k.Union tag) n = tagged_none (s.Union t) (fields_of types.tags tag) (λ ms. refl)

    -- of any other type
    pub other_tail : (kind : CType) → kind_of types t ≡ Some kind → ((tag : ℕ) → kind ≡ k.Struct tag → ⊥) →
        IsTail types t no_tail
    other_tail kind is n = as_tail None no_tail (ap flexible_of (by_kind types table t kind is) ∙
        no_member kind n) (no_tail_is types)
