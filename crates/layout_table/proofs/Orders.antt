-- The types that a type is made of stand before it.
use Rattle.std.proofs.Common.{◌≡◌, ◌⊎◌, ℕ, zero, suc, ◌+◌, ◌<◌, ◌≤◌, List, [], ◌∷◌, ◌++◌, length, take, map, get_or, Some, sym, ap, ◌∙◌, refl, arith, subst, inl, inr, ⊎_elim, length-append}
use Rattle.std.specs.Prelude.{Contains}
use Rattle.std.proofs.lemmas.List.{take_more}
use Rattle.std.proofs.lemmas.List.Elements.{Contains-push_cases}
use Rattle.c_types.specs.declared.kinds.CType.{CType}
use Rattle.c_types.specs.declared.kinds.CType.TheVariants as k
use Rattle.c_types.specs.declared.kinds.Field.{Field}
use Rattle.c_types.specs.declared.kinds.Member.{Member}
use Rattle.c_types.specs.Table.{Types, IsNumber, kind_of, fields_of, shape_of, members, members_by}
use Rattle.c_types.specs.Holds.{IsOrdered, IsAfter, AreAfter}
use Rattle.c_types.specs.Holds.IsOrdered.{none, next}
use Rattle.type_layout.specs.Listed.{In}
use Rattle.type_layout.proofs.Least.{in_contains, contains_in}
use Rattle.layout_table.specs.declared.stored.StoredLevel.{StoredLevel}
use Rattle.layout_table.specs.declared.stored.StoredRow.{StoredRow}
use Rattle.layout_table.specs.declared.stored.StoredEntry.{StoredEntry}
use Rattle.layout_table.specs.Making.{IsSoFar, kind_of_member, parts, parts_by}
use Rattle.layout_table.proofs.Growth.{slice_get_within}
use Rattle.layout_table.proofs.Members.{struct_field, union_field}

take_front : (xs : List ℕ) (x i : ℕ) → i ≤ length xs → take i (xs ++ x ∷ []) ≡ take i xs
take_front [] x zero h = refl
take_front [] x (suc i) h = absurd (omega arith)
take_front (y ∷ xs) x zero h = refl
take_front (y ∷ xs) x (suc i) h = ap (λ ys. y ∷ ys) (take_front xs x i (omega arith))

take_whole : (xs : List ℕ) (i : ℕ) → i ≡ length xs → take i xs ≡ xs
take_whole [] zero h = refl
take_whole [] (suc i) h = absurd (omega (arith, h))
take_whole (y ∷ xs) zero h = absurd (omega (arith, h))
take_whole (y ∷ xs) (suc i) h = ap (λ ys. y ∷ ys) (take_whole xs i (omega (arith, h)))

front_at : (xs : List ℕ) (x i d : ℕ) → i < length xs → get_or (xs ++ x ∷ []) i d ≡ get_or xs i d
front_at [] x i d h = absurd (omega arith)
front_at (y ∷ xs) x zero d h = refl
front_at (y ∷ xs) x (suc i) d h = front_at xs x i d (omega arith)

last_at : (xs : List ℕ) (x i d : ℕ) → i ≡ length xs → get_or (xs ++ x ∷ []) i d ≡ x
last_at [] x zero d h = refl
last_at [] x (suc i) d h = absurd (omega (arith, h))
last_at (y ∷ xs) x zero d h = absurd (omega (arith, h))
last_at (y ∷ xs) x (suc i) d h = last_at xs x i d (omega (arith, h))

-- a type that stands after what it needs
pub record StandsAfter (types : Types) (before : List ℕ) (n : ℕ) : Type 0 where
  pub kind : CType
  pub is : kind_of types n ≡ Some kind
  pub after : IsAfter types before kind
  pub fresh : Contains before n → ⊥

front_or_last : (i n : ℕ) → i < n + 1 → (i < n) ⊎ (i ≡ n)
front_or_last i n h = grind arith

pub stands_after : (types : Types) (order : List ℕ) → IsOrdered types order → (i d : ℕ) → i < length order →
    StandsAfter types (take i order) (get_or order i d)
stands_after types _ none i d h = absurd (omega arith)
stands_after types _ (next before n kind ordered fresh is after) i d h =
    ⊎_elim
    (λ l. subst (λ xs. StandsAfter types xs (get_or (before ++ n ∷ []) i d)) (sym (take_front before n i (omega
    (arith, l))))
    (subst (λ (m : ℕ). StandsAfter types (take i before) m) (sym (front_at before n i d l)) (stands_after types
    before ordered i d l)))
    (λ e. subst (λ xs. StandsAfter types xs (get_or (before ++ n ∷ []) i d)) (sym (take_front before n i (omega
    (arith, e)) ∙ take_whole before i e))
    (subst (λ (m : ℕ). StandsAfter types before m) (sym (last_at before n i d e)) (record {
      kind = kind;
      is = is;
      after = after;
      fresh = fresh;
    })))
    (front_or_last i (length before) (long before n i h))
  where
    long : (before : List ℕ) (n i : ℕ) → i < length (before ++ n ∷ []) → i < length before + 1
    long before n i h = omega (arith, h, length-append before (n ∷ []))

-- ---- its parts

one_of : (of p : ℕ) → Contains (of ∷ []) p → p ≡ of
one_of of p c = ⊎_elim (λ e. e) (λ i. absurd i) (contains_in (of ∷ []) p c.0 c.1 c.2)

member_of : (ms : List Member) (p : ℕ) → In p (map kind_of_member ms) → (m : Member) × In m ms × (p ≡ m.kind)
member_of [] p i = absurd i
member_of (m ∷ ms) p i = ⊎_elim (λ e. (m, inl refl, e)) (λ j. let r = member_of ms p j in (r.0, inr r.1, r.2)) i

none_of : (before : List ℕ) (p : ℕ) → Contains [] p → Contains before p
none_of before p c = absurd (omega (arith, c.1))

module _ (types : Types) (before : List ℕ) (t p : ℕ) where
  fields_before : (tag : ℕ) (m : Member) → AreAfter before (fields_of types.tags tag) → (f : Field) ×
      In f (fields_of types.tags tag) × (m.kind ≡ f.kind) → p ≡ m.kind → Contains before p
  fields_before tag m after r e = subst (Contains before) (sym (e ∙ r.2)) (after.1 r.0 (in_contains (fields_of
      types.tags tag) r.0 r.1))

  struct_before : (tag : ℕ) → kind_of types t ≡ Some (k.Struct tag) → AreAfter before (fields_of types.tags tag) →
      Contains (map kind_of_member (members types t)) p → Contains before p
  unfolding members
  struct_before tag is after c =
      let m = member_of (members types t) p (contains_in (map kind_of_member (members types t)) p c.0 c.1 c.2) in
      fields_before tag m.0 after (struct_field (shape_of types) (fields_of types.tags tag) 0 m.0 (subst (λ ms. In
      m.0 ms) (ap (members_by types.tags (shape_of types)) is) m.1)) m.2

  union_before : (tag : ℕ) → kind_of types t ≡ Some (k.Union tag) → AreAfter before (fields_of types.tags tag) →
      Contains (map kind_of_member (members types t)) p → Contains before p
  unfolding members
  union_before tag is after c =
      let m = member_of (members types t) p (contains_in (map kind_of_member (members types t)) p c.0 c.1 c.2) in
      fields_before tag m.0 after (union_field (fields_of types.tags tag) m.0 (subst (λ ms. In m.0 ms) (ap
      (members_by types.tags (shape_of types)) is) m.1)) m.2

  by_kind : (kind : CType) → kind_of types t ≡ Some kind → IsAfter types before kind →
      Contains (parts_by types t (Some kind)) p → Contains before p
  by_kind k.Void is after c = none_of before p c
  by_kind (k.Num width signed) is after c = none_of before p c
  by_kind (k.Pointer to) is after c = none_of before p c
  by_kind (k.Array of count) is after c = subst (Contains before) (sym (one_of of p c)) after
  by_kind (k.Flexible of) is after c = subst (Contains before) (sym (one_of of p c)) after
  by_kind (k.Struct tag) is after c = struct_before tag is after c
  by_kind (k.Union tag) is after c = union_before tag is after c

  pub part_before : StandsAfter types before t → Contains (parts types t) p → Contains before p
  part_before s c = by_kind s.kind s.is s.after (subst (λ ps. Contains ps p) (ap (parts_by types t) s.is) c)

-- the next type
pub next_or_before : (order : List ℕ) (i d n : ℕ) → i < length order → Contains (take (i + 1) order) n →
    Contains (take i order) n ⊎ (n ≡ get_or order i d)
next_or_before order i d n h c =
    ⊎_elim inl (λ e. inr (sym e)) (Contains-push_cases (take i order) (get_or order i d) n (subst (λ xs. Contains xs
    n) (take_more order i d h) c))

pub parts_so_far : (types : Types) (done : List ℕ) (entries : List StoredEntry) (rows : List StoredRow) (levels :
    List StoredLevel) (t : ℕ) → StandsAfter types done t →
    IsSoFar types done entries rows levels → IsSoFar types (parts types t) entries rows levels
parts_so_far types done entries rows levels t s so_far = record {
  count = so_far.count;
  entry = λ u e c. so_far.entry u e (part_before types done t u s c);
  none = so_far.none;
  rows_ok = so_far.rows_ok;
  levels_ok = so_far.levels_ok;
}

pub number_known : (types : Types) (n : ℕ) (kind : CType) → kind_of types n ≡ Some kind → IsNumber types n
number_known types zero kind e = cc
number_known types (suc p) kind e = (omega arith, omega (arith, slice_get_within types.kinds p kind e))
