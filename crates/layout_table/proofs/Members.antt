-- The rows of members say what is inside a struct or a union.
use Rattle.std.proofs.Common.{◌≡◌, ℕ, ◌+◌, ◌-◌, ◌*◌, ◌<◌, ◌≤◌, List, [], ◌∷◌, ◌++◌, map, Bool, true, false, cond, Some, sym, ap, ◌∙◌, refl, arith, subst, inl, inr, ⊎_elim, ◌^◌}
use Rattle.std.specs.Prelude.{slice_get, fold, max}
use Rattle.c_types.specs.declared.kinds.Field.{Field}
use Rattle.c_types.specs.declared.kinds.Member.{Member}
use Rattle.c_types.specs.Shapes.{Shape, Members, is_open, size, next_offset, end_of_struct, end_of_union}
use Rattle.c_types.specs.Shapes as s
use Rattle.c_types.specs.Table.{Types, HasSize, shape_of, members_from, members_of_fields, struct_members, union_members}
use Rattle.c_types.specs.Holds.{IsWhole, AreWhole}
use Rattle.type_layout.specs.Listed.{In}
use Rattle.type_layout.proofs.Least.{in_append, in_append_left, in_append_right}
use Rattle.type_layout.proofs.Within.{struct_grows}
use Rattle.layout_table.specs.declared.stored.StoredLevel.{StoredLevel}
use Rattle.layout_table.specs.declared.stored.StoredRow.{StoredRow}
use Rattle.layout_table.specs.declared.stored.StoredEntry.{StoredEntry}
use Rattle.layout_table.specs.Strides.{Row, single, moved, rows_in, rows_in_struct, rows_in_union}
use Rattle.layout_table.specs.Stored.{AreRows, IsRow, decoded}
use Rattle.layout_table.specs.Tables.{IsEntry, rows_at}
use Rattle.layout_table.specs.Ordering.{AreShort}
use Rattle.layout_table.specs.Growing as g
use Rattle.layout_table.specs.Making.{row_for, member_rows, member_by, next_member}
use Rattle.layout_table.proofs.Strided.{in_map, map_in}
use Rattle.layout_table.proofs.Growth.{all_moved, AllRows, AreRoomy, from_places, moved_ok}
use Rattle.layout_table.proofs.Entries.{part_rows_ok}
use Rattle.layout_table.proofs.Whole.{OpenLast, from_member, from_open}

-- ---- lists that have the same rows

abbrev pub SameSet : List Row → List Row → Type 0
SameSet a b = (row : Row) → (In row a → In row b) × (In row b → In row a)

pub same_refl : (a b : List Row) → a ≡ b → SameSet a b
same_refl a b e row = (λ i. subst (λ x. In row x) e i, λ i. subst (λ x. In row x) (sym e) i)

pub same_trans : (a b c : List Row) → SameSet a b → SameSet b c → SameSet a c
same_trans a b c h i row = (λ j. (i row).0 ((h row).0 j), λ j. (h row).1 ((i row).1 j))

pub same_cons : (x : Row) (a b : List Row) → SameSet a b → SameSet (x ∷ a) (x ∷ b)
same_cons x a b h row = (λ j. ⊎_elim inl (λ k. inr ((h row).0 k)) j, λ j. ⊎_elim inl (λ k. inr ((h row).1 k)) j)

pub same_map : (f : Row → Row) (a b : List Row) → SameSet a b → SameSet (map f a) (map f b)
same_map f a b h row = (
  λ j. let m = map_in f row a j in subst (λ r. In r (map f b)) (sym m.2) (in_map f m.0 b ((h m.0).0 m.1)),
  λ j. let m = map_in f row b j in subst (λ r. In r (map f a)) (sym m.2) (in_map f m.0 a ((h m.0).1 m.1)),
)

same_append : (a b c d : List Row) → SameSet a b → SameSet c d → SameSet (a ++ c) (b ++ d)
same_append a b c d h i row = (
  λ j. ⊎_elim (λ k. in_append_left row b d ((h row).0 k)) (λ k. in_append_right row b d ((i row).0 k)) (in_append row
      a c j),
  λ j. ⊎_elim (λ k. in_append_left row a c ((h row).1 k)) (λ k. in_append_right row a c ((i row).1 k)) (in_append row
      b d j),
)

append_nil : {X : Type 0} (xs : List X) → xs ++ [] ≡ xs
append_nil [] = refl
append_nil (x ∷ xs) = ap (λ ys. x ∷ ys) (append_nil xs)

assoc : {X : Type 0} (a b c : List X) → (a ++ b) ++ c ≡ a ++ (b ++ c)
assoc [] b c = refl
assoc (x ∷ a) b c = ap (λ xs. x ∷ xs) (assoc a b c)

map_append : {X Y : Type 0} (f : X → Y) (a b : List X) → map f (a ++ b) ≡ map f a ++ map f b
map_append f [] b = refl
map_append f (x ∷ a) b = ap (λ ys. f x ∷ ys) (map_append f a b)

-- ---- the rows inside members, by their offsets

abbrev pub inside_one : Bool → Shape → ℕ → List Row
inside_one true kind at = []
inside_one false kind at = map (moved at) (single kind 1 ∷ rows_in kind)

abbrev pub inside_members : (ℕ → Shape) → List Member → List Row
inside_members shape [] = []
inside_members shape (m ∷ ms) = inside_one (is_open (shape m.kind)) (shape m.kind) m.offset ++ inside_members shape ms

struct_step : (shape : ℕ → Shape) (f : Field) (fields : List Field) (end : ℕ) (b : Bool) →
    is_open (shape f.kind) ≡ b → (b ≡ true → fields ≡ []) →
    rows_in_struct (members_of_fields shape fields) (next_offset (shape f.kind) end + size (shape f.kind)) ≡
    inside_members shape (struct_members shape (next_offset (shape f.kind) end + size (shape f.kind)) fields) →
    rows_in_struct (members_from (shape f.kind) (members_of_fields shape fields)) end ≡
    inside_one b (shape f.kind) (next_offset (shape f.kind) end) ++ inside_members shape (struct_members shape
    (next_offset (shape f.kind) end + size (shape f.kind)) fields)
struct_step shape f fields end false e o h =
    ap (λ ms. rows_in_struct ms end) (from_member (shape f.kind) (members_of_fields shape fields) e) ∙
    ap (λ rs. map (moved (next_offset (shape f.kind) end)) (single (shape f.kind) 1 ∷ rows_in (shape f.kind)) ++ rs) h
struct_step shape f fields end true e o h =
    let p = from_open (shape f.kind) (members_of_fields shape fields) e in
    ap (λ ms. rows_in_struct ms end) p.3 ∙
    ap (λ fs. inside_members shape (struct_members shape (next_offset (shape f.kind) end + size (shape f.kind)) fs))
    (sym (o refl))

pub struct_inside : (shape : ℕ → Shape) (fields : List Field) (end : ℕ) → OpenLast shape fields →
    rows_in_struct (members_of_fields shape fields) end ≡ inside_members shape (struct_members shape end fields)
struct_inside shape [] end o = refl
struct_inside shape (f ∷ fields) end o =
    struct_step shape f fields end (is_open (shape f.kind)) refl o.0 (struct_inside shape fields (next_offset (shape
    f.kind) end + size (shape f.kind)) o.1)

union_step : (shape : ℕ → Shape) (f : Field) (fields : List Field) (b : Bool) → is_open (shape f.kind) ≡ b →
    (b ≡ true → fields ≡ []) →
    rows_in_union (members_of_fields shape fields) ≡ inside_members shape (union_members fields) →
    rows_in_union (members_from (shape f.kind) (members_of_fields shape fields)) ≡ inside_one b (shape f.kind) 0 ++
    inside_members shape (union_members fields)
union_step shape f fields false e o h =
    ap rows_in_union (from_member (shape f.kind) (members_of_fields shape fields) e) ∙
    ap (λ rs. map (moved 0) (single (shape f.kind) 1 ∷ rows_in (shape f.kind)) ++ rs) h
union_step shape f fields true e o h =
    let p = from_open (shape f.kind) (members_of_fields shape fields) e in
    ap rows_in_union p.3 ∙ ap (λ fs. inside_members shape (union_members fs)) (sym (o refl))

pub union_inside : (shape : ℕ → Shape) (fields : List Field) → OpenLast shape fields →
    rows_in_union (members_of_fields shape fields) ≡ inside_members shape (union_members fields)
union_inside shape [] o = refl
union_inside shape (f ∷ fields) o = union_step shape f fields (is_open (shape f.kind)) refl o.0 (union_inside shape
    fields o.1)

-- ---- the rows that are made

-- a member is flexible, or its type has its rows and it ends at a place at most
pub record IsPlaced (types : Types) (entries : List StoredEntry) (rows : List StoredRow) (levels : List StoredLevel)
    (top : ℕ) (m : Member) : Type 0 where
  pub entry : StoredEntry
  pub here : slice_get entries (m.kind - 1) ≡ Some entry
  pub has : HasSize types m.kind
  pub ok : IsEntry types rows levels m.kind entry
  pub fits : m.offset + size (shape_of types m.kind) ≤ top

module _ (types : Types) (entries : List StoredEntry) (rows : List StoredRow) (levels : List StoredLevel) (rows_ok :
    AreRows types levels rows) where
  abbrev Placed : ℕ → List Member → Type 0
  Placed top ms = (m : Member) → In m ms → is_open (shape_of types m.kind) ≡ false →
      IsPlaced types entries rows levels top m

  member_is : (top : ℕ) (m : Member) (p : IsPlaced types entries rows levels top m) →
      member_rows types entries rows m.kind m.offset ≡ map (g.row_moved m.offset) (row_for types m.kind p.entry.size
      1 ∷ rows_at rows p.entry)
  member_is top m p = ap (member_by types rows m.kind m.offset) p.here

  member_same : (top : ℕ) (m : Member) → IsPlaced types entries rows levels top m →
      SameSet (map (decoded types levels) (member_rows types entries rows m.kind m.offset)) (map (moved m.offset)
      (single (shape_of types m.kind) 1 ∷ rows_in (shape_of types m.kind)))
  member_same top m p =
      same_trans (map (decoded types levels) (member_rows types entries rows m.kind m.offset))
      (map (moved m.offset) (single (shape_of types m.kind) 1 ∷ map (decoded types levels) (rows_at rows p.entry)))
      (map (moved m.offset) (single (shape_of types m.kind) 1 ∷ rows_in (shape_of types m.kind)))
      (same_refl _ _ (ap (map (decoded types levels)) (member_is top m p) ∙
      all_moved types levels m.offset (row_for types m.kind p.entry.size 1 ∷ rows_at rows p.entry)))
      (same_map (moved m.offset) (single (shape_of types m.kind) 1 ∷ map (decoded types levels) (rows_at rows
      p.entry)) (single (shape_of types m.kind) 1 ∷ rows_in (shape_of types m.kind))
      (same_cons (single (shape_of types m.kind) 1) (map (decoded types levels) (rows_at rows p.entry)) (rows_in
      (shape_of types m.kind)) (λ row. (p.ok.no_more row, p.ok.all row))))

  -- one member more
  one_same : (top : ℕ) (m : Member) (own : List StoredRow) (b : Bool) → is_open (shape_of types m.kind) ≡ b →
      (b ≡ false → IsPlaced types entries rows levels top m) →
      SameSet (map (decoded types levels) (cond b own (own ++ member_rows types entries rows m.kind m.offset))) (map
      (decoded types levels) own ++ inside_one b (shape_of types m.kind) m.offset)
  one_same top m own true e p = same_refl _ _ (sym (append_nil (map (decoded types levels) own)))
  one_same top m own false e p =
      same_trans (map (decoded types levels) (own ++ member_rows types entries rows m.kind m.offset))
      (map (decoded types levels) own ++ map (decoded types levels) (member_rows types entries rows m.kind m.offset))
      (map (decoded types levels) own ++ inside_one false (shape_of types m.kind) m.offset)
      (same_refl _ _ (map_append (decoded types levels) own (member_rows types entries rows m.kind m.offset)))
      (same_append (map (decoded types levels) own) (map (decoded types levels) own) (map (decoded types levels)
      (member_rows types entries rows m.kind m.offset))
      (inside_one false (shape_of types m.kind) m.offset) (same_refl _ _ refl) (member_same top m (p refl)))

  pub members_same : (top : ℕ) (ms : List Member) (own : List StoredRow) → Placed top ms →
      SameSet (map (decoded types levels) (fold (next_member types entries rows) own ms)) (map (decoded types levels)
      own ++ inside_members (shape_of types) ms)
  members_same top [] own p = same_refl _ _ (sym (append_nil (map (decoded types levels) own)))
  members_same top (m ∷ ms) own p =
      let next : List StoredRow = next_member types entries rows own m in
      same_trans (map (decoded types levels) (fold (next_member types entries rows) next ms)) (map (decoded types
      levels) next ++ inside_members (shape_of types) ms)
      (map (decoded types levels) own ++ (inside_one (is_open (shape_of types m.kind)) (shape_of types m.kind)
      m.offset ++ inside_members (shape_of types) ms))
      (members_same top ms next (λ n i. p n (inr i)))
      (same_trans (map (decoded types levels) next ++ inside_members (shape_of types) ms)
      ((map (decoded types levels) own ++ inside_one (is_open (shape_of types m.kind)) (shape_of types m.kind)
      m.offset) ++ inside_members (shape_of types) ms)
      (map (decoded types levels) own ++ (inside_one (is_open (shape_of types m.kind)) (shape_of types m.kind)
      m.offset ++ inside_members (shape_of types) ms))
      (same_append (map (decoded types levels) next) (map (decoded types levels) own ++ inside_one (is_open (shape_of
      types m.kind)) (shape_of types m.kind) m.offset)
      (inside_members (shape_of types) ms) (inside_members (shape_of types) ms)
      (one_same top m own (is_open (shape_of types m.kind)) refl (p m (inl refl))) (same_refl _ _ refl))
      (same_refl _ _ (assoc (map (decoded types levels) own) (inside_one (is_open (shape_of types m.kind)) (shape_of
      types m.kind) m.offset) (inside_members (shape_of types) ms))))

  -- ---- the rows are sound, and end in time

  pub head_ok : (kind bytes count : ℕ) → HasSize types kind → bytes ≡ size (shape_of types kind) → 0 < bytes →
      count * bytes ≤ 1048559 → IsRow types levels (row_for types kind bytes count)
  head_ok kind bytes count has sized filled fits = record {
    known = has;
    sized = sized;
    filled = filled;
    headed = omega arith;
    keyed_by = refl;
    reached = omega arith;
    short = omega (arith, fits);
  }

  all_append : (a b : List StoredRow) → AllRows types levels a → AllRows types levels b → AllRows types levels (a ++ b)
  all_append [] b h i = i
  all_append (x ∷ a) b h i = (h.0, all_append a b h.1 i)

  roomy : (room top : ℕ) (own : List StoredRow) → ((row : StoredRow) → In row own → row.reach ≤ top) →
      top + room < 2 ^ 32 → AreRoomy room own
  roomy room top [] h l = tt
  roomy room top (row ∷ own) h l = (omega (arith, h row (inl refl), l), roomy room top own (λ r i. h r (inr i)) l)

  part_all : (entry : StoredEntry) → AllRows types levels (rows_at rows entry)
  part_all entry = from_places types levels (rows_at rows entry) (part_rows_ok types levels rows entry.start
      (entry.end - entry.start) rows_ok)

  member_all_ok : (top : ℕ) (m : Member) → top ≤ 1048559 → IsPlaced types entries rows levels top m →
      AllRows types levels (member_rows types entries rows m.kind m.offset)
  member_all_ok top m small p =
      subst (AllRows types levels) (sym (member_is top m p))
      (moved_ok types levels m.offset (row_for types m.kind p.entry.size 1 ∷ rows_at rows p.entry) (
        head_ok m.kind p.entry.size 1 p.has p.ok.sized p.ok.filled (omega (arith, p.fits, p.ok.sized, small)),
        part_all p.entry,
      )
      (roomy m.offset p.entry.size (row_for types m.kind p.entry.size 1 ∷ rows_at rows p.entry)
      (λ row i. ⊎_elim (λ e. subst (λ (r : StoredRow). r.reach ≤ p.entry.size) (sym e) (one p.entry.size))
      (p.ok.short row) i)
      (omega (arith, p.fits, p.ok.sized, small))))
    where
      one : (n : ℕ) → 1 * n ≤ n
      one n = omega arith

  moved_short : (by bytes top : ℕ) (own : List StoredRow) → ((row : StoredRow) → In row own → row.reach ≤ bytes) →
      by + bytes ≤ top → AreShort top (map (g.row_moved by) own)
  moved_short by bytes top [] h l = λ row i. absurd i
  moved_short by bytes top (x ∷ own) h l = λ row i.
      ⊎_elim (λ e. subst (λ (r : StoredRow). r.reach ≤ top) (sym e) (omega (arith, h x (inl refl), l))) (λ j.
      moved_short by bytes top own (λ r k. h r (inr k)) l row j) i

  member_short : (top : ℕ) (m : Member) → IsPlaced types entries rows levels top m →
      AreShort top (member_rows types entries rows m.kind m.offset)
  member_short top m p =
      subst (AreShort top) (sym (member_is top m p))
      (moved_short m.offset p.entry.size top (row_for types m.kind p.entry.size 1 ∷ rows_at rows p.entry)
      (λ row i. ⊎_elim (λ e. subst (λ (r : StoredRow). r.reach ≤ p.entry.size) (sym e) (one p.entry.size))
      (p.ok.short row) i)
      (omega (arith, p.fits, p.ok.sized)))
    where
      one : (n : ℕ) → 1 * n ≤ n
      one n = omega arith

  one_ok : (top : ℕ) (m : Member) (own : List StoredRow) (b : Bool) → top ≤ 1048559 → (b ≡ false →
      IsPlaced types entries rows levels top m) → AllRows types levels own →
      AllRows types levels (cond b own (own ++ member_rows types entries rows m.kind m.offset))
  one_ok top m own true small p h = h
  one_ok top m own false small p h = all_append own (member_rows types entries rows m.kind m.offset) h (member_all_ok
      top m small (p refl))

  pub members_ok : (top : ℕ) (ms : List Member) (own : List StoredRow) → top ≤ 1048559 → Placed top ms →
      AllRows types levels own →
      AllRows types levels (fold (next_member types entries rows) own ms)
  members_ok top [] own small p h = h
  members_ok top (m ∷ ms) own small p h =
      members_ok top ms (next_member types entries rows own m) small (λ n i. p n (inr i)) (one_ok top m own (is_open
      (shape_of types m.kind)) small (p m (inl refl)) h)

  short_append : (top : ℕ) (a b : List StoredRow) → AreShort top a → AreShort top b → AreShort top (a ++ b)
  short_append top a b h i = λ row j. ⊎_elim (h row) (i row) (in_append row a b j)

  one_short : (top : ℕ) (m : Member) (own : List StoredRow) (b : Bool) → (b ≡ false →
      IsPlaced types entries rows levels top m) → AreShort top own →
      AreShort top (cond b own (own ++ member_rows types entries rows m.kind m.offset))
  one_short top m own true p h = h
  one_short top m own false p h = short_append top own (member_rows types entries rows m.kind m.offset) h
      (member_short top m (p refl))

  pub members_short : (top : ℕ) (ms : List Member) (own : List StoredRow) → Placed top ms → AreShort top own →
      AreShort top (fold (next_member types entries rows) own ms)
  members_short top [] own p h = h
  members_short top (m ∷ ms) own p h =
      members_short top ms (next_member types entries rows own m) (λ n i. p n (inr i)) (one_short top m own (is_open
      (shape_of types m.kind)) (p m (inl refl)) h)

-- ---- where members end, and which types they have

max_left : (a b : ℕ) → a ≤ max a b
max_left a b = omega arith

max_right : (a b : ℕ) → b ≤ max a b
max_right a b = omega arith

struct_ends_step : (shape : ℕ → Shape) (f : Field) (fields : List Field) (end : ℕ) (b : Bool) →
    is_open (shape f.kind) ≡ b → (b ≡ true → fields ≡ []) → (m : Member) →
    (In m (struct_members shape (next_offset (shape f.kind) end + size (shape f.kind)) fields) →
    m.offset + size (shape m.kind) ≤ end_of_struct (members_of_fields shape fields) (next_offset (shape f.kind) end +
    size (shape f.kind))) →
    In m (record { name = f.name; kind = f.kind; offset = next_offset (shape f.kind) end } ∷ struct_members shape
    (next_offset (shape f.kind) end + size (shape f.kind)) fields) →
    is_open (shape m.kind) ≡ false → m.offset + size (shape m.kind) ≤ end_of_struct (members_from (shape f.kind)
    (members_of_fields shape fields)) end
struct_ends_step shape f fields end false e o m h i c =
    subst (λ ms. m.offset + size (shape m.kind) ≤ end_of_struct ms end) (sym (from_member (shape f.kind)
    (members_of_fields shape fields) e))
    (⊎_elim
    (λ d. subst (λ (x : Member). x.offset + size (shape x.kind) ≤ end_of_struct (members_of_fields shape fields)
    (next_offset (shape f.kind) end + size (shape f.kind))) (sym d)
    (struct_grows (members_of_fields shape fields) (next_offset (shape f.kind) end + size (shape f.kind)))) h i)
struct_ends_step shape f fields end true e o m h i c =
    ⊎_elim (λ d. absurd (lies (is_open (shape f.kind)) e (subst (λ (x : Member). is_open (shape x.kind) ≡ false) d c)))
    (λ j. absurd (subst (λ fs. In m (struct_members shape (next_offset (shape f.kind) end + size (shape f.kind)) fs))
    (o refl) j)) i
  where
    lies : (b : Bool) → b ≡ true → b ≡ false → ⊥
    lies true e f = cc
    lies false e f = cc

pub struct_ends : (shape : ℕ → Shape) (fields : List Field) (end : ℕ) → OpenLast shape fields → (m : Member) →
    In m (struct_members shape end fields) →
    is_open (shape m.kind) ≡ false → m.offset + size (shape m.kind) ≤ end_of_struct (members_of_fields shape fields) end
struct_ends shape [] end o m i c = absurd i
struct_ends shape (f ∷ fields) end o m i c =
    struct_ends_step shape f fields end (is_open (shape f.kind)) refl o.0 m
    (λ j. struct_ends shape fields (next_offset (shape f.kind) end + size (shape f.kind)) o.1 m j c) i c

union_ends_step : (shape : ℕ → Shape) (f : Field) (fields : List Field) (b : Bool) → is_open (shape f.kind) ≡ b →
    (b ≡ true → fields ≡ []) → (m : Member) →
    (In m (union_members fields) → m.offset + size (shape m.kind) ≤ end_of_union (members_of_fields shape fields)) →
    In m (record { name = f.name; kind = f.kind; offset = 0 } ∷ union_members fields) →
    is_open (shape m.kind) ≡ false → m.offset + size (shape m.kind) ≤ end_of_union (members_from (shape f.kind)
    (members_of_fields shape fields))
union_ends_step shape f fields false e o m h i c =
    subst (λ ms. m.offset + size (shape m.kind) ≤ end_of_union ms) (sym (from_member (shape f.kind)
    (members_of_fields shape fields) e))
    (⊎_elim
    (λ d. subst (λ (x : Member). x.offset + size (shape x.kind) ≤ max (size (shape f.kind)) (end_of_union
    (members_of_fields shape fields))) (sym d)
    (omega (arith, max_left (size (shape f.kind)) (end_of_union (members_of_fields shape fields)))))
    (λ j. let l = h j in omega (
      arith,
      l,
      max_right (size (shape f.kind)) (end_of_union (members_of_fields shape
          fields)),
    )) i)
union_ends_step shape f fields true e o m h i c =
    ⊎_elim (λ d. absurd (lies (is_open (shape f.kind)) e (subst (λ (x : Member). is_open (shape x.kind) ≡ false) d c)))
    (λ j. absurd (subst (λ fs. In m (union_members fs)) (o refl) j)) i
  where
    lies : (b : Bool) → b ≡ true → b ≡ false → ⊥
    lies true e f = cc
    lies false e f = cc

pub union_ends : (shape : ℕ → Shape) (fields : List Field) → OpenLast shape fields → (m : Member) →
    In m (union_members fields) →
    is_open (shape m.kind) ≡ false → m.offset + size (shape m.kind) ≤ end_of_union (members_of_fields shape fields)
union_ends shape [] o m i c = absurd i
union_ends shape (f ∷ fields) o m i c =
    union_ends_step shape f fields (is_open (shape f.kind)) refl o.0 m (λ j. union_ends shape fields o.1 m j c) i c

pub struct_field : (shape : ℕ → Shape) (fields : List Field) (end : ℕ) (m : Member) →
    In m (struct_members shape end fields) → (f : Field) × In f fields × (m.kind ≡ f.kind)
struct_field shape [] end m i = absurd i
struct_field shape (f ∷ fields) end m i =
    ⊎_elim (λ e. (f, inl refl, ap (λ (x : Member). x.kind) e))
    (λ j. let r = struct_field shape fields (next_offset (shape f.kind) end + size (shape f.kind)) m j in
    (r.0, inr r.1, r.2)) i

pub union_field : (fields : List Field) (m : Member) → In m (union_members fields) → (f : Field) ×
    In f fields × (m.kind ≡ f.kind)
union_field [] m i = absurd i
union_field (f ∷ fields) m i =
    ⊎_elim (λ e. (f, inl refl, ap (λ (x : Member). x.kind) e)) (λ j. let r = union_field fields m j in
    (r.0, inr r.1, r.2)) i

-- fields but flexible ones are whole
whole_step : (types : Types) (shape : ℕ → Shape) (f g : Field) (fields : List Field) (b : Bool) →
    is_open (shape f.kind) ≡ b → (b ≡ true → fields ≡ []) →
    AreWhole types (members_from (shape f.kind) (members_of_fields shape fields)) →
    (AreWhole types (members_of_fields shape fields) → In g fields → IsWhole types (shape g.kind)) →
    In g (f ∷ fields) → is_open (shape g.kind) ≡ false → IsWhole types (shape g.kind)
whole_step types shape f g fields false e o w h i c =
    let v : AreWhole types (s.Member (shape f.kind) (members_of_fields shape fields)) = subst (AreWhole types)
    (from_member (shape f.kind) (members_of_fields shape fields) e) w in
    ⊎_elim (λ d. subst (λ (x : Field). IsWhole types (shape x.kind)) (sym d) v.0) (λ j. h v.2 j) i
whole_step types shape f g fields true e o w h i c =
    ⊎_elim (λ d. absurd (lies (is_open (shape f.kind)) e (subst (λ (x : Field). is_open (shape x.kind) ≡ false) d c)))
    (λ j. absurd (subst (λ fs. In g fs) (o refl) j)) i
  where
    lies : (b : Bool) → b ≡ true → b ≡ false → ⊥
    lies true e f = cc
    lies false e f = cc

pub field_whole : (types : Types) (shape : ℕ → Shape) (fields : List Field) → OpenLast shape fields →
    AreWhole types (members_of_fields shape fields) → (f : Field) → In f fields →
    is_open (shape f.kind) ≡ false → IsWhole types (shape f.kind)
field_whole types shape [] o w f i c = absurd i
field_whole types shape (g ∷ fields) o w f i c =
    whole_step types shape g f fields (is_open (shape g.kind)) refl o.0 w (λ v j. field_whole types shape fields o.1
    v f j c) i c
