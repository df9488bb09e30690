-- The runs inside a value are the runs of its rows.
use Rattle.std.proofs.Common.{◌≡◌, ◌⊎◌, ℕ, zero, suc, ◌+◌, ◌*◌, ◌<◌, List, [], ◌∷◌, ◌++◌, map, sym, ap, ◌∙◌, refl, arith, inl, inr, ⊎_elim, subst}
use Rattle.c_types.specs.Shapes.{Shape, Members, Void, Whole, Pointer, Array, Open, Struct, Union, Incomplete, None_left, Member, Flexible, size, next_offset}
use Rattle.type_layout.specs.Runs.{ShapeRun, each, runs_with, inside, inside_struct, inside_union, runs_of}
use Rattle.type_layout.specs.Listed.{In}
use Rattle.type_layout.proofs.Least.{in_append, in_append_left, in_append_right}
use Rattle.layout_table.specs.Strides.{Level, Row, single, moved, repeated, rows_in, rows_in_struct, rows_in_union}
use Rattle.layout_table.proofs.Levels.{IsStart}

-- a run of a row in a value at an offset
abbrev pub IsInstance : Row → ℕ → ShapeRun → Type 0
IsInstance row at run = (start : ℕ) × IsStart row.levels start × (run ≡ record {
  kind = row.kind;
  lo = at + row.lo + start;
  count = row.count;
})

-- a run of some row
abbrev pub IsOfRows : List Row → ℕ → ShapeRun → Type 0
IsOfRows rows at run = (row : Row) × In row rows × IsInstance row at run

-- ---- lists

each_in : (f : ℕ → List ShapeRun) (n : ℕ) (run : ShapeRun) → In run (each n f) → (i : ℕ) × (i < n) × In run (f i)
each_in f zero run h = absurd h
each_in f (suc n) run h =
    ⊎_elim (λ g. let r = each_in f n run g in (r.0, omega (arith, r.1), r.2)) (λ g. (n, omega arith, g)) (in_append
    run (each n f) (f n) h)

in_each : (f : ℕ → List ShapeRun) (n i : ℕ) (run : ShapeRun) → i < n → In run (f i) → In run (each n f)
in_each f zero i run l h = absurd (omega arith)
in_each f (suc n) i run l h =
    ⊎_elim (λ e. in_append_right run (each n f) (f n) (subst (λ j. In run (f j)) e h))
    (λ g. in_append_left run (each n f) (f n) (in_each f n i run g h)) (last_or_before i n l)
  where
    last_or_before : (i n : ℕ) → i < suc n → (i ≡ n) ⊎ (i < n)
    last_or_before i n l = grind arith

pub in_map : {X Y : Type 0} (f : X → Y) (x : X) (xs : List X) → In x xs → In (f x) (map f xs)
in_map f x [] h = absurd h
in_map f x (y ∷ xs) h = ⊎_elim (λ e. inl (ap f e)) (λ i. inr (in_map f x xs i)) h

pub map_in : {X Y : Type 0} (f : X → Y) (y : Y) (xs : List X) → In y (map f xs) → (x : X) × In x xs × (y ≡ f x)
map_in f y [] h = absurd h
map_in f y (x ∷ xs) h = ⊎_elim (λ e. (x, inl refl, e)) (λ i. let r = map_in f y xs i in (r.0, inr r.1, r.2)) h

-- ---- rows that are moved or repeated

moved_instance : (by at : ℕ) (row : Row) (run : ShapeRun) → IsInstance row (at + by) run →
    IsInstance (moved by row) at run
moved_instance by at row run h =
    (h.0, h.1, h.2 ∙ ap (λ (n : ℕ). record { kind = row.kind; lo = n; count = row.count }) (omega arith))

instance_moved : (by at : ℕ) (row : Row) (run : ShapeRun) → IsInstance (moved by row) at run →
    IsInstance row (at + by) run
instance_moved by at row run h =
    (h.0, h.1, h.2 ∙ ap (λ (n : ℕ). record { kind = row.kind; lo = n; count = row.count }) (omega arith))

pub move_rows : (by at : ℕ) (rows : List Row) (run : ShapeRun) → IsOfRows rows (at + by) run →
    IsOfRows (map (moved by) rows) at run
move_rows by at rows run h = (moved by h.0, in_map (moved by) h.0 rows h.1, moved_instance by at h.0 run h.2)

pub rows_moved : (by at : ℕ) (rows : List Row) (run : ShapeRun) → IsOfRows (map (moved by) rows) at run →
    IsOfRows rows (at + by) run
rows_moved by at rows run h =
    let r = map_in (moved by) h.0 rows h.1 in
    (r.0, r.1, instance_moved by at r.0 run (subst (λ row. IsInstance row at run) r.2 h.2))

repeated_instance : (level : Level) (at i : ℕ) (row : Row) (run : ShapeRun) → i < level.count →
    IsInstance row (at + i * level.stride) run →
    IsInstance (repeated level row) at run
repeated_instance level at i row run l h = (
  i * level.stride + h.0,
  (i, l, h.0, h.1, refl),
  h.2 ∙ ap (λ (n : ℕ). record { kind = row.kind; lo = n; count = row.count }) (omega arith),
)

instance_repeated : (level : Level) (at : ℕ) (row : Row) (run : ShapeRun) → IsInstance (repeated level row) at run →
    (i : ℕ) × (i < level.count) × IsInstance row (at + i * level.stride) run
instance_repeated level at row run h =
    let s = h.1 in (
      s.0,
      s.1,
      (
        s.2,
        s.3,
        h.2 ∙ ap (λ (n : ℕ). record {
          kind = row.kind;
          lo = n;
          count = row.count;
        }) (omega (arith, s.4)),
      ),
    )

pub repeat_rows : (level : Level) (at i : ℕ) (rows : List Row) (run : ShapeRun) → i < level.count →
    IsOfRows rows (at + i * level.stride) run →
    IsOfRows (map (repeated level) rows) at run
repeat_rows level at i rows run l h =
    (repeated level h.0, in_map (repeated level) h.0 rows h.1, repeated_instance level at i h.0 run l h.2)

pub rows_repeated : (level : Level) (at : ℕ) (rows : List Row) (run : ShapeRun) →
    IsOfRows (map (repeated level) rows) at run →
    (i : ℕ) × (i < level.count) × IsOfRows rows (at + i * level.stride) run
rows_repeated level at rows run h =
    let r = map_in (repeated level) h.0 rows h.1 in
    let s = instance_repeated level at r.0 run (subst (λ row. IsInstance row at run) r.2 h.2) in
    (s.0, s.1, (r.0, r.1, s.2))

rows_left : (a b : List Row) (at : ℕ) (run : ShapeRun) → IsOfRows a at run → IsOfRows (a ++ b) at run
rows_left a b at run h = (h.0, in_append_left h.0 a b h.1, h.2)

rows_right : (a b : List Row) (at : ℕ) (run : ShapeRun) → IsOfRows b at run → IsOfRows (a ++ b) at run
rows_right a b at run h = (h.0, in_append_right h.0 a b h.1, h.2)

rows_either : (a b : List Row) (at : ℕ) (run : ShapeRun) → IsOfRows (a ++ b) at run →
    IsOfRows a at run ⊎ IsOfRows b at run
rows_either a b at run h =
    ⊎_elim (λ i. inl (h.0, i, h.2)) (λ i. inr (h.0, i, h.2)) (in_append h.0 a b h.1)

rows_more : (row : Row) (rows : List Row) (at : ℕ) (run : ShapeRun) → IsOfRows rows at run →
    IsOfRows (row ∷ rows) at run
rows_more row rows at run h = (h.0, inr h.1, h.2)

-- the run of a type itself
own_row : (kind : Shape) (count at : ℕ) (rows : List Row) (run : ShapeRun) → run ≡ record {
  kind = kind;
  lo = at;
  count = count;
} →
    IsOfRows (single kind count ∷ rows) at run
own_row kind count at rows run e = (
  single kind count,
  inl refl,
  (
    0,
    refl,
    e ∙ ap (λ (n : ℕ). record {
      kind = kind;
      lo = n;
      count = count;
    }) (omega arith),
  ),
)

own_instance : (kind : Shape) (count at : ℕ) (row : Row) (run : ShapeRun) → row ≡ single kind count →
    IsInstance row at run →
    run ≡ record { kind = kind; lo = at; count = count }
own_instance kind count at row run e h =
    let i : IsInstance (single kind count) at run = subst (λ r. IsInstance r at run) e h in
    i.2 ∙ ap (λ (n : ℕ). record { kind = kind; lo = n; count = count }) (omega (arith, i.1))

rows_own : (kind : Shape) (count at : ℕ) (rows : List Row) (run : ShapeRun) →
    IsOfRows (single kind count ∷ rows) at run →
    (run ≡ record { kind = kind; lo = at; count = count }) ⊎ IsOfRows rows at run
rows_own kind count at rows run h =
    ⊎_elim (λ e. inl (own_instance kind count at h.0 run e h.2)) (λ i. inr (h.0, i, h.2)) h.1

-- ---- a run with what is inside each of its values

no_times : (lo n : ℕ) → lo + 0 * n ≡ lo
no_times lo n = omega arith

no_more : (at : ℕ) → at ≡ at + 0
no_more at = omega arith

-- a member: a run of one value
module _ (kind : Shape) (at off : ℕ) (run : ShapeRun) where
  member_rows : ((run : ShapeRun) (a : ℕ) → In run (inside kind a) → IsOfRows (rows_in kind) a run) →
      In run (runs_with kind (inside kind) (at + off) 1) → IsOfRows (map (moved off) (single kind 1 ∷ rows_in kind))
      at run
  member_rows ih h =
      move_rows off at (single kind 1 ∷ rows_in kind) run
      (⊎_elim (own_row kind 1 (at + off) (rows_in kind) run)
      (λ g. let e = each_in (λ i. inside kind (at + off + i * size kind)) 1 run g in
      let z : at + off + e.0 * size kind ≡ at + off = ap (λ i. at + off + i * size kind) (first e.0 e.1) ∙
      no_times (at + off) (size kind) in
      rows_more (single kind 1) (rows_in kind) (at + off) run (ih run (at + off) (subst (λ a. In run (inside kind a))
      z e.2))) h)
    where
      first : (i : ℕ) → i < 1 → i ≡ 0
      first i l = omega arith

  rows_member : ((run : ShapeRun) (a : ℕ) → IsOfRows (rows_in kind) a run → In run (inside kind a)) →
      IsOfRows (map (moved off) (single kind 1 ∷ rows_in kind)) at run →
      In run (runs_with kind (inside kind) (at + off) 1)
  rows_member ih h =
      ⊎_elim inl (λ g. inr (in_each (λ i. inside kind (at + off + i * size kind)) 1 0 run (omega arith)
      (subst (λ a. In run (inside kind a)) (sym (no_times (at + off) (size kind))) (ih run (at + off) g))))
      (rows_own kind 1 (at + off) (rows_in kind) run (rows_moved off at (single kind 1 ∷ rows_in kind) run h))

-- ---- the rows of a type

mutual
  pub inside_rows : (kind : Shape) (run : ShapeRun) (at : ℕ) → In run (inside kind at) → IsOfRows (rows_in kind) at run
  inside_rows (Void n) run at h = absurd h
  inside_rows (Whole n width signed) run at h = absurd h
  inside_rows (Pointer n to) run at h = absurd h
  inside_rows (Array n of count) run at h =
      ⊎_elim (own_row of count at (map (repeated (record { stride = size of; count = count })) (rows_in of)) run)
      (λ g. let e = each_in (λ i. inside of (at + i * size of)) count run g in
      rows_more (single of count) (map (repeated (record { stride = size of; count = count })) (rows_in of)) at run
      (repeat_rows (record { stride = size of; count = count }) at e.0 (rows_in of) run e.1 (inside_rows of run (at +
      e.0 * size of) e.2))) h
  inside_rows (Open n of) run at h = absurd h
  inside_rows (Struct n members) run at h = struct_rows members 0 run at h
  inside_rows (Union n members) run at h = union_rows members run at h
  inside_rows (Incomplete n) run at h = absurd h

  struct_rows : (members : Members) (end : ℕ) (run : ShapeRun) (at : ℕ) → In run (inside_struct members end at) →
      IsOfRows (rows_in_struct members end) at run
  struct_rows None_left end run at h = absurd h
  struct_rows (Member first rest) end run at h =
      ⊎_elim
      (λ g. rows_left (map (moved (next_offset first end)) (single first 1 ∷ rows_in first)) (rows_in_struct rest
      (next_offset first end + size first)) at run
      (member_rows first at (next_offset first end) run (λ r a i. inside_rows first r a i) g))
      (λ g. rows_right (map (moved (next_offset first end)) (single first 1 ∷ rows_in first)) (rows_in_struct rest
      (next_offset first end + size first)) at run
      (struct_rows rest (next_offset first end + size first) run at g))
      (in_append run (runs_with first (inside first) (at + next_offset first end) 1) (inside_struct rest (next_offset
      first end + size first) at) h)
  struct_rows (Flexible n of) end run at h = absurd h

  union_rows : (members : Members) (run : ShapeRun) (at : ℕ) → In run (inside_union members at) →
      IsOfRows (rows_in_union members) at run
  union_rows None_left run at h = absurd h
  union_rows (Member first rest) run at h =
      ⊎_elim
      (λ g. rows_left (map (moved 0) (single first 1 ∷ rows_in first)) (rows_in_union rest) at run
      (member_rows first at 0 run (λ r a i. inside_rows first r a i) (subst (λ a. In run (runs_with first (inside
      first) a 1)) (no_more at) g)))
      (λ g. rows_right (map (moved 0) (single first 1 ∷ rows_in first)) (rows_in_union rest) at run (union_rows rest
      run at g))
      (in_append run (runs_with first (inside first) at 1) (inside_union rest at) h)
  union_rows (Flexible n of) run at h = absurd h

mutual
  pub rows_inside : (kind : Shape) (run : ShapeRun) (at : ℕ) → IsOfRows (rows_in kind) at run → In run (inside kind at)
  rows_inside (Void n) run at h = absurd h.1
  rows_inside (Whole n width signed) run at h = absurd h.1
  rows_inside (Pointer n to) run at h = absurd h.1
  rows_inside (Array n of count) run at h =
      ⊎_elim inl
      (λ g. let r = rows_repeated (record { stride = size of; count = count }) at (rows_in of) run g in
      inr (in_each (λ i. inside of (at + i * size of)) count r.0 run r.1 (rows_inside of run (at + r.0 * size of) r.2)))
      (rows_own of count at (map (repeated (record { stride = size of; count = count })) (rows_in of)) run h)
  rows_inside (Open n of) run at h = absurd h.1
  rows_inside (Struct n members) run at h = rows_struct members 0 run at h
  rows_inside (Union n members) run at h = rows_union members run at h
  rows_inside (Incomplete n) run at h = absurd h.1

  rows_struct : (members : Members) (end : ℕ) (run : ShapeRun) (at : ℕ) →
      IsOfRows (rows_in_struct members end) at run → In run (inside_struct members end at)
  rows_struct None_left end run at h = absurd h.1
  rows_struct (Member first rest) end run at h =
      ⊎_elim
      (λ g. in_append_left run (runs_with first (inside first) (at + next_offset first end) 1) (inside_struct rest
      (next_offset first end + size first) at)
      (rows_member first at (next_offset first end) run (λ r a i. rows_inside first r a i) g))
      (λ g. in_append_right run (runs_with first (inside first) (at + next_offset first end) 1) (inside_struct rest
      (next_offset first end + size first) at)
      (rows_struct rest (next_offset first end + size first) run at g))
      (rows_either (map (moved (next_offset first end)) (single first 1 ∷ rows_in first)) (rows_in_struct rest
      (next_offset first end + size first)) at run h)
  rows_struct (Flexible n of) end run at h = absurd h.1

  rows_union : (members : Members) (run : ShapeRun) (at : ℕ) → IsOfRows (rows_in_union members) at run →
      In run (inside_union members at)
  rows_union None_left run at h = absurd h.1
  rows_union (Member first rest) run at h =
      ⊎_elim
      (λ g. in_append_left run (runs_with first (inside first) at 1) (inside_union rest at)
      (subst (λ a. In run (runs_with first (inside first) a 1)) (sym (no_more at)) (rows_member first at 0 run (λ r a
      i. rows_inside first r a i) g)))
      (λ g. in_append_right run (runs_with first (inside first) at 1) (inside_union rest at) (rows_union rest run at g))
      (rows_either (map (moved 0) (single first 1 ∷ rows_in first)) (rows_in_union rest) at run h)
  rows_union (Flexible n of) run at h = absurd h.1

-- ---- so many values of a type

pub runs_rows : (kind : Shape) (base count : ℕ) (run : ShapeRun) → In run (runs_of kind base count) →
    (run ≡ record { kind = kind; lo = base; count = count }) ⊎ ((i : ℕ) × (i < count) ×
    IsOfRows (rows_in kind) (base + i * size kind) run)
runs_rows kind base count run h =
    ⊎_elim inl (λ g. let e = each_in (λ i. inside kind (base + i * size kind)) count run g in
    inr (e.0, e.1, inside_rows kind run (base + e.0 * size kind) e.2)) h

pub rows_runs : (kind : Shape) (base count i : ℕ) (run : ShapeRun) → i < count →
    IsOfRows (rows_in kind) (base + i * size kind) run →
    In run (runs_of kind base count)
rows_runs kind base count i run l h =
    inr (in_each (λ i. inside kind (base + i * size kind)) count i run l (rows_inside kind run (base + i * size kind)
    h))
