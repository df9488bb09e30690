-- What a table keeps when levels and rows are added.
use Rattle.std.proofs.Common.{inl, inr, ⊎_elim, ◌^◌, ◌≡◌, ◌⊎◌, ℕ, zero, suc, ◌+◌, ◌-◌, ◌*◌, ◌<◌, ◌≤◌, List, [], ◌∷◌, ◌++◌, length, map, take, get_or, Some, None, sym, ap, ◌∙◌, refl, arith, subst, length-append}
use Rattle.std.specs.Prelude.{Option, slice_get}
use Rattle.c_types.specs.Table.{Types, shape_of}
use Rattle.layout_table.specs.declared.stored.StoredLevel.{StoredLevel}
use Rattle.layout_table.specs.declared.stored.StoredRow.{StoredRow}
use Rattle.layout_table.specs.Strides.{Level, moved, repeated}
use Rattle.layout_table.specs.Stored.{chain, chain_of, chain_within, extent, AreLevels, AreRows, IsRow, decoded}
use Rattle.layout_table.specs.Growing as growing
use Rattle.layout_table.specs.Growing.{level_around, row_within, rows_within}
use Rattle.layout_table.proofs.Chains.{chain_suc}

slice_get_kept : {X : Type 0} (xs ys : List X) (p : ℕ) → p < length xs → slice_get (xs ++ ys) p ≡ slice_get xs p
slice_get_kept [] ys p h = absurd (omega arith)
slice_get_kept (x ∷ xs) ys zero h = refl
slice_get_kept (x ∷ xs) ys (suc p) h = slice_get_kept xs ys p (omega arith)

pub slice_get_last : {X : Type 0} (xs : List X) (x : X) → slice_get (xs ++ x ∷ []) (length xs) ≡ Some x
slice_get_last [] x = refl
slice_get_last (y ∷ xs) x = slice_get_last xs x

pub slice_get_within : {X : Type 0} (xs : List X) (p : ℕ) (x : X) → slice_get xs p ≡ Some x → p < length xs
slice_get_within [] p x e = cc
slice_get_within (y ∷ xs) zero x e = omega arith
slice_get_within (y ∷ xs) (suc p) x e = let h = slice_get_within xs p x e in omega (arith, h)

last_or_kept : {X : Type 0} (xs : List X) (x y : X) (p : ℕ) → slice_get (xs ++ x ∷ []) p ≡ Some y →
    (slice_get xs p ≡ Some y) ⊎ ((p ≡ length xs) × (y ≡ x))
last_or_kept [] x y zero e = inr (refl, (let f : x ≡ y = cc in sym f))
last_or_kept [] x y (suc p) e = cc
last_or_kept (z ∷ xs) x y zero e = inl e
last_or_kept (z ∷ xs) x y (suc p) e = ⊎_elim inl (λ f. inr (ap suc f.0, f.1)) (last_or_kept xs x y p e)

-- rows whose chains begin among these levels
abbrev pub AreHeaded : List StoredLevel → List StoredRow → Type 0
AreHeaded levels [] = Unit {0}
AreHeaded levels (row ∷ rows) = (row.levels ≤ length levels) × AreHeaded levels rows

-- ---- levels

module _ (levels more : List StoredLevel) (ok : AreLevels levels) where
  inside_kept : (f g : ℕ → List Level) (place : ℕ) (o : Option StoredLevel) → slice_get levels place ≡ o →
      ((level : StoredLevel) → slice_get levels place ≡ Some level → f level.inside ≡ g level.inside) →
      chain_of f o ≡ chain_of g o
  inside_kept f g place None e h = refl
  inside_kept f g place (Some level) e h = ap (λ ls. record {
    stride = level.stride;
    count = level.count;
  } ∷ ls) (h level e)

  within_kept : (fuel head : ℕ) → head ≤ length levels → chain_within fuel (levels ++ more) head ≡ chain_within fuel
      levels head
  within_kept zero zero h = refl
  within_kept zero (suc place) h = refl
  within_kept (suc fuel) zero h = refl
  within_kept (suc fuel) (suc place) h =
      ap (chain_of (chain_within fuel (levels ++ more))) (slice_get_kept levels more place (omega arith)) ∙
      inside_kept (chain_within fuel (levels ++ more)) (chain_within fuel levels) place (slice_get levels place) refl
      (λ level e. within_kept fuel level.inside (omega (arith, (ok place level e).1, h)))

  -- A chain stays when levels are added.
  pub chain_kept : (head : ℕ) → head ≤ length levels → chain (levels ++ more) head ≡ chain levels head
  chain_kept head h = within_kept head head h

  pub decoded_kept : (types : Types) (row : StoredRow) → row.levels ≤ length levels →
      decoded types (levels ++ more) row ≡ decoded types levels row
  decoded_kept types row h =
      ap (λ (ls : List Level). record {
        kind = shape_of types row.kind;
        lo = row.lo;
        count = row.count;
        levels = ls;
      }) (chain_kept row.levels h)

pub level_added : (levels : List StoredLevel) (level : StoredLevel) → AreLevels levels → 0 < level.stride →
    level.inside ≤ length levels → AreLevels (levels ++ level ∷ [])
level_added levels level ok s h = λ place x e.
    ⊎_elim (λ f. ok place x f) (λ f. (subst (λ (l : StoredLevel). 0 < l.stride) (sym f.1) s, rw (f.0, f.1) h))
    (last_or_kept levels level x place e)

-- The row of a new level around another row.
pub row_repeated : (types : Types) (levels : List StoredLevel) (row new : StoredRow) (level : StoredLevel) →
    AreLevels levels → 0 < level.stride → row.levels ≤ length levels →
    level.inside ≡ row.levels → new.kind ≡ row.kind → new.lo ≡ row.lo → new.count ≡ row.count →
    new.levels ≡ suc (length levels) →
    decoded types (levels ++ level ∷ []) new ≡ repeated (record {
      stride = level.stride;
      count = level.count;
    }) (decoded types levels row)
row_repeated types levels row new level ok s h i k l n e =
    let all = level_added levels level ok s (omega (arith, i, h)) in
    let head : chain (levels ++ level ∷ []) new.levels ≡ record {
      stride = level.stride;
      count = level.count;
    } ∷ chain levels row.levels =
    ap (chain (levels ++ level ∷ [])) e ∙ chain_suc (levels ++ level ∷ []) all (length levels) level (slice_get_last
    levels level) ∙
    ap (λ (p : ℕ). record { stride = level.stride; count = level.count } ∷ chain (levels ++ level ∷ []) p) i ∙
    ap (λ ls. record { stride = level.stride; count = level.count } ∷ ls) (chain_kept levels (level ∷ []) ok
    row.levels h) in
    ap (λ (p : ℕ). record {
      kind = shape_of types p;
      lo = new.lo;
      count = new.count;
      levels = chain (levels ++ level ∷ []) new.levels;
    }) k ∙
    ap (λ (p : ℕ). record {
      kind = shape_of types row.kind;
      lo = p;
      count = new.count;
      levels = chain (levels ++ level ∷ []) new.levels;
    }) l ∙
    ap (λ (p : ℕ). record {
      kind = shape_of types row.kind;
      lo = row.lo;
      count = p;
      levels = chain (levels ++ level ∷ []) new.levels;
    }) n ∙
    ap (λ (ls : List Level). record {
      kind = shape_of types row.kind;
      lo = row.lo;
      count = row.count;
      levels = ls;
    }) head

-- The row of a member, moved to the member's offset.
pub row_moved : (types : Types) (levels : List StoredLevel) (row new : StoredRow) (by : ℕ) →
    new.kind ≡ row.kind → new.lo ≡ by + row.lo → new.count ≡ row.count → new.levels ≡ row.levels →
    decoded types levels new ≡ moved by (decoded types levels row)
row_moved types levels row new by k l n e =
    ap (λ (p : ℕ). record {
      kind = shape_of types p;
      lo = new.lo;
      count = new.count;
      levels = chain levels new.levels;
    }) k ∙
    ap (λ (p : ℕ). record {
      kind = shape_of types row.kind;
      lo = p;
      count = new.count;
      levels = chain levels new.levels;
    }) l ∙
    ap (λ (p : ℕ). record {
      kind = shape_of types row.kind;
      lo = by + row.lo;
      count = p;
      levels = chain levels new.levels;
    }) n ∙
    ap (λ (p : ℕ). record {
      kind = shape_of types row.kind;
      lo = by + row.lo;
      count = row.count;
      levels = chain levels p;
    }) e

-- ---- rows in an array

pub kept_all : (types : Types) (levels more : List StoredLevel) → AreLevels levels → (rows : List StoredRow) →
    AreHeaded levels rows →
    map (decoded types (levels ++ more)) rows ≡ map (decoded types levels) rows
kept_all types levels more ok [] h = refl
kept_all types levels more ok (row ∷ rows) h =
    ap (λ r. r ∷ map (decoded types (levels ++ more)) rows) (decoded_kept levels more ok types row h.0) ∙
    ap (λ rs. decoded types levels row ∷ rs) (kept_all types levels more ok rows h.1)

headed_more : (levels : List StoredLevel) (level : StoredLevel) (rows : List StoredRow) → AreHeaded levels rows →
    AreHeaded (levels ++ level ∷ []) rows
headed_more levels level [] h = tt
headed_more levels level (row ∷ rows) h = (simp (length-append) (omega (arith, h.0)), headed_more levels level rows h.1)

append_assoc : (a : List StoredLevel) (x : StoredLevel) (b : List StoredLevel) → (a ++ x ∷ []) ++ b ≡ a ++ x ∷ b
append_assoc [] x b = refl
append_assoc (y ∷ a) x b = ap (λ ls. y ∷ ls) (append_assoc a x b)

length_more : (levels : List StoredLevel) (level : StoredLevel) → length (levels ++ level ∷ []) ≡ length levels + 1
length_more levels level = simp (length-append) (omega arith)

-- The rows within an array are the rows of its elements, repeated.
pub all_within_array : (types : Types) (stride count : ℕ) → 0 < stride →
    (rows : List StoredRow) (levels : List StoredLevel) → AreLevels levels → AreHeaded levels rows →
    map (decoded types (levels ++ map (level_around stride count) rows)) (rows_within stride count (length levels)
    rows) ≡
    map (repeated (record { stride = stride; count = count })) (map (decoded types levels) rows)
all_within_array types stride count s [] levels ok h = refl
all_within_array types stride count s (row ∷ rows) levels ok h =
    let level = level_around stride count row in
    let more = map (level_around stride count) rows in
    let next = levels ++ level ∷ [] in
    let next_ok = level_added levels level ok s h.0 in
    let new = row_within stride count (length levels + 1) row in
    let head : decoded types next new ≡ repeated (record {
      stride = stride;
      count = count;
    }) (decoded types levels row) =
    row_repeated types levels row new level ok s h.0 refl refl refl refl (omega arith) in
    let all : levels ++ level ∷ more ≡ next ++ more = sym (append_assoc levels level more) in
    ap (λ ls. map (decoded types ls) (new ∷ rows_within stride count (length levels + 1) rows)) all ∙
    ap (λ r. r ∷ map (decoded types (next ++ more)) (rows_within stride count (length levels + 1) rows))
    (decoded_kept next more next_ok types new (omega (arith, length_more levels level)) ∙ head) ∙
    ap (λ rs. repeated (record { stride = stride; count = count }) (decoded types levels row) ∷ rs)
    (ap (λ (n : ℕ). map (decoded types (next ++ more)) (rows_within stride count n rows)) (sym (length_more levels
    level)) ∙
    all_within_array types stride count s rows next next_ok (headed_more levels level rows h.1) ∙
    ap (map (repeated (record { stride = stride; count = count }))) (kept_all types levels (level ∷ []) ok rows h.1))

-- The levels of the rows within an array.
pub all_levels : (stride count : ℕ) → 0 < stride → (rows : List StoredRow) (levels : List StoredLevel) →
    AreLevels levels → AreHeaded levels rows →
    AreLevels (levels ++ map (level_around stride count) rows)
all_levels stride count s [] levels ok h = subst AreLevels (sym (no_more levels)) ok
  where
    no_more : (ls : List StoredLevel) → ls ++ [] ≡ ls
    no_more [] = refl
    no_more (l ∷ ls) = ap (λ ms. l ∷ ms) (no_more ls)
all_levels stride count s (row ∷ rows) levels ok h =
    let level = level_around stride count row in
    subst AreLevels (append_assoc levels level (map (level_around stride count) rows))
    (all_levels stride count s rows (levels ++ level ∷ []) (level_added levels level ok s h.0) (headed_more levels
    level rows h.1))

-- The rows within a member are its rows, moved.
pub all_moved : (types : Types) (levels : List StoredLevel) (by : ℕ) (rows : List StoredRow) →
    map (decoded types levels) (map (growing.row_moved by) rows) ≡ map (moved by) (map (decoded types levels) rows)
all_moved types levels by [] = refl
all_moved types levels by (row ∷ rows) = ap (λ rs. moved by (decoded types levels row) ∷ rs) (all_moved types levels
    by rows)

-- ---- one row more

take_more : {X : Type 0} (xs : List X) (i : ℕ) (d : X) → i < length xs →
    take (i + 1) xs ≡ take i xs ++ get_or xs i d ∷ []
take_more [] i d h = absurd (omega arith)
take_more (x ∷ xs) zero d h = refl
take_more (x ∷ xs) (suc i) d h =
    ap (λ (n : ℕ). take n (x ∷ xs)) (step i) ∙ ap (λ ys. x ∷ ys) (take_more xs i d (omega arith))
  where
    step : (i : ℕ) → suc i + 1 ≡ suc (i + 1)
    step i = omega arith

map_last : {X Y : Type 0} (f : X → Y) (xs : List X) (x : X) → map f (xs ++ x ∷ []) ≡ map f xs ++ f x ∷ []
map_last f [] x = refl
map_last f (y ∷ xs) x = ap (λ ys. f y ∷ ys) (map_last f xs x)

assoc : {X : Type 0} (a b c : List X) → (a ++ b) ++ c ≡ a ++ (b ++ c)
assoc [] b c = refl
assoc (x ∷ a) b c = ap (λ xs. x ∷ xs) (assoc a b c)

within_last : (stride count n : ℕ) (rows : List StoredRow) (row : StoredRow) →
    rows_within stride count n (rows ++ row ∷ []) ≡ rows_within stride count n rows ++ row_within stride count (n +
    length rows + 1) row ∷ []
within_last stride count n [] row = ap (λ (m : ℕ). row_within stride count m row ∷ []) (omega arith)
within_last stride count n (x ∷ rows) row =
    ap (λ rs. row_within stride count (n + 1) x ∷ rs)
    (within_last stride count (n + 1) rows row ∙ ap (λ (m : ℕ). rows_within stride count (n + 1) rows ++ row_within
    stride count m row ∷ []) (omega arith))

pub map_more : {X Y : Type 0} (f : X → Y) (xs : List X) (old now next : List Y) (i : ℕ) (d : X) → i < length xs →
    now ≡ old ++ map f (take i xs) →
    next ≡ now ++ f (get_or xs i d) ∷ [] → next ≡ old ++ map f (take (i + 1) xs)
map_more f xs old now next i d h e g =
    g ∙ ap (λ ys. ys ++ f (get_or xs i d) ∷ []) e ∙ assoc old (map f (take i xs)) (f (get_or xs i d) ∷ []) ∙
    ap (λ ys. old ++ ys) (sym (map_last f (take i xs) (get_or xs i d)) ∙ ap (map f) (sym (take_more xs i d h)))

length_take : {X : Type 0} (xs : List X) (i : ℕ) → i ≤ length xs → length (take i xs) ≡ i
length_take [] zero h = refl
length_take [] (suc i) h = absurd (omega arith)
length_take (x ∷ xs) zero h = refl
length_take (x ∷ xs) (suc i) h = ap suc (length_take xs i (omega arith))

length_map : {X Y : Type 0} (f : X → Y) (xs : List X) → length (map f xs) ≡ length xs
length_map f [] = refl
length_map f (x ∷ xs) = ap suc (length_map f xs)

pub levels_so_far : {X Y : Type 0} (f : X → Y) (xs : List X) (old now : List Y) (i : ℕ) → i ≤ length xs →
    now ≡ old ++ map f (take i xs) → length now ≡ length old + i
levels_so_far f xs old now i h e =
    ap length e ∙ simp (length-append) (omega (arith, length_map f (take i xs), length_take xs i h))

pub within_more : (stride count : ℕ) (xs old now next : List StoredRow) (n i : ℕ) (m : ℕ) (d : StoredRow) →
    i < length xs → now ≡ old ++ rows_within stride count n (take i xs) →
    m ≡ n + i → next ≡ now ++ row_within stride count (m + 1) (get_or xs i d) ∷ [] →
    next ≡ old ++ rows_within stride count n (take (i + 1) xs)
within_more stride count xs old now next n i m d h e f g =
    let len = length_take xs i (omega (arith, h)) in
    g ∙ ap (λ ys. ys ++ row_within stride count (m + 1) (get_or xs i d) ∷ []) e ∙
    assoc old (rows_within stride count n (take i xs)) (row_within stride count (m + 1) (get_or xs i d) ∷ []) ∙
    ap (λ ys. old ++ ys)
    (ap (λ (p : ℕ). rows_within stride count n (take i xs) ++ row_within stride count p (get_or xs i d) ∷ []) (omega
    (arith, f, len)) ∙
    sym (within_last stride count n (take i xs) (get_or xs i d)) ∙ ap (rows_within stride count n) (sym (take_more xs
    i d h)))

-- ---- the rows that are added are sound

abbrev pub AllRows : Types → List StoredLevel → List StoredRow → Type 0
AllRows types levels [] = Unit {0}
AllRows types levels (row ∷ rows) = IsRow types levels row × AllRows types levels rows

pub by_place : (types : Types) (levels : List StoredLevel) (rows : List StoredRow) → AllRows types levels rows →
    (place : ℕ) (row : StoredRow) →
    slice_get rows place ≡ Some row → IsRow types levels row
by_place types levels [] all place row e = cc
by_place types levels (x ∷ rows) all zero row e = subst (λ r. IsRow types levels r) (let f : x ≡ row = cc in f) all.0
by_place types levels (x ∷ rows) all (suc place) row e = by_place types levels rows all.1 place row e

pub from_places : (types : Types) (levels : List StoredLevel) (rows : List StoredRow) →
    AreRows types levels rows → AllRows types levels rows
from_places types levels [] ok = tt
from_places types levels (row ∷ rows) ok = (
  ok 0 row refl,
  from_places types levels rows (λ place r e. ok (suc place)
      r e),
)

pub row_kept : (types : Types) (levels more : List StoredLevel) (row : StoredRow) → AreLevels levels →
    IsRow types levels row → IsRow types (levels ++ more) row
row_kept types levels more row ok r = record {
  known = r.known;
  sized = r.sized;
  filled = r.filled;
  headed = simp (length-append) (omega (arith, r.headed));
  keyed_by = r.keyed_by;
  reached = subst (λ ls. row.lo + extent ls (row.count * row.size) ≤ row.reach) (sym (chain_kept levels more ok
      row.levels r.headed)) r.reached;
  short = r.short;
}

pub rows_kept : (types : Types) (levels more : List StoredLevel) (rows : List StoredRow) → AreLevels levels →
    AllRows types levels rows → AllRows types (levels ++ more) rows
rows_kept types levels more [] ok all = tt
rows_kept types levels more (row ∷ rows) ok all = (
  row_kept types levels more row ok all.0,
  rows_kept types levels
      more rows ok all.1,
)

-- rows that fit an array
abbrev pub AreRoomy : ℕ → List StoredRow → Type 0
AreRoomy room [] = Unit {0}
AreRoomy room (row ∷ rows) = (row.reach + room < 2 ^ 32) × AreRoomy room rows

pub within_ok : (types : Types) (stride count : ℕ) → 0 < stride → (rows : List StoredRow) (levels : List StoredLevel)
    → AreLevels levels → AllRows types levels rows →
    AreRoomy ((count - 1) * stride) rows → AllRows types (levels ++ map (level_around stride count) rows)
    (rows_within stride count (length levels) rows)
within_ok types stride count s [] levels ok all roomy = tt
within_ok types stride count s (row ∷ rows) levels ok all roomy =
    let level = level_around stride count row in
    let more = map (level_around stride count) rows in
    let next = levels ++ level ∷ [] in
    let next_ok = level_added levels level ok s all.0.headed in
    let new = row_within stride count (length levels + 1) row in
    let chains : chain next new.levels ≡ record { stride = stride; count = count } ∷ chain levels row.levels =
    ap (λ r. r.levels) (row_repeated types levels row new level ok s all.0.headed refl refl refl refl (omega arith)) in
    let head : IsRow types next new = record {
      known = all.0.known;
      sized = all.0.sized;
      filled = all.0.filled;
      headed = omega (arith, length_more levels level);
      keyed_by = all.0.keyed_by;
      reached = subst (λ ls. row.lo + extent ls (row.count * row.size) ≤ row.reach + (count - 1) * stride) (sym
          chains) (omega (arith, all.0.reached));
      short = roomy.0;
    } in
    let whole : next ++ more ≡ levels ++ level ∷ more = append_assoc levels level more in
    subst (λ ls. AllRows types ls (new ∷ rows_within stride count (length levels + 1) rows)) whole (
      row_kept types next more new next_ok head,
      subst (λ (n : ℕ). AllRows types (next ++ more) (rows_within stride count n rows)) (length_more levels level)
          (within_ok types stride count s rows next next_ok (rows_kept types levels (level ∷ []) rows ok all.1)
          roomy.1),
    )

pub moved_ok : (types : Types) (levels : List StoredLevel) (by : ℕ) (rows : List StoredRow) →
    AllRows types levels rows → AreRoomy by rows →
    AllRows types levels (map (growing.row_moved by) rows)
moved_ok types levels by [] all roomy = tt
moved_ok types levels by (row ∷ rows) all roomy = (
  record {
    known = all.0.known;
    sized = all.0.sized;
    filled = all.0.filled;
    headed = all.0.headed;
    keyed_by = all.0.keyed_by;
    reached = omega (arith, all.0.reached);
    short = omega (arith, roomy.0);
  },
  moved_ok types levels by rows all.1 roomy.1,
)
