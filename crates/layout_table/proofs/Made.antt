-- The rows of a type that is made of types that have entries, and its entry.
use Rattle.std.proofs.Common.{◌≡◌, ℕ, zero, suc, ◌+◌, ◌-◌, ◌<◌, ◌≤◌, List, [], ◌∷◌, ◌++◌, length, map, take, drop, set, Bool, true, false, cond, Some, None, sym, ap, ◌∙◌, refl, arith, subst, ⊎_elim, ◌⊎◌, length-append, ◌^◌}
use Rattle.std.specs.Prelude.{Option, slice_get, Contains}
use Rattle.c_types.specs.Shapes.{Shape, is_complete, size, size_of_shape}
use Rattle.c_types.specs.Table.{Types, HasSize, shape_of}
use Rattle.c_types.specs.Holds.{IsTable}
use Rattle.type_layout.specs.Listed.{In}
use Rattle.layout_table.specs.declared.stored.StoredLevel.{StoredLevel}
use Rattle.layout_table.specs.declared.stored.StoredRow.{StoredRow}
use Rattle.layout_table.specs.declared.stored.StoredEntry.{StoredEntry}
use Rattle.layout_table.specs.declared.stored.StoredTail.{StoredTail}
use Rattle.layout_table.specs.Strides.{Row}
use Rattle.layout_table.specs.Stored.{AreLevels, AreOrdered, AreRows, IsRow, decoded}
use Rattle.layout_table.specs.Tables.{IsEntry, rows_at, tail_of}
use Rattle.layout_table.proofs.Entries.{in_rows_ok, part_rows_ok, place_in}
use Rattle.layout_table.specs.Ordering.{AreSameRows, AreShort, IsRaised, StaysWithin}
use Rattle.layout_table.specs.Making.{AreOwn, IsSoFar, IsTail}
use Rattle.layout_table.proofs.Strided.{in_map, map_in}
use Rattle.layout_table.proofs.Growth.{AreHeaded, AllRows, by_place, from_places, kept_all, rows_kept}
use Rattle.layout_table.proofs.Whole.{positive, sound, whole}

-- ---- the same rows in another order

raised_decoded : (types : Types) (levels : List StoredLevel) (old new : StoredRow) → IsRaised old new →
    decoded types levels new ≡ decoded types levels old
raised_decoded types levels old new r = ap (decoded types levels) r.same

module _ (types : Types) (levels : List StoredLevel) (old new : List StoredRow) (same : AreSameRows old new) where
  pub still_there : (row : Row) → In row (map (decoded types levels) old) → In row (map (decoded types levels) new)
  still_there row i =
      let m = map_in (decoded types levels) row old i in
      let k = same.kept m.0 m.1 in
      subst (λ r. In r (map (decoded types levels) new)) (raised_decoded types levels m.0 k.0 k.2 ∙
      sym m.2) (in_map (decoded types levels) k.0 new k.1)

  pub there_before : (row : Row) → In row (map (decoded types levels) new) → In row (map (decoded types levels) old)
  there_before row i =
      let m = map_in (decoded types levels) row new i in
      let k = same.known m.0 m.1 in
      subst (λ r. In r (map (decoded types levels) old)) (sym (raised_decoded types levels k.0 m.0 k.2) ∙
      sym m.2) (in_map (decoded types levels) k.0 old k.1)

-- ---- the last rows

drop_all : {X : Type 0} (xs ys : List X) → drop (length xs) (xs ++ ys) ≡ ys
drop_all [] ys = refl
drop_all (x ∷ xs) ys = drop_all xs ys

take_all_of : {X : Type 0} (ys : List X) (n : ℕ) → n ≡ length ys → take n ys ≡ ys
take_all_of [] zero e = refl
take_all_of [] (suc n) e = refl
take_all_of (y ∷ ys) zero e = absurd (omega (arith, e))
take_all_of (y ∷ ys) (suc n) e = ap (λ zs. y ∷ zs) (take_all_of ys n (omega (arith, e)))

pub last_rows : (rows new : List StoredRow) (entry : StoredEntry) → entry.start ≡ length rows →
    entry.end ≡ length rows + length new → rows_at (rows ++ new) entry ≡ new
last_rows rows new entry s e =
    ap (λ (n : ℕ). take (entry.end - entry.start) (drop n (rows ++ new))) s ∙
    ap (take (entry.end - entry.start)) (drop_all rows new) ∙
    take_all_of new (entry.end - entry.start) (omega (arith, s, e))

take_kept : {X : Type 0} (xs ys : List X) (n : ℕ) → n ≤ length xs → take n (xs ++ ys) ≡ take n xs
take_kept [] ys zero h = refl
take_kept [] ys (suc n) h = absurd (omega arith)
take_kept (x ∷ xs) ys zero h = refl
take_kept (x ∷ xs) ys (suc n) h = ap (λ zs. x ∷ zs) (take_kept xs ys n (omega arith))

part_kept : {X : Type 0} (xs ys : List X) (s n : ℕ) → s + n ≤ length xs →
    take n (drop s (xs ++ ys)) ≡ take n (drop s xs)
part_kept xs ys zero n h = take_kept xs ys n (omega (arith, h))
part_kept [] ys (suc s) n h = absurd (omega arith)
part_kept (x ∷ xs) ys (suc s) n h = part_kept xs ys s n (omega (arith, h))

pub earlier_rows : (rows new : List StoredRow) (entry : StoredEntry) → entry.start ≤ entry.end →
    entry.end ≤ length rows → rows_at (rows ++ new) entry ≡ rows_at rows entry
earlier_rows rows new entry o e = part_kept rows new entry.start (entry.end - entry.start) (omega (arith, o, e))

-- ---- an entry stays when rows and levels are added

pub headed : (types : Types) (levels : List StoredLevel) (rows : List StoredRow) → AreRows types levels rows →
    AreHeaded levels rows
headed types levels [] ok = tt
headed types levels (row ∷ rows) ok = (
  (ok 0 row refl).headed,
  headed types levels rows (λ place r e. ok (suc place)
      r e),
)

pub part_ok : (types : Types) (levels : List StoredLevel) (rows : List StoredRow) (entry : StoredEntry) →
    AreRows types levels rows → AreRows types levels (rows_at rows entry)
part_ok types levels rows entry ok = part_rows_ok types levels rows entry.start (entry.end - entry.start) ok

pub entry_kept : (types : Types) (rows new : List StoredRow) (levels more : List StoredLevel) (t : ℕ) (entry :
    StoredEntry) → AreLevels levels → AreRows types levels rows →
    IsEntry types rows levels t entry → IsEntry types (rows ++ new) (levels ++ more) t entry
entry_kept types rows new levels more t entry lok rok e =
    let same : rows_at (rows ++ new) entry ≡ rows_at rows entry = earlier_rows rows new entry e.ordered e.ended in
    let dec : map (decoded types (levels ++ more)) (rows_at (rows ++ new) entry) ≡ map (decoded types levels)
    (rows_at rows entry) =
    ap (map (decoded types (levels ++ more))) same ∙ kept_all types levels more lok (rows_at rows entry) (headed
    types levels (rows_at rows entry) (part_ok types levels rows entry rok)) in
    record {
      sized = e.sized;
      filled = e.filled;
      sound = e.sound;
      ordered = e.ordered;
      ended = simp (length-append) (omega (arith, e.ended));
      sorted = subst AreOrdered (sym same) e.sorted;
      all = λ row i. subst (λ rs. In row rs) (sym dec) (e.all row i);
      no_more = λ row i. e.no_more row (subst (λ rs. In row rs) dec i);
      tail = e.tail;
      tail_known = e.tail_known;
      short = λ row i. e.short row (subst (λ rs. In row rs) same i);
    }

-- ---- rows of both

all_both : (types : Types) (levels : List StoredLevel) (a b : List StoredRow) → AllRows types levels a →
    AllRows types levels b → AllRows types levels (a ++ b)
all_both types levels [] b h i = i
all_both types levels (x ∷ a) b h i = (h.0, all_both types levels a b h.1 i)

pub both_ok : (types : Types) (rows new : List StoredRow) (levels more : List StoredLevel) → AreLevels levels →
    AreRows types levels rows → AreRows types (levels ++ more) new →
    AreRows types (levels ++ more) (rows ++ new)
both_ok types rows new levels more lok rok nok =
    by_place types (levels ++ more) (rows ++ new)
    (all_both types (levels ++ more) rows new (rows_kept types levels more rows lok (from_places types levels rows
    rok)) (from_places types (levels ++ more) new nok))

-- ---- rows that reach further are rows still

in_places : (types : Types) (levels : List StoredLevel) (rows : List StoredRow) → ((row : StoredRow) →
    In row rows → IsRow types levels row) → AreRows types levels rows
in_places types levels rows h = λ place row e. h row (place_in rows row place e)

raised_row : (types : Types) (levels : List StoredLevel) (old new : StoredRow) → IsRaised old new →
    IsRow types levels old → new.reach < 2 ^ 32 → IsRow types levels new
raised_row types levels old new r ok s =
    subst (IsRow types levels) (sym r.same)
    (record {
      known = ok.known;
      sized = ok.sized;
      filled = ok.filled;
      headed = ok.headed;
      keyed_by = ok.keyed_by;
      reached = omega (arith, ok.reached, r.further);
      short = s;
    })

pub ordered_ok : (types : Types) (levels : List StoredLevel) (old new : List StoredRow) (top : ℕ) →
    AreSameRows old new → AreRows types levels old → AreShort top new → top ≤ 1048559 →
    AreRows types levels new
ordered_ok types levels old new top same ok short small =
    in_places types levels new (λ row i. let k = same.known row i in raised_row types levels k.0 row k.2 (in_rows_ok
    types levels old k.0 ok k.1) (omega (arith, short row i, small)))

pub low : (types : Types) (levels : List StoredLevel) (rows : List StoredRow) → AreRows types levels rows →
    (row : StoredRow) → In row rows → row.lo ≤ row.reach
low types levels rows ok row i = let r = in_rows_ok types levels rows row ok i in omega (arith, r.reached)

-- ---- the entry of one more type

module _ (types : Types) (table : IsTable types) (rows own new : List StoredRow) (old levels : List StoredLevel) (t :
    ℕ) (has : HasSize types t) (are : AreOwn types old levels t own)
    (same : AreSameRows own new) (ordered : AreOrdered new) (short : AreShort (size (shape_of types t)) new) (tail :
    StoredTail) (is_tail : IsTail types t tail) where
  pub made_entry : (made : StoredEntry) → made.size ≡ size (shape_of types t) → made.start ≡ length rows →
      made.end ≡ length rows + length new → made.tail ≡ tail.of → made.tail_at ≡ tail.at →
      IsEntry types (rows ++ new) levels t made
  made_entry made z s n o a =
      let last : rows_at (rows ++ new) made ≡ new = last_rows rows new made s n in
      record {
        sized = z;
        filled = omega (arith, z, positive types table (shape_of types t) (whole types table t has));
        sound = sound types table (shape_of types t) (whole types table t has);
        ordered = omega (arith, s, n);
        ended = simp (length-append) (omega (arith, n));
        sorted = subst AreOrdered (sym last) ordered;
        all = λ row i. subst (λ rs. In row (map (decoded types levels) rs)) (sym last) (still_there types levels own
            new same row (are.all row i));
        no_more = λ row i. are.no_more row (there_before types levels own new same row (subst (λ rs. In row (map
            (decoded types levels) rs)) last i));
        tail = is_tail.is ∙ tail_same made tail o a;
        tail_known = λ h. subst (HasSize types) (sym o) (is_tail.known (λ e. h (o ∙ e)));
        short = λ row i. subst (λ (m : ℕ). row.reach ≤ m) (sym z) (short row (subst (λ rs. In row rs) last i));
      }
    where
      tail_same : (made : StoredEntry) (tail : StoredTail) → made.tail ≡ tail.of → made.tail_at ≡ tail.at →
          tail_of types (record {
            size = 0;
            start = 0;
            end = 0;
            tail = tail.of;
            tail_at = tail.at;
          }) ≡ tail_of types made
      tail_same made tail o a =
          ap (λ (n : ℕ). tail_of types (record { size = 0; start = 0; end = 0; tail = n; tail_at = tail.at })) (sym o) ∙
          ap (λ (n : ℕ). tail_of types (record { size = 0; start = 0; end = 0; tail = made.tail; tail_at = n })) (sym a)

-- ---- entries that are set

set_same : {X : Type 0} (xs : List X) (i : ℕ) (y z : X) → slice_get (set xs i y) i ≡ Some z → z ≡ y
set_same [] i y z e = cc
set_same (x ∷ xs) zero y z e = let f : y ≡ z = cc in sym f
set_same (x ∷ xs) (suc i) y z e = set_same xs i y z e

set_else : {X : Type 0} (xs : List X) (i j : ℕ) (y : X) → (j ≡ i → ⊥) → slice_get (set xs i y) j ≡ slice_get xs j
set_else [] i j y n = refl
set_else (x ∷ xs) zero zero y n = absurd (n refl)
set_else (x ∷ xs) zero (suc j) y n = refl
set_else (x ∷ xs) (suc i) zero y n = refl
set_else (x ∷ xs) (suc i) (suc j) y n = set_else xs i j y (λ e. n (ap suc e))

set_length : {X : Type 0} (xs : List X) (i : ℕ) (y : X) → length (set xs i y) ≡ length xs
set_length [] i y = refl
set_length (x ∷ xs) zero y = refl
set_length (x ∷ xs) (suc i) y = ap suc (set_length xs i y)

same_or_else : (t u : ℕ) → (t ≡ u) ⊎ (t ≡ u → ⊥)
same_or_else t u = grind arith

other_place : (t u : ℕ) → 1 ≤ t → 1 ≤ u → (t ≡ u → ⊥) → t - 1 ≡ u - 1 → ⊥
other_place t u h i n e = n (omega (arith, h, i, e))

-- One more type with its entry.
module _ (types : Types) (done next : List ℕ) (entries : List StoredEntry) (rows new : List StoredRow) (levels more :
    List StoredLevel) (t : ℕ) (has : HasSize types t)
    (so_far : IsSoFar types done entries rows levels) (cases : (n : ℕ) → Contains next n →
    Contains done n ⊎ (n ≡ t)) (made : StoredEntry)
    (ok : IsEntry types (rows ++ new) (levels ++ more) t made) (rows_ok : AreRows types (levels ++ more) new)
    (levels_ok : AreLevels (levels ++ more)) where
  pub one_more : IsSoFar types next (set entries (t - 1) made) (rows ++ new) (levels ++ more)
  one_more = record {
    count = set_length entries (t - 1) made ∙ so_far.count;
    entry = λ u e c h at. ⊎_elim
        (λ s. subst (λ (n : ℕ). IsEntry types (rows ++ new) (levels ++ more) n e) (sym s)
        (subst (IsEntry types (rows ++ new) (levels ++ more) t) (sym (set_same entries (t - 1) made e (subst (λ (n :
        ℕ). slice_get (set entries (t - 1) made) (n - 1) ≡ Some e) s at))) ok))
        (λ n. old u e h (cases u c) n (sym (set_else entries (t - 1) (u - 1) made (other_place u t h.0.0 has.0.0 n))
        ∙ at)) (same_or_else u t);
    none = λ u e n o at. ⊎_elim
        (λ s. absurd (lies (is_complete (shape_of types t)) has.1 (subst (λ (m : ℕ). is_complete (shape_of types m) ≡
        false) s o)))
        (λ d. so_far.none u e n o (sym (set_else entries (t - 1) (u - 1) made (other_place u t n.0 has.0.0 d)) ∙
        at)) (same_or_else u t);
    rows_ok = both_ok types rows new levels more so_far.levels_ok so_far.rows_ok rows_ok;
    levels_ok = levels_ok;
  }
    where
      lies : (b : Bool) → b ≡ true → b ≡ false → ⊥
      lies true e f = cc
      lies false e f = cc

      old : (u : ℕ) (e : StoredEntry) → HasSize types u → Contains done u ⊎ (u ≡ t) → (u ≡ t → ⊥) →
          slice_get entries (u - 1) ≡ Some e → IsEntry types (rows ++ new) (levels ++ more) u e
      old u e h c n at =
          ⊎_elim (λ d. entry_kept types rows new levels more u e so_far.levels_ok so_far.rows_ok (so_far.entry u e d
          h at)) (λ s. absurd (n s)) c

-- A type without a size has no entry.
pub one_skipped : (types : Types) (done next : List ℕ) (entries : List StoredEntry) (rows : List StoredRow) (levels :
    List StoredLevel) (t : ℕ) → is_complete (shape_of types t) ≡ false →
    IsSoFar types done entries rows levels → ((n : ℕ) → Contains next n → Contains done n ⊎ (n ≡ t)) →
    IsSoFar types next entries rows levels
one_skipped types done next entries rows levels t o so_far cases = record {
  count = so_far.count;
  entry = λ u e c h at.
      ⊎_elim (λ d. so_far.entry u e d h at)
      (λ s. absurd (lies (is_complete (shape_of types u)) h.1 (subst (λ (m : ℕ). is_complete (shape_of types m) ≡
      false) (sym s) o))) (cases u c);
  none = so_far.none;
  rows_ok = so_far.rows_ok;
  levels_ok = so_far.levels_ok;
}
  where
    lies : (b : Bool) → b ≡ true → b ≡ false → ⊥
    lies true e f = cc
    lies false e f = cc

-- a type of a number has a size, or not
pub some_size : (shape : Shape) (n : ℕ) → Some n ≡ size_of_shape shape → (is_complete shape ≡ true) × (n ≡ size shape)
some_size shape n e = by (is_complete shape) (size shape) n e
  where
    by : (b : Bool) (m n : ℕ) → Some n ≡ cond b (Some m) None → (b ≡ true) × (n ≡ m)
    by true m n e = (refl, cc)
    by false m n e = cc

pub no_size : (shape : Shape) → None ≡ size_of_shape shape → is_complete shape ≡ false
no_size shape e = by (is_complete shape) (size shape) (sym e)
  where
    by : (b : Bool) (m : ℕ) → cond {A = Option ℕ} b (Some m) None ≡ None → b ≡ false
    by true m e = cc
    by false m e = refl

-- All that adding a type does.
pub type_added : (types : Types) (table : IsTable types) (rows own new : List StoredRow) (old levels : List
    StoredLevel) (t : ℕ) (has : HasSize types t) → AreOwn types old levels t own →
    AreSameRows own new → AreOrdered new → StaysWithin own new → (tail : StoredTail) → IsTail types t tail →
    (made : StoredEntry) → made.size ≡ size (shape_of types t) →
    made.start ≡ length rows → made.end ≡ length rows + length new → made.tail ≡ tail.of →
    made.tail_at ≡ tail.at → (entries : List StoredEntry) (now : List StoredRow) → now ≡ rows ++ new →
    (done next : List ℕ) → IsSoFar types done entries rows old → ((n : ℕ) → Contains next n →
    Contains done n ⊎ (n ≡ t)) → IsSoFar types next (set entries (t - 1) made) now levels
type_added types table rows own new old levels t has are same ordered short tail is_tail made z s n o a entries now e
    done next so_far cases =
    let top_is : AreShort (size (shape_of types t)) new = short.each (size (shape_of types t)) are.short in
    let whole_rows : IsEntry types (rows ++ new) levels t made = made_entry types table rows own new old levels t has
    are same ordered top_is tail is_tail made z s n o a in
    let new_ok : AreRows types levels new = ordered_ok types levels own new (size (shape_of types t)) same
    are.rows_ok top_is (table.sized t has.1).1 in
    subst (λ rs. IsSoFar types next (set entries (t - 1) made) rs levels) (sym e)
    (subst (λ ls. IsSoFar types next (set entries (t - 1) made) (rows ++ new) ls) (sym are.longer)
    (one_more types done next entries rows new old are.more t has so_far cases made
    (subst (λ ls. IsEntry types (rows ++ new) ls t made) are.longer whole_rows) (subst (λ ls. AreRows types ls new)
    are.longer new_ok) (subst AreLevels are.longer are.levels_ok)))
