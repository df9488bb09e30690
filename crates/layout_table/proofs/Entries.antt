-- What a table has of a type.
use Rattle.std.proofs.Common.{◌≡◌, ◌⊎◌, ◌^◌, Bool, true, false, cond, inl, inr, ⊎_elim, ℕ, zero, suc, ◌+◌, ◌-◌, ◌*◌, ◌<◌, ◌≤◌, List, [], ◌∷◌, length, map, take, drop, Some, None, sym, ap, ◌∙◌, refl, arith, subst}
use Rattle.std.specs.Prelude.{Option, slice_get, nat_le, nat_lt, ◌==◌, ◌&&◌, ◌||◌, filter}
use Rattle.std.proofs.lemmas.Bool.Decides.{nat_tests}
use Rattle.c_types.specs.declared.kinds.CType.{CType}
use Rattle.c_types.specs.declared.kinds.CType.TheVariants as k
use Rattle.c_types.specs.declared.kinds.Field.{Field}
use Rattle.c_types.specs.Shapes.{Shape, Members, Void, Whole, Pointer, Array, Open, Struct, Union, Incomplete, size, number_of}
use Rattle.c_types.specs.Table.{Types, Tag, HasSize, kind_of, fields_of, tagged, shape_of, shape_of_kind}
use Rattle.type_layout.specs.Listed.{In}
use Rattle.layout_table.specs.declared.stored.StoredLevel.{StoredLevel}
use Rattle.layout_table.specs.declared.stored.StoredRow.{StoredRow}
use Rattle.layout_table.specs.declared.stored.StoredEntry.{StoredEntry}
use Rattle.type_layout.specs.Runs.{ShapeRun}
use Rattle.type_layout.specs.Matches.{tier_of, has_width, one_width, is_pointer_beside, void_pointers}
use Rattle.layout_table.specs.Strides.{Row, width, rows_in, value_at, value_before}
use Rattle.layout_table.specs.Stored.{AreRows, IsRow, chain, decoded, key_of, keyed, from_of, reach_of, may_hold, may_end, near, near_end}
use Rattle.layout_table.proofs.Levels.{IsStart, start_ends}
use Rattle.layout_table.proofs.Strided.{IsInstance, in_map, map_in}
use Rattle.layout_table.proofs.Fits.{rows_fit}
use Rattle.layout_table.proofs.Least.{Wanted}
use Rattle.layout_table.specs.Tables.{IsEntry, IsTableOf, rows_at, looked_rows, rows_inside, rows_ending}
use Rattle.layout_table.proofs.Objects.{Serves}

number_tagged : (whole : Members → Shape) (shape : ℕ → Shape) (n : ℕ) (fields : List Field) →
    ((members : Members) → number_of (whole members) ≡ n) →
    number_of (tagged whole shape n fields) ≡ n
number_tagged whole shape n [] h = refl
number_tagged whole shape n (f ∷ fields) h = h _

number_by : (tags : List Tag) (shape : ℕ → Shape) (n : ℕ) (o : Option CType) →
    number_of (shape_of_kind tags shape n o) ≡ n
number_by tags shape n None = refl
number_by tags shape n (Some k.Void) = refl
number_by tags shape n (Some (k.Num width signed)) = refl
number_by tags shape n (Some (k.Pointer to)) = refl
number_by tags shape n (Some (k.Array of count)) = refl
number_by tags shape n (Some (k.Flexible of)) = refl
number_by tags shape n (Some (k.Struct tag)) = number_tagged (Struct n) shape n (fields_of tags tag) (λ members. refl)
number_by tags shape n (Some (k.Union tag)) = number_tagged (Union n) shape n (fields_of tags tag) (λ members. refl)

pub number_is : (types : Types) (n : ℕ) → number_of (shape_of types n) ≡ n
unfolding shape_of
number_is types n = number_by types.tags _ n (kind_of types n)

-- a place of a part of a list
slice_take : {X : Type 0} (xs : List X) (n p : ℕ) (x : X) → slice_get (take n xs) p ≡ Some x → slice_get xs p ≡ Some x
slice_take [] zero p x e = e
slice_take [] (suc n) p x e = e
slice_take (y ∷ xs) zero p x e = cc
slice_take (y ∷ xs) (suc n) zero x e = e
slice_take (y ∷ xs) (suc n) (suc p) x e = slice_take xs n p x e

slice_drop : {X : Type 0} (xs : List X) (n p : ℕ) (x : X) → slice_get (drop n xs) p ≡ Some x → (q : ℕ) ×
    (slice_get xs q ≡ Some x)
slice_drop [] zero p x e = (p, e)
slice_drop [] (suc n) p x e = (p, e)
slice_drop (y ∷ xs) zero p x e = (p, e)
slice_drop (y ∷ xs) (suc n) p x e = let r = slice_drop xs n p x e in (suc r.0, r.1)

pub part_rows_ok : (types : Types) (levels : List StoredLevel) (rows : List StoredRow) (start count : ℕ) →
    AreRows types levels rows → AreRows types levels (take count (drop start rows))
part_rows_ok types levels rows start count ok =
    λ place row e. let r = slice_drop rows start place row (slice_take (drop start rows) count place row e) in
    ok r.0 row r.1

-- ---- types that match have one key

same_number : {a b : ℕ} → (a == b) ≡ true → a ≡ b
same_number e = grind (arith, nat_tests)

wide_key : (w : ℕ) (want : Shape) → has_width w want ≡ true → w ≡ key_of want
wide_key w (Void n) e = cc
wide_key w (Whole n width signed) e = grind (arith, nat_tests)
wide_key w (Pointer n to) e = cc
wide_key w (Array n of count) e = cc
wide_key w (Open n of) e = cc
wide_key w (Struct n members) e = cc
wide_key w (Union n members) e = cc
wide_key w (Incomplete n) e = cc

width_key : (kind want : Shape) → one_width kind want ≡ true → key_of kind ≡ key_of want
width_key (Void n) want e = cc
width_key (Whole n width signed) want e = wide_key width want e
width_key (Pointer n to) want e = cc
width_key (Array n of count) want e = cc
width_key (Open n of) want e = cc
width_key (Struct n members) want e = cc
width_key (Union n members) want e = cc
width_key (Incomplete n) want e = cc

beside_key : (b : Bool) (want : Shape) → is_pointer_beside b want ≡ true → 9 ≡ key_of want
beside_key b (Void n) e = cc
beside_key b (Whole n width signed) e = cc
beside_key b (Pointer n to) e = refl
beside_key b (Array n of count) e = cc
beside_key b (Open n of) e = cc
beside_key b (Struct n members) e = cc
beside_key b (Union n members) e = cc
beside_key b (Incomplete n) e = cc

pointer_key : (kind want : Shape) → void_pointers kind want ≡ true → key_of kind ≡ key_of want
pointer_key (Void n) want e = cc
pointer_key (Whole n width signed) want e = cc
pointer_key (Pointer n to) want e = beside_key (to == 1) want e
pointer_key (Array n of count) want e = cc
pointer_key (Open n of) want e = cc
pointer_key (Struct n members) want e = cc
pointer_key (Union n members) want e = cc
pointer_key (Incomplete n) want e = cc

tier_step : (types : Types) (a b tier : ℕ) (p q r : Bool) → (number_of (shape_of types a) == number_of (shape_of
    types b)) ≡ p →
    one_width (shape_of types a) (shape_of types b) ≡ q → void_pointers (shape_of types a) (shape_of types b) ≡ r →
    cond (p || q) (Some 1) (cond r (Some 2) None) ≡ Some tier → key_of (shape_of types a) ≡ key_of (shape_of types b)
tier_step types a b tier true q r e f g h = ap (λ (n : ℕ). key_of (shape_of types n)) (sym (number_is types a) ∙
    same_number e ∙ number_is types b)
tier_step types a b tier false true r e f g h = width_key (shape_of types a) (shape_of types b) f
tier_step types a b tier false false true e f g h = pointer_key (shape_of types a) (shape_of types b) g
tier_step types a b tier false false false e f g h = cc

same_key : (types : Types) (a b tier : ℕ) → tier_of (shape_of types a) (shape_of types b) ≡ Some tier →
    key_of (shape_of types a) ≡ key_of (shape_of types b)
same_key types a b tier e =
    tier_step types a b tier (number_of (shape_of types a) == number_of (shape_of types b)) (one_width (shape_of
    types a) (shape_of types b))
    (void_pointers (shape_of types a) (shape_of types b)) refl refl refl e

-- ---- rows that pass a test

kept_step : (row x : StoredRow) (rest : List StoredRow) (b : Bool) → In row rest → In row (cond b (x ∷ rest) rest)
kept_step row x rest true i = inr i
kept_step row x rest false i = i

keep : (test : StoredRow → Bool) (row : StoredRow) (rows : List StoredRow) → In row rows → test row ≡ true →
    In row (filter test rows)
keep test row [] i e = absurd i
keep test row (x ∷ rows) i e =
    ⊎_elim (λ f. rw (← f, e) (inl refl)) (λ j. kept_step row x (filter test rows) (test x) (keep test row rows j e)) i

kept_in : (row x : StoredRow) (rest : List StoredRow) (b : Bool) → In row (cond b (x ∷ rest) rest) →
    (row ≡ x) ⊎ In row rest
kept_in row x rest true i = i
kept_in row x rest false i = inr i

kept_is : (test : StoredRow → Bool) (row : StoredRow) (rows : List StoredRow) → In row (filter test rows) → In row rows
kept_is test row [] i = absurd i
kept_is test row (x ∷ rows) i = ⊎_elim inl (λ j. inr (kept_is test row rows j)) (kept_in row x (filter test rows)
    (test x) i)

holds : (row : StoredRow) (key place : ℕ) → row.key ≡ key → row.lo ≤ place → place < row.reach →
    may_hold key place row ≡ true
holds row key place e l r = both (keyed key place) (reach_of row) (from_of row) (omega (arith, above)) (omega (
  arith,
  below,
))
  where
    above : key * 2 ^ 32 + place < row.key * 2 ^ 32 + row.reach
    above = rw e (omega (arith, r))

    below : row.key * 2 ^ 32 + row.lo ≤ key * 2 ^ 32 + place
    below = rw e (omega (arith, l))

    both : (a r f : ℕ) → a < r → f ≤ a → (nat_lt a r && nat_le f a) ≡ true
    both a r f h i = grind (arith, nat_tests)

holds_end : (row : StoredRow) (key place : ℕ) → row.key ≡ key → row.lo < place → place ≤ row.reach →
    may_end key place row ≡ true
holds_end row key place e l r = both (keyed key place) (reach_of row) (from_of row) (omega (arith, above)) (omega
    (arith, below))
  where
    above : key * 2 ^ 32 + place ≤ row.key * 2 ^ 32 + row.reach
    above = rw e (omega (arith, r))

    below : row.key * 2 ^ 32 + row.lo < key * 2 ^ 32 + place
    below = rw e (omega (arith, l))

    both : (a r f : ℕ) → a ≤ r → f < a → (nat_le a r && nat_lt f a) ≡ true
    both a r f h i = grind (arith, nat_tests)

in_place : (rows : List StoredRow) (row : StoredRow) → In row rows → (place : ℕ) × (slice_get rows place ≡ Some row)
in_place [] row i = absurd i
in_place (x ∷ rows) row i = ⊎_elim (λ e. (0, ap Some (sym e))) (λ j. let r = in_place rows row j in (suc r.0, r.1)) i

pub in_rows_ok : (types : Types) (levels : List StoredLevel) (rows : List StoredRow) (row : StoredRow) →
    AreRows types levels rows → In row rows → IsRow types levels row
in_rows_ok types levels rows row ok i = let p = in_place rows row i in ok p.0 row p.1

pub place_in : (rows : List StoredRow) (row : StoredRow) (place : ℕ) → slice_get rows place ≡ Some row → In row rows
place_in [] row place e = cc
place_in (x ∷ rows) row zero e = inl (let f : x ≡ row = cc in sym f)
place_in (x ∷ rows) row (suc place) e = inr (place_in rows row place e)

pub filter_rows_ok : (types : Types) (levels : List StoredLevel) (rows : List StoredRow) (test : StoredRow →
    Bool) → AreRows types levels rows →
    AreRows types levels (filter test rows)
filter_rows_ok types levels rows test ok =
    λ place row e. in_rows_ok types levels rows row ok (kept_is test row rows (place_in (filter test rows) row place e))

fewer : (types : Types) (levels : List StoredLevel) (test : StoredRow → Bool) (row : Row) (rows : List StoredRow) →
    In row (map (decoded types levels) (filter test rows)) → In row (map (decoded types levels) rows)
fewer types levels test row rows i =
    let r = map_in (decoded types levels) row (filter test rows) i in
    subst (λ x. In x (map (decoded types levels) rows)) (sym r.2) (in_map (decoded types levels) r.0 rows (kept_is
    test r.0 rows r.1))

module _ (types : Types) (entries : List StoredEntry) (rows : List StoredRow) (levels : List StoredLevel) (table :
    IsTableOf types entries rows levels) where
  pub is_known : (t : ℕ) → HasSize types t → (1 ≤ t) × (t ≤ length entries)
  is_known t h = (omega (arith, h.0.0), omega (arith, h.0.1, table.count))

  module _ (t : ℕ) (has : HasSize types t) (entry : StoredEntry) (at : slice_get entries (t - 1) ≡ Some entry) where
    pub ok : IsEntry types rows levels t entry
    ok = table.entry t entry has at

    pub inside_are : (base count key k : ℕ) →
        rows_inside types entries rows levels key k (record { kind = shape_of types t; base = base; count = count }) ≡
        map (decoded types levels) (near key k (value_at (size (shape_of types t)) base count k) (rows_at rows entry))
    inside_are base count key k =
        ap (λ (n : ℕ). looked_rows types levels rows (near key k (value_at (size (shape_of types t)) base count k))
        (slice_get entries (n - 1))) (number_is types t) ∙
        ap (looked_rows types levels rows (near key k (value_at (size (shape_of types t)) base count k))) at

    pub ending_are : (base count key k : ℕ) →
        rows_ending types entries rows levels key k (record { kind = shape_of types t; base = base; count = count }) ≡
        map (decoded types levels) (near_end key k (value_before (size (shape_of types t)) base count k) (rows_at
        rows entry))
    ending_are base count key k =
        ap (λ (n : ℕ). looked_rows types levels rows (near_end key k (value_before (size (shape_of types t)) base
        count k)) (slice_get entries (n - 1))) (number_is types t) ∙
        ap (looked_rows types levels rows (near_end key k (value_before (size (shape_of types t)) base count k))) at

    -- a row that matches and has a run there is looked at
    module _ (want k from : ℕ) (row : Row) (run : ShapeRun) (known : In row (rows_in (shape_of types t))) (wanted :
        Wanted (shape_of types want) row.kind)
        (is : IsInstance row from run) (least : run.lo ≤ k) where
      stored : (s : StoredRow) × In s (rows_at rows entry) × (row ≡ decoded types levels s)
      stored = map_in (decoded types levels) row (rows_at rows entry) (ok.all row known)

      row_is : IsRow types levels stored.0
      row_is = in_rows_ok types levels (rows_at rows entry) stored.0 (part_rows_ok types levels rows entry.start
          (entry.end - entry.start) table.rows_ok) stored.1

      lo : run.lo ≡ from + stored.0.lo + is.0
      lo = ap (λ r. r.lo) is.2 ∙ ap (λ (r : Row). from + r.lo + is.0) stored.2

      wide : width row ≡ stored.0.count * stored.0.size
      wide = ap width stored.2 ∙ ap (λ (n : ℕ). stored.0.count * n) (sym row_is.sized)

      start : IsStart (chain levels stored.0.levels) is.0
      start = subst (λ (r : Row). IsStart r.levels is.0) stored.2 is.1

      reaches : stored.0.lo + is.0 + width row ≤ stored.0.reach
      reaches =
          let e = start_ends (chain levels stored.0.levels) (stored.0.count * stored.0.size) is.0 start in
          omega (arith, e, row_is.reached, wide)

      key_is : stored.0.key ≡ key_of (shape_of types want)
      key_is = row_is.keyed_by ∙ same_key types stored.0.kind want wanted.0 (subst (λ (r : Row). tier_of r.kind
          (shape_of types want) ≡ Some wanted.0) stored.2 wanted.1)

      pub held : k < run.lo + width row → In row (map (decoded types levels) (filter (may_hold (key_of (shape_of
          types want)) (k - from)) (rows_at rows entry)))
      held to =
          subst (λ r. In r (map (decoded types levels) (filter (may_hold (key_of (shape_of types want)) (k - from))
          (rows_at rows entry)))) (sym stored.2)
          (in_map (decoded types levels) stored.0 (filter (may_hold (key_of (shape_of types want)) (k - from))
          (rows_at rows entry))
          (keep (may_hold (key_of (shape_of types want)) (k - from)) stored.0 (rows_at rows entry) stored.1
          (holds stored.0 (key_of (shape_of types want)) (k - from) key_is (omega (arith, lo, least)) (omega (
            arith,
            lo,
            least,
            to,
            reaches,
          )))))

      pub ends : k ≡ run.lo + width row → 0 < width row → In row (map (decoded types levels) (filter (may_end (key_of
          (shape_of types want)) (k - from)) (rows_at rows entry)))
      ends to filled =
          subst (λ r. In r (map (decoded types levels) (filter (may_end (key_of (shape_of types want)) (k - from))
          (rows_at rows entry)))) (sym stored.2)
          (in_map (decoded types levels) stored.0 (filter (may_end (key_of (shape_of types want)) (k - from))
          (rows_at rows entry))
          (keep (may_end (key_of (shape_of types want)) (k - from)) stored.0 (rows_at rows entry) stored.1
          (holds_end stored.0 (key_of (shape_of types want)) (k - from) key_is (omega (arith, lo, to, filled)) (omega
          (arith, lo, to, reaches)))))

    inside_less : (key k : ℕ) (value : Option ℕ) (row : Row) → In row (map (decoded types levels) (near key k value
        (rows_at rows entry))) → In row (rows_in (shape_of types t))
    inside_less key k None row i = absurd i
    inside_less key k (Some from) row i = ok.no_more row (fewer types levels (may_hold key (k - from)) row (rows_at
        rows entry) i)

    ending_less : (key k : ℕ) (value : Option ℕ) (row : Row) → In row (map (decoded types levels) (near_end key k
        value (rows_at rows entry))) → In row (rows_in (shape_of types t))
    ending_less key k None row i = absurd i
    ending_less key k (Some from) row i = ok.no_more row (fewer types levels (may_end key (k - from)) row (rows_at
        rows entry) i)

    filled_row : (row : Row) → In row (rows_in (shape_of types t)) → 0 < width row
    filled_row row i = (rows_fit (shape_of types t) ok.sound row i).filled

    -- its rows serve each part of that type
    pub serves : (base count k want key : ℕ) → key ≡ key_of (shape_of types want) →
        Serves k (shape_of types want) (rows_inside types entries rows levels key k (record {
          kind = shape_of types
              t;
          base = base;
          count = count;
        }))
        (rows_ending types entries rows levels key k (record {
          kind = shape_of types t;
          base = base;
          count = count;
        })) (record { kind = shape_of types t; base = base; count = count })
    serves base count k want key e =
        let is = inside_are base count key k in
        let es = ending_are base count key k in
        record {
          sound = ok.sound;
          inner_rows = λ row i. inside_less key k (value_at (size (shape_of types t)) base count k) row (subst (λ rs.
              In row rs) is i);
          end_rows = λ row i. ending_less key k (value_before (size (shape_of types t)) base count k) row (subst (λ
              rs. In row rs) es i);
          inner_all = λ from row run v i w n l h. subst (λ rs. In row rs) (sym is)
              (subst (λ o. In row (map (decoded types levels) (near key k o (rows_at rows entry)))) (sym v)
              (subst (λ (y : ℕ). In row (map (decoded types levels) (filter (may_hold y (k - from)) (rows_at rows
              entry)))) (sym e)
              (held want k from row run i w n l h)));
          ends_all = λ from row run v i w n h. subst (λ rs. In row rs) (sym es)
              (subst (λ o. In row (map (decoded types levels) (near_end key k o (rows_at rows entry)))) (sym v)
              (subst (λ (y : ℕ). In row (map (decoded types levels) (filter (may_end y (k - from)) (rows_at rows
              entry)))) (sym e)
              (ends want k from row run i w n (omega (arith, h)) h (filled_row row i))));
        }
