-- The nine types that each table begins with.
use Rattle.std.proofs.Common.{◌≡◌, ◌≢◌, ◌⊎◌, ℕ, zero, suc, ◌+◌, ◌≤◌, List, [], ◌∷◌, ◌++◌, length, map, Some, None, sym, ap, ap₂, ◌∙◌, refl, arith, subst, inl, inr, ⊎_elim, length-append, Contains, IsTrue, IsFalse, true, false, not, ◌&&◌, ◌||◌, slice_get, Bool, Option, true≢false}
use Rattle.std.specs.List.{list_any}
use Rattle.std.proofs.lemmas.List.Elements.{Contains-append_left, Contains-push, Contains-push_cases}
use Rattle.c_types.specs.declared.kinds.CType.{CType}
use Rattle.c_types.specs.declared.kinds.CType.TheVariants.{Void, Num, Pointer, Array, Flexible, Struct, Union}
use Rattle.c_types.specs.declared.rows.Form.TheVariants as form
use Rattle.c_types.specs.declared.rows.TypeRow.{TypeRow}
use Rattle.c_types.specs.Table.{Types, Tag, basic_kinds, basic_types, kind_in, kind_of, shape_of, shape_of_kind, IsNumber}
use Rattle.c_types.specs.Adding.{is_same}
use Rattle.c_types.specs.Holds.{IsWidth, IsMade, IsOrdered, IsAfter}
use Rattle.c_types.specs.Holds.IsOrdered.{none, next}
use Rattle.c_types.specs.Rows.{IsBase, IsKept, row_of, types_of}
use Rattle.c_types.proofs.Faults.{or_left, or_right, not_true}
use Rattle.c_types.proofs.Based.{kind_of_number, tree_is}
use Rattle.c_types.proofs.Places.{itself}

-- ---- each once

distinct : List CType → Bool
distinct [] = true
distinct (k ∷ kinds) = not (list_any (is_same k) kinds) && distinct kinds

not_any : (test : CType → Bool) (kinds : List CType) (p : ℕ) (k : CType) → list_any test kinds ≡ false → slice_get kinds p ≡ Some k → test k ≡ false
not_any test [] p k nothing at = cc
not_any test (x ∷ kinds) zero k nothing at = let is : x ≡ k = cc in ap test (sym is) ∙ or_left _ _ nothing
not_any test (x ∷ kinds) (suc p) k nothing at = not_any test kinds p k (or_right _ _ nothing) at

both : (a b : Bool) → a && b ≡ true → (a ≡ true) × (b ≡ true)
both true true e = (refl, refl)
both true false e = absurd (true≢false (sym e))
both false b e = absurd (true≢false (sym e))

clash : (k x : CType) (kinds : List CType) (p : ℕ) → not (list_any (is_same k) kinds) ≡ true → k ≡ x → slice_get kinds p ≡ Some x → ⊥
clash k x kinds p fresh is at =
    true≢false (sym (subst (λ y. is_same y x ≡ true) (sym is) (itself x)) ∙ not_any (is_same k) kinds p x (not_true _ fresh) at)

one_place : (kinds : List CType) → IsTrue (distinct kinds) → (p q : ℕ) (k : CType) → slice_get kinds p ≡ Some k → slice_get kinds q ≡ Some k → p ≡ q
unfolding distinct
one_place [] d p q k a b = cc
one_place (x ∷ kinds) d zero zero k a b = refl
one_place (x ∷ kinds) d zero (suc q) k a b = let is : x ≡ k = cc in absurd (clash x k kinds q (both _ _ d).0 is b)
one_place (x ∷ kinds) d (suc p) zero k a b = let is : x ≡ k = cc in absurd (clash x k kinds p (both _ _ d).0 is a)
one_place (x ∷ kinds) d (suc p) (suc q) k a b = ap suc (one_place kinds (both _ _ d).1 p q k a b)

are_distinct : IsTrue (distinct basic_kinds)
unfolding distinct
are_distinct = refl

one_number : (a b : ℕ) (kind : CType) → kind_of basic_types a ≡ Some kind → kind_of basic_types b ≡ Some kind → a ≡ b
one_number zero b kind x y = cc
one_number (suc a) zero kind x y = cc
one_number (suc a) (suc b) kind x y = ap suc (one_place basic_kinds are_distinct a b kind x y)

-- ---- what they are

data IsBasic : CType → Type 0 where
  void : IsBasic Void
  whole : (width : ℕ) (signed : Bool) → IsWidth width → IsBasic (Num width signed)

data AreBasic : List CType → Type 0 where
  end : AreBasic []
  more : (kind : CType) (kinds : List CType) → IsBasic kind → AreBasic kinds → AreBasic (kind ∷ kinds)

one : IsWidth 1
one = inl refl

two : IsWidth 2
two = inr (inl refl)

four : IsWidth 4
four = inr (inr (inl refl))

eight : IsWidth 8
eight = inr (inr (inr refl))

nine : AreBasic basic_kinds
nine = more _ _ void (more _ _ (whole 1 true one) (more _ _ (whole 1 false one) (more _ _ (whole 2 true two) (more _ _ (whole 2 false two)
    (more _ _ (whole 4 true four) (more _ _ (whole 4 false four) (more _ _ (whole 8 true eight) (more _ _ (whole 8 false eight) end))))))))

basic_at : (kinds : List CType) → AreBasic kinds → (p : ℕ) (kind : CType) → slice_get kinds p ≡ Some kind → IsBasic kind
basic_at _ end p kind at = cc
basic_at _ (more k kinds is rest) zero kind at = let same : k ≡ kind = cc in subst IsBasic same is
basic_at _ (more k kinds is rest) (suc p) kind at = basic_at kinds rest p kind at

basic_number : (n : ℕ) (kind : CType) → kind_of basic_types n ≡ Some kind → IsBasic kind
basic_number zero kind at = cc
basic_number (suc p) kind at = basic_at basic_kinds nine p kind at

made_basic : (n : ℕ) (kind : CType) → IsBasic kind → IsMade basic_types n kind
made_basic n _ void = tt
made_basic n _ (whole width signed is) = is

after_basic : (before : List ℕ) (kind : CType) → IsBasic kind → IsAfter basic_types before kind
after_basic before _ void = tt
after_basic before _ (whole width signed is) = tt

-- ---- their order

abbrev up_to : ℕ → List ℕ
up_to zero = []
up_to (suc n) = up_to n ++ suc n ∷ []

below : (n m : ℕ) → Contains (up_to n) m → m ≤ n
below zero m c = absurd (omega (arith, c.1))
below (suc n) m c = ⊎_elim (λ (old : Contains (up_to n) m). omega (arith, below n m old)) (λ (new : suc n ≡ m). omega (arith, new))
    (Contains-push_cases (up_to n) (suc n) m c)

last_or : (m n : ℕ) → m ≤ suc n → (m ≤ n) ⊎ (m ≡ suc n)
last_or zero n w = inl (omega arith)
last_or (suc m) zero w = inr (omega (arith, w))
last_or (suc m) (suc n) w = ⊎_elim (λ e. inl (omega (arith, e))) (λ e. inr (ap suc e)) (last_or m n (omega (arith, w)))

all_up : (n m : ℕ) → 1 ≤ m → m ≤ n → Contains (up_to n) m
all_up zero m some within = absurd (omega (arith, some, within))
all_up (suc n) m some within = ⊎_elim
    (λ (w : m ≤ n). Contains-append_left (up_to n) (suc n ∷ []) m (all_up n m some w))
    (λ (e : m ≡ suc n). subst (Contains (up_to (suc n))) (sym e) (Contains-push (up_to n) (suc n)))
    (last_or m n within)

ordered_up : (n : ℕ) → n ≤ 9 → IsOrdered basic_types (up_to n)
ordered_up zero within = none
ordered_up (suc n) within =
    let k : (kind : CType) × (kind_of basic_types (suc n) ≡ Some kind) = kind_of_number basic_types (suc n) (omega arith, within) in
    next (up_to n) (suc n) k.0 (ordered_up n (omega (arith, within))) (λ c. omega (arith, below n (suc n) c)) k.1
    (after_basic (up_to n) k.0 (basic_number (suc n) k.0 k.1))

numbers_within : (n : ℕ) (kind : CType) → kind_of basic_types n ≡ Some kind → (1 ≤ n) × (n ≤ 9)
numbers_within zero kind at = cc
numbers_within (suc p) kind at = (omega arith, length_at basic_kinds p kind at)
  where
    length_at : (kinds : List CType) (p : ℕ) (kind : CType) → slice_get kinds p ≡ Some kind → suc p ≤ length kinds
    length_at [] p kind at = cc
    length_at (x ∷ kinds) zero kind at = omega arith
    length_at (x ∷ kinds) (suc p) kind at = omega (arith, length_at kinds p kind at)

basic_base : IsBase basic_types (up_to 9)
basic_base = record {
  rest = [];
  begins = refl;
  one_number = one_number;
  tags = λ tag found at. cc;
  few_tags = omega arith;
  made = λ n kind at. made_basic n kind (basic_number n kind at);
  ordered = ordered_up 9 (omega arith);
  known = λ n kind at it. all_up 9 n (numbers_within n kind at).0 (numbers_within n kind at).1;
  count = refl;
}

-- ---- their rows

basic_row : CType → TypeRow
basic_row Void = record { form = form.Unsized; size = 0; alignment = 1 }
basic_row (Num width signed) = record { form = form.Sized; size = width; alignment = width }
basic_row _ = record { form = form.Unsized; size = 0; alignment = 1 }

abbrev pub basic_rows : List TypeRow
basic_rows =
    let of : ℕ → TypeRow = λ size. record { form = form.Sized; size = size; alignment = size } in
    record { form = form.Unsized; size = 0; alignment = 1 } ∷ of 1 ∷ of 1 ∷ of 2 ∷ of 2 ∷ of 4 ∷ of 4 ∷ of 8 ∷ of 8 ∷ []

rows_are : basic_rows ≡ map basic_row basic_kinds
unfolding basic_row
rows_are = refl

map_at : (kinds : List CType) (p : ℕ) (row : TypeRow) → slice_get (map basic_row kinds) p ≡ Some row →
    (kind : CType) × (slice_get kinds p ≡ Some kind) × (row ≡ basic_row kind)
map_at [] p row at = cc
map_at (k ∷ kinds) zero row at = (k, refl, cc)
map_at (k ∷ kinds) (suc p) row at = map_at kinds p row at

row_basic : (n : ℕ) (kind : CType) → IsBasic kind → basic_row kind ≡ row_of (shape_of_kind [] (shape_of basic_types) n (Some kind))
unfolding basic_row
row_basic n _ void = refl
row_basic n _ (whole width signed is) = refl

pub basic_kept : IsKept basic_kinds basic_rows [] (up_to 9)
basic_kept = record {
  base = basic_base;
  rows_length = refl;
  rows_right = λ place row at.
      let k : (kind : CType) × (slice_get basic_kinds place ≡ Some kind) × (row ≡ basic_row kind) =
      map_at basic_kinds place row (subst (λ rows. slice_get rows place ≡ Some row) rows_are at) in
      k.2 ∙ (row_basic (suc place) k.0 (basic_number (suc place) k.0 k.1) ∙
      ap row_of (sym (tree_is basic_types (up_to 9) basic_base (suc place) k.0 k.1)));
  members_right = λ n tag row at is. cc;
}
