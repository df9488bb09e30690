-- How many rows are inside a type, by its parts.
use Rattle.std.proofs.Common.{◌≡◌, ◌⊎◌, ℕ, zero, suc, ◌+◌, ◌-◌, ◌<◌, ◌≤◌, List, [], ◌∷◌, ◌++◌, length, take, drop, map, get_or, set, Bool, true, false, cond, Some, None, sym, ap, ◌∙◌, refl, arith, subst, inl, inr, ⊎_elim, sum_by}
use Rattle.std.specs.Prelude.{Option, Contains, ◌==◌}
use Rattle.std.proofs.lemmas.Bool.Decides.{nat_tests}
use Rattle.std.proofs.lemmas.List.Sums.{sum_by_more, sum_by-append, sum_by-cons, sum_by-take-le}
use Rattle.c_types.specs.declared.kinds.CType.{CType}
use Rattle.c_types.specs.declared.kinds.CType.TheVariants as k
use Rattle.c_types.specs.declared.kinds.Field.{Field}
use Rattle.c_types.specs.declared.kinds.Member.{Member}
use Rattle.c_types.specs.Shapes.{Shape, Members, is_complete, is_open, is_unknown, size, next_offset}
use Rattle.c_types.specs.Shapes as s
use Rattle.c_types.specs.Table.{Types, IsNumber, kind_of, fields_of, tagged, shape_of, shape_of_kind, members, members_by, members_from, members_of_fields, struct_members, union_members}
use Rattle.c_types.specs.Holds.{IsTable, IsOrdered}
use Rattle.c_types.specs.Holds.IsOrdered.{none, next}
use Rattle.type_layout.specs.Listed.{In}
use Rattle.type_layout.proofs.Least.{in_contains, contains_in}
use Rattle.layout_table.specs.Strides.{inner, inner_of_members, rows_of}
use Rattle.layout_table.specs.Tables.{counted, rows_total, rows_up_to}
use Rattle.layout_table.specs.Counting.{capped, capped_rows, member_counts, IsCounted, IsCountedNumber}
use Rattle.layout_table.specs.Making.{kind_of_member, parts, parts_by}
use Rattle.layout_table.proofs.Orders.{number_known}
use Rattle.layout_table.proofs.Parts.{kinds_in}
use Rattle.layout_table.proofs.Whole.{OpenLast, by_kind, from_member, from_open, tag_open_last}

-- ---- members

abbrev field_counts : (ℕ → Shape) → Field → ℕ
field_counts shape f = cond (is_open (shape f.kind)) 0 1 + inner (shape f.kind)

fields_step : (shape : ℕ → Shape) (f : Field) (fields : List Field) (b : Bool) → is_open (shape f.kind) ≡ b →
    (b ≡ true → fields ≡ []) →
    inner_of_members (members_of_fields shape fields) ≡ sum_by (field_counts shape) fields →
    inner_of_members (members_from (shape f.kind) (members_of_fields shape fields)) ≡ (cond b 0 1 + inner (shape
    f.kind)) + sum_by (field_counts shape) fields
fields_step shape f fields false e o h =
    ap inner_of_members (from_member (shape f.kind) (members_of_fields shape fields) e) ∙
    ap (λ (n : ℕ). (1 + inner (shape f.kind)) + n) h
fields_step shape f fields true e o h =
    let p = from_open (shape f.kind) (members_of_fields shape fields) e in
    ap inner_of_members p.3 ∙ whole p.1 (inner (shape f.kind)) (ap inner p.2) ∙
    ap (λ fs. (0 + inner (shape f.kind)) + sum_by (field_counts shape) fs) (sym (o refl))
  where
    whole : (of : Shape) (n : ℕ) → n ≡ 1 + inner of → 1 + inner of ≡ (0 + n) + 0
    whole of n e = omega (arith, e)

fields_count : (shape : ℕ → Shape) (fields : List Field) → OpenLast shape fields →
    inner_of_members (members_of_fields shape fields) ≡ sum_by (field_counts shape) fields
fields_count shape [] o = refl
fields_count shape (f ∷ fields) o =
    fields_step shape f fields (is_open (shape f.kind)) refl o.0 (fields_count shape fields o.1) ∙
    sym (sum_by-cons (field_counts shape) f fields)

struct_sum : (types : Types) (fields : List Field) (end : ℕ) → sum_by (field_counts (shape_of types)) fields ≡ sum_by
    (member_counts types) (struct_members (shape_of types) end fields)
struct_sum types [] end = refl
struct_sum types (f ∷ fields) end =
    sum_by-cons (field_counts (shape_of types)) f fields ∙
    ap (λ (n : ℕ). field_counts (shape_of types) f + n) (struct_sum types fields (next_offset (shape_of types f.kind)
    end + size (shape_of types f.kind))) ∙
    sym (sum_by-cons (member_counts types) (record {
      name = f.name;
      kind = f.kind;
      offset = next_offset (shape_of types f.kind) end;
    })
    (struct_members (shape_of types) (next_offset (shape_of types f.kind) end + size (shape_of types f.kind)) fields))

union_sum : (types : Types) (fields : List Field) → sum_by (field_counts (shape_of types)) fields ≡ sum_by
    (member_counts types) (union_members fields)
union_sum types [] = refl
union_sum types (f ∷ fields) =
    sum_by-cons (field_counts (shape_of types)) f fields ∙ ap (λ (n : ℕ). field_counts (shape_of types) f + n)
    (union_sum types fields) ∙
    sym (sum_by-cons (member_counts types) (record { name = f.name; kind = f.kind; offset = 0 }) (union_members fields))

-- of a struct or a union, which may not be complete
tagged_count : (make : Members → Shape) (shape : ℕ → Shape) (n : ℕ) (fields : List Field) → ((ms : Members) →
    inner (make ms) ≡ inner_of_members ms) → OpenLast shape fields →
    inner (tagged make shape n fields) ≡ sum_by (field_counts shape) fields
tagged_count make shape n [] h o = refl
tagged_count make shape n (f ∷ fields) h o = h (members_of_fields shape (f ∷ fields)) ∙
    fields_count shape (f ∷ fields) o

module _ (types : Types) (table : IsTable types) (t : ℕ) where
  pub struct_inner : (tag : ℕ) → kind_of types t ≡ Some (k.Struct tag) →
      inner (shape_of types t) ≡ sum_by (member_counts types) (members types t)
  unfolding members
  struct_inner tag is =
      ap inner (by_kind types table t (k.Struct tag) is) ∙
      tagged_count (s.Struct t) (shape_of types) t (fields_of types.tags tag) (λ ms. refl) (tag_open_last types false
      t tag (table.made t (k.Struct tag) is)) ∙
      struct_sum types (fields_of types.tags tag) 0 ∙ ap (sum_by (member_counts types)) (sym (ap (members_by
      types.tags (shape_of types)) is))

  pub union_inner : (tag : ℕ) → kind_of types t ≡ Some (k.Union tag) →
      inner (shape_of types t) ≡ sum_by (member_counts types) (members types t)
  unfolding members
  union_inner tag is =
      ap inner (by_kind types table t (k.Union tag) is) ∙
      tagged_count (s.Union t) (shape_of types) t (fields_of types.tags tag) (λ ms. refl) (tag_open_last types true t
      tag (table.made t (k.Union tag) is)) ∙
      union_sum types (fields_of types.tags tag) ∙ ap (sum_by (member_counts types)) (sym (ap (members_by types.tags
      (shape_of types)) is))

  -- its members are parts
  pub member_part : (kind : CType) → kind_of types t ≡ Some kind → ((tag : ℕ) ×
      (kind ≡ k.Struct tag)) ⊎ ((tag : ℕ) × (kind ≡ k.Union tag)) → (m : Member) → Contains (members types t) m →
      Contains (parts types t) m.kind
  member_part kind e is m c =
      let i : Contains (map kind_of_member (members types t)) m.kind = kinds_in (members types t) m (contains_in
      (members types t) m c.0 c.1 c.2) in
      ⊎_elim (λ h. subst (λ ps. Contains ps m.kind) (sym (ap (parts_by types t) (e ∙
      ap Some h.1))) i) (λ h. subst (λ ps. Contains ps m.kind) (sym (ap (parts_by types t) (e ∙
      ap Some h.1))) i) is

  pub open_part : (of : ℕ) → kind_of types t ≡ Some (k.Flexible of) → Contains (parts types t) of
  open_part of e = subst (λ ps. Contains ps of) (sym (ap (parts_by types t) e)) (0, omega arith, refl)

  pub members_inner : (kind : CType) → kind_of types t ≡ Some kind → ((tag : ℕ) ×
      (kind ≡ k.Struct tag)) ⊎ ((tag : ℕ) × (kind ≡ k.Union tag)) →
      inner (shape_of types t) ≡ sum_by (member_counts types) (members types t)
  members_inner kind e is = ⊎_elim (λ h. struct_inner h.0 (e ∙ ap Some h.1)) (λ h. union_inner h.0 (e ∙ ap Some h.1)) is

  pub array_inner : (of count : ℕ) → kind_of types t ≡ Some (k.Array of count) →
      inner (shape_of types t) ≡ 1 + inner (shape_of types of)
  array_inner of count is = ap inner (by_kind types table t (k.Array of count) is)

  pub open_inner : (of : ℕ) → kind_of types t ≡ Some (k.Flexible of) →
      inner (shape_of types t) ≡ 1 + inner (shape_of types of)
  open_inner of is = ap inner (by_kind types table t (k.Flexible of) is)

  pub scalar_inner : (kind : CType) → kind_of types t ≡ Some kind → (kind ≡ k.Void) ⊎ (((width : ℕ) ×
      (signed : Bool) × (kind ≡ k.Num width signed)) ⊎ ((to : ℕ) × (kind ≡ k.Pointer to))) →
      inner (shape_of types t) ≡ 0
  scalar_inner kind e is =
      ⊎_elim (λ h. ap inner (by_kind types table t k.Void (e ∙ ap Some h)))
      (λ o. ⊎_elim (λ h. ap inner (by_kind types table t (k.Num h.0 h.1) (e ∙
      ap Some h.2))) (λ h. ap inner (by_kind types table t (k.Pointer h.0) (e ∙ ap Some h.1))) o) is

-- one member more
pub one_more_counted : (b : Bool) (before later sum now : ℕ) → before ≡ capped sum →
    now ≡ cond b 0 1 + capped later → capped (before + now) ≡ capped (sum + (cond b 0 1 + later))
one_more_counted true before later sum now e n = omega (arith, e, n)
one_more_counted false before later sum now e n = omega (arith, e, n)

pub members_more : (types : Types) (ms : List Member) (i : ℕ) (m : Member) → i < length ms → m ≡ get_or ms i m →
    sum_by (member_counts types) (take i ms) + member_counts types m ≡ sum_by (member_counts types) (take (i + 1) ms)
members_more types ms i m h e =
    ap (λ (x : Member). sum_by (member_counts types) (take i ms) + member_counts types x) e ∙
    sym (sum_by_more (member_counts types) ms i m h)

-- A list of a vector that was lent, and has kept its length.
pub written_back : {X : Type 0} (n : ℕ) (new old : List X) → n ≡ length old → length new ≡ length old →
    take n (new ++ drop (length new) old) ≡ new
written_back n [] old e l = ap (λ (m : ℕ). take m old) (e ∙ sym l)
written_back zero (x ∷ new) [] e l = absurd (omega (arith, l))
written_back (suc n) (x ∷ new) [] e l = absurd (omega (arith, l))
written_back zero (x ∷ new) (y ∷ old) e l = absurd (omega (arith, e))
written_back (suc n) (x ∷ new) (y ∷ old) e l = ap (λ xs. x ∷ xs) (written_back n new old (omega (arith, e)) (omega
    (arith, l)))

-- ---- the next type is counted

pub set_same : (xs : List ℕ) (i y d : ℕ) → i < length xs → get_or (set xs i y) i d ≡ y
set_same [] i y d h = absurd (omega arith)
set_same (x ∷ xs) zero y d h = refl
set_same (x ∷ xs) (suc i) y d h = set_same xs i y d (omega arith)

pub set_else : (xs : List ℕ) (i j y d : ℕ) → (j ≡ i → ⊥) → get_or (set xs i y) j d ≡ get_or xs j d
set_else [] i j y d h = refl
set_else (x ∷ xs) zero zero y d h = absurd (h refl)
set_else (x ∷ xs) zero (suc j) y d h = refl
set_else (x ∷ xs) (suc i) zero y d h = refl
set_else (x ∷ xs) (suc i) (suc j) y d h = set_else xs i j y d (λ e. h (ap suc e))

pub set_length : (xs : List ℕ) (i y : ℕ) → length (set xs i y) ≡ length xs
set_length [] i y = refl
set_length (x ∷ xs) zero y = refl
set_length (x ∷ xs) (suc i) y = ap suc (set_length xs i y)

same_or_else : (t u : ℕ) → (t ≡ u) ⊎ (t ≡ u → ⊥)
same_or_else t u = grind arith

other_place : (t u : ℕ) → 1 ≤ t → 1 ≤ u → (t ≡ u → ⊥) → t - 1 ≡ u - 1 → ⊥
other_place t u h i n e = n (omega (arith, h, i, e))

pub next_counted : (types : Types) (done later : List ℕ) (counts : List ℕ) (t count : ℕ) → IsNumber types t →
    count ≡ capped (inner (shape_of types t)) → IsCounted types done counts →
    ((n : ℕ) → Contains later n → Contains done n ⊎ (n ≡ t)) → IsCounted types later (set counts (t - 1) count)
next_counted types done later counts t count known e so_far cases = record {
  length_is = set_length counts (t - 1) count ∙ so_far.length_is;
  each = λ n c. ⊎_elim
      (λ s. subst (IsCountedNumber types (set counts (t - 1) count)) (sym s) (record {
        known = known;
        count = set_same counts (t - 1) count 0 (omega (arith, known.0, known.1, so_far.length_is)) ∙ e;
      }))
      (λ d. kept n d (cases n c)) (same_or_else n t);
}
  where
    kept : (n : ℕ) → (n ≡ t → ⊥) → Contains done n ⊎ (n ≡ t) → IsCountedNumber types (set counts (t - 1) count) n
    kept n d o = ⊎_elim
        (λ c. let h = so_far.each n c in record {
          known = h.known;
          count = set_else counts (t - 1) (n - 1) count 0 (other_place n t h.known.0 known.0 d) ∙ h.count;
        })
        (λ s. absurd (d s)) o

-- ---- the sum goes over each type once

-- a sum over the numbers up to one
abbrev up_to : (ℕ → ℕ) → ℕ → ℕ
up_to f zero = 0
up_to f (suc n) = up_to f n + f (suc n)

up_to_same : (f g : ℕ → ℕ) (n : ℕ) → ((i : ℕ) → f i ≡ g i) → up_to f n ≡ up_to g n
up_to_same f g zero h = refl
up_to_same f g (suc n) h = omega (arith, up_to_same f g n h, h (suc n))

up_to_else : (f g : ℕ → ℕ) (x n : ℕ) → ((i : ℕ) → (i ≡ x → ⊥) → g i ≡ f i) → n < x → up_to g n ≡ up_to f n
up_to_else f g x zero h l = refl
up_to_else f g x (suc n) h l = omega (
  arith,
  up_to_else f g x n h (omega (arith, l)),
  h (suc n) (λ e. omega (
    arith,
    e,
    l,
  )),
)

-- One value is set that was 0.
up_to_set : (f g : ℕ → ℕ) (x n : ℕ) → ((i : ℕ) → (i ≡ x → ⊥) → g i ≡ f i) → f x ≡ 0 → 1 ≤ x → x ≤ n →
    up_to g n ≡ up_to f n + g x
up_to_set f g x zero h z l m = absurd (omega (arith, l, m))
up_to_set f g x (suc n) h z l m =
    ⊎_elim
    (λ e. let same = up_to_else f g x n h (omega (arith, e)) in
    let here : f (suc n) ≡ 0 = subst (λ (i : ℕ). f i ≡ 0) e z in
    let there : g (suc n) ≡ g x = ap g (sym e) in
    omega (arith, same, here, there))
    (λ d. let rest = up_to_set f g x n h z l (below x n m d) in omega (arith, rest, h (suc n) (λ e. d (sym e))))
    (same_or_else x (suc n))
  where
    below : (x n : ℕ) → x ≤ suc n → (x ≡ suc n → ⊥) → x ≤ n
    below x n m d = grind arith

up_to_zero : (f : ℕ → ℕ) (n : ℕ) → ((i : ℕ) → f i ≡ 0) → up_to f n ≡ 0
up_to_zero f zero h = refl
up_to_zero f (suc n) h = omega (arith, up_to_zero f n h, h (suc n))

abbrev is_in : ℕ → List ℕ → Bool
is_in n [] = false
is_in n (x ∷ xs) = cond (n == x) true (is_in n xs)

abbrev masked : (ℕ → ℕ) → List ℕ → ℕ → ℕ
masked f xs n = cond (is_in n xs) (f n) 0

same_number : (n x : ℕ) → n ≡ x → (n == x) ≡ true
same_number n x e = grind (arith, nat_tests)

other_number : (n x : ℕ) → (n ≡ x → ⊥) → (n == x) ≡ false
other_number n x e = grind (arith, nat_tests)

step_true : (b c : Bool) → b ≡ true → cond b true c ≡ true
step_true true c e = refl
step_true false c e = cc

step_else : (b c : Bool) → b ≡ false → cond b true c ≡ c
step_else true c e = cc
step_else false c e = refl

step_rest : (b c : Bool) → c ≡ true → cond b true c ≡ true
step_rest true c e = refl
step_rest false c e = e

in_push : (n x : ℕ) (xs : List ℕ) → (n ≡ x → ⊥) → is_in n (xs ++ x ∷ []) ≡ is_in n xs
in_push n x [] d = step_else (n == x) false (other_number n x d)
in_push n x (y ∷ xs) d = ap (λ b. cond (n == y) true b) (in_push n x xs d)

in_last : (x : ℕ) (xs : List ℕ) → is_in x (xs ++ x ∷ []) ≡ true
in_last x [] = step_true (x == x) false (same_number x x refl)
in_last x (y ∷ xs) = step_rest (x == y) (is_in x (xs ++ x ∷ [])) (in_last x xs)

not_in : (x : ℕ) (xs : List ℕ) → (In x xs → ⊥) → is_in x xs ≡ false
not_in x [] n = refl
not_in x (y ∷ xs) n = step_else (x == y) (is_in x xs) (other_number x y (λ e. n (inl e))) ∙ not_in x xs (λ i. n (inr i))

in_is : (x : ℕ) (xs : List ℕ) → In x xs → is_in x xs ≡ true
in_is x [] i = absurd i
in_is x (y ∷ xs) i = ⊎_elim (λ e. step_true (x == y) (is_in x xs) (same_number x y e)) (λ j. step_rest (x == y)
    (is_in x xs) (in_is x xs j)) i

sum_is : (types : Types) (f : ℕ → ℕ) (order : List ℕ) → IsOrdered types order →
    sum_by f order ≡ up_to (masked f order) (length types.kinds)
sum_is types f _ none = sym (up_to_zero (masked f []) (length types.kinds) (λ i. refl))
sum_is types f _ (next before n kind ordered fresh is after) =
    let known : IsNumber types n = number_known types n kind is in
    let new : masked f (before ++ n ∷ []) n ≡ f n = ap (λ b. cond b (f n) 0) (in_last n before) in
    let old : masked f before n ≡ 0 = ap (λ b. cond b (f n) 0) (not_in n before (λ i. fresh (in_contains before n
    i))) in
    let more : up_to (masked f (before ++ n ∷ [])) (length types.kinds) ≡ up_to (masked f before) (length
    types.kinds) + masked f (before ++ n ∷ []) n =
    up_to_set (masked f before) (masked f (before ++ n ∷ [])) n (length types.kinds) (λ i d. ap (λ b. cond b (f i) 0)
    (in_push i n before d)) old known.0 known.1 in
    sum_by-append f before (n ∷ []) ∙ ap (λ (m : ℕ). sum_by f before + m) (sum_by-cons f n []) ∙
    joined (sum_by f before) (f n) (up_to (masked f before) (length types.kinds)) (masked f (before ++ n ∷ []) n)
    (sum_is types f before ordered) new ∙ sym more
  where
    joined : (a b c d : ℕ) → a ≡ c → d ≡ b → a + (b + 0) ≡ c + d
    joined a b c d e h = omega (arith, e, h)

known_of_complete : (shape : Shape) → is_complete shape ≡ true → is_unknown shape ≡ false
known_of_complete (s.Void n) e = refl
known_of_complete (s.Whole n width signed) e = refl
known_of_complete (s.Pointer n to) e = refl
known_of_complete (s.Array n of count) e = refl
known_of_complete (s.Open n of) e = refl
known_of_complete (s.Struct n members) e = refl
known_of_complete (s.Union n members) e = refl
known_of_complete (s.Incomplete n) e = cc

complete_number : (types : Types) (table : IsTable types) (n : ℕ) (o : Option CType) → kind_of types n ≡ o →
    is_complete (shape_of types n) ≡ true → IsNumber types n
complete_number types table n None e c =
    let f : false ≡ true = sym (ap is_complete (table.trees n ∙ ap (shape_of_kind types.tags (shape_of types) n) e))
    ∙ c in cc
complete_number types table n (Some kind) e c = number_known types n kind e

-- Each type that has a size stands in an order of all known types.
pub complete_in : (types : Types) (table : IsTable types) (order : List ℕ) → ((n : ℕ) → IsNumber types n →
    is_unknown (shape_of types n) ≡ false → Contains order n) → (n : ℕ) →
    is_complete (shape_of types n) ≡ true → Contains order n
complete_in types table order all n c = all n (complete_number types table n (kind_of types n) refl c)
    (known_of_complete (shape_of types n) c)

module _ (types : Types) (table : IsTable types) (order : List ℕ) (ordered : IsOrdered types order)
    (all : (n : ℕ) → IsNumber types n → is_unknown (shape_of types n) ≡ false → Contains order n) where
  covers : (n : ℕ) (b : Bool) → is_complete (shape_of types n) ≡ b → masked (λ m. cond (is_complete (shape_of types
      m)) (rows_of (shape_of types m)) 0) order n ≡ cond b (rows_of (shape_of types n)) 0
  covers n true e =
      let c : Contains order n = complete_in types table order all n e in
      ap (λ b. cond b (cond (is_complete (shape_of types n)) (rows_of (shape_of types n)) 0) 0) (in_is n order
      (contains_in order n c.0 c.1 c.2)) ∙
      ap (λ b. cond b (rows_of (shape_of types n)) 0) e
  covers n false e = ap (λ b. cond (is_in n order) (cond b (rows_of (shape_of types n)) 0) 0) e ∙
      nothing (is_in n order)
    where
      nothing : (b : Bool) → cond {A = ℕ} b 0 0 ≡ 0
      nothing true = refl
      nothing false = refl

  up_to_rows : (n : ℕ) → up_to (counted types) n ≡ rows_up_to types n
  up_to_rows zero = refl
  up_to_rows (suc n) = ap (λ (m : ℕ). m + counted types (suc n)) (up_to_rows n)

  pub order_total : sum_by (counted types) order ≡ rows_total types
  order_total =
      sum_is types (counted types) order ordered ∙
      up_to_same (masked (counted types) order) (counted types) (length types.kinds) (λ n. covers n (is_complete
      (shape_of types n)) refl) ∙ up_to_rows (length types.kinds)

-- ---- the loop

-- how far it has come
pub record IsCountedTo (types : Types) (order counts : List ℕ) (total i : ℕ) : Type 0 where
  pub so_far : IsCounted types (take i order) counts
  pub total_is : total ≡ sum_by (counted types) (take i order)
  pub few : total ≤ 1000000

few_rows : (b : Bool) (n total : ℕ) → total + cond b (1 + capped n) 0 ≤ 1000000 →
    cond b (1 + capped n) 0 ≡ cond b (1 + n) 0
few_rows true n total h = omega (arith, h)
few_rows false n total h = refl

no_more_rows : (b : Bool) (n : ℕ) → cond b (1 + capped n) 0 ≤ cond b (1 + n) 0
no_more_rows true n = omega arith
no_more_rows false n = omega arith

module _ (types : Types) (order : List ℕ) (total step i : ℕ) (within : i < length order) (total_is : total ≡ sum_by
    (counted types) (take i order))
    (is : step ≡ capped_rows (shape_of types (get_or order i 0))) where
  pub total_more : total + step ≤ 1000000 → total + step ≡ sum_by (counted types) (take (i + 1) order)
  total_more few =
      let same : step ≡ counted types (get_or order i 0) =
      is ∙ few_rows (is_complete (shape_of types (get_or order i 0))) (inner (shape_of types (get_or order i 0)))
      total (subst (λ (n : ℕ). total + n ≤ 1000000) is few) in
      omega (arith, total_is, same, sum_by_more (counted types) order i 0 within)

  pub too_many : (all : ℕ) → sum_by (counted types) order ≡ all → 1000000 < total + step → 1000000 < all
  too_many all e many =
      let less : capped_rows (shape_of types (get_or order i 0)) ≤ counted types (get_or order i 0) =
      no_more_rows (is_complete (shape_of types (get_or order i 0))) (inner (shape_of types (get_or order i 0))) in
      omega (
        arith,
        total_is,
        is,
        less,
        many,
        e,
        sum_by_more (counted types) order i 0 within,
        sum_by-take-le
            (counted types) order (i + 1),
      )
