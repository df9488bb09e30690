-- The form of a type's row.
use Rattle.std.proofs.Common.{◌≡◌, ◌≢◌, ℕ, zero, suc, ◌+◌, ◌≤◌, ◌<◌, List, [], ◌∷◌, ◌++◌, length, take, drop, get_or, if◌then◌else◌, Some, sym, ap, ap₂, ◌∙◌, refl, arith, subst, true, false, not, ◌&&◌, ◌||◌, Bool, Contains, true≢false}
use Rattle.std.proofs.lemmas.List.{take_more, take-append-drop}
use Rattle.c_types.specs.declared.kinds.Field.{Field}
use Rattle.c_types.specs.declared.rows.Form.{Form}
use Rattle.c_types.specs.declared.rows.Form.TheVariants as form
use Rattle.c_types.specs.contracts.rows.FormPartialEq.TheImpl.{eq-value}
use Rattle.c_types.specs.Shapes.{Shape, Void, Whole, Pointer, Array, Open, Struct, Union, Incomplete, is_complete, is_flexible, is_open, ends_open}
use Rattle.c_types.specs.Adding.{any, shapes, is_empty, before_last, misplaced}
use Rattle.c_types.specs.Rows.{form_of, has_form}

abbrev equal : Form → Form → Bool
equal = eq-value.it

abbrev array_has : Bool → Form → Bool
array_has sized form.Unsized = not (sized || false)
array_has sized form.Open = false
array_has sized form.Sized = sized && not false
array_has sized form.Extended = false

abbrev struct_has : Bool → Form → Bool
struct_has ends form.Unsized = false
struct_has ends form.Open = false
struct_has ends form.Sized = not ends
struct_has ends form.Extended = ends

array_form : (sized : Bool) (x : Form) →
    equal (if sized then form.Sized else form.Unsized) x ≡ array_has sized x
array_form true form.Unsized = refl
array_form true form.Open = refl
array_form true form.Sized = refl
array_form true form.Extended = refl
array_form false form.Unsized = refl
array_form false form.Open = refl
array_form false form.Sized = refl
array_form false form.Extended = refl

struct_form : (ends : Bool) (x : Form) →
    equal (if ends then form.Extended else form.Sized) x ≡ struct_has ends x
struct_form true form.Unsized = refl
struct_form true form.Open = refl
struct_form true form.Sized = refl
struct_form true form.Extended = refl
struct_form false form.Unsized = refl
struct_form false form.Open = refl
struct_form false form.Sized = refl
struct_form false form.Extended = refl

pub form_is : (shape : Shape) (x : Form) → equal (form_of shape) x ≡ has_form x shape
form_is (Void n) form.Unsized = refl
form_is (Void n) form.Open = refl
form_is (Void n) form.Sized = refl
form_is (Void n) form.Extended = refl
form_is (Whole n width signed) form.Unsized = refl
form_is (Whole n width signed) form.Open = refl
form_is (Whole n width signed) form.Sized = refl
form_is (Whole n width signed) form.Extended = refl
form_is (Pointer n to) form.Unsized = refl
form_is (Pointer n to) form.Open = refl
form_is (Pointer n to) form.Sized = refl
form_is (Pointer n to) form.Extended = refl
form_is (Array n of count) form.Unsized = array_form (is_complete of) form.Unsized
form_is (Array n of count) form.Open = array_form (is_complete of) form.Open
form_is (Array n of count) form.Sized = array_form (is_complete of) form.Sized
form_is (Array n of count) form.Extended = array_form (is_complete of) form.Extended
form_is (Open n of) form.Unsized = refl
form_is (Open n of) form.Open = refl
form_is (Open n of) form.Sized = refl
form_is (Open n of) form.Extended = refl
form_is (Struct n members) form.Unsized = struct_form (ends_open members) form.Unsized
form_is (Struct n members) form.Open = struct_form (ends_open members) form.Open
form_is (Struct n members) form.Sized = struct_form (ends_open members) form.Sized
form_is (Struct n members) form.Extended = struct_form (ends_open members) form.Extended
form_is (Union n members) form.Unsized = refl
form_is (Union n members) form.Open = refl
form_is (Union n members) form.Sized = refl
form_is (Union n members) form.Extended = refl
form_is (Incomplete n) form.Unsized = refl
form_is (Incomplete n) form.Open = refl
form_is (Incomplete n) form.Sized = refl
form_is (Incomplete n) form.Extended = refl

-- ---- some field of a list

contains_at : (fields : List Field) (i : ℕ) (f : Field) → i < length fields → f ≡ get_or fields i f → Contains fields f
contains_at fields i f within is = (i, within, sym is)

pub known_at : {P : Field → Type 0} (fields : List Field) (all : (f : Field) → Contains fields f → P f) (i : ℕ) (f : Field) →
    i < length fields → f ≡ get_or fields i f → P f
known_at fields all i f within is = all f (contains_at fields i f within is)

any_push : (test : Shape → Bool) (shape : ℕ → Shape) (fields : List Field) (f : Field) →
    any test (shapes shape (fields ++ f ∷ [])) ≡ any test (shapes shape fields) || test (shape f.kind)
any_push test shape [] f = or_false (test (shape f.kind))
  where
    or_false : (b : Bool) → b || false ≡ b
    or_false true = refl
    or_false false = refl
any_push test shape (x ∷ fields) f =
    ap (λ b. test (shape x.kind) || b) (any_push test shape fields f) ∙
    sym (or_assoc (test (shape x.kind)) (any test (shapes shape fields)) (test (shape f.kind)))
  where
    or_assoc : (a b c : Bool) → (a || b) || c ≡ a || (b || c)
    or_assoc true b c = refl
    or_assoc false b c = refl

any_more : (test : Shape → Bool) (shape : ℕ → Shape) (fields more : List Field) → any test (shapes shape fields) ≡ true →
    any test (shapes shape (fields ++ more)) ≡ true
any_more test shape [] more e = absurd (true≢false (sym e))
any_more test shape (x ∷ fields) more e = by_first (test (shape x.kind)) (any_more test shape fields more) e
  where
    by_first : (b : Bool) → (any test (shapes shape fields) ≡ true → any test (shapes shape (fields ++ more)) ≡ true) →
        b || any test (shapes shape fields) ≡ true → b || any test (shapes shape (fields ++ more)) ≡ true
    by_first true rest e = refl
    by_first false rest e = rest e

module _ (test : Shape → Bool) (shape : ℕ → Shape) (fields : List Field) (i : ℕ) (f : Field) (within : i < length fields) (is : f ≡ get_or fields i f)
    (so_far : any test (shapes shape (take i fields)) ≡ false) where
  next_take : take (i + 1) fields ≡ take i fields ++ f ∷ []
  next_take = take_more fields i f within ∙ ap (λ x. take i fields ++ x ∷ []) (sym is)

  pub none_more : test (shape f.kind) ≡ false → any test (shapes shape (take (i + 1) fields)) ≡ false
  none_more fails = ap (λ fs. any test (shapes shape fs)) next_take ∙ (any_push test shape (take i fields) f ∙ ap₂ (λ a b. a || b) so_far fails)

  pub one_found : test (shape f.kind) ≡ true → true ≡ any test (shapes shape fields)
  one_found passes =
      let here : any test (shapes shape (take (i + 1) fields)) ≡ true =
      ap (λ fs. any test (shapes shape fs)) next_take ∙ (any_push test shape (take i fields) f ∙ ap₂ (λ a b. a || b) so_far passes) in
      sym (ap (λ fs. any test (shapes shape fs)) (sym (take-append-drop (i + 1) fields)) ∙
      any_more test shape (take (i + 1) fields) (drop (i + 1) fields) here)

-- ---- the first and the last

pub two_fields : (shape : ℕ → Shape) (fields : List Field) → 2 ≤ length fields → false ≡ is_empty (shapes shape fields)
two_fields shape [] long = absurd (omega (arith, long))
two_fields shape (x ∷ []) long = absurd (omega (arith, long))
two_fields shape (x ∷ y ∷ fields) long = refl

pub before_push : (shape : ℕ → Shape) (firsts : List Field) (last : Field) →
    before_last (shapes shape (firsts ++ last ∷ [])) ≡ shapes shape firsts
before_push shape [] last = refl
before_push shape (x ∷ []) last = refl
before_push shape (x ∷ y ∷ firsts) last = ap (λ ss. shape x.kind ∷ ss) (before_push shape (y ∷ firsts) last)
