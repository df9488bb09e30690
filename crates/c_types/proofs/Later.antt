-- A type keeps its tree in every later table.
use Rattle.std.proofs.Common.{◌≡◌, ◌≢◌, ℕ, zero, suc, ◌+◌, ◌≤◌, List, [], ◌∷◌, ◌++◌, length, Some, None, sym, ap, ◌∙◌, refl, arith, subst, length-append, Contains, IsTrue, IsFalse, true, false, slice_get, Option, ⊎_elim}
use Rattle.std.proofs.lemmas.List.Elements.{Contains-push_cases}
use Rattle.c_types.specs.declared.kinds.CType.{CType}
use Rattle.c_types.specs.Shapes.{Shape, is_unknown}
use Rattle.c_types.specs.Table.{Types, Tag, kind_in, kind_of, fields_by, fields_of, shape_of, IsNumber, HasTrees}
use Rattle.c_types.specs.Holds.{IsTable, IsLater, IsLaterTag, IsOrdered}
use Rattle.c_types.specs.Holds.IsOrdered.{none, next}
use Rattle.c_types.proofs.Ordered.{AgreesOn, same_within}

slice_get_kept : {X : Type 0} (xs ys : List X) (x : X) (p : ℕ) → slice_get xs p ≡ Some x → slice_get (xs ++ ys) p ≡ Some x
slice_get_kept [] ys x p e = cc
slice_get_kept (y ∷ xs) ys x zero e = e
slice_get_kept (y ∷ xs) ys x (suc p) e = slice_get_kept xs ys x p e

pub kind_kept : (kinds more : List CType) (n : ℕ) (kind : CType) → kind_in kinds n ≡ Some kind → kind_in (kinds ++ more) n ≡ Some kind
kind_kept kinds more zero kind is = cc
kind_kept kinds more (suc p) kind is = slice_get_kept kinds more kind p is

pub number_of_kind : {X : Type 0} (xs : List X) (x : X) (p : ℕ) → slice_get xs p ≡ Some x → suc p ≤ length xs
number_of_kind [] x p e = cc
number_of_kind (y ∷ xs) x zero e = omega arith
number_of_kind (y ∷ xs) x (suc p) e = omega (arith, number_of_kind xs x p e)

-- a number of an order has a type
pub kind_in_order : (a : Types) (order : List ℕ) → IsOrdered a order → (n : ℕ) → Contains order n → (kind : CType) × (kind_of a n ≡ Some kind)
kind_in_order a _ none n c = absurd (omega (arith, c.1))
kind_in_order a _ (next before m found ordered fresh is after) n c =
    ⊎_elim (λ (old : Contains before n). kind_in_order a before ordered n old)
    (λ (new : m ≡ n). (found, subst (λ p. kind_of a p ≡ Some found) new is)) (Contains-push_cases before m n c)

fields_later : (old : Option Tag) (new : List Tag) (tag : ℕ) → ((found : Tag) → old ≡ Some found →
    (later : Tag) × (slice_get new tag ≡ Some later) × IsLaterTag found later) →
    fields_by old ≢ [] → fields_by (slice_get new tag) ≡ fields_by old
fields_later None new tag later some = absurd (some refl)
fields_later (Some found) new tag later some =
    let l : (later : Tag) × (slice_get new tag ≡ Some later) × IsLaterTag found later = later found refl in
    ap fields_by l.1 ∙ l.2.fields some

pub later_agrees : (a b : Types) (order : List ℕ) → IsOrdered a order → IsLater a b → AgreesOn a b order
later_agrees a b order ordered later = record {
  kinds = λ n c. let k : (kind : CType) × (kind_of a n ≡ Some kind) = kind_in_order a order ordered n c in
      ap (λ kinds. kind_in kinds n) later.kinds ∙ (kind_kept a.kinds later.more n k.0 k.1 ∙ sym k.1);
  tags = λ tag some. fields_later (slice_get a.tags tag) b.tags tag (later.tags tag) some;
}

pub longer : (a b : Types) → IsLater a b → length a.kinds ≤ length b.kinds
longer a b later = rw (later.kinds, length-append) (omega arith)

-- the trees of numbers of an order that is not too long
pub trees_kept : (a b : Types) (order : List ℕ) → IsOrdered a order → length order ≤ length a.kinds → IsLater a b → (n : ℕ) → Contains order n →
    shape_of b n ≡ shape_of a n
unfolding shape_of
trees_kept a b order ordered few later n c =
    sym (same_within a b order ordered (later_agrees a b order ordered later) n c (suc (length a.kinds)) (suc (length b.kinds))
    (omega (arith, few)) (omega (arith, few, longer a b later)))
