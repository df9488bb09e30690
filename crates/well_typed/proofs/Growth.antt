-- What is well typed stays so when more may be named: types are added and completed, functions, variables, globals and
-- literals come, and an array without a size gets one.
use Rattle.std.proofs.Common.{◌≡◌, ◌⊎◌, ℕ, true, false, List, inl, inr, refl, sym, subst}
use Rattle.c_print.specs.declared.parts.Part.{Part}
use Rattle.c_print.specs.declared.parts.Part.TheVariants as part
use Rattle.c_tree.specs.declared.operators.Written.{Written}
use Rattle.c_tree.specs.declared.operators.Written.TheVariants as written
use Rattle.c_tree.specs.declared.values.Place.{Place, Place-F}
use Rattle.c_tree.specs.declared.values.Value.{Value}
use Rattle.well_typed.specs.Kinds.{element}
use Rattle.well_typed.specs.Constants.{IsNullConstant, zero, void_zero, named}
use Rattle.well_typed.specs.Surroundings.{PlaceLayer, ValueLayer, Surroundings, IsSeenAs, IsVariable, IsAddressed, IsObject, IsPromoted, IsPointer, IsSizedPointer, IsCharacterPointer, HasMember, MayBeChecked, Allocates, Takes}
use Rattle.well_typed.specs.Expressions as t
use Rattle.well_typed.specs.Growth.{Grows}
use Rattle.well_typed.specs.Expressions.{IsPlace, IsValue, PlaceRule, ValueRule, AreValues, EndsIn, Fit, place, value}

module _ {old new : Surroundings} (grows : Grows old new) where
  pointer_grows : (kind : ℕ) → IsPointer old kind → IsPointer new kind
  pointer_grows kind (to, is) = (to, grows.types.targets kind to is)

  sized_grows : (kind : ℕ) → IsSizedPointer old kind → IsSizedPointer new kind
  sized_grows kind (to, is) = (to, grows.types.sized_targets kind to is)

  variable_grows : (n declared kind : ℕ) → IsVariable old n declared → IsSeenAs old.types declared kind →
      (later : ℕ) × IsVariable new n later × IsSeenAs new.types later kind
  variable_grows n declared kind x seen =
      let first : IsSeenAs old.types x.found.kind kind = subst (λ d. IsSeenAs old.types d kind) (sym x.kind) seen in
      let later = grows.variables n x.found kind x.here first in
      let named_so : IsVariable new n later.0.kind = record {
        found = later.0;
        here = later.1;
        kind = refl;
        in_scope = grows.scope n x.in_scope;
      } in
      (later.0.kind, named_so, later.2)

  addressed_grows : (n : ℕ) → IsAddressed old n → IsAddressed new n
  addressed_grows n x =
      let later = grows.addressed n x.found x.here x.addressed in
      record { found = later.0; here = later.1; addressed = later.2 }

  object_grows : (layer : PlaceLayer) → IsObject old layer → IsObject new layer
  object_grows (Place-F.Variable a n) is = addressed_grows n is
  object_grows _ is = tt

  pub member_grows : (kind offset of : ℕ) → HasMember old kind offset of → HasMember new kind offset of
  member_grows kind offset of m = record {
    found = m.found;
    here = grows.types.all_members kind m.found m.here;
    at_offset = m.at_offset;
    kind_is = m.kind_is;
  }

  null_grows : (x : Value) → IsNullConstant old.types x → IsNullConstant new.types x
  null_grows x (zero is) = zero is
  null_grows x (void_zero opens to is) = void_zero opens (grows.types.targets _ 1 to) is
  null_grows x (named opens) = named opens

  checked_grows : (how : Written) (kind : ℕ) → MayBeChecked old how kind → MayBeChecked new how kind
  checked_grows written.Cast kind is = pointer_grows kind is
  checked_grows written.Implicit kind is = grows.types.targets kind 1 is

  allocates_grows : (kind element : ℕ) → Allocates old kind element → Allocates new kind element
  allocates_grows kind element (inl is) = inl (grows.types.sized_targets kind element is)
  allocates_grows kind element (inr (is, two)) = inr (grows.types.targets kind 1 is, two)

  chosen_grows : (kind : ℕ) → IsPromoted kind ⊎ IsPointer old kind ⊎ (kind ≡ 1) →
      IsPromoted kind ⊎ IsPointer new kind ⊎ (kind ≡ 1)
  chosen_grows kind (inl is) = inl is
  chosen_grows kind (inr (inl is)) = inr (inl (pointer_grows kind is))
  chosen_grows kind (inr (inr is)) = inr (inr is)

  characters_grow : (kind : ℕ) → IsCharacterPointer old kind → IsCharacterPointer new kind
  characters_grow kind (inl is) = inl (grows.types.targets kind 2 is)
  characters_grow kind (inr is) = inr (grows.types.targets kind 3 is)

  takes_grows : (one : Part) (kind : ℕ) → Takes old one kind → Takes new one kind
  takes_grows (part.Plain text) kind is = absurd is
  takes_grows (part.Number letter flag width true) kind is = is
  takes_grows (part.Number letter flag width false) kind is = is
  takes_grows (part.Str flag width) kind is = characters_grow kind is

  mutual
    pub place_grows : {q : Place} {kind : ℕ} → IsPlace old q kind → IsPlace new q kind
    place_grows (place rule) = place (place_rule_grows rule)

    pub value_grows : {x : Value} {kind : ℕ} → IsValue old x kind → IsValue new x kind
    value_grows (value rule) = value (value_rule_grows rule)

    pub place_rule_grows : {layer : PlaceLayer} {kind : ℕ} → PlaceRule old layer kind → PlaceRule new layer kind
    place_rule_grows (t.variable found seen) =
        let again = variable_grows _ _ _ found seen in
        t.variable again.1 again.2
    place_rule_grows (t.global found seen) =
        let again = grows.globals _ _ _ found seen in
        t.global again.1 again.2
    place_rule_grows (t.literal is) = t.literal (grows.literals _ _ is)
    place_rule_grows (t.dereference x to) = t.dereference (value_grows x) (grows.types.sized_targets _ _ to)
    place_rule_grows (t.index x to y whole) =
        t.index (value_grows x) (grows.types.sized_targets _ _ to) (value_grows y) whole
    place_rule_grows (t.index_first x whole y to) =
        t.index_first (value_grows x) whole (value_grows y) (grows.types.sized_targets _ _ to)
    place_rule_grows (t.member q m) = t.member (place_grows q) (member_grows _ _ _ m)
    place_rule_grows (t.arrow x to m) =
        t.arrow (value_grows x) (grows.types.sized_targets _ _ to) (member_grows _ _ _ m)

    pub value_rule_grows : {layer : ValueLayer} {kind : ℕ} → ValueRule old layer kind → ValueRule new layer kind
    value_rule_grows (t.number whole fits) = t.number whole fits
    value_rule_grows (t.null to) = t.null (grows.types.targets _ _ to)
    value_rule_grows (t.load q is) = t.load (place_grows q) (grows.types.scalars _ is)
    value_rule_grows (t.decay q of to) =
        t.decay (place_grows q) (grows.types.elements _ _ of) (grows.types.targets _ _ to)
    value_rule_grows (t.address q object to) =
        t.address (place_grows q) (object_grows _ object) (grows.types.targets _ _ to)
    value_rule_grows (t.mention q is) = t.mention (place_grows q) (grows.types.aggregates _ is)
    value_rule_grows (t.convert x from to) = t.convert (value_grows x) from to
    value_rule_grows (t.null_pointer x none to) =
        t.null_pointer (value_grows x) (null_grows _ none) (pointer_grows _ to)
    value_rule_grows (t.keep_pointer x from to) =
        t.keep_pointer (value_grows x) (pointer_grows _ from) (grows.types.targets _ _ to)
    value_rule_grows (t.check_pointer x from to differs) =
        t.check_pointer (value_grows x) (checked_grows _ _ from) (grows.types.targets _ _ to) differs
    value_rule_grows (t.discard x) = t.discard (value_grows x)
    value_rule_grows (t.unary x is) = t.unary (value_grows x) is
    value_rule_grows (t.binary o x y is) = t.binary o (value_grows x) (value_grows y) is
    value_rule_grows (t.shift o x is y by) = t.shift o (value_grows x) is (value_grows y) by
    value_rule_grows (t.compare x y is) = t.compare (value_grows x) (value_grows y) is
    value_rule_grows (t.equal_pointers c x y is) =
        t.equal_pointers c (value_grows x) (value_grows y) (pointer_grows _ is)
    value_rule_grows (t.order_pointers c x y is) = t.order_pointers c (value_grows x) (value_grows y) (sized_grows _ is)
    value_rule_grows (t.advance x is y whole) = t.advance (value_grows x) (sized_grows _ is) (value_grows y) whole
    value_rule_grows (t.advance_first x whole y is) =
        t.advance_first (value_grows x) whole (value_grows y) (sized_grows _ is)
    value_rule_grows (t.retreat x is y whole) = t.retreat (value_grows x) (sized_grows _ is) (value_grows y) whole
    value_rule_grows (t.difference x y is) = t.difference (value_grows x) (value_grows y) (sized_grows _ is)
    value_rule_grows (t.is_not x is) = t.is_not (value_grows x) (grows.types.scalars _ is)
    value_rule_grows (t.logical x left y right) =
        t.logical (value_grows x) (grows.types.scalars _ left) (value_grows y) (grows.types.scalars _ right)
    value_rule_grows (t.conditional x is y z kinds) =
        t.conditional (value_grows x) (grows.types.scalars _ is) (value_grows y) (value_grows z) (chosen_grows _ kinds)
    value_rule_grows (t.comma x xs) = t.comma (value_grows x) (ends_grow xs)
    value_rule_grows (t.assign q is x) = t.assign (place_grows q) (grows.types.scalars _ is) (value_grows x)
    value_rule_grows (t.copy to from is sized) =
        t.copy (place_grows to) (place_grows from) (grows.types.aggregates _ is) (grows.types.sizes _ sized)
    value_rule_grows (t.update o q is x whole same) = t.update o (place_grows q) is (value_grows x) whole same
    value_rule_grows (t.update_shift o q is x by) = t.update_shift o (place_grows q) is (value_grows x) by
    value_rule_grows (t.update_pointer q is x whole) =
        t.update_pointer (place_grows q) (sized_grows _ is) (value_grows x) whole
    value_rule_grows (t.step q is) = t.step (place_grows q) is
    value_rule_grows (t.step_pointer q is) = t.step_pointer (place_grows q) (sized_grows _ is)
    value_rule_grows (t.call is xs) = t.call (grows.functions _ _ is) (values_grow xs)
    value_rule_grows (t.allocate is x) = t.allocate (allocates_grows _ _ is) (value_grows x)
    value_rule_grows (t.allocate_many is x y) = t.allocate_many (allocates_grows _ _ is) (value_grows x) (value_grows y)
    value_rule_grows (t.allocated x made is) = t.allocated (value_grows x) made (sized_grows _ is)
    value_rule_grows (t.free x is) = t.free (value_grows x) (grows.types.targets _ _ is)
    value_rule_grows (t.copy_bytes x y is z) =
        t.copy_bytes (value_grows x) (value_grows y) (grows.types.targets _ _ is) (value_grows z)
    value_rule_grows (t.fill_bytes x is y z) =
        t.fill_bytes (value_grows x) (grows.types.targets _ _ is) (value_grows y) (value_grows z)
    value_rule_grows (t.string_length x is) = t.string_length (value_grows x) (grows.types.targets _ _ is)
    value_rule_grows (t.print_line x is) = t.print_line (value_grows x) (grows.types.targets _ _ is)
    value_rule_grows (t.print_byte x) = t.print_byte (value_grows x)
    value_rule_grows (t.fetch_add x to whole y) =
        t.fetch_add (value_grows x) (grows.types.targets _ _ to) whole (value_grows y)
    value_rule_grows (t.print format fits) = t.print format (fit_grows fits)

    pub values_grow : {xs : List Value} {kinds : List ℕ} → AreValues old xs kinds → AreValues new xs kinds
    values_grow t.no_value = t.no_value
    values_grow (t.one_more x xs) = t.one_more (value_grows x) (values_grow xs)

    pub ends_grow : {xs : List Value} {kind : ℕ} → EndsIn old xs kind → EndsIn new xs kind
    ends_grow (t.last x) = t.last (value_grows x)
    ends_grow (t.before x xs) = t.before (value_grows x) (ends_grow xs)

    pub fit_grows : {parts : List Part} {xs : List Value} → Fit old parts xs → Fit new parts xs
    fit_grows t.at_end = t.at_end
    fit_grows (t.plain rest) = t.plain (fit_grows rest)
    fit_grows (t.converted x takes rest) = t.converted (value_grows x) (takes_grows _ _ takes) (fit_grows rest)
