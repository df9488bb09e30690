-- Names that were seen.
use Rattle.std.proofs.Common.{◌≡◌, List, [], ◌∷◌, ◌++◌, ℕ, Bool, true, false, ◌||◌, cond, BTreeSet, Vec, Global, sym, ap, ap₂, subst, refl, ◌∙◌, take, drop, get_or, ◌+◌, ◌<◌, length, bytes_eq, arith, not, true≢false}
use Rattle.std.specs.BTreeSet.{contains, Updates}
use Rattle.std.specs.Cmp.Lexicographic.{slice_cmp}
use Rattle.std.specs.Ordering.{nat_cmp, is_eq}
use Rattle.std.proofs.lemmas.Map.Text.{is_eq-slice_cmp}
use Rattle.std.proofs.lemmas.Cmp.{nat_list_eq_equiv}
use Rattle.std.proofs.lemmas.List.{take_more, take-append-drop}
use Rattle.c_types.specs.declared.kinds.Field.{Field}
use Rattle.c_types.specs.Adding.{is_named, has_two_of_a_name}

-- A set has the names of some fields, which all differ.
pub record AreSeen (names : BTreeSet (Vec ℕ Global)) (fields : List Field) : Type 0 where
  pub named : (name : Vec ℕ Global) → contains (λ (x y : Vec ℕ Global). slice_cmp nat_cmp x.items y.items) names name ≡ is_named name.items fields
  pub differ : has_two_of_a_name fields ≡ false

or_false : (b : Bool) → b || false ≡ b
or_false true = refl
or_false false = refl

or_assoc : (a b c : Bool) → (a || b) || c ≡ a || (b || c)
or_assoc true b c = refl
or_assoc false b c = refl

or_swap : (a b : Bool) → a || b ≡ b || a
or_swap true true = refl
or_swap true false = refl
or_swap false true = refl
or_swap false false = refl

or_cross : (a b c d : Bool) → (a || b) || (c || d) ≡ (a || c) || (b || d)
or_cross true b c d = refl
or_cross false true true d = refl
or_cross false true false d = refl
or_cross false false c d = refl

symmetric : (a b : List ℕ) → bytes_eq a b ≡ bytes_eq b a
symmetric a b = nat_list_eq_equiv.symm a b

named_push : (name : List ℕ) (fields : List Field) (f : Field) → is_named name (fields ++ f ∷ []) ≡ is_named name fields || bytes_eq f.name name
named_push name [] f = or_false (bytes_eq f.name name)
named_push name (x ∷ fields) f =
    ap (λ b. bytes_eq x.name name || b) (named_push name fields f) ∙
    sym (or_assoc (bytes_eq x.name name) (is_named name fields) (bytes_eq f.name name))

two_push : (fields : List Field) (f : Field) → has_two_of_a_name (fields ++ f ∷ []) ≡ has_two_of_a_name fields || is_named f.name fields
two_push [] f = refl
two_push (x ∷ fields) f =
    ap₂ (λ a b. a || b) (named_push x.name fields f) (two_push fields f) ∙
    (or_cross (is_named x.name fields) (bytes_eq f.name x.name) (has_two_of_a_name fields) (is_named f.name fields) ∙
    ap (λ b. (is_named x.name fields || has_two_of_a_name fields) || (b || is_named f.name fields)) (symmetric f.name x.name))

named_more : (name : List ℕ) (fields more : List Field) → is_named name fields ≡ true → is_named name (fields ++ more) ≡ true
named_more name [] more e = absurd (true≢false (sym e))
named_more name (x ∷ fields) more e = by_first (bytes_eq x.name name) (named_more name fields more) e
  where
    by_first : (b : Bool) → (is_named name fields ≡ true → is_named name (fields ++ more) ≡ true) →
        b || is_named name fields ≡ true → b || is_named name (fields ++ more) ≡ true
    by_first true rest e = refl
    by_first false rest e = rest e

two_more : (fields more : List Field) → has_two_of_a_name fields ≡ true → has_two_of_a_name (fields ++ more) ≡ true
two_more [] more e = absurd (true≢false (sym e))
two_more (x ∷ fields) more e =
    by_first (is_named x.name fields) (named_more x.name fields more) (two_more fields more) (is_named x.name (fields ++ more)) refl e
  where
    by_first : (b : Bool) → (b ≡ true → is_named x.name (fields ++ more) ≡ true) →
        (has_two_of_a_name fields ≡ true → has_two_of_a_name (fields ++ more) ≡ true) → (c : Bool) → is_named x.name (fields ++ more) ≡ c →
        b || has_two_of_a_name fields ≡ true → is_named x.name (fields ++ more) || has_two_of_a_name (fields ++ more) ≡ true
    by_first true first rest c is e = ap (λ d. d || has_two_of_a_name (fields ++ more)) (first refl)
    by_first false first rest true is e = ap (λ d. d || has_two_of_a_name (fields ++ more)) is
    by_first false first rest false is e = ap₂ (λ d f. d || f) is (rest e)

module _ (names : BTreeSet (Vec ℕ Global)) (fields : List Field) (i : ℕ) (f : Field) (within : i < length fields) (is : f ≡ get_or fields i f)
    (seen : AreSeen names (take i fields)) (name : Vec ℕ Global) (copied : name.items ≡ f.name) where
  next_take : take (i + 1) fields ≡ take i fields ++ f ∷ []
  next_take = take_more fields i f within ∙ ap (λ x. take i fields ++ x ∷ []) (sym is)

  found_is : contains (λ (x y : Vec ℕ Global). slice_cmp nat_cmp x.items y.items) names name ≡ is_named f.name (take i fields)
  found_is = seen.named name ∙ ap (λ n. is_named n (take i fields)) copied

  pub two_found : contains (λ (x y : Vec ℕ Global). slice_cmp nat_cmp x.items y.items) names name ≡ true → true ≡ has_two_of_a_name fields
  two_found there =
      let here : has_two_of_a_name (take (i + 1) fields) ≡ true =
      ap has_two_of_a_name next_take ∙ (two_push (take i fields) f ∙ ap₂ (λ a b. a || b) seen.differ (sym found_is ∙ there)) in
      sym (ap has_two_of_a_name (sym (take-append-drop (i + 1) fields)) ∙ two_more (take (i + 1) fields) (drop (i + 1) fields) here)

  pub one_seen : (new : BTreeSet (Vec ℕ Global)) → contains (λ (x y : Vec ℕ Global). slice_cmp nat_cmp x.items y.items) names name ≡ false →
      Updates (λ (x y : Vec ℕ Global). slice_cmp nat_cmp x.items y.items) names new name true → AreSeen new (take (i + 1) fields)
  one_seen new absent updates = record {
    named = λ other.
        updates.0 other ∙
        (ap₂ (λ a b. cond a true b) (is_eq-slice_cmp name.items other.items ∙ ap (λ n. bytes_eq n other.items) copied) (seen.named other) ∙
        (cond_or (bytes_eq f.name other.items) (is_named other.items (take i fields)) ∙
        (sym (named_push other.items (take i fields) f) ∙ ap (is_named other.items) (sym next_take))));
    differ = ap has_two_of_a_name next_take ∙
        (two_push (take i fields) f ∙ ap₂ (λ a b. a || b) seen.differ (sym found_is ∙ absent));
  }
    where
      cond_or : (a b : Bool) → cond a true b ≡ b || a
      cond_or true true = refl
      cond_or true false = refl
      cond_or false true = refl
      cond_or false false = refl
