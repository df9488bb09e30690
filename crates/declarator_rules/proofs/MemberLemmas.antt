-- The names of members, as one more member comes.
use Rattle.std.proofs.Common.{◌≡◌, ℕ, List, [], ◌∷◌, ◌++◌, Bool, true, false, cond, refl, sym, ap, ap₂, subst, ◌∙◌, ⊎_elim, BTreeSet, Vec, Global}
use Rattle.std.specs.Prelude.{◌||◌}
use Rattle.std.specs.List.{list_any}
use Rattle.std.specs.BTreeSet.{Updates}
use Rattle.std.specs.Set.{KeepsOthers}
use Rattle.std.specs.Map.{IsKeyTest, AreApart}
use Rattle.std.specs.Cmp.Lexicographic.{slice_cmp}
use Rattle.std.specs.Ordering.{nat_cmp, is_eq}
use Rattle.std.specs.Str.{bytes_eq}
use Rattle.std.proofs.lemmas.Bool.{cases_Bool, cond-true, cond-false}
use Rattle.std.proofs.lemmas.Cmp.{nat_list_eq_equiv, nat_list_cmp_total, eq_by_cmp_equiv}
use Rattle.std.proofs.lemmas.Map.Text.{is_eq-slice_cmp}
use Rattle.std.proofs.lemmas.Slice.Eq.{bytes_eq-Decides}
use Rattle.c_types.specs.declared.kinds.Field.{Field}
use Rattle.c_types.specs.Adding.{is_named}
use Rattle.declarator_rules.specs.Names.{has_name, HasNames}

-- ---- one more name in a set

same_bytes : (a b : List ℕ) → bytes_eq a b ≡ true → a ≡ b
same_bytes a b h = (bytes_eq-Decides a b).0 h

apart : (bs cs ks : List ℕ) → bytes_eq bs cs ≡ false → bytes_eq bs ks ≡ true → bytes_eq cs ks ≡ false
apart bs cs ks n y = nat_list_eq_equiv.symm cs ks ∙ sym (nat_list_eq_equiv.congr bs ks cs y) ∙ n

apart_in_order : (bs cs ks : List ℕ) → bytes_eq bs cs ≡ false → is_eq (slice_cmp nat_cmp bs ks) ≡ true →
    is_eq (slice_cmp nat_cmp cs ks) ≡ false
apart_in_order bs cs ks n y = is_eq-slice_cmp cs ks ∙ apart bs cs ks n (sym (is_eq-slice_cmp bs ks) ∙ y)

other_keys : {K : Type 0} (eq : K → K → Bool) (test : K → Bool) (old new : List K) → KeepsOthers eq test old new →
    (other : K → Bool) → IsKeyTest eq other → AreApart test other → list_any other new ≡ list_any other old
unfolding KeepsOthers
other_keys eq test old new h = h

changes : (old new : BTreeSet (Vec ℕ Global)) (key : Vec ℕ Global) →
    Updates (λ (x y : Vec ℕ Global). slice_cmp nat_cmp x.items y.items) old new key true →
    (other : List ℕ) → has_name new other ≡ cond (bytes_eq key.items other) true (has_name old other)
changes old new key h other =
    ⊎_elim
    (λ y. subst (λ l. has_name new l ≡ true) (same_bytes key.items other y) h.1
    ∙ sym (cond-true (bytes_eq key.items other) true (has_name old other) y))
    (λ n. other_keys _ _ _ _ h.3 _ (λ x y. (eq_by_cmp_equiv nat_list_cmp_total).congr other x.items y.items)
    (λ k. apart_in_order key.items other k.items n)
    ∙ sym (cond-false (bytes_eq key.items other) true (has_name old other) n))
    (cases_Bool (bytes_eq key.items other))

-- ---- one more member in a list

or_false : (b : Bool) → b || false ≡ b
or_false true = refl
or_false false = refl

or_assoc : (a b c : Bool) → (a || b) || c ≡ a || (b || c)
or_assoc true b c = refl
or_assoc false b c = refl

cond_or : (a b : Bool) → cond a true b ≡ b || a
cond_or true true = refl
cond_or true false = refl
cond_or false true = refl
cond_or false false = refl

named_push : (name : List ℕ) (fields : List Field) (f : Field) →
    is_named name (fields ++ f ∷ []) ≡ is_named name fields || bytes_eq f.name name
named_push name [] f = or_false (bytes_eq f.name name)
named_push name (x ∷ fields) f =
    ap (λ b. bytes_eq x.name name || b) (named_push name fields f)
    ∙ sym (or_assoc (bytes_eq x.name name) (is_named name fields) (bytes_eq f.name name))

pub names_push : (old new : BTreeSet (Vec ℕ Global)) (key : Vec ℕ Global) (fields : List Field) (f : Field) →
    HasNames old fields → key.items ≡ f.name →
    Updates (λ (x y : Vec ℕ Global). slice_cmp nat_cmp x.items y.items) old new key true → HasNames new (fields ++ f ∷ [])
names_push old new key fields f named copied updates = λ name.
    changes old new key updates name
    ∙ ap₂ (λ a b. cond a true b) (ap (λ n. bytes_eq n name) copied) (named name)
    ∙ cond_or (bytes_eq f.name name) (is_named name fields) ∙ sym (named_push name fields f)
