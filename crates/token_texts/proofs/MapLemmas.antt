-- What the fields of a table keep, as it grows.
use Rattle.std.proofs.Common.{◌≡◌, ◌≢◌, ℕ, List, [], ◌∷◌, ◌++◌, length, Option, Some, None, true, false, Bool, cond, inl, inr, refl, sym, ap, subst, ◌∙◌, ⊎_elim}
use Rattle.std.specs.Prelude.{Vec, slice_get, ◌||◌}
use Rattle.std.specs.List.{list_any}
use Rattle.std.specs.declared.alloc.Global.{Global}
use Rattle.std.specs.BTreeMap.{BTreeMap, UpdatesBy, IsEmpty}
use Rattle.std.specs.Map.{KeepsOthers, IsKeyTest, AreApart, lookup}
use Rattle.std.specs.Cmp.Lexicographic.{slice_cmp}
use Rattle.std.specs.Ordering.{nat_cmp, is_eq}
use Rattle.std.specs.Str.{bytes_eq}
use Rattle.std.proofs.lemmas.Bool.{cases_Bool, cond-true, cond-false}
use Rattle.std.proofs.lemmas.Cmp.{nat_list_eq_equiv, nat_list_cmp_total, eq_by_cmp_equiv}
use Rattle.std.proofs.lemmas.Map.Text.{is_eq-slice_cmp}
use Rattle.std.proofs.lemmas.Slice.Eq.{bytes_eq-Decides}
use Rattle.std.proofs.lemmas.List.Folds.{list_any-append}
use Rattle.token_texts.specs.Indexed.{IsIndexed, number_in}
use Rattle.token_texts.proofs.Lists.{get-push, get-more}

-- ---- a change of the map at one place

pub same_bytes : (a b : List ℕ) → bytes_eq a b ≡ true → a ≡ b
same_bytes a b h = (bytes_eq-Decides a b).0 h

apart : (bs cs ks : List ℕ) → bytes_eq bs cs ≡ false → bytes_eq bs ks ≡ true → bytes_eq cs ks ≡ false
apart bs cs ks n y = nat_list_eq_equiv.symm cs ks ∙ sym (nat_list_eq_equiv.congr bs ks cs y) ∙ n

apart_in_order : (bs cs ks : List ℕ) → bytes_eq bs cs ≡ false → is_eq (slice_cmp nat_cmp bs ks) ≡ true → is_eq (slice_cmp nat_cmp cs ks) ≡ false
apart_in_order bs cs ks n y = is_eq-slice_cmp cs ks ∙ apart bs cs ks n (sym (is_eq-slice_cmp bs ks) ∙ y)

other_entries : {K X : Type 0} (eq : K → K → Bool) (test : K → Bool) (old new : List (K × X)) → KeepsOthers eq test old new →
    (other : K → Bool) → IsKeyTest eq other → AreApart test other → lookup other new ≡ lookup other old
unfolding KeepsOthers
other_entries eq test old new h = h

-- The map after a change has this at these bytes, and at others what it had.
abbrev pub Changes : BTreeMap (Vec ℕ Global) ℕ → BTreeMap (Vec ℕ Global) ℕ → List ℕ → Option ℕ → Type 0
Changes old new bytes what = (other : List ℕ) → number_in new other ≡ cond (bytes_eq bytes other) what (number_in old other)

pub changes : (old new : BTreeMap (Vec ℕ Global) ℕ) (bytes : List ℕ) (what : Option ℕ) →
    UpdatesBy (λ (x y : Vec ℕ Global). slice_cmp nat_cmp x.items y.items) (λ k. slice_cmp nat_cmp bytes k.items) old new what → Changes old new bytes what
changes old new bytes what h other =
    ⊎_elim
    (λ y. subst (λ l. number_in new l ≡ what) (same_bytes bytes other y) h.1 ∙ sym (cond-true (bytes_eq bytes other) what (number_in old other) y))
    (λ n. other_entries _ _ _ _ h.3 _ (λ x y. (eq_by_cmp_equiv nat_list_cmp_total).congr other x.items y.items) (λ k. apart_in_order bytes other k.items n)
    ∙ sym (cond-false (bytes_eq bytes other) what (number_in old other) n))
    (cases_Bool (bytes_eq bytes other))

-- ---- the table

pub indexed_none : (numbers : BTreeMap (Vec ℕ Global) ℕ) → IsEmpty numbers → IsIndexed numbers []
indexed_none numbers empty = record {
  found = λ bytes n h. (let none : number_in numbers bytes ≡ None = rw empty refl in absurd cc);
  missing = λ bytes h. refl;
}

or_false : (a b : Bool) → a ≡ false → b ≡ false → (a || b) ≡ false
or_false a b x y = rw (x, y) refl

pub indexed_more : (old new : BTreeMap (Vec ℕ Global) ℕ) (list : List (List ℕ)) (bytes : List ℕ) → IsIndexed old list →
    Changes old new bytes (Some (length list)) → IsIndexed new (list ++ bytes ∷ [])
indexed_more old new list bytes kept change = record {
  found = λ other n h.
      elim (cases_Bool (bytes_eq bytes other)) [
        | inl y ↦ (
            let here = sym h ∙ change other ∙ cond-true (bytes_eq bytes other) (Some (length list)) (number_in old other) y in
            let at : n ≡ length list = cc in
            rw (at, ← same_bytes bytes other y) (get-push list bytes))
        | inr y ↦ (
            let there = sym (change other ∙ cond-false (bytes_eq bytes other) (Some (length list)) (number_in old other) y) ∙ h in
            get-more list (bytes ∷ []) n other (kept.found other n there))
      ];
  missing = λ other h.
      elim (cases_Bool (bytes_eq bytes other)) [
        | inl y ↦ (let here = sym h ∙ change other ∙ cond-true (bytes_eq bytes other) (Some (length list)) (number_in old other) y in absurd cc)
        | inr y ↦ (
            let none = sym (change other ∙ cond-false (bytes_eq bytes other) (Some (length list)) (number_in old other) y) ∙ h in
            let apart : bytes_eq other bytes ≡ false = nat_list_eq_equiv.symm other bytes ∙ y in
            list_any-append (bytes_eq other) list (bytes ∷ [])
            ∙ or_false (list_any (bytes_eq other) list) (bytes_eq other bytes || false) (kept.missing other none) (or_false (bytes_eq other bytes) false apart refl))
      ];
}
