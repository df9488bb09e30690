-- A history with one entry more at its end.
use Rattle.std.proofs.Common.{◌≡◌, ℕ, suc, ◌+◌, ◌≤◌, Bool, true, false, cond, List, [], ◌∷◌, ◌++◌, length, filter, sym, ap, ◌∙◌, subst, eq-eqb, ne_eqb, append-nil, arith, ◌⊎◌, inl, inr}
use Rattle.std.proofs.lemmas.Bool.{cases_eq}
use Rattle.std.proofs.lemmas.List.Elements.{filter-append}
use Rattle.heap_model.specs.Legal.{CountsFrom, InRegions, IsWellNumbered, of_region, own}
use Rattle.heap_model.specs.declared.calls.Entry.{Entry}
use Rattle.region_heaps.specs.Entries.{StampsFrom}

module _ (p : Entry → Bool) (es : List Entry) (e : Entry) where
  filter-push_yes : p e ≡ true → filter p (es ++ e ∷ []) ≡ filter p es ++ e ∷ []
  filter-push_yes passes = filter-append p es (e ∷ []) ∙ ap (λ b. filter p es ++ cond b (e ∷ []) []) passes

  filter-push_no : p e ≡ false → filter p (es ++ e ∷ []) ≡ filter p es
  filter-push_no fails = filter-append p es (e ∷ []) ∙ ap (λ b. filter p es ++ cond b (e ∷ []) []) fails ∙ append-nil (filter p es)

module _ (es : List Entry) (e : Entry) where
  pub of_region-push_here : (r : ℕ) → e.region ≡ r → of_region r (es ++ e ∷ []) ≡ of_region r es ++ e ∷ []
  of_region-push_here r same = filter-push_yes _ es e (eq-eqb _ _ same)

  pub of_region-push_there : (r : ℕ) → (e.region ≡ r → ⊥) → of_region r (es ++ e ∷ []) ≡ of_region r es
  of_region-push_there r other = filter-push_no _ es e (ne_eqb _ _ other)

  pub own-push_here : (w : ℕ) → e.worker ≡ w → own (es ++ e ∷ []) w ≡ own es w ++ e ∷ []
  own-push_here w same = filter-push_yes _ es e (eq-eqb _ _ same)

  pub own-push_there : (w : ℕ) → (e.worker ≡ w → ⊥) → own (es ++ e ∷ []) w ≡ own es w
  own-push_there w other = filter-push_no _ es e (ne_eqb _ _ other)

CountsFrom-push : (n : ℕ) (es : List Entry) (e : Entry) → CountsFrom n es → e.number ≡ n + length es → CountsFrom n (es ++ e ∷ [])
CountsFrom-push n [] e counts is = (omega (arith, is), tt)
CountsFrom-push n (x ∷ es) e counts is = (counts.0, CountsFrom-push (suc n) es e counts.1 (omega (arith, is)))

pub StampsFrom-push : (n : ℕ) (es : List Entry) (e : Entry) → StampsFrom n es → e.stamp ≡ n + length es → StampsFrom n (es ++ e ∷ [])
StampsFrom-push n [] e stamps is = (omega (arith, is), tt)
StampsFrom-push n (x ∷ es) e stamps is = (stamps.0, StampsFrom-push (suc n) es e stamps.1 (omega (arith, is)))

pub InRegions-push : (es : List Entry) (e : Entry) → InRegions es → 1 ≤ e.region → e.region ≤ 27 → InRegions (es ++ e ∷ [])
InRegions-push [] e all low high = (low, high, tt)
InRegions-push (x ∷ es) e all low high = (all.0, all.1, InRegions-push es e all.2 low high)

pub IsWellNumbered-push : (es : List Entry) (e : Entry) → IsWellNumbered es → e.number ≡ length (own es e.worker) → IsWellNumbered (es ++ e ∷ [])
IsWellNumbered-push es e numbered is w = go (cases_eq e.worker w)
  where
    go : (e.worker ≡ w) ⊎ (e.worker ≡ w → ⊥) → CountsFrom 0 (own (es ++ e ∷ []) w)
    go (inl same) =
        let number : e.number ≡ 0 + length (own es w) = is ∙ ap (λ v. length (own es v)) same ∙ omega arith in
        subst (CountsFrom 0) (sym (own-push_here es e w same)) (CountsFrom-push 0 (own es w) e (numbered w) number)
    go (inr other) = subst (CountsFrom 0) (sym (own-push_there es e w other)) (numbered w)

-- a worker has no more entries than there are
pub own-le : (es : List Entry) (w : ℕ) → length (own es w) ≤ length es
own-le [] w = omega arith
own-le (x ∷ es) w = grind (arith, own-le es w)
