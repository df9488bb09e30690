-- Lists in which each stands once.
use Rattle.std.proofs.Common.{◌≡◌, ℕ, suc, ◌<◌, List, [], ◌∷◌, ◌++◌, length, Option, Some, None, Bool, true, false, cond, inl, inr, refl, sym, ap, subst, ◌∙◌, ⊎_elim}
use Rattle.std.specs.Prelude.{slice_get, fold, map, ◌⊎◌}
use Rattle.std.proofs.lemmas.List.{map-append}
use Rattle.std.proofs.lemmas.List.Sums.{fold-append}
use Rattle.std.specs.List.{list_any}
use Rattle.std.specs.Str.{bytes_eq}
use Rattle.std.proofs.lemmas.Bool.{cases_Bool, cond-true, cond-false}
use Rattle.std.proofs.lemmas.Cmp.{nat_list_eq_equiv}
use Rattle.token_texts.specs.Texts.{with_one, distinct}
use Rattle.token_texts.proofs.Lists.{get-push, get-more, get-push_cases, any-there}

-- what stands in a list is among it
pub among : (list : List (List ℕ)) (n : ℕ) (one : List ℕ) → slice_get list n ≡ Some one → list_any (bytes_eq one) list ≡ true
among list n one there = any-there (bytes_eq one) list n one there (nat_list_eq_equiv.refl one)

pub with_one-there : (list : List (List ℕ)) (n : ℕ) (one : List ℕ) → slice_get list n ≡ Some one → with_one list one ≡ list
with_one-there list n one there = cond-true (list_any (bytes_eq one) list) list (list ++ one ∷ []) (among list n one there)

pub with_one-new : (list : List (List ℕ)) (one : List ℕ) → list_any (bytes_eq one) list ≡ false → with_one list one ≡ list ++ one ∷ []
with_one-new list one new = cond-false (list_any (bytes_eq one) list) list (list ++ one ∷ []) new

-- ---- what stands there stays there

pub with_one-keeps : (list : List (List ℕ)) (one : List ℕ) (n : ℕ) (other : List ℕ) → slice_get list n ≡ Some other → slice_get (with_one list one) n ≡ Some other
with_one-keeps list one n other there =
    elim (cases_Bool (list_any (bytes_eq one) list)) [
      | inl y ↦ subst (λ l. slice_get l n ≡ Some other) (sym (cond-true (list_any (bytes_eq one) list) list (list ++ one ∷ []) y)) there
      | inr y ↦ subst (λ l. slice_get l n ≡ Some other) (sym (with_one-new list one y)) (get-more list (one ∷ []) n other there)
    ]

pub fold-keeps : (more list : List (List ℕ)) (n : ℕ) (other : List ℕ) → slice_get list n ≡ Some other → slice_get (fold with_one list more) n ≡ Some other
fold-keeps [] list n other there = there
fold-keeps (one ∷ more) list n other there = fold-keeps more (with_one list one) n other (with_one-keeps list one n other there)

-- ---- each stands once

pub record AreApart (list : List (List ℕ)) : Type 0 where
  pub same : (m n : ℕ) (one : List ℕ) → slice_get list m ≡ Some one → slice_get list n ≡ Some one → m ≡ n

apart-none : AreApart []
apart-none = record { same = λ m n one h g. absurd cc }

apart-new : (list : List (List ℕ)) (one : List ℕ) → AreApart list → list_any (bytes_eq one) list ≡ false → AreApart (list ++ one ∷ [])
apart-new list one apart new = record {
  same = λ m n other h g.
      elim (get-push_cases list one other m h) [
        | inl low ↦ elim (get-push_cases list one other n g) [
          | inl below ↦ apart.same m n other low below
          | inr p ↦ (let there = among list m one (subst (λ o. slice_get list m ≡ Some o) (sym p.1) low) in absurd cc)
        ]
        | inr q ↦ elim (get-push_cases list one other n g) [
          | inl below ↦ (let there = among list n one (subst (λ o. slice_get list n ≡ Some o) (sym q.1) below) in absurd cc)
          | inr p ↦ q.0 ∙ sym p.0
        ]
      ];
}

apart-with_one : (list : List (List ℕ)) (one : List ℕ) → AreApart list → AreApart (with_one list one)
apart-with_one list one apart =
    elim (cases_Bool (list_any (bytes_eq one) list)) [
      | inl y ↦ subst AreApart (sym (cond-true (list_any (bytes_eq one) list) list (list ++ one ∷ []) y)) apart
      | inr y ↦ subst AreApart (sym (with_one-new list one y)) (apart-new list one apart y)
    ]

apart-fold : (more list : List (List ℕ)) → AreApart list → AreApart (fold with_one list more)
apart-fold [] list apart = apart
apart-fold (one ∷ more) list apart = apart-fold more (with_one list one) (apart-with_one list one apart)

pub distinct-apart : (list : List (List ℕ)) → AreApart (distinct list)
distinct-apart list = apart-fold list [] apart-none

-- what stands in a list of which each stands once has its place when more come after it
pub first_of_all : (first more : List (List ℕ)) (n : ℕ) (one : List ℕ) → distinct first ≡ first → slice_get first n ≡ Some one → slice_get (distinct (first ++ more)) n ≡ Some one
first_of_all first more n one each there =
    subst (λ l. slice_get l n ≡ Some one) (sym (fold-append with_one [] first more))
    (fold-keeps more (distinct first) n one (subst (λ l. slice_get l n ≡ Some one) (sym each) there))

-- ---- numbers of several

-- what stands in the one list stands in the other
pub record Keeps (old new : List (List ℕ)) : Type 0 where
  pub there : (n : ℕ) (one : List ℕ) → slice_get old n ≡ Some one → slice_get new n ≡ Some one

pub keeps-with_one : (list : List (List ℕ)) (one : List ℕ) → Keeps list (with_one list one)
keeps-with_one list one = record { there = with_one-keeps list one }

pub keeps-fold : (more list : List (List ℕ)) → Keeps list (fold with_one list more)
keeps-fold more list = record { there = fold-keeps more list }

all_kept : {old new : List (List ℕ)} → Keeps old new → (numbers : List ℕ) (names : List (List ℕ)) →
    map (slice_get old) numbers ≡ map (λ name. Some name) names → map (slice_get new) numbers ≡ map (λ name. Some name) names
all_kept kept [] [] h = refl
all_kept kept [] (name ∷ names) h = absurd cc
all_kept kept (n ∷ numbers) [] h = absurd cc
all_kept {old} {new} kept (n ∷ numbers) (name ∷ names) h =
    let first : slice_get old n ≡ Some name = cc in
    let rest : map (slice_get old) numbers ≡ map (λ name. Some name) names = cc in
    rw (kept.there n name first, all_kept kept numbers names rest) refl

pub numbers_more : {old new : List (List ℕ)} → Keeps old new → (numbers : List ℕ) (names : List (List ℕ)) (n : ℕ) (name : List ℕ) →
    map (slice_get old) numbers ≡ map (λ name. Some name) names → slice_get new n ≡ Some name →
    map (slice_get new) (numbers ++ n ∷ []) ≡ map (λ name. Some name) (names ++ name ∷ [])
numbers_more {new = new} kept numbers names n name h there =
    map-append (slice_get new) numbers (n ∷ []) ∙ ap (λ l. l ++ slice_get new n ∷ []) (all_kept kept numbers names h)
    ∙ ap (λ o. map (λ name. Some name) names ++ o ∷ []) there ∙ sym (map-append (λ name. Some name) names (name ∷ []))

pub numbers_kept : {old new : List (List ℕ)} → Keeps old new → (numbers : List ℕ) (names : List (List ℕ)) →
    map (slice_get old) numbers ≡ map (λ name. Some name) names → map (slice_get new) numbers ≡ map (λ name. Some name) names
numbers_kept kept numbers names h = all_kept kept numbers names h
