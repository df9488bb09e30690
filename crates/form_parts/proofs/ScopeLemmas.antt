-- The variables in scope, as the fields of a scope have them.
use Rattle.std.proofs.Common.{◌≡◌, ℕ, zero, suc, List, [], ◌∷◌, ◌++◌, length, take, refl, sym, ap, ◌∙◌}
use Rattle.std.specs.List.{zip}
use Rattle.std.proofs.lemmas.Slice.Zip.{firsts-zip, seconds-zip}
use Rattle.scoped_names.specs.Names.{last_place}
use Rattle.form_parts.specs.declared.sort.Sort.{Sort}
use Rattle.form_parts.specs.Variables.{Variable, names, meaning_at, meaning}

zip-push : {K X : Type 0} (ks : List K) (xs : List X) (key : K) (x : X) → length xs ≡ length ks → zip (ks ++ key ∷ []) (xs ++ x ∷ []) ≡ zip ks xs ++ (key, x) ∷ []
zip-push [] [] key x same = refl
zip-push [] (y ∷ xs) key x same = absurd cc
zip-push (l ∷ ks) [] key x same = absurd cc
zip-push (l ∷ ks) (y ∷ xs) key x same = let e : length xs ≡ length ks = cc in ap (λ rest. (l, y) ∷ rest) (zip-push ks xs key x e)

zip-take : {K X : Type 0} (n : ℕ) (ks : List K) (xs : List X) → zip (take n ks) (take n xs) ≡ take n (zip ks xs)
zip-take zero ks xs = refl
zip-take (suc n) [] xs = refl
zip-take (suc n) (l ∷ ks) [] = refl
zip-take (suc n) (l ∷ ks) (y ∷ xs) = ap (λ rest. (l, y) ∷ rest) (zip-take n ks xs)

length-zip_same : (ns : List ℕ) (ss : List Sort) → length ss ≡ length ns → length (zip ns ss) ≡ length ss
length-zip_same [] [] same = refl
length-zip_same [] (y ∷ ss) same = absurd cc
length-zip_same (l ∷ ns) [] same = absurd cc
length-zip_same (l ∷ ns) (y ∷ ss) same = let e : length ss ≡ length ns = cc in ap suc (length-zip_same ns ss e)

module _ (ns : List ℕ) (ss : List Sort) (scope : List Variable) (view : zip ns ss ≡ scope) (same : length ss ≡ length ns) where
  pub scope_length : length ss ≡ length scope
  scope_length = sym (length-zip_same ns ss same) ∙ ap length view

  pub scope_names : names scope ≡ ns
  scope_names = ap names (sym view) ∙ firsts-zip ns ss same

  pub scope_meaning : (name : ℕ) → meaning scope name ≡ meaning_at ss (last_place ns name)
  unfolding meaning
  scope_meaning name = rw (← view, firsts-zip ns ss same, seconds-zip ns ss same) refl

  pub scope_declared : (ms : List ℕ) (ts : List Sort) (name : ℕ) (sort : Sort) → ms ≡ ns ++ name ∷ [] → ts ≡ ss ++ sort ∷ [] → zip ms ts ≡ scope ++ (name, sort) ∷ []
  scope_declared ms ts name sort a b = rw (a, b) (zip-push ns ss name sort same ∙ ap (λ l. l ++ (name, sort) ∷ []) view)

  pub scope_closed : (ms : List ℕ) (ts : List Sort) (start : ℕ) → ms ≡ take start ns → ts ≡ take start ss → zip ms ts ≡ take start scope
  scope_closed ms ts start a b = rw (a, b) (zip-take start ns ss ∙ ap (λ l. take start l) view)
