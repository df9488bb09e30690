-- A scope that is kept as names and kinds, the first declared first.
use Rattle.std.proofs.Common.{◌≡◌, ℕ, zero, suc, ◌+◌, ◌-◌, ◌≤◌, List, [], ◌∷◌, ◌++◌, length, take, drop, map, Option, Some, None, true, false, Bool, cond, refl, sym, ap, ◌∙◌, arith}
use Rattle.std.specs.Prelude.{slice_get, reverse, ◌==◌}
use Rattle.std.specs.List.{zip}
use Rattle.std.proofs.lemmas.List.{map-append, length-map, reverse-append, length-reverse, take-append-drop, drop_at, take_at, take_all, take_more, drop-append-le, length-drop, length-take-le, take-map}
use Rattle.std.proofs.lemmas.Option.{slice_get_within, get_or_from_slice_get}
use mathlib.Core.List.{reverse_aux}
use Rattle.scoped_names.specs.Names.{last_of, last_place}
use Rattle.c_grammar.specs.declared.words.NameKind.{NameKind}
use Rattle.c_grammar.specs.declared.words.NameKind.TheVariants as kind
use Rattle.grammar_descent.specs.Types.{declares_type}
use Rattle.token_reader.specs.declared.parameter_names.DeclaredName.{DeclaredName}
use Rattle.token_reader.specs.Scoping.{declared_by, scope_of, is_type_in, says_type, declares_at}

-- ---- lists

zip-push : {K X : Type 0} (ks : List K) (xs : List X) (key : K) (x : X) → length xs ≡ length ks → zip (ks ++ key ∷ []) (xs ++ x ∷ []) ≡ zip ks xs ++ (key, x) ∷ []
zip-push [] [] key x same = refl
zip-push [] (y ∷ xs) key x same = absurd cc
zip-push (l ∷ ks) [] key x same = absurd cc
zip-push (l ∷ ks) (y ∷ xs) key x same = let e : length xs ≡ length ks = cc in ap (λ rest. (l, y) ∷ rest) (zip-push ks xs key x e)

zip-take : {K X : Type 0} (n : ℕ) (ks : List K) (xs : List X) → zip (take n ks) (take n xs) ≡ take n (zip ks xs)
zip-take zero ks xs = refl
zip-take (suc n) [] xs = refl
zip-take (suc n) (l ∷ ks) [] = refl
zip-take (suc n) (l ∷ ks) (y ∷ xs) = ap (λ rest. (l, y) ∷ rest) (zip-take n ks xs)

length-zip_same : {K X : Type 0} (ks : List K) (xs : List X) → length xs ≡ length ks → length (zip ks xs) ≡ length xs
length-zip_same [] [] same = refl
length-zip_same [] (y ∷ xs) same = absurd cc
length-zip_same (l ∷ ks) [] same = absurd cc
length-zip_same (l ∷ ks) (y ∷ xs) same = let e : length xs ≡ length ks = cc in ap suc (length-zip_same ks xs e)

-- the first of a list, seen from its end
pub reverse-take : {X : Type 0} (n : ℕ) (xs : List X) → reverse (take n xs) ≡ drop (length (reverse xs) - n) (reverse xs)
reverse-take n xs =
    let split : reverse xs ≡ reverse (drop n xs) ++ reverse (take n xs) = ap reverse (sym (take-append-drop n xs)) ∙ reverse-append (take n xs) (drop n xs) in
    let long : length (reverse (drop n xs)) ≡ length (reverse xs) - n = length-reverse (drop n xs) ∙ length-drop n xs ∙ ap (λ l. l - n) (sym (length-reverse xs)) in
    sym (drop_at (reverse (drop n xs)) (reverse (take n xs)) (length (reverse xs) - n) long) ∙ ap (λ l. drop (length (reverse xs) - n) l) (sym split)

-- the rest of a list, seen from its end
pub reverse-drop : {X : Type 0} (n : ℕ) (xs : List X) → reverse (drop n xs) ≡ take (length (reverse xs) - n) (reverse xs)
reverse-drop n xs =
    let split : reverse xs ≡ reverse (drop n xs) ++ reverse (take n xs) = ap reverse (sym (take-append-drop n xs)) ∙ reverse-append (take n xs) (drop n xs) in
    let long : length (reverse (drop n xs)) ≡ length (reverse xs) - n = length-reverse (drop n xs) ∙ length-drop n xs ∙ ap (λ l. l - n) (sym (length-reverse xs)) in
    sym (take_at (reverse (drop n xs)) (reverse (take n xs)) (length (reverse xs) - n) long) ∙ ap (λ l. take (length (reverse xs) - n) l) (sym split)

-- one more of a list, seen from its end
pub reverse_more : {X : Type 0} (xs : List X) (i : ℕ) (x : X) → slice_get xs i ≡ Some x → reverse (take (i + 1) xs) ≡ x ∷ reverse (take i xs)
reverse_more xs i x here =
    ap reverse (take_more xs i x (slice_get_within xs i x here) ∙ ap (λ y. take i xs ++ y ∷ []) (get_or_from_slice_get xs i x x here))
    ∙ reverse-append (take i xs) (x ∷ [])

-- one more after the first `count`
pub rest_more : {X : Type 0} (xs : List X) (count i : ℕ) (x : X) → slice_get xs i ≡ Some x → count ≤ i →
    reverse (drop count (take (i + 1) xs)) ≡ x ∷ reverse (drop count (take i xs))
rest_more xs count i x here low =
    let within = slice_get_within xs i x here in
    let more : take (i + 1) xs ≡ take i xs ++ x ∷ [] = take_more xs i x within ∙ ap (λ y. take i xs ++ y ∷ []) (get_or_from_slice_get xs i x x here) in
    let long : length (take i xs) ≡ i = length-take-le i xs (omega arith) in
    ap (λ l. reverse (drop count l)) more
    ∙ ap reverse (drop-append-le count (take i xs) (x ∷ []) (rw long low))
    ∙ reverse-append (drop count (take i xs)) (x ∷ [])

-- the declarations of names and kinds, the first one first
abbrev pub all_of : List ℕ → List NameKind → List DeclaredName
all_of names kinds = map (λ (p : ℕ × NameKind). declared_by p.0 p.1) (zip names kinds)

all-push : (names : List ℕ) (kinds : List NameKind) (name : ℕ) (k : NameKind) → length kinds ≡ length names →
    all_of (names ++ name ∷ []) (kinds ++ k ∷ []) ≡ all_of names kinds ++ declared_by name k ∷ []
all-push names kinds name k same =
    ap (map (λ (p : ℕ × NameKind). declared_by p.0 p.1)) (zip-push names kinds name k same)
    ∙ map-append (λ (p : ℕ × NameKind). declared_by p.0 p.1) (zip names kinds) ((name, k) ∷ [])

all-take : (n : ℕ) (names : List ℕ) (kinds : List NameKind) → all_of (take n names) (take n kinds) ≡ take n (all_of names kinds)
all-take n names kinds =
    ap (map (λ (p : ℕ × NameKind). declared_by p.0 p.1)) (zip-take n names kinds)
    ∙ sym (take-map (λ (p : ℕ × NameKind). declared_by p.0 p.1) n (zip names kinds))

length-all : (names : List ℕ) (kinds : List NameKind) → length kinds ≡ length names → length (all_of names kinds) ≡ length kinds
length-all names kinds same = length-map (zip names kinds) (λ (p : ℕ × NameKind). declared_by p.0 p.1) ∙ length-zip_same names kinds same

all_at : (names : List ℕ) (kinds : List NameKind) (i : ℕ) (name : ℕ) (k : NameKind) → slice_get names i ≡ Some name → slice_get kinds i ≡ Some k →
    slice_get (all_of names kinds) i ≡ Some (declared_by name k)
all_at [] kinds i name k a b = absurd cc
all_at (l ∷ names) [] i name k a b = absurd cc
all_at (l ∷ names) (y ∷ kinds) zero name k a b = let e : l ≡ name = cc in let g : y ≡ k = cc in rw (e, g) refl
all_at (l ∷ names) (y ∷ kinds) (suc i) name k a b = all_at names kinds i name k a b

-- ---- which names are types

-- the last one wins
abbrev last_wins : Bool → List DeclaredName → ℕ → Bool
last_wins best [] name = best
last_wins best (d ∷ scope) name = last_wins (cond (d.name == name) (declares_type d.kind) best) scope name

from_end : (scope later : List DeclaredName) (name : ℕ) → is_type_in (reverse_aux scope later) name ≡ last_wins (is_type_in later name) scope name
from_end [] later name = refl
from_end (d ∷ scope) later name = from_end scope (d ∷ later) name

says_so : (k : NameKind) → says_type (Some k) ≡ declares_type k
says_so kind.Type = refl
says_so kind.Ordinary = refl

by_choice : (kinds : List NameKind) (b : Bool) (at : ℕ) (k : NameKind) (best : Option ℕ) → slice_get kinds at ≡ Some k →
    declares_at kinds (cond b (Some at) best) ≡ cond b (declares_type k) (declares_at kinds best)
by_choice kinds true at k best here = rw here (says_so k)
by_choice kinds false at k best here = refl

last_declares : (all : List NameKind) (names : List ℕ) (kinds : List NameKind) (at : ℕ) (best : Option ℕ) (name : ℕ) → length kinds ≡ length names →
    ((j : ℕ) → slice_get all (at + j) ≡ slice_get kinds j) →
    last_wins (declares_at all best) (all_of names kinds) name ≡ declares_at all (last_of best at names name)
last_declares all [] [] at best name same rest = refl
last_declares all [] (k ∷ kinds) at best name same rest = absurd cc
last_declares all (first ∷ names) [] at best name same rest = absurd cc
last_declares all (first ∷ names) (k ∷ kinds) at best name same rest =
    let e : length kinds ≡ length names = cc in
    let zero_more : at + 0 ≡ at = omega arith in
    let here : slice_get all at ≡ Some k = ap (λ n. slice_get all n) (sym zero_more) ∙ rest 0 in
    let later : (j : ℕ) → slice_get all (at + 1 + j) ≡ slice_get kinds j = λ j.
    let one_more : at + 1 + j ≡ at + suc j = omega arith in
    ap (λ n. slice_get all n) one_more ∙ rest (suc j) in
    ap (λ b. last_wins b (all_of names kinds) name) (sym (by_choice all (first == name) at k best here))
    ∙ last_declares all names kinds (at + 1) (cond (first == name) (Some at) best) name e later

pub is_type-last : (names : List ℕ) (kinds : List NameKind) (name : ℕ) → length kinds ≡ length names →
    is_type_in (scope_of names kinds) name ≡ declares_at kinds (last_place names name)
unfolding last_place
is_type-last names kinds name same =
    from_end (all_of names kinds) [] name
    ∙ last_declares kinds names kinds 0 None name same (λ j. let e : 0 + j ≡ j = omega arith in ap (λ n. slice_get kinds n) e)

-- ---- the fields of a scope

module _ (ns : List ℕ) (ks : List NameKind) (scope : List DeclaredName) (view : scope_of ns ks ≡ scope) (same : length ks ≡ length ns) where
  pub scope_length : length ks ≡ length scope
  scope_length = sym (length-all ns ks same) ∙ sym (length-reverse (all_of ns ks)) ∙ ap length view

  pub scope_is_type : (name : ℕ) → is_type_in scope name ≡ declares_at ks (last_place ns name)
  scope_is_type name = ap (λ l. is_type_in l name) (sym view) ∙ is_type-last ns ks name same

  pub scope_declared : (ms : List ℕ) (vs : List NameKind) (name : ℕ) (k : NameKind) → ms ≡ ns ++ name ∷ [] → vs ≡ ks ++ k ∷ [] →
      scope_of ms vs ≡ declared_by name k ∷ scope
  scope_declared ms vs name k a b =
      rw (a, b, all-push ns ks name k same)
      (reverse-append (all_of ns ks) (declared_by name k ∷ []) ∙ ap (λ l. declared_by name k ∷ l) view)

  pub scope_closed : (ms : List ℕ) (vs : List NameKind) (count : ℕ) → ms ≡ take count ns → vs ≡ take count ks →
      scope_of ms vs ≡ drop (length scope - count) scope
  scope_closed ms vs count a b =
      rw (a, b, all-take count ns ks)
      (reverse-take count (all_of ns ks) ∙ ap (λ l. drop (length l - count) l) view)

  -- one name more after the first `count`
  pub scope_since_more : (own : List DeclaredName) (count place : ℕ) (name : ℕ) (k : NameKind) → slice_get ns place ≡ Some name → slice_get ks place ≡ Some k → count ≤ place →
      own ≡ reverse (drop count (take place (all_of ns ks))) →
      declared_by name k ∷ own ≡ reverse (drop count (take (place + 1) (all_of ns ks)))
  scope_since_more own count place name k a b low so_far =
      ap (λ l. declared_by name k ∷ l) so_far
      ∙ sym (rest_more (all_of ns ks) count place (declared_by name k) (all_at ns ks place name k a b) low)

  pub scope_since : (own : List DeclaredName) (count place : ℕ) → length ks ≤ place → own ≡ reverse (drop count (take place (all_of ns ks))) →
      own ≡ take (length scope - count) scope
  scope_since own count place done so_far =
      so_far
      ∙ ap (λ l. reverse (drop count l)) (take_all place (all_of ns ks) (rw (length-all ns ks same) done))
      ∙ reverse-drop count (all_of ns ks)
      ∙ ap (λ l. take (length l - count) l) view
