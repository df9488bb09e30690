-- A rising rearrangement of the parts' entries is their merge.
use Rattle.std.proofs.Common.{◌≡◌, ℕ, zero, suc, ◌<◌, Bool, true, false, cond, ◌==◌, List, [], ◌∷◌, length, get_or, filter, Contains, IsPermutation, refl, sym, ap, ap₂, ◌∙◌, subst, arith, inl, inr}
use Rattle.std.specs.List.{AllByRecursion}
use Rattle.std.proofs.lemmas.List.Sorted.{Contains-permutation, IsPermutation-sym}
use Rattle.heap_model.specs.Legal.{of_region}
use Rattle.heap_model.specs.Order.{before, Rises, StampsRise}
use Rattle.heap_model.proofs.Merge.{before-asym, Rises-from, all-filter}
use Rattle.heap_model.proofs.Unique.{Member}
use Rattle.heap_model.specs.declared.calls.Entry.{Entry}

contains-from : {X : Type 0} (x : X) (xs : List X) → Member x xs → Contains xs x
contains-from x [] m = absurd m
contains-from x (y ∷ ys) (inl e) = (0, omega arith, sym e)
contains-from x (y ∷ ys) (inr m) = let c = contains-from x ys m in (suc c.0, omega arith, c.2)

member-from : {X : Type 0} (x : X) (xs : List X) (k : ℕ) → k < length xs → get_or xs k x ≡ x → Member x xs
member-from x [] k l e = absurd (omega arith)
member-from x (y ∷ ys) zero l e = inl (sym e)
member-from x (y ∷ ys) (suc k) l e = inr (member-from x ys k (omega arith) e)

member-filter : {X : Type 0} (p : X → Bool) (x : X) (xs : List X) → Member x (filter p xs) → Member x xs × (p x ≡ true)
member-filter p x [] m = absurd m
member-filter {X} p x (y ∷ ys) m = go (p y) refl m (member-filter p x ys)
  where
    go : (b : Bool) → p y ≡ b → Member x (cond b (y ∷ filter p ys) (filter p ys)) → (Member x (filter p ys) → Member x ys × (p x ≡ true)) → Member x (y ∷ ys) × (p x ≡ true)
    go true e (inl same) later = (inl same, ap p same ∙ e)
    go true e (inr m) later = let r = later m in (inr r.0, r.1)
    go false e m later = let r = later m in (inr r.0, r.1)

filter-member : {X : Type 0} (p : X → Bool) (x : X) (xs : List X) → Member x xs → p x ≡ true → Member x (filter p xs)
filter-member p x [] m e = m
filter-member {X} p x (y ∷ ys) (inl same) e = go (p y) (ap p (sym same) ∙ e)
  where
    go : (b : Bool) → b ≡ true → Member x (cond b (y ∷ filter p ys) (filter p ys))
    go true e = inl same
    go false e = cc
filter-member {X} p x (y ∷ ys) (inr m) e = go (p y) (filter-member p x ys m e)
  where
    go : (b : Bool) → Member x (filter p ys) → Member x (cond b (y ∷ filter p ys) (filter p ys))
    go true m = inr m
    go false m = m

all-member : (P : Entry → Type 0) (es : List Entry) (e : Entry) → AllByRecursion P es → Member e es → P e
all-member P [] e all m = absurd m
all-member P (x ∷ es) e all (inl same) = subst P (sym same) all.0
all-member P (x ∷ es) e all (inr m) = all-member P es e all.1 m

-- two rising lists with the same members are one
head-same : (x y : Entry) (xs ys : List Entry) → Rises (x ∷ xs) → Rises (y ∷ ys) → Member x (y ∷ ys) → Member y (x ∷ xs) → x ≡ y
head-same x y xs ys rx ry (inl e) m = e
head-same x y xs ys rx ry (inr n) (inl e) = sym e
head-same x y xs ys rx ry (inr n) (inr m) = absurd (before-asym x y (all-member (λ f. before x f ≡ true) xs y rx.0 m) (all-member (λ f. before y f ≡ true) ys x ry.0 n))

tail-member : (x : Entry) (xs ys : List Entry) → Rises (x ∷ xs) → (z : Entry) → Member z xs → Member z (x ∷ ys) → Member z ys
tail-member x xs ys rx z m (inr n) = n
tail-member x xs ys rx z m (inl e) =
    let b : before x z ≡ true = all-member (λ f. before x f ≡ true) xs z rx.0 m in
    let c : before x x ≡ true = subst (λ f. before x f ≡ true) e b in
    absurd (before-asym x x c c)

pub same_by_members : (xs ys : List Entry) → Rises xs → Rises ys → ((z : Entry) → Member z xs → Member z ys) → ((z : Entry) → Member z ys → Member z xs) → xs ≡ ys
same_by_members [] [] rx ry f g = refl
same_by_members [] (y ∷ ys) rx ry f g = absurd (g y (inl refl))
same_by_members (x ∷ xs) [] rx ry f g = absurd (f x (inl refl))
same_by_members (x ∷ xs) (y ∷ ys) rx ry f g =
    let e = head-same x y xs ys rx ry (f x (inl refl)) (g y (inl refl)) in
    ap₂ (λ a bs. a ∷ bs) e (same_by_members xs ys rx.1 ry.1
    (λ z m. tail-member x xs ys rx z m (subst (λ a. Member z (a ∷ ys)) (sym e) (f z (inr m))))
    (λ z m. tail-member y ys xs ry z m (subst (λ a. Member z (a ∷ xs)) e (g z (inr m)))))

Rises-filter : (p : Entry → Bool) (es : List Entry) → Rises es → Rises (filter p es)
Rises-filter p [] rise = tt
Rises-filter p (e ∷ es) rise = go (p e) (all-filter (λ f. before e f ≡ true) p es rise.0) (Rises-filter p es rise.1)
  where
    go : (b : Bool) → AllByRecursion (λ f. before e f ≡ true) (filter p es) → Rises (filter p es) → Rises (cond b (e ∷ filter p es) (filter p es))
    go true all rest = (all, rest)
    go false all rest = rest

-- what a sort gives of the parts' entries has each region's entries in their order
pub sorted_is_merge : (all sorted : List Entry) → IsPermutation all sorted → Rises sorted → ((r : ℕ) → StampsRise (of_region r all)) → (r : ℕ) → of_region r sorted ≡ of_region r all
sorted_is_merge all sorted perm rise stamps r =
    same_by_members (of_region r sorted) (of_region r all) (Rises-filter (λ e. e.region == r) sorted rise) (Rises-from (of_region r all) (stamps r))
    (λ z m. let n = member-filter (λ e. e.region == r) z sorted m in filter-member (λ e. e.region == r) z all (through sorted all z (IsPermutation-sym all sorted perm) n.0) n.1)
    (λ z m. let n = member-filter (λ e. e.region == r) z all m in filter-member (λ e. e.region == r) z sorted (through all sorted z perm n.0) n.1)
  where
    through : (xs ys : List Entry) (z : Entry) → IsPermutation xs ys → Member z xs → Member z ys
    through xs ys z p m = let c = Contains-permutation xs ys z p (contains-from z xs m) in member-from z ys c.0 c.1 c.2
