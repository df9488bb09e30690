-- Where a type stands among the types.
use Rattle.std.proofs.Common.{◌≡◌, ◌≢◌, ℕ, zero, suc, ◌+◌, ◌≤◌, ◌==◌, List, [], ◌∷◌, ◌++◌, length, Some, None, sym, ap, ap₂, ◌∙◌, refl, arith, subst, true, false, not, ◌&&◌, ◌||◌, cond, nat_lt, nat_eq, slice_get, Bool, Option, position, true≢false, rules}
use Rattle.std.specs.List.{list_any, position_or_len, prefix_len}
use Rattle.std.proofs.lemmas.Bool.{ltb-false, eqb-false, eqb-true}
use Rattle.indexmap.specs.IndexSet.{insert_key}
use Rattle.c_types.specs.declared.kinds.CType.{CType}
use Rattle.c_types.specs.declared.kinds.CType.TheVariants.{Void, Num, Pointer, Array, Flexible, Struct, Union}
use Rattle.c_types.specs.Table.{Types, kind_in, kind_of}
use Rattle.c_types.specs.Adding.{added, added_by, is_as, is_same, tag_kind}
use Rattle.c_types.specs.contracts.kinds.CTypePartialEq.TheImpl.{eq-value}

-- ---- equality

-- the equality that the code has
abbrev pub equal : CType → CType → Bool
equal = eq-value.it

pub same : (x y : CType) → equal x y ≡ is_same x y
same Void Void = refl
same Void (Num v t) = refl
same Void (Pointer b) = refl
same Void (Array b n) = refl
same Void (Flexible b) = refl
same Void (Struct b) = refl
same Void (Union b) = refl
same (Num w true) (Num v true) = search
same (Num w true) (Num v false) = search
same (Num w false) (Num v true) = search
same (Num w false) (Num v false) = search
same (Num w s) Void = refl
same (Num w s) (Pointer b) = refl
same (Num w s) (Array b n) = refl
same (Num w s) (Flexible b) = refl
same (Num w s) (Struct b) = refl
same (Num w s) (Union b) = refl
same (Pointer a) (Pointer b) = search
same (Pointer a) Void = refl
same (Pointer a) (Num v t) = refl
same (Pointer a) (Array b n) = refl
same (Pointer a) (Flexible b) = refl
same (Pointer a) (Struct b) = refl
same (Pointer a) (Union b) = refl
same (Array a m) (Array b n) = search
same (Array a m) Void = refl
same (Array a m) (Num v t) = refl
same (Array a m) (Pointer b) = refl
same (Array a m) (Flexible b) = refl
same (Array a m) (Struct b) = refl
same (Array a m) (Union b) = refl
same (Flexible a) (Flexible b) = search
same (Flexible a) Void = refl
same (Flexible a) (Num v t) = refl
same (Flexible a) (Pointer b) = refl
same (Flexible a) (Array b n) = refl
same (Flexible a) (Struct b) = refl
same (Flexible a) (Union b) = refl
same (Struct a) (Struct b) = search
same (Struct a) Void = refl
same (Struct a) (Num v t) = refl
same (Struct a) (Pointer b) = refl
same (Struct a) (Array b n) = refl
same (Struct a) (Flexible b) = refl
same (Struct a) (Union b) = refl
same (Union a) (Union b) = search
same (Union a) Void = refl
same (Union a) (Num v t) = refl
same (Union a) (Pointer b) = refl
same (Union a) (Array b n) = refl
same (Union a) (Flexible b) = refl
same (Union a) (Struct b) = refl

reflexive : (a : ℕ) → (a == a) ≡ true
reflexive a = by_eqb (a == a) refl
  where
    by_eqb : (b : Bool) → (a == a) ≡ b → (a == a) ≡ true
    by_eqb true e = e
    by_eqb false e = absurd (eqb-false a a e refl)

as_itself : (s : Bool) → is_as s s ≡ true
as_itself true = refl
as_itself false = refl

pub itself : (x : CType) → is_same x x ≡ true
itself Void = refl
itself (Num w s) = ap₂ (λ a b. a && b) (reflexive w) (as_itself s)
itself (Pointer a) = reflexive a
itself (Array a m) = ap₂ (λ x y. x && y) (reflexive a) (reflexive m)
itself (Flexible a) = reflexive a
itself (Struct a) = reflexive a
itself (Union a) = reflexive a

-- ---- places

prefix_alike : {X : Type 0} (p q : X → Bool) → ((x : X) → p x ≡ q x) → (xs : List X) → prefix_len p xs ≡ prefix_len q xs
prefix_alike p q alike [] = refl
prefix_alike p q alike (x ∷ xs) =
    ap₂ (λ b n. cond b (1 + n) 0) (alike x) (prefix_alike p q alike xs)

pub place_alike : {X : Type 0} (p q : X → Bool) → ((x : X) → p x ≡ q x) → (xs : List X) → position p xs ≡ position q xs
place_alike p q alike xs =
    ap (λ n. cond (nat_lt n (length xs)) (Some n) None) (prefix_alike (λ x. not (p x)) (λ x. not (q x)) (λ x. ap not (alike x)) xs)

-- nothing passes the test
tail_all : {X : Type 0} (p : X → Bool) (y : X) (xs : List X) (b : Bool) → p y ≡ b → suc (length xs) ≤ position_or_len p (y ∷ xs) →
    (b ≡ false) × (length xs ≤ position_or_len p xs)
tail_all p y xs true e all = absurd (omega (arith, subst (λ t. suc (length xs) ≤ cond (not t) (1 + position_or_len p xs) 0) e all))
tail_all p y xs false e all = (refl, omega (arith, subst (λ t. suc (length xs) ≤ cond (not t) (1 + position_or_len p xs) 0) e all))

prefix_all : {X : Type 0} (p : X → Bool) (xs : List X) → length xs ≤ position_or_len p xs → (k : ℕ) (x : X) → slice_get xs k ≡ Some x → p x ≡ false
prefix_all p [] all k x at = cc
prefix_all p (y ∷ xs) all zero x at = let is : y ≡ x = cc in ap p (sym is) ∙ (tail_all p y xs (p y) refl all).0
prefix_all p (y ∷ xs) all (suc k) x at = prefix_all p xs (tail_all p y xs (p y) refl all).1 k x at

none_past : (n m : ℕ) → cond (nat_lt n m) (Some n) None ≡ None → m ≤ n
none_past n m e = by_test (nat_lt n m) refl e
  where
    by_test : (b : Bool) → nat_lt n m ≡ b → cond b (Some n) None ≡ None → m ≤ n
    by_test true is e = cc
    by_test false is e = ltb-false n m is

absent_at : {X : Type 0} (p : X → Bool) (xs : List X) → position p xs ≡ None → (k : ℕ) (x : X) → slice_get xs k ≡ Some x → p x ≡ false
absent_at p xs none k x at = prefix_all p xs (none_past (position_or_len p xs) (length xs) none) k x at

pub absent_kind : (kinds : List CType) (kind : CType) → position (is_same kind) kinds ≡ None → (n : ℕ) → kind_in kinds n ≢ Some kind
absent_kind kinds kind none zero is = cc
absent_kind kinds kind none (suc k) is =
    absurd (true≢false (sym (itself kind) ∙ absent_at (is_same kind) kinds none k kind is))

-- ---- keys

none_passes : (test : CType → Bool) (kind : CType) → ((x : CType) → test x ≡ is_same kind x) → (kinds : List CType) →
    ((k : ℕ) (x : CType) → slice_get kinds k ≡ Some x → is_same kind x ≡ false) → list_any test kinds ≡ false
none_passes test kind alike [] absent = refl
none_passes test kind alike (x ∷ kinds) absent =
    ap₂ (λ a b. a || b) (alike x ∙ absent 0 x refl) (none_passes test kind alike kinds (λ k y at. absent (suc k) y at))

pub keys_after : (kinds : List CType) (kind : CType) → position (is_same kind) kinds ≡ None → insert_key equal kinds kind ≡ kinds ++ kind ∷ []
keys_after kinds kind none =
    ap (λ b. cond b kinds (kinds ++ kind ∷ []))
    (none_passes (equal kind) kind (same kind) kinds (absent_at (is_same kind) kinds none))

pub added_absent : (types : Types) (kind : CType) → position (is_same kind) types.kinds ≡ None →
    added kind types ≡ (suc (length types.kinds), record types { kinds = types.kinds ++ kind ∷ [] })
unfolding added
added_absent types kind none = ap (λ place. added_by place kind types) none

pub added_there : (types : Types) (kind : CType) (place : ℕ) → position (is_same kind) types.kinds ≡ Some place → added kind types ≡ (suc place, types)
unfolding added
added_there types kind place some = ap (λ p. added_by p kind types) some

-- ---- the type of a new tag

sound_tag : (sort : Bool) (tag : ℕ) (x : CType) → is_same (tag_kind sort tag) x ≡ true → x ≡ tag_kind sort tag
sound_tag true tag (Union b) e = ap Union (sym (eqb-true tag b e))
sound_tag true tag Void e = absurd (true≢false (sym e))
sound_tag true tag (Num v t) e = absurd (true≢false (sym e))
sound_tag true tag (Pointer b) e = absurd (true≢false (sym e))
sound_tag true tag (Array b n) e = absurd (true≢false (sym e))
sound_tag true tag (Flexible b) e = absurd (true≢false (sym e))
sound_tag true tag (Struct b) e = absurd (true≢false (sym e))
sound_tag false tag (Struct b) e = ap Struct (sym (eqb-true tag b e))
sound_tag false tag Void e = absurd (true≢false (sym e))
sound_tag false tag (Num v t) e = absurd (true≢false (sym e))
sound_tag false tag (Pointer b) e = absurd (true≢false (sym e))
sound_tag false tag (Array b n) e = absurd (true≢false (sym e))
sound_tag false tag (Flexible b) e = absurd (true≢false (sym e))
sound_tag false tag (Union b) e = absurd (true≢false (sym e))

by_bool : (b : Bool) → (b ≡ true → ⊥) → b ≡ false
by_bool true never = absurd (never refl)
by_bool false never = refl

pub keys_new : (kinds : List CType) (sort : Bool) (tag : ℕ) → ((n : ℕ) → kind_in kinds n ≢ Some (tag_kind sort tag)) →
    insert_key equal kinds (tag_kind sort tag) ≡ kinds ++ tag_kind sort tag ∷ []
keys_new kinds sort tag absent =
    ap (λ b. cond b kinds (kinds ++ tag_kind sort tag ∷ []))
    (none_passes (equal (tag_kind sort tag)) (tag_kind sort tag) (same (tag_kind sort tag)) kinds
    (λ k x at. by_bool (is_same (tag_kind sort tag) x) (λ it. absent (suc k) (at ∙ ap (λ y. Some y) (sound_tag sort tag x it)))))
