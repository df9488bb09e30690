-- Going along a chain of arrays.
use Rattle.std.proofs.Common.{◌≡◌, ℕ, zero, suc, ◌-◌, ◌/◌, ◌%◌, ◌<◌, ◌≤◌, List, [], ◌∷◌, length, get_or, Bool, true, false, cond, Some, None, sym, ap, ◌∙◌, refl, arith, sub-one}
use Rattle.std.specs.Prelude.{Option, slice_get, nat_lt}
use Rattle.std.proofs.lemmas.Bool.Decides.{nat_tests}
use Rattle.layout_table.proofs.Levels.{descend_start}
use Rattle.layout_table.specs.declared.stored.StoredLevel.{StoredLevel}
use Rattle.layout_table.specs.Strides.{Level, descend}
use Rattle.layout_table.specs.Stored.{chain, chain_of, chain_within, AreLevels}

pub read : {X : Type 0} (xs : List X) (i : ℕ) (d : X) → i < length xs → slice_get xs i ≡ Some (get_or xs i d)
read [] i d h = absurd (omega arith)
read (x ∷ xs) zero d h = refl
read (x ∷ xs) (suc i) d h = read xs i d (omega arith)

cond_is : {X : Type 0} (b : Bool) (x y : X) → b ≡ true → cond b x y ≡ x
cond_is true x y e = refl
cond_is false x y e = cc

cond_not : {X : Type 0} (b : Bool) (x y : X) → b ≡ false → cond b x y ≡ y
cond_not false x y e = refl
cond_not true x y e = cc

lt_true : (a b : ℕ) → a < b → nat_lt a b ≡ true
lt_true a b h = grind (arith, nat_tests)

lt_false : (a b : ℕ) → b ≤ a → nat_lt a b ≡ false
lt_false a b h = grind (arith, nat_tests)

-- how far behind is no more than the offset
pub past_within : (ls : List Level) (at past : ℕ) → descend ls at ≡ Some past → past ≤ at
past_within ls at past e = let s = descend_start ls at past e in omega (arith, s.2)

module _ (levels : List StoredLevel) (ok : AreLevels levels) where
  same_inside : (f g : ℕ → List Level) (place : ℕ) (o : Option StoredLevel) → slice_get levels place ≡ o →
      ((level : StoredLevel) → slice_get levels place ≡ Some level → f level.inside ≡ g level.inside) →
      chain_of f o ≡ chain_of g o
  same_inside f g place None e h = refl
  same_inside f g place (Some level) e h = ap (λ ls. record {
    stride = level.stride;
    count = level.count;
  } ∷ ls) (h level e)

  enough : (a b head : ℕ) → head ≤ a → head ≤ b → chain_within a levels head ≡ chain_within b levels head
  enough zero zero zero h i = refl
  enough zero (suc b) zero h i = refl
  enough (suc a) zero zero h i = refl
  enough (suc a) (suc b) zero h i = refl
  enough zero b (suc place) h i = absurd (omega (arith, h))
  enough (suc a) zero (suc place) h i = absurd (omega (arith, i))
  enough (suc a) (suc b) (suc place) h i =
      same_inside (chain_within a levels) (chain_within b levels) place (slice_get levels place) refl
      (λ level e. enough a b level.inside (omega (arith, h, (ok place level e).1)) (omega (
        arith,
        i,
        (ok place level
            e).1,
      )))

  pub chain_suc : (place : ℕ) (level : StoredLevel) → slice_get levels place ≡ Some level →
      chain levels (suc place) ≡ record { stride = level.stride; count = level.count } ∷ chain levels level.inside
  chain_suc place level e =
      ap (chain_of (chain_within place levels)) e ∙
      ap (λ ls. record { stride = level.stride; count = level.count } ∷ ls) (enough place level.inside level.inside
      (ok place level e).1 (omega arith))

  level_read : (head : ℕ) (d : StoredLevel) → (head ≡ 0 → ⊥) → head ≤ length levels →
      slice_get levels (head - 1) ≡ Some (get_or levels (head - 1) d)
  level_read head d n h = read levels (head - 1) d (positive head (length levels) n h)
    where
      positive : (a b : ℕ) → (a ≡ 0 → ⊥) → a ≤ b → a - 1 < b
      positive a b n h = grind arith

  chain_head : (head : ℕ) (level : StoredLevel) → (head ≡ 0 → ⊥) → head ≤ length levels →
      slice_get levels (head - 1) ≡ Some level →
      chain levels head ≡ record { stride = level.stride; count = level.count } ∷ chain levels level.inside
  chain_head zero level n h e = absurd (n refl)
  chain_head (suc place) level n h e =
      chain_suc place level (rw sub-one at e)

  module _ (head : ℕ) (d : StoredLevel) (n : head ≡ 0 → ⊥) (h : head ≤ length levels) where
    pub level_ok : (0 < (get_or levels (head - 1) d).stride) × ((get_or levels (head - 1) d).inside < head)
    level_ok =
        let k = ok (head - 1) (get_or levels (head - 1) d) (level_read head d n h) in
        (k.0, below head (get_or levels (head - 1) d).inside n k.1)
      where
        below : (a b : ℕ) → (a ≡ 0 → ⊥) → b ≤ a - 1 → b < a
        below a b n h = grind arith

    pub descend_in : (at : ℕ) → at / (get_or levels (head - 1) d).stride < (get_or levels (head - 1) d).count →
        descend (chain levels (get_or levels (head - 1) d).inside) (at % (get_or levels (head - 1) d).stride) ≡
        descend (chain levels head) at
    descend_in at l =
        let level = get_or levels (head - 1) d in
        sym (ap (λ ls. descend ls at) (chain_head head level n h (level_read head d n h)) ∙
        cond_is (nat_lt (at / level.stride) level.count) (descend (chain levels level.inside) (at % level.stride))
        None (lt_true (at / level.stride) level.count l))

    pub descend_past : (at : ℕ) → (get_or levels (head - 1) d).count ≤ at / (get_or levels (head - 1) d).stride →
        None ≡ descend (chain levels head) at
    descend_past at l =
        let level = get_or levels (head - 1) d in
        sym (ap (λ ls. descend ls at) (chain_head head level n h (level_read head d n h)) ∙
        cond_not (nat_lt (at / level.stride) level.count) (descend (chain levels level.inside) (at % level.stride))
        None (lt_false (at / level.stride) level.count l))

  pub descend_end : (at head : ℕ) → head ≡ 0 → Some at ≡ descend (chain levels head) at
  descend_end at head e = sym (ap (λ h. descend (chain levels h) at) e)
