-- Division finds the element of nested arrays.
use Rattle.std.proofs.Common.{◌≡◌, ℕ, ◌+◌, ◌-◌, ◌*◌, ◌/◌, ◌%◌, ◌<◌, ◌≤◌, List, [], ◌∷◌, Bool, true, false, cond, Some, None, ap, ◌∙◌, refl, arith}
use Rattle.std.specs.Prelude.{nat_lt}
use Rattle.std.proofs.lemmas.Nat.{div-mul-add, mod-mul-add, div-add-mod', mul-le}
use Rattle.std.proofs.lemmas.Bool.Decides.{nat_tests}
use Rattle.layout_table.specs.Strides.{Level, descend}
use Rattle.layout_table.specs.Stored.{extent}

-- where elements start, from the first
abbrev pub IsStart : List Level → ℕ → Type 0
IsStart [] at = at ≡ 0
IsStart (level ∷ levels) at = (i : ℕ) × (i < level.count) × (rest : ℕ) ×
    IsStart levels rest × (at ≡ i * level.stride + rest)

-- each array's inside fits into the stride
abbrev pub Nested : List Level → ℕ → Type 0
Nested [] bytes = Unit {0}
Nested (level ∷ levels) bytes = (extent levels bytes ≤ level.stride) × Nested levels bytes

pub start_ends : (levels : List Level) (bytes at : ℕ) → IsStart levels at → at + bytes ≤ extent levels bytes
start_ends [] bytes at s = omega arith
start_ends (level ∷ levels) bytes at s =
    let rest = start_ends levels bytes s.2 s.3 in
    let m = mul-le s.0 level.stride (level.count - 1) level.stride (omega (arith, s.1)) (omega arith) in
    omega (arith, s.4, rest, m)

if_true : {X : Type 0} (b : Bool) (x y : X) → b ≡ true → cond b x y ≡ x
if_true true x y e = refl
if_true false x y e = cc

lt_true : (a b : ℕ) → a < b → nat_lt a b ≡ true
lt_true a b h = grind (arith, nat_tests)

pub descend_found : (levels : List Level) (bytes at past : ℕ) → Nested levels bytes → IsStart levels at →
    past < bytes → descend levels (at + past) ≡ Some past
descend_found [] bytes at past n s h = ap Some (omega (arith, s))
descend_found (level ∷ levels) bytes at past n s h =
    let ends = start_ends levels bytes s.2 s.3 in
    let small : s.2 + past < level.stride = omega (arith, ends, h, n.0) in
    let is : at + past ≡ s.0 * level.stride + (s.2 + past) = omega (arith, s.4) in
    let q : (at + past) / level.stride ≡ s.0 = ap (λ x. x / level.stride) is ∙
    div-mul-add s.0 level.stride (s.2 + past) small in
    let r : (at + past) % level.stride ≡ s.2 + past = ap (λ x. x % level.stride) is ∙
    mod-mul-add s.0 level.stride (s.2 + past) small in
    if_true (nat_lt ((at + past) / level.stride) level.count) (descend levels ((at + past) % level.stride)) None
    (lt_true ((at + past) / level.stride) level.count (omega (arith, q, s.1))) ∙
    ap (descend levels) r ∙ descend_found levels bytes s.2 past n.1 s.3 h

step : (level : Level) (levels : List Level) (at past : ℕ) (b : Bool) → nat_lt (at / level.stride) level.count ≡ b →
    cond b (descend levels (at % level.stride)) None ≡ Some past →
    ((rest : ℕ) → descend levels rest ≡ Some past → (start : ℕ) × IsStart levels start × (rest ≡ start + past)) →
    (start : ℕ) × IsStart (level ∷ levels) start × (at ≡ start + past)
step level levels at past true lt e ih =
    let r = ih (at % level.stride) e in
    let split = div-add-mod' at level.stride in (
      at / level.stride * level.stride + r.0,
      (at / level.stride, grind (arith, nat_tests), r.0, r.1, refl),
      omega
          (arith, split, r.2),
    )
step level levels at past false lt e ih = cc

pub descend_start : (levels : List Level) (at past : ℕ) → descend levels at ≡ Some past → (start : ℕ) ×
    IsStart levels start × (at ≡ start + past)
descend_start [] at past e = let f : at ≡ past = cc in (0, refl, omega (arith, f))
descend_start (level ∷ levels) at past e =
    step level levels at past (nat_lt (at / level.stride) level.count) refl e (λ rest f. descend_start levels rest
    past f)
