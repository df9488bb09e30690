-- What stands at a place, as a test and as a fact.
use Rattle.std.proofs.Common.{◌≡◌, ◌≢◌, ℕ, ◌<◌, ◌≤◌, Bool, true, false, ◌&&◌, cond, ◌⊎◌, inl, inr, List, length, Option, Some, None, refl, ap, arith, nat_le}
use Rattle.std.proofs.lemmas.Bool.{cases_lt}
use Rattle.std.proofs.lemmas.Bool.Decides.{nat_tests}
use Rattle.std.proofs.lemmas.Option.{slice_get_past}
use Rattle.c_tokens.specs.declared.kind.Kind.{Kind}
use Rattle.c_tokens.specs.declared.token.Token.{Token}
use Rattle.c_tokens.proofs.SameLemmas.{same_kind-self, same_kind-true}
use Rattle.c_grammar.specs.Tokens.{kind_at, kind_of}
use Rattle.grammar_descent.specs.Reading.{◌>>=◌, is_kind, sees, when}

pub here : (ts : List Token) (at : ℕ) (kind : Kind) → kind_at ts at ≡ Some kind → sees ts at kind ≡ true
here ts at kind is = rw is (same_kind-self kind)

kind_is : (found : Option Kind) (kind : Kind) → is_kind found kind ≡ true → found ≡ Some kind
kind_is (Some found) kind h = ap (λ l. Some l) (same_kind-true found kind h)
kind_is None kind h = absurd cc

pub stands : (ts : List Token) (at : ℕ) (kind : Kind) → sees ts at kind ≡ true → kind_at ts at ≡ Some kind
stands ts at kind h = kind_is (kind_at ts at) kind h

pub not_here : (ts : List Token) (at : ℕ) (kind : Kind) → kind_at ts at ≢ Some kind → sees ts at kind ≡ false
not_here ts at kind other = by_test (sees ts at kind) refl
  where
    by_test : (b : Bool) → sees ts at kind ≡ b → sees ts at kind ≡ false
    by_test true h = absurd (other (stands ts at kind h))
    by_test false h = h

pub stands_not : (ts : List Token) (at : ℕ) (kind : Kind) → sees ts at kind ≡ false → kind_at ts at ≢ Some kind
stands_not ts at kind h is = let seen = here ts at kind is in cc

-- another kind does not stand there
pub instead : (ts : List Token) (at : ℕ) (kind other : Kind) → kind_at ts at ≡ Some other → other ≢ kind → sees ts at kind ≡ false
instead ts at kind other is apart = not_here ts at kind (λ h. apart cc)

-- where something stands, the tokens have not ended
pub stands_within : (ts : List Token) (at : ℕ) (kind : Kind) → kind_at ts at ≡ Some kind → at < length ts
unfolding kind_at
stands_within ts at kind is = elim (cases_lt at (length ts)) [
  | inl h ↦ h
  | inr h ↦ (let none : kind_at ts at ≡ None = ap kind_of (slice_get_past ts at h) in absurd cc)
]

-- ---- steps that went on

pub bind_some : {A B : Type 0} (o : Option A) (f : A → Option B) (y : B) → (o >>= f) ≡ Some y → (x : A) × (o ≡ Some x) × (f x ≡ Some y)
bind_some (Some x) f y h = (x, refl, h)
bind_some None f y h = absurd cc

pub chosen : {A : Type 0} (b : Bool) (x y z : A) → cond b x y ≡ z → ((b ≡ true) × (x ≡ z)) ⊎ ((b ≡ false) × (y ≡ z))
chosen true x y z h = inl (refl, h)
chosen false x y z h = inr (refl, h)

pub seen : {A : Type 0} (ts : List Token) (at : ℕ) (kind : Kind) (m : Option A) (y : A) → when ts at kind m ≡ Some y → (kind_at ts at ≡ Some kind) × (m ≡ Some y)
seen ts at kind m y h = elim (chosen (sees ts at kind) m None (Some y) h) [
  | inl c ↦ (stands ts at kind c.0, c.1)
  | inr c ↦ absurd (let i = c.1 in cc)
]

pub both : (a b : Bool) → (a && b) ≡ true → (a ≡ true) × (b ≡ true)
both true true h = (refl, refl)
both true false h = absurd cc
both false b h = absurd cc

-- ---- tests of order

pub le_true : (a b : ℕ) → a ≤ b → nat_le a b ≡ true
le_true a b h = grind (arith, nat_tests)

pub le_false : (a b : ℕ) → b < a → nat_le a b ≡ false
le_false a b h = grind (arith, nat_tests)

pub le_from : (a b : ℕ) → nat_le a b ≡ true → a ≤ b
le_from a b h = grind (arith, nat_tests)
