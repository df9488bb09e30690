-- Specifiers, one by one.
use Rattle.std.proofs.Common.{◌≡◌, ◌∙◌, ℕ, zero, suc, Bool, true, false, length, if◌then◌else◌, max, List, [], ◌∷◌, ◌++◌, Option, Some, None, refl, ap}
use Rattle.c_tokens.specs.declared.token.Token.{Token}
use Rattle.c_grammar.specs.declared.phrases.Expression.{Expression}
use Rattle.c_grammar.specs.declared.phrases.Specifier.{Specifier}
use Rattle.c_grammar.specs.declared.words.Aggregate.{Aggregate}
use Rattle.c_grammar.specs.Words.{Role}
use Rattle.grammar_descent.specs.Reading.{State, Reading, Readers, ◌>>=◌, mark_at, past}
use Rattle.grammar_descent.specs.NextReaders.{no_readers}
use Rattle.grammar_descent.specs.SpecifierSteps.{Lead, lead_at, one_specifier, specifiers, members, member_at, members_after}
use Rattle.c_tokens.specs.declared.kind.Mark.TheVariants as mark
use Rattle.declarator_parser.specs.Below.{below}
use Rattle.declarator_parser.specs.Lists.{braced_members}
use Rattle.declarator_parser.proofs.Depths.{below-none}
use Rattle.declarator_parser.specs.Roles.{role_of, roles_of}

abbrev pub FoundAll : Type 0
FoundAll = (List Specifier × List Role × ℕ) × State

module _ (text : List ℕ) (ts : List Token) (expression : ℕ → Reading (Expression × ℕ)) (inner : Readers) where
  pub specifiers_done : (x : Option FoundAll) (n : ℕ) (earlier : List Role) (found : List Specifier) (high : ℕ) (s : State) →
      x ≡ specifiers text ts expression inner (suc n) earlier found high s → lead_at text ts earlier s ≡ None → x ≡ Some ((found, earlier, high), s)
  unfolding specifiers
  specifiers_done x n earlier found high s e is = e ∙ rw is refl

  pub specifiers_fail : (x : Option FoundAll) (n : ℕ) (earlier : List Role) (found : List Specifier) (high : ℕ) (s : State) (lead : Lead) →
      x ≡ specifiers text ts expression inner (suc n) earlier found high s → lead_at text ts earlier s ≡ Some lead →
      one_specifier text ts expression inner lead s ≡ None → x ≡ None
  unfolding specifiers
  specifiers_fail x n earlier found high s lead e is none = e ∙ rw is (ap (λ o. o >>= λ a. specifiers text ts expression inner n (earlier ++ a.0.1 ∷ []) (found ++ a.0.0 ∷ []) (max high a.0.2) a.1) none)

  pub specifiers_more : (x : Option FoundAll) (n : ℕ) (earlier : List Role) (found : List Specifier) (high : ℕ) (s t : State) (lead : Lead)
      (a : Specifier) (role : Role) (height : ℕ) →
      x ≡ specifiers text ts expression inner (suc n) earlier found high s → lead_at text ts earlier s ≡ Some lead →
      one_specifier text ts expression inner lead s ≡ Some ((a, role, height), t) →
      x ≡ specifiers text ts expression inner n (earlier ++ role ∷ []) (found ++ a ∷ []) (max high height) t
  unfolding specifiers
  specifiers_more x n earlier found high s t lead a role height e is some = e ∙ rw is (ap (λ o. o >>= λ b. specifiers text ts expression inner n (earlier ++ b.0.1 ∷ []) (found ++ b.0.0 ∷ []) (max high b.0.2) b.1) some)

  pub specifiers_zero : (earlier : List Role) (found : List Specifier) (high : ℕ) (s : State) →
      specifiers text ts expression inner 0 earlier found high s ≡ Some ((found, earlier, high), s)
  unfolding specifiers
  specifiers_zero earlier found high s = refl

pub roles_of-append : (words : List Specifier) (w : Specifier) → roles_of (words ++ w ∷ []) ≡ roles_of words ++ role_of w ∷ []
roles_of-append [] w = refl
roles_of-append (v ∷ words) w = ap (λ (l : List Role). role_of v ∷ l) (roles_of-append words w)

-- there are no members below depth 0
no_members_read : (text : List ℕ) (ts : List Token) (n : ℕ) (s : State) → members text ts no_readers n [] 0 s ≡ None
unfolding members member_at
no_members_read text ts zero s = refl
no_members_read text ts (suc n) s = refl

pub no_members : (text : List ℕ) (ts : List Token) (which : Aggregate) (tag : Option ℕ) (start : ℕ) (s : State) →
    members_after text ts no_readers which tag start s ≡ None
unfolding members_after
no_members text ts which tag start s = rw (no_members_read text ts (length ts) s) refl

pub no_braced : (depth : ℕ) (text : List ℕ) (ts : List Token) (which : Aggregate) (tag : Option ℕ) (start : ℕ) (s : State) → depth ≡ 0 →
    braced_members text ts (below text ts depth) which tag start s ≡ None
no_braced depth text ts which tag start s e = rw (below-none text ts depth e) (by_test (mark_at ts s.at mark.LeftBrace))
  where
    by_test : (b : Bool) → (if b then members_after text ts no_readers which tag start (past s 1) else None) ≡ None
    by_test true = no_members text ts which tag start (past s 1)
    by_test false = refl
