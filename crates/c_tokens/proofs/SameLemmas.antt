-- What comparing kinds says.
use Rattle.std.proofs.Common.{◌≡◌, Bool, true, false, ◌&&◌, ◌==◌, refl, ap, rules}
use Rattle.std.proofs.lemmas.Bool.{eqb-true}
use Rattle.std.proofs.lemmas.Bool.Decides.{Decides-int_eq}
use Rattle.c_tokens.specs.declared.kind.Keyword.{Keyword}
use Rattle.c_tokens.specs.declared.kind.Keyword.TheVariants as word
use Rattle.c_tokens.specs.declared.kind.Mark.{Mark}
use Rattle.c_tokens.specs.declared.kind.Mark.TheVariants as mark
use Rattle.c_tokens.specs.declared.kind.NumType.{NumType}
use Rattle.c_tokens.specs.declared.kind.NumType.TheVariants as type
use Rattle.c_tokens.specs.declared.kind.Kind.{Kind}
use Rattle.c_tokens.specs.declared.kind.Kind.TheVariants.{Name, Word, Number, Char, Str, Mark as Punctuator}
use Rattle.c_tokens.specs.contracts.kind.Keyword.{the_type as keywords}
use Rattle.c_tokens.specs.contracts.kind.Mark.{the_type as marks}
use Rattle.c_tokens.specs.contracts.kind.NumType.{the_type as types}
use Rattle.c_tokens.specs.Same.{same_kind}
use denote.Enum.Bare.{same_true, sameb}

keyword_self : (a : Keyword) → sameb keywords a a ≡ true
keyword_self word.Auto = refl
keyword_self _ = refl

mark_self : (a : Mark) → sameb marks a a ≡ true
mark_self mark.LeftBracket = refl
mark_self _ = refl

type_self : (a : NumType) → sameb types a a ≡ true
type_self type.Int = refl
type_self _ = refl

both : (a b : Bool) → (a && b) ≡ true → (a ≡ true) × (b ≡ true)
both true true h = (refl, refl)
both true false h = absurd cc
both false b h = absurd cc

pub same_kind-self : (a : Kind) → same_kind a a ≡ true
unfolding same_kind
same_kind-self Name = refl
same_kind-self (Word a) = keyword_self a
same_kind-self (Number n t) = rw (type_self t) (search rules)
same_kind-self (Char a) = (Decides-int_eq a a).1 refl
same_kind-self Str = refl
same_kind-self (Punctuator a) = mark_self a

pub same_kind-true : (a b : Kind) → same_kind a b ≡ true → a ≡ b
unfolding same_kind
same_kind-true Name Name h = refl
same_kind-true (Word a) (Word b) h = ap Word (same_true keywords (search rules) a b h)
same_kind-true (Number m s) (Number n t) h =
    let (p, q) = both (m == n) (sameb types s t) h in
    let numbers : m ≡ n = eqb-true m n p in
    let kinds : s ≡ t = same_true types (search rules) s t q in
    cc
same_kind-true (Char a) (Char b) h = ap Char ((Decides-int_eq a b).0 h)
same_kind-true Str Str h = refl
same_kind-true (Punctuator a) (Punctuator b) h = ap Punctuator (same_true marks (search rules) a b h)
same_kind-true _ _ h = absurd cc
