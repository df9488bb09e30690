-- Lines of tokens, and what the words of a directive say.
use Rattle.std.proofs.Common.{◌≡◌, ℕ, suc, ◌+◌, List, [], ◌∷◌, ◌++◌, take, drop, Option, Some, None, Bool, true, false, not, ◌&&◌, refl, sym, ap, subst, ◌∙◌, arith, ◌⊎◌, inl, inr}
use Rattle.std.specs.Prelude.{All, codes}
use Rattle.std.specs.Str.{bytes_eq}
use Rattle.std.proofs.lemmas.Bool.{cases_Bool}
use Rattle.std.proofs.lemmas.List.Elements.{All-nil, All-cons, All-head, All-tail}
use Rattle.std.proofs.lemmas.Slice.Eq.{bytes_eq-Decides}
use Rattle.c_tokens.specs.declared.token.Token.{Token}
use Rattle.c_pp.specs.declared.directive.Directive.{Directive}
use Rattle.c_pp.specs.declared.directive.Directive.TheVariants as says
use Rattle.c_pp.specs.declared.error.PpError.{PpError}
use Rattle.c_pp.specs.declared.error.PpError.TheVariants.{UnknownHeader, BadDirective}
use Rattle.c_tokens.specs.Names.{Text, Name, spelling, is_name, IsNamed}
use Rattle.c_pp.specs.Directives.{BeginsLine, IsLine, Definition, Obeys, Disobeys, IsInclude, is_header, touches, nothing, include, define, undef, header, other}
use Rattle.c_pp.specs.Reading as reading

-- ---- lines

abbrev pub AreInside : List Token → Type 0
AreInside words = All (λ (token : Token). token.first ≡ false) words

one_split : (a b x y : List Token) → a ++ x ≡ b ++ y → AreInside a → AreInside b → BeginsLine x → BeginsLine y → (a ≡ b) × (x ≡ y)
one_split [] [] x y e i j m n = (refl, e)
one_split [] (t ∷ b) [] y e i j m n = absurd cc
one_split [] (t ∷ b) (u ∷ x) y e i j m n = absurd (let h : u ≡ t = cc in let apart : t.first ≡ false = All-head (λ (token : Token). token.first ≡ false) t b j in cc)
one_split (t ∷ a) [] x [] e i j m n = absurd cc
one_split (t ∷ a) [] x (u ∷ y) e i j m n = absurd (let h : u ≡ t = cc in let apart : t.first ≡ false = All-head (λ (token : Token). token.first ≡ false) t a i in cc)
one_split (t ∷ a) (u ∷ b) x y e i j m n =
    let h : t ≡ u = cc in
    let l : a ++ x ≡ b ++ y = cc in
    let further = one_split a b x y l (All-tail (λ (token : Token). token.first ≡ false) t a i) (All-tail (λ (token : Token). token.first ≡ false) u b j) m n in
    let p = further.0 in
    (cc, further.1)

-- a line ends at one place
pub one_line : {ts a b x y : List Token} → IsLine ts a x → IsLine ts b y → (a ≡ b) × (x ≡ y)
one_line {ts} {a} {b} {x} {y} f g = one_split a b x y (sym f.split ∙ g.split) f.inside g.inside f.next g.next

more_inside : (t : Token) (ts : List Token) (first : Bool) → t.first ≡ first → IsLine ts (take (reading.line_len ts) ts) (drop (reading.line_len ts) ts) →
    IsLine (t ∷ ts) (take (reading.line_len (t ∷ ts)) (t ∷ ts)) (drop (reading.line_len (t ∷ ts)) (t ∷ ts))
more_inside t ts true e l =
    let n : reading.line_len (t ∷ ts) ≡ 0 = rw e refl in
    rw n (record { split = refl; inside = All-nil (λ (token : Token). token.first ≡ false); next = e })
more_inside t ts false e l =
    let n : reading.line_len (t ∷ ts) ≡ suc (reading.line_len ts) = (let k : 1 + reading.line_len ts ≡ suc (reading.line_len ts) = omega arith in rw e k) in
    rw n (record {
      split = ap (λ l. t ∷ l) l.split;
      inside = All-cons (λ (token : Token). token.first ≡ false) t (take (reading.line_len ts) ts) e l.inside;
      next = l.next;
    })

-- the line of these tokens
pub line_is : (ts : List Token) → IsLine ts (take (reading.line_len ts) ts) (drop (reading.line_len ts) ts)
line_is [] = record { split = refl; inside = All-nil (λ (token : Token). token.first ≡ false); next = tt }
line_is (t ∷ ts) = more_inside t ts t.first refl (line_is ts)

-- ---- what the words say

same_word : (a b : Name) → bytes_eq a b ≡ true → a ≡ b
same_word a b h = (bytes_eq-Decides a b).0 h

spelled_so : (a b : Name) → a ≡ b → bytes_eq a b ≡ true
spelled_so a b h = (bytes_eq-Decides a b).1 h

apart_words : (a b c : Name) → a ≡ b → bytes_eq b c ≡ false → bytes_eq a c ≡ false
apart_words a b c e h = ap (λ w. bytes_eq w c) e ∙ h

said_word : (text : Text) (word : Token) (ts : List Token) (name : Name) → IsNamed text word name → reading.said text (word ∷ ts) ≡ reading.by_word text name ts
unfolding reading.said
said_word text word ts name (named, is) = rw (named, is) refl

and_true : (a b : Bool) → (a && not b) ≡ true → (a ≡ true) × (b ≡ false)
and_true true false h = (refl, refl)
and_true true true h = absurd cc
and_true false b h = absurd cc

module _ (text : Text) where
  said_include : (word : Token) (ts : List Token) → IsNamed text word (codes "include") → reading.said text (word ∷ ts) ≡ reading.include text ts
  said_include word ts n = said_word text word ts (codes "include") n

  said_define : (word : Token) (ts : List Token) → IsNamed text word (codes "define") → reading.said text (word ∷ ts) ≡ reading.define text ts
  said_define word ts n = said_word text word ts (codes "define") n

  said_undef : (word : Token) (ts : List Token) → IsNamed text word (codes "undef") → reading.said text (word ∷ ts) ≡ reading.undef ts
  said_undef word ts n = said_word text word ts (codes "undef") n

  -- what a line that is obeyed says, and what it changes
  pub data Agrees : List Token → Directive → Option Definition → Type 0 where
    keeps : {words : List Token} → Agrees words says.Nothing None
    sets : {word name : Token} {body : List Token} → is_name name.kind ≡ true → Agrees (word ∷ name ∷ body) says.Define (Some (spelling text name, Some body))
    clears : {word name : Token} → is_name name.kind ≡ true → Agrees (word ∷ name ∷ []) says.Undefine (Some (spelling text name, None))

  agrees : {words : List Token} {change : Option Definition} → Obeys text words change → Agrees words (reading.said text words) change
  unfolding reading.said
  agrees nothing = keeps
  agrees (include {word = word} {header = ts} n known) =
      let s : reading.said text (word ∷ ts) ≡ says.Nothing = said_include word ts n ∙ rw known refl in
      subst (λ (d : Directive). Agrees (word ∷ ts) d None) (sym s) keeps
  agrees (define {word = word} {name = name} {body = body} n named free) =
      let s : reading.said text (word ∷ name ∷ body) ≡ says.Define = said_define word (name ∷ body) n ∙ rw (named, free) refl in
      subst (λ (d : Directive). Agrees (word ∷ name ∷ body) d (Some (spelling text name, Some body))) (sym s) (sets named)
  agrees (undef {word = word} {name = name} n named) =
      let s : reading.said text (word ∷ name ∷ []) ≡ says.Undefine = said_undef word (name ∷ []) n ∙ rw named refl in
      subst (λ (d : Directive). Agrees (word ∷ name ∷ []) d (Some (spelling text name, None))) (sym s) (clears named)

  one_agreed : {words : List Token} {said : Directive} {a b : Option Definition} → Agrees words said a → Agrees words said b → a ≡ b
  one_agreed keeps keeps = refl
  one_agreed (sets n) (sets m) = refl
  one_agreed (clears n) (clears m) = refl

  -- a line changes the macros in one way
  pub obeys_one : {words : List Token} {a b : Option Definition} → Obeys text words a → Obeys text words b → a ≡ b
  obeys_one x y = one_agreed (agrees x) (agrees y)

  -- ---- and back

  no_header : {words : List Token} {said : Directive} {change : Option Definition} → Agrees words said change → said ≡ says.UnknownHeader → ⊥
  no_header keeps e = cc
  no_header (sets n) e = cc
  no_header (clears n) e = cc

  no_unknown : {words : List Token} {said : Directive} {change : Option Definition} → Agrees words said change → said ≡ says.Unknown → ⊥
  no_unknown keeps e = cc
  no_unknown (sets n) e = cc
  no_unknown (clears n) e = cc

  pub data Outcome (words : List Token) : Type 0 where
    obeyed : {change : Option Definition} → Obeys text words change → Agrees words (reading.said text words) change → Outcome words
    unknown_header : IsInclude text words → reading.said text words ≡ says.UnknownHeader → Outcome words
    unknown : (IsInclude text words → ⊥) → reading.said text words ≡ says.Unknown → Outcome words

  is_obeyed : {words : List Token} {change : Option Definition} → Obeys text words change → Outcome words
  is_obeyed o = obeyed o (agrees o)

  no_include : (word : Token) (ts : List Token) → bytes_eq (spelling text word) (codes "include") ≡ false → IsInclude text (word ∷ ts) → ⊥
  no_include word ts e n = let y = spelled_so (spelling text word) (codes "include") n.1 in cc

  by_header : (word : Token) (ts : List Token) (known : Bool) → is_header text ts ≡ known → IsNamed text word (codes "include") → Outcome (word ∷ ts)
  by_header word ts true e n = is_obeyed (include n e)
  by_header word ts false e n = unknown_header n (said_include word ts n ∙ rw e refl)

  by_name : (word name : Token) (body : List Token) (fine : Bool) → (is_name name.kind && not (touches text name body)) ≡ fine →
      bytes_eq (spelling text word) (codes "include") ≡ false → IsNamed text word (codes "define") → Outcome (word ∷ name ∷ body)
  by_name word name body true e apart n =
      let f = and_true (is_name name.kind) (touches text name body) e in
      is_obeyed (define n f.0 f.1)
  by_name word name body false e apart n = unknown (no_include word (name ∷ body) apart) (said_define word (name ∷ body) n ∙ rw e refl)

  by_define : (word : Token) (ts : List Token) → bytes_eq (spelling text word) (codes "include") ≡ false → IsNamed text word (codes "define") → Outcome (word ∷ ts)
  by_define word [] apart n = unknown (no_include word [] apart) (said_define word [] n)
  by_define word (name ∷ body) apart n = by_name word name body (is_name name.kind && not (touches text name body)) refl apart n

  by_lone : (word name : Token) (fine : Bool) → is_name name.kind ≡ fine →
      bytes_eq (spelling text word) (codes "include") ≡ false → IsNamed text word (codes "undef") → Outcome (word ∷ name ∷ [])
  by_lone word name true e apart n = is_obeyed (undef n e)
  by_lone word name false e apart n = unknown (no_include word (name ∷ []) apart) (said_undef word (name ∷ []) n ∙ rw e refl)

  by_undef : (word : Token) (ts : List Token) → bytes_eq (spelling text word) (codes "include") ≡ false → IsNamed text word (codes "undef") → Outcome (word ∷ ts)
  by_undef word [] apart n = unknown (no_include word [] apart) (said_undef word [] n)
  by_undef word (name ∷ []) apart n = by_lone word name (is_name name.kind) refl apart n
  by_undef word (name ∷ more ∷ ts) apart n = unknown (no_include word (name ∷ more ∷ ts) apart) (said_undef word (name ∷ more ∷ ts) n)

  by_other : (word : Token) (ts : List Token) → is_name word.kind ≡ true → bytes_eq (spelling text word) (codes "include") ≡ false →
      bytes_eq (spelling text word) (codes "define") ≡ false → bytes_eq (spelling text word) (codes "undef") ≡ false → Outcome (word ∷ ts)
  unfolding reading.said
  by_other word ts named a b c = unknown (no_include word ts a) (rw (named, a, b, c) refl)

  by_spelling : (word : Token) (ts : List Token) → is_name word.kind ≡ true → Outcome (word ∷ ts)
  by_spelling word ts named = elim (cases_Bool (bytes_eq (spelling text word) (codes "include"))) [
    | inl y ↦ by_header word ts (is_header text ts) refl (named, same_word (spelling text word) (codes "include") y)
    | inr a ↦ elim (cases_Bool (bytes_eq (spelling text word) (codes "define"))) [
      | inl y ↦ by_define word ts a (named, same_word (spelling text word) (codes "define") y)
      | inr b ↦ elim (cases_Bool (bytes_eq (spelling text word) (codes "undef"))) [
        | inl y ↦ by_undef word ts a (named, same_word (spelling text word) (codes "undef") y)
        | inr c ↦ by_other word ts named a b c
      ]
    ]
  ]

  no_name : (word : Token) (ts : List Token) → is_name word.kind ≡ false → Outcome (word ∷ ts)
  unfolding reading.said
  no_name word ts e = unknown (λ n. let y = n.0 in cc) (rw e refl)

  pub outcome : (words : List Token) → Outcome words
  unfolding reading.said
  outcome [] = is_obeyed nothing
  outcome (word ∷ ts) = elim (cases_Bool (is_name word.kind)) [ inl y ↦ by_spelling word ts y | inr n ↦ no_name word ts n ]

  -- ---- what follows from what a line says

  pub is_header_refused : (words : List Token) (line : ℕ) → reading.said text words ≡ says.UnknownHeader → Disobeys text words line (UnknownHeader line)
  is_header_refused words line e = elim (outcome words) [
    | obeyed o a ↦ absurd (no_header a e)
    | unknown_header i s ↦ header i (λ change o. no_header (agrees o) e)
    | unknown i s ↦ absurd cc
  ]

  pub is_directive_refused : (words : List Token) (line : ℕ) → reading.said text words ≡ says.Unknown → Disobeys text words line (BadDirective line)
  is_directive_refused words line e = elim (outcome words) [
    | obeyed o a ↦ absurd (no_unknown a e)
    | unknown_header i s ↦ absurd cc
    | unknown i s ↦ other i (λ change o. no_unknown (agrees o) e)
  ]

  nothing_changed : {words : List Token} {said : Directive} {change : Option Definition} → Agrees words said change → said ≡ says.Nothing → change ≡ None
  nothing_changed keeps e = refl
  nothing_changed (sets n) e = absurd cc
  nothing_changed (clears n) e = absurd cc

  pub is_nothing : (words : List Token) → reading.said text words ≡ says.Nothing → Obeys text words None
  is_nothing words e = elim (outcome words) [
    | obeyed {change = change} o a ↦ subst (λ (c : Option Definition). Obeys text words c) (nothing_changed a e) o
    | unknown_header i s ↦ absurd cc
    | unknown i s ↦ absurd cc
  ]

  -- the name that a line is about, with what comes after it
  pub record IsAbout (words : List Token) (what : List Token → Option (List Token)) : Type 0 where
    pub word : Token
    pub name : Token
    pub body : List Token
    pub split : words ≡ word ∷ name ∷ body
    pub named : is_name name.kind ≡ true
    pub obeys : Obeys text words (Some (spelling text name, what body))

  about_define : {words : List Token} {said : Directive} {change : Option Definition} → Agrees words said change → said ≡ says.Define → Obeys text words change → IsAbout words (λ body. Some body)
  about_define keeps e o = absurd cc
  about_define (sets {word = word} {name = name} {body = body} n) e o = record { word = word; name = name; body = body; split = refl; named = n; obeys = o }
  about_define (clears n) e o = absurd cc

  about_undef : {words : List Token} {said : Directive} {change : Option Definition} → Agrees words said change → said ≡ says.Undefine → Obeys text words change → IsAbout words (λ _. None)
  about_undef keeps e o = absurd cc
  about_undef (sets n) e o = absurd cc
  about_undef (clears {word = word} {name = name} n) e o = record { word = word; name = name; body = []; split = refl; named = n; obeys = o }

  pub is_define : (words : List Token) → reading.said text words ≡ says.Define → IsAbout words (λ body. Some body)
  is_define words e = elim (outcome words) [
    | obeyed o a ↦ about_define a e o
    | unknown_header i s ↦ absurd cc
    | unknown i s ↦ absurd cc
  ]

  pub is_undef : (words : List Token) → reading.said text words ≡ says.Undefine → IsAbout words (λ _. None)
  is_undef words e = elim (outcome words) [
    | obeyed o a ↦ about_undef a e o
    | unknown_header i s ↦ absurd cc
    | unknown i s ↦ absurd cc
  ]

  -- ---- one reason

  pub disobeys_one : {words : List Token} {line : ℕ} {d e : PpError} → Disobeys text words line d → Disobeys text words line e → d ≡ e
  disobeys_one (header i n) (header j m) = refl
  disobeys_one (header i n) (other j m) = absurd (j i)
  disobeys_one (other i n) (header j m) = absurd (i j)
  disobeys_one (other i n) (other j m) = refl

  pub not_obeyed : {words : List Token} {line : ℕ} {e : PpError} {change : Option Definition} → Disobeys text words line e → Obeys text words change → ⊥
  not_obeyed {change = change} (header i none) o = none change o
  not_obeyed {change = change} (other i none) o = none change o

  -- a line is obeyed or it is not
  pub judged : (words : List Token) (line : ℕ) → ((change : Option Definition) × Obeys text words change) ⊎ ((e : PpError) × Disobeys text words line e)
  judged words line = elim (outcome words) [
    | obeyed {change = change} o a ↦ inl (change, o)
    | unknown_header i s ↦ inr (UnknownHeader line, is_header_refused words line s)
    | unknown i s ↦ inr (BadDirective line, is_directive_refused words line s)
  ]
