-- What the string literals among the tokens of a text mean, after its macros were replaced.
use Rattle.std.proofs.Common.{◌≡◌, ℕ, List, [], ◌∷◌, sym, ap, ◌∙◌, subst}
use Rattle.std.specs.Prelude.{All, Contains}
use Rattle.std.proofs.lemmas.List.Elements.{All-nil, All-cons, All-head, All-tail}
use Rattle.c_tokens.specs.declared.token.Token.{Token}
use Rattle.c_tokens.specs.declared.kind.Kind.TheVariants.{Str}
use Rattle.c_lexer.specs.Lexes.{Tokens}
use Rattle.c_lexer.specs.Escapes.{IsStringOf}
use Rattle.c_pp.specs.Expands.{IsDrawn}
use Rattle.token_texts.specs.Strings.{MeansBytes, HaveStrings}

-- each string literal of a text means bytes
abbrev pub StringsLaw : List ℕ → Type 0
StringsLaw text = (ts : List Token) (t : Token) → Tokens text ts → Contains ts t → t.kind ≡ Str → (bytes : List ℕ) × IsStringOf text t.start t.end bytes

module _ (text : List ℕ) (tokens : List Token) (lexed : Tokens text tokens) (law : StringsLaw text) where
  of_one : (t : Token) → IsDrawn tokens t → MeansBytes text t
  of_one t d = λ is.
      let (bytes, means) = law tokens d.source lexed d.from_text (ap (λ (k : Token). k.kind) (sym d.same) ∙ is) in
      let P : Token → Type 0 = λ k. IsStringOf text k.start k.end bytes in
      (bytes, subst P (sym d.same) means)

  -- the tokens that the text becomes mean what those of the text mean
  pub drawn : (out : List Token) → All (IsDrawn tokens) out → HaveStrings text out
  drawn [] h = All-nil (MeansBytes text)
  drawn (t ∷ ts) h = All-cons (MeansBytes text) t ts (of_one t (All-head (IsDrawn tokens) t ts h)) (drawn ts (All-tail (IsDrawn tokens) t ts h))
