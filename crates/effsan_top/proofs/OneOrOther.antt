-- Each text has a program or a fault, and never both.
use Rattle.std.proofs.Common.{◌≡◌, ◌≢◌, ℕ, List, [], ◌∷◌, refl, sym, ap, ◌∙◌, subst, ◌⊎◌, inl, inr, Option, Some, None, Result, Ok, Err, arith}
use Rattle.std.specs.Prelude.{All, Contains, ◌↔◌}
use Rattle.c_tokens.specs.declared.token.Token.{Token}
use Rattle.c_lexer.specs.declared.error.LexError.{LexError}
use Rattle.c_lexer.specs.Lexes.{Tokens, IsLexFault}
use Rattle.c_pp.specs.declared.error.PpError.{PpError}
use Rattle.c_pp.specs.Expands.{Expands, IsPpFault, IsDrawn}
use Rattle.c_grammar.specs.declared.units.Unit.{Unit}
use Rattle.c_grammar.specs.declared.units.External.{External}
use Rattle.c_grammar.specs.Units.{Derives}
use Rattle.grammar_descent.specs.AllReaders.{read_unit}
use Rattle.token_texts.specs.Texts.{AreTexts}
use Rattle.plain_meaning.specs.declared.tree.Function.{Function}
use Rattle.plain_meaning.specs.declared.tree.Program.{Program}
use Rattle.program_form.specs.Programs.{Forms, functions}
use Rattle.effsan_top.specs.declared.faults.Fault.{Fault}
use Rattle.effsan_top.specs.declared.faults.FaultKind.TheVariants.{Syntax, NotYet}
use Rattle.effsan_top.specs.Faults as fault
use Rattle.effsan_top.specs.Faults.{BecomesTokens, IsAtFault, lexical, directive, syntax, on}
use Rattle.effsan_top.specs.Programs.{IsProgram}
use Rattle.effsan_top.proofs.Reading.{StringsLaw, drawn, lexer_fault, expander_fault, no_tokens, nothing_derived}
use Rattle.effsan_top.proofs.TextsExist.{texts_exist}

-- the laws of the stages, for one text
pub record Laws (text : List ℕ) : Type 0 where
  pub one_list : (ts us : List Token) → Tokens text ts → Tokens text us → ts ≡ us
  pub not_both : (ts : List Token) (e : LexError) → Tokens text ts → IsLexFault text e → ⊥
  pub one_reason : (d e : LexError) → IsLexFault text d → IsLexFault text e → d ≡ e
  pub lexed : ((ts : List Token) × Tokens text ts) ⊎ ((e : LexError) × IsLexFault text e)
  pub strings : StringsLaw text
  pub one_expansion : (ts a b : List Token) → Expands text ts a → Expands text ts b → a ≡ b
  pub never_stopped : (ts out : List Token) (e : PpError) → Expands text ts out → IsPpFault text ts e → ⊥
  pub one_stop : (ts : List Token) (d e : PpError) → IsPpFault text ts d → IsPpFault text ts e → d ≡ e
  pub expanded : (ts : List Token) → ((out : List Token) × Expands text ts out) ⊎ ((e : PpError) × IsPpFault text ts e)
  pub drawn : (ts out : List Token) → Expands text ts out → All (IsDrawn ts) out
  pub read : (ts : List Token) (unit : Unit) → ((read_unit text ts ≡ Some unit.items) × AreTexts text ts unit.texts) ↔ Derives text ts unit
  pub one_unit : (ts : List Token) (a b : Unit) → Derives text ts a → Derives text ts b → a ≡ b
  pub one_form : (unit : Unit) (a b : Result (List Function) ℕ) → Forms unit a → Forms unit b → a ≡ b

module _ (text : List ℕ) (law : Laws text) where
  same_tokens : {a b : List Token} → BecomesTokens text a → BecomesTokens text b → a ≡ b
  same_tokens {a = a} {b = b} p q =
      law.one_expansion q.tokens a b (subst (λ ts. Expands text ts a) (law.one_list p.tokens q.tokens p.lexed q.lexed) p.is) q.is

  same_unit : {a b : List Token} {u v : Unit} → BecomesTokens text a → BecomesTokens text b → Derives text a u → Derives text b v → u ≡ v
  same_unit {a = a} {b = b} {u = u} {v = v} p q d e =
      law.one_unit b u v (subst (λ ts. Derives text ts u) (same_tokens p q) d) e

  same_form : {a b : List Token} {u v : Unit} {x y : Result (List Function) ℕ} → BecomesTokens text a → BecomesTokens text b →
      Derives text a u → Derives text b v → Forms u x → Forms v y → x ≡ y
  same_form {v = v} {x = x} {y = y} p q d e forms others =
      law.one_form v x y (subst (λ u. Forms u x) (same_unit p q d e) forms) others

  pub one_program : (a b : Program) → IsProgram text a → IsProgram text b → a ≡ b
  one_program a b p q =
      let e : Ok a.functions ≡ Ok b.functions = same_form p.becomes q.becomes p.derived q.derived p.formed q.formed in
      let same : a.functions ≡ b.functions = cc in
      ap (λ (l : List Function). record { functions = l }) same

  -- the text has no tokens, or these do not become others
  unlexed : {ts : List Token} {e : LexError} → BecomesTokens text ts → IsLexFault text e → ⊥
  unlexed {e = e} b r = law.not_both b.tokens e b.lexed r

  unexpanded : {ts us : List Token} {e : PpError} → BecomesTokens text ts → Tokens text us → IsPpFault text us e → ⊥
  unexpanded {ts = ts} {us = us} {e = e} b lexed r =
      law.never_stopped us ts e (subst (λ l. Expands text l ts) (law.one_list b.tokens us b.lexed lexed) b.is) r

  underived : {ts us : List Token} {unit : Unit} → BecomesTokens text ts → BecomesTokens text us → Derives text ts unit →
      ((u : Unit) → Derives text us u → ⊥) → ⊥
  underived {unit = unit} p q derived none = none unit (subst (λ l. Derives text l unit) (same_tokens p q) derived)

  pub never_both : (program : Program) (f : Fault) → IsProgram text program → IsAtFault text f → ⊥
  never_both program f p (lexical r is) = unlexed p.becomes r
  never_both program f p (directive lexed r is) = unexpanded p.becomes lexed r
  never_both program f p (syntax becomes stands none) = underived p.becomes becomes p.derived none
  never_both program f p (fault.not_yet becomes derived outside) =
      let e = same_form p.becomes becomes p.derived derived p.formed outside in cc

  -- ---- one fault

  abbrev Same : Fault → Fault → Type 0
  Same a b = (a.kind ≡ b.kind) × (a.kind ≢ Syntax → a ≡ b)

  equal : {a b : Fault} → a ≡ b → Same a b
  equal e = (ap (λ (f : Fault). f.kind) e, λ other. e)

  by_some : {a b : Fault} → Some a ≡ Some b → a ≡ b
  by_some e = cc

  pub one_fault : (a b : Fault) → IsAtFault text a → IsAtFault text b → Same a b
  one_fault a b (lexical {e = d} r is) (lexical {e = e} s it) =
      equal (by_some (sym is ∙ ap (fault.of_lexer text) (law.one_reason d e r s) ∙ it))
  one_fault a b (lexical {e = d} r is) (directive {tokens = us} lexed s it) = absurd (law.not_both us d lexed r)
  one_fault a b (lexical r is) (syntax becomes stands none) = absurd (unlexed becomes r)
  one_fault a b (lexical r is) (fault.not_yet becomes derived outside) = absurd (unlexed becomes r)
  one_fault a b (directive {tokens = ts} lexed r is) (lexical {e = e} s it) = absurd (law.not_both ts e lexed s)
  one_fault a b (directive {tokens = ts} {e = d} lexed r is) (directive {tokens = us} {e = e} also s it) =
      equal (by_some (sym is ∙ ap fault.of_expander (law.one_stop us d e (subst (λ l. IsPpFault text l d) (law.one_list ts us lexed also) r) s) ∙ it))
  one_fault a b (directive lexed r is) (syntax becomes stands none) = absurd (unexpanded becomes lexed r)
  one_fault a b (directive lexed r is) (fault.not_yet becomes derived outside) = absurd (unexpanded becomes lexed r)
  one_fault a b (syntax becomes stands none) (lexical s it) = absurd (unlexed becomes s)
  one_fault a b (syntax becomes stands none) (directive lexed s it) = absurd (unexpanded becomes lexed s)
  one_fault a b (syntax becomes stands none) (syntax also others nothing) = (refl, λ other. absurd (other refl))
  one_fault a b (syntax becomes stands none) (fault.not_yet also derived outside) = absurd (underived also becomes derived none)
  one_fault a b (fault.not_yet becomes derived outside) (lexical s it) = absurd (unlexed becomes s)
  one_fault a b (fault.not_yet becomes derived outside) (directive lexed s it) = absurd (unexpanded becomes lexed s)
  one_fault a b (fault.not_yet becomes derived outside) (syntax also stands none) = absurd (underived becomes also derived none)
  one_fault a b (fault.not_yet {line = m} becomes derived outside) (fault.not_yet {line = n} also other without) =
      let e : Err m ≡ Err n = same_form becomes also derived other outside without in
      let same : m ≡ n = cc in
      equal (ap (λ l. on NotYet l) same)

  -- ---- one of both

  abbrev Either : Type 0
  Either = ((program : Program) × IsProgram text program) ⊎ ((f : Fault) × IsAtFault text f)

  of_form : (tokens : List Token) (unit : Unit) → BecomesTokens text tokens → Derives text tokens unit → (formed : Result (List Function) ℕ) →
      Forms unit formed → Either
  of_form tokens unit becomes derived (Ok list) is =
      inl (record { functions = list }, record { tokens = tokens; becomes = becomes; unit = unit; derived = derived; formed = is })
  of_form tokens unit becomes derived (Err n) is = inr (on NotYet n, fault.not_yet becomes derived is)

  of_unit : (tokens : List Token) → BecomesTokens text tokens → (unit : Unit) → Derives text tokens unit → Either
  of_unit tokens becomes unit derived = of_form tokens unit becomes derived (functions unit.texts [] [] unit.items) refl

  of_read : (tokens : List Token) → BecomesTokens text tokens → (r : Option (List External)) → read_unit text tokens ≡ r → Either
  of_read tokens becomes (Some items) is =
      let t = texts_exist text tokens (drawn text law.strings becomes.tokens becomes.lexed tokens (law.drawn becomes.tokens tokens becomes.is)) in
      let unit : Unit = record { items = items; texts = t.0 } in
      of_unit tokens becomes unit ((law.read tokens unit).0 (is, t.1))
  of_read [] becomes None is = of_unit [] becomes no_tokens (nothing_derived text)
  of_read (t ∷ ts) becomes None is =
      inr (on Syntax t.line, syntax {token = t} becomes (first_of t ts) (λ unit d. let r = (law.read (t ∷ ts) unit).1 d in let e = sym is ∙ r.0 in cc))
    where
      first_of : (t : Token) (ts : List Token) → Contains (t ∷ ts) t
      first_of t ts = (0, omega arith, refl)

  of_tokens : (tokens : List Token) → Tokens text tokens → Either
  of_tokens tokens lexed = elim (law.expanded tokens) [
    | inl out ↦ (
        let becomes : BecomesTokens text out.0 = record { tokens = tokens; lexed = lexed; is = out.1 } in
        of_read out.0 becomes (read_unit text out.0) refl)
    | inr stop ↦ (let f = expander_fault stop.1 in inr (f.0, directive lexed stop.1 f.1))
  ]

  pub program_or_fault : Either
  program_or_fault = elim law.lexed [
    | inl ts ↦ of_tokens ts.0 ts.1
    | inr e ↦ (let f = lexer_fault text e.1 in inr (f.0, lexical e.1 f.1))
  ]
