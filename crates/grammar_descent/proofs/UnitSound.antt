-- What is read is a unit, or the name of a type; so there is one at most.
use Rattle.std.proofs.Common.{◌≡◌, ℕ, zero, suc, ◌+◌, List, [], ◌∷◌, ◌++◌, length, Option, Some, None, inl, inr, refl, sym, ap, subst, ◌∙◌, append_assoc, append-nil, eqb}
use Rattle.std.specs.Prelude.{◌↔◌}
use Rattle.std.proofs.lemmas.Bool.{eqb-true}
use Rattle.c_tokens.specs.declared.token.Token.{Token}
use Rattle.c_tokens.specs.declared.kind.Mark.TheVariants as mark
use Rattle.c_grammar.specs.declared.words.Naming.TheVariants as naming
use Rattle.c_grammar.specs.declared.phrases.Specs.{Specs}
use Rattle.c_grammar.specs.declared.phrases.Declarator.{Declarator}
use Rattle.c_grammar.specs.declared.phrases.TypePhrase.{TypePhrase}
use Rattle.c_grammar.specs.declared.units.TypeName.{TypeName}
use Rattle.c_grammar.specs.declared.units.External.{External}
use Rattle.c_grammar.specs.declared.units.External.TheVariants as x
use Rattle.c_grammar.specs.declared.units.Unit.{Unit as Whole}
use Rattle.c_tokens.specs.Names.{Name}
use Rattle.token_texts.specs.Names.{predefined}
use Rattle.token_texts.specs.Texts.{Texts, AreTexts, AreTextsWith, AreTextsFrom}
use Rattle.c_grammar.specs.Tokens.{place_at}
use Rattle.c_grammar.specs.Words.{Role}
use Rattle.c_grammar.specs.Scope.{Scope, declared_kind, types, start}
use Rattle.c_grammar.specs.Phrases as p
use Rattle.c_grammar.specs.Phrases.{DeclaratorKind, IsSpecs, IsDeclarator, IsTypeName}
use Rattle.c_grammar.specs.Units as g
use Rattle.c_grammar.specs.Limits.{max_depth}
use Rattle.c_grammar.specs.Units.{AreExternals, Derives, DerivesTypeName}
use Rattle.grammar_descent.specs.Reading.{State, mark_at, past, Readers}
use Rattle.grammar_descent.specs.Exact.{Exact}
use Rattle.grammar_descent.specs.InitialiserSteps.{NamedDeclarator, declare, named_declarator, declaration_of_names}
use Rattle.grammar_descent.specs.StatementSteps.{back, block}
use Rattle.grammar_descent.specs.UnitSteps as step
use Rattle.grammar_descent.specs.UnitSteps.{in_function}
use Rattle.grammar_descent.proofs.Seen.{stands, bind_some, chosen}
use Rattle.grammar_descent.proofs.InitialiserComplete.{state}
use Rattle.grammar_descent.proofs.InitialiserSound.{SomeDeclarator, sound_declarator, sound_specs, sound_alone, sound_with_names}
use Rattle.grammar_descent.proofs.StatementSound.{sound_block}
use Rattle.grammar_descent.proofs.UnitComplete.{finds_unit, finds_lone_type}

module _ (text : List ℕ) (ts : List Token) where
  -- a declaration or a function, from the one state up to the other: before others it is the first of all
  abbrev SomeExternal : State → External × State → Type 0
  SomeExternal s f = (to : ℕ) (rest : List External) → AreExternals text ts f.1.scope f.1.at to rest → AreExternals text ts s.scope s.at to (f.0 ∷ rest)

  -- what was found before, and then all up to the last token
  record ExternalsFound (found : List External) (s : State) (all : List External) : Type 0 where
    pub rest : List External
    pub are : all ≡ found ++ rest
    pub each : AreExternals text ts s.scope s.at (length ts) rest

  external_before : (found : List External) (s : State) (next : External × State) (all : List External) → SomeExternal s next →
      ExternalsFound (found ++ next.0 ∷ []) next.1 all → ExternalsFound found s all
  external_before found s next all is r =
      record { rest = next.0 ∷ r.rest; are = r.are ∙ append_assoc found (next.0 ∷ []) r.rest; each = is (length ts) r.rest r.each }

unnamed_none : {text : List ℕ} {ts : List Token} {kind : DeclaratorKind} {depth from to : ℕ} {scope after : Scope} {name : Option Name} {own : Option Scope} {d : Declarator} →
    IsDeclarator text ts naming.NotNamed kind depth scope after from to name own d → name ≡ None
unnamed_none p.no_name = refl
unnamed_none (p.pointer is all a) = unnamed_none a
unnamed_none (p.in_parentheses is may a some closes) = unnamed_none a
unnamed_none (p.open_array a is closes) = unnamed_none a
unnamed_none (p.array a is b closes) = unnamed_none a
unnamed_none (p.function a is all closes) = unnamed_none a

module _ (text : List ℕ) (ts : List Token) (phrases : ℕ → Readers) (exact : (d : ℕ) → Exact text ts d (phrases d)) where
  sound_with_body : (s : State) (specs : (Specs × List Role × ℕ) × State) (d : NamedDeclarator × State) (f : External × State) →
      IsSpecs text ts max_depth s.scope specs.1.scope specs.0.1 s.at specs.1.at specs.0.0 → SomeDeclarator text ts max_depth specs.1 d →
      step.function_with_body text ts phrases s.at specs.0.0 specs.0.1 d ≡ Some f → SomeExternal text ts s f
  unfolding step.function_with_body
  sound_with_body s specs d f is called h to rest others =
      let what = declared_kind specs.0.1 in
      let (body, found, h1) = bind_some (block text ts phrases max_depth (in_function d what)) _ f h in
      let b = sound_block text ts phrases exact max_depth (in_function d what) body found in
      let e : f ≡ (x.Function (record { place = place_at ts s.at; specs = specs.0.0; declarator = d.0.node; body = body.0 }), back (declare d.1 d.0.name what) body.1) = cc in
      let part = subst (λ (f : External × State). AreExternals text ts f.1.scope f.1.at to rest) e others in
      subst (λ (f : External × State). AreExternals text ts s.scope s.at to (f.0 ∷ rest)) (sym e) (g.function (g.function is called b.is) part)

  sound_declared : (s : State) (specs : (Specs × List Role × ℕ) × State) (d : NamedDeclarator × State) (f : External × State) →
      IsSpecs text ts max_depth s.scope specs.1.scope specs.0.1 s.at specs.1.at specs.0.0 → SomeDeclarator text ts max_depth specs.1 d →
      step.external_after text ts phrases s.at specs.0.0 specs.0.1 specs.1.at d ≡ Some f → SomeExternal text ts s f
  unfolding step.external_after
  sound_declared s specs d f is called h =
      elim (chosen (mark_at ts d.1.at mark.LeftBrace) _ _ (Some f) h) [
        | inl c ↦ sound_with_body s specs d f is called c.1
        | inr c ↦ (
            let (all, found, h1) = bind_some (declaration_of_names ts phrases max_depth s.at specs.0.0 specs.0.1 specs.1.at d) _ f c.1 in
            let r = sound_with_names text ts phrases exact max_depth s specs d all is called found in
            let e : f ≡ (x.Declaration all.0, all.1) = cc in
            λ to rest others.
            let part = subst (λ (f : External × State). AreExternals text ts f.1.scope f.1.at to rest) e others in
            subst (λ (f : External × State). AreExternals text ts s.scope s.at to (f.0 ∷ rest)) (sym e) (g.declaration r part))
      ]

  sound_external : (s : State) (f : External × State) → step.external text ts phrases s ≡ Some f → SomeExternal text ts s f
  unfolding step.external
  sound_external s f h =
      let (specs, found, h1) = bind_some ((phrases max_depth).specs s) _ f h in
      let is = sound_specs text ts phrases exact max_depth s specs found in
      elim (chosen (mark_at ts specs.1.at mark.Semicolon) _ _ (Some f) h1) [
        | inl c ↦ (
            let e : f ≡ (x.Declaration (record { place = place_at ts s.at; specs = specs.0.0; declarators = [] }), past specs.1 1) = (let i = c.1 in cc) in
            let r = sound_alone text ts phrases exact max_depth s specs is (stands ts specs.1.at _ c.0) in
            λ to rest others.
            let part = subst (λ (f : External × State). AreExternals text ts f.1.scope f.1.at to rest) e others in
            subst (λ (f : External × State). AreExternals text ts s.scope s.at to (f.0 ∷ rest)) (sym e) (g.declaration r part))
        | inr c ↦ (
            let (d, one, h2) = bind_some (named_declarator ts phrases max_depth specs.1) _ f c.1 in
            sound_declared s specs d f is (sound_declarator text ts phrases exact max_depth specs.1 d one) h2)
      ]

  sound_externals : (n : ℕ) (found : List External) (s : State) (all : List External) → step.externals text ts phrases n found s ≡ Some all →
      ExternalsFound text ts found s all
  unfolding step.externals
  sound_externals zero found s all h = absurd cc
  sound_externals (suc n) found s all h =
      elim (chosen (eqb s.at (length ts)) (Some found) _ (Some all) h) [
        | inl c ↦ (
            let e : found ≡ all = (let i = c.1 in cc) in
            let end = eqb-true s.at (length ts) c.0 in
            record { rest = []; are = sym e ∙ sym (append-nil found); each = subst (λ n. AreExternals text ts s.scope s.at n []) end g.none })
        | inr c ↦ (
            let (next, is, h1) = bind_some (step.external text ts phrases s) _ all c.1 in
            external_before text ts found s next all (sound_external s next is) (sound_externals n (found ++ next.0 ∷ []) next.1 all h1))
      ]

  -- The unit that is read is one that the tokens derive, with the texts of the tokens.
  pub sound_unit : (unit : Whole) → step.unit text ts phrases ≡ Some unit.items → AreTexts text ts unit.texts → Derives text ts unit
  unfolding step.unit
  sound_unit unit h texts =
      let r = sound_externals (length ts + 1) [] (state 0 start) unit.items h in
      record { items = rw r.are r.each; texts = texts }

  pub sound_type_name : (depth : ℕ) (s : State) (f : TypePhrase × State) → step.type_phrase_alone text ts phrases depth s ≡ Some f →
      IsTypeName text ts depth s.scope f.1.scope s.at f.1.at f.0
  unfolding step.type_phrase_alone
  sound_type_name depth s f h =
      let (specs, found, h1) = bind_some ((phrases depth).specs s) _ f h in
      let (d, one, h2) = bind_some ((phrases depth).declarator naming.NotNamed specs.1) _ f h1 in
      let low = (exact depth).declarator_sound.low naming.NotNamed specs.1 d.1 d.0 one in
      let is = (exact depth).declarator_sound.derived naming.NotNamed depth specs.1 d.1 d.0 one low in
      let none = unnamed_none is in
      let e : (record { place = place_at ts s.at; specs = specs.0.0; declarator = d.0.node }, d.1) ≡ f = cc in
      subst (λ (f : TypePhrase × State). IsTypeName text ts depth s.scope f.1.scope s.at f.1.at f.0) e
      (p.type_name (sound_specs text ts phrases exact depth s specs found)
      (subst (λ n. IsDeclarator text ts naming.NotNamed p.whole depth specs.1.scope d.1.scope specs.1.at d.1.at n d.0.own d.0.node) none is))

  -- The name of a type that is read is one that the tokens derive, with the texts of the tokens.
  pub sound_lone_type : (typedefs : List Name) (type : TypeName) → step.lone_type text ts phrases typedefs ≡ Some type.phrase →
      AreTextsWith typedefs text ts type.texts → DerivesTypeName text ts typedefs type
  unfolding step.lone_type
  sound_lone_type typedefs type h texts =
      let (f, found, h1) = bind_some (step.type_phrase_alone text ts phrases max_depth (state 0 (types typedefs ++ start))) _ type.phrase h in
      elim (chosen (eqb f.1.at (length ts)) (Some f.0) None (Some type.phrase) h1) [
        | inl c ↦ (
            let same : f.0 ≡ type.phrase = (let i = c.1 in cc) in
            let end = eqb-true f.1.at (length ts) c.0 in
            let is = sound_type_name max_depth (state 0 (types typedefs ++ start)) f found in
            let scope = types typedefs ++ start in
            let all = subst (λ n. IsTypeName text ts max_depth scope f.1.scope 0 n f.0) end is in
            record {
              after = f.1.scope;
              phrase = subst (λ (t : TypePhrase). IsTypeName text ts max_depth scope f.1.scope 0 (length ts) t) same all;
              texts = texts;
            })
        | inr c ↦ absurd (let i = c.1 in cc)
      ]

  -- ---- the laws of the readers

  -- The reader answers the items of a unit exactly where the tokens derive it.
  pub reads_unit : (unit : Whole) → ((step.unit text ts phrases ≡ Some unit.items) × AreTexts text ts unit.texts) ↔ Derives text ts unit
  reads_unit unit = (λ both. sound_unit unit both.0 both.1, λ is. (finds_unit text ts phrases exact unit is, is.texts))

  pub reads_type : (typedefs : List Name) (type : TypeName) →
      ((step.lone_type text ts phrases typedefs ≡ Some type.phrase) × AreTextsWith typedefs text ts type.texts) ↔ DerivesTypeName text ts typedefs type
  reads_type typedefs type =
      (λ both. sound_lone_type typedefs type both.0 both.1, λ is. (finds_lone_type text ts phrases exact typedefs type is, is.texts))

  same_unit : (a b : Whole) → a.items ≡ b.items → a.texts ≡ b.texts → a ≡ b
  same_unit a b e f =
      ap (λ l. record { items = l; texts = a.texts }) e ∙ ap (λ t. record { items = b.items; texts = t }) f

  same_type_name : (a b : TypeName) → a.phrase ≡ b.phrase → a.texts ≡ b.texts → a ≡ b
  same_type_name a b e f =
      ap (λ l. record { phrase = l; texts = a.texts }) e ∙ ap (λ t. record { phrase = b.phrase; texts = t }) f

  -- where tokens have one table of texts
  module _ (one_table : (known : List Name) (a b : Texts) → AreTextsFrom known text ts a → AreTextsFrom known text ts b → a ≡ b) where
    pub one_unit : (a b : Whole) → Derives text ts a → Derives text ts b → a ≡ b
    one_unit a b d e =
        let first = finds_unit text ts phrases exact a d in
        let second = finds_unit text ts phrases exact b e in
        let same : a.items ≡ b.items = cc in
        same_unit a b same (one_table predefined a.texts b.texts d.texts e.texts)

    pub one_type_name : (typedefs : List Name) (a b : TypeName) → DerivesTypeName text ts typedefs a → DerivesTypeName text ts typedefs b → a ≡ b
    one_type_name typedefs a b d e =
        let first = finds_lone_type text ts phrases exact typedefs a d in
        let second = finds_lone_type text ts phrases exact typedefs b e in
        let same : a.phrase ≡ b.phrase = cc in
        same_type_name a b same (one_table (predefined ++ typedefs) a.texts b.texts d.texts e.texts)
