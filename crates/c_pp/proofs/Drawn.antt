-- Each token that is left is one of those that were given, on the line of one of them.
use Rattle.std.proofs.Common.{◌≡◌, List, [], ◌∷◌, ◌++◌, Option, Some, None, inl, inr, refl, sym, subst, ◌∙◌}
use Rattle.std.specs.Prelude.{All, Contains}
use Rattle.std.specs.Str.{bytes_eq}
use Rattle.std.proofs.lemmas.Bool.{cases_Bool}
use Rattle.std.proofs.lemmas.List.Elements.{All-nil, All-cons, All-head, All-tail, All-append, All-contains_itself}
use Rattle.c_tokens.specs.declared.token.Token.{Token}
use Rattle.c_tokens.specs.Names.{Text, Name}
use Rattle.c_pp.specs.Directives.{Definition, Obeys, nothing, include, define, undef}
use Rattle.c_pp.specs.Macros.{Macros, body_of, changed, Replaces, on_line, end, plain, macro}
use Rattle.c_pp.specs.Expands.{Expanded, IsDrawn}
use Rattle.c_pp.specs.Expands as x

module _ (text : Text) (given : List Token) where
  abbrev From : List Token → Type 0
  From ts = All (Contains given) ts

  -- the bodies are made of these tokens
  unfoldable AreFrom : Macros → Type 0
  AreFrom macros = (name : Name) (body : List Token) → body_of macros name ≡ Some body → From body

  front : (a b : List Token) → From (a ++ b) → From a
  front [] b h = All-nil (Contains given)
  front (t ∷ a) b h = All-cons (Contains given) t a (All-head (Contains given) t (a ++ b) h) (front a b (All-tail (Contains given) t (a ++ b) h))

  back : (a b : List Token) → From (a ++ b) → From b
  back [] b h = h
  back (t ∷ a) b h = back a b (All-tail (Contains given) t (a ++ b) h)

  replaced_from : {macros : Macros} {busy : List Name} {ts out : List Token} → AreFrom macros → Replaces text macros busy ts out → From ts → From out
  unfolding AreFrom
  replaced_from all end h = h
  replaced_from all (plain {token = t} {ts = ts} {out = out} i d) h = All-cons (Contains given) t out (All-head (Contains given) t ts h) (replaced_from all d (All-tail (Contains given) t ts h))
  replaced_from all (macro {token = t} {body = body} {ts = ts} {inner = inner} {out = out} m free d after) h =
      All-append (Contains given) inner out (replaced_from all d (all _ body m.1)) (replaced_from all after (All-tail (Contains given) t ts h))

  defined : (macros : Macros) (word : Name) (what : Option (List Token)) → ((found : List Token) → what ≡ Some found → From found) → AreFrom macros → AreFrom ((word, what) ∷ macros)
  unfolding AreFrom
  defined macros word what new all name body is = elim (cases_Bool (bytes_eq word name)) [
    | inl y ↦ new body (let e : body_of ((word, what) ∷ macros) name ≡ what = rw y refl in sym e ∙ is)
    | inr n ↦ all name body (let e : body_of ((word, what) ∷ macros) name ≡ body_of macros name = rw n refl in sym e ∙ is)
  ]

  -- what a line defines is made of its words
  changed_from : (macros : Macros) {words : List Token} {change : Option Definition} → Obeys text words change → From words → AreFrom macros → AreFrom (changed change macros)
  changed_from macros nothing h all = all
  changed_from macros (include n k) h all = all
  changed_from macros (define {word = word} {name = name} {body = body} n k f) h all =
      defined macros _ (Some body) (λ found is. subst From (let e : body ≡ found = cc in e) (All-tail (Contains given) name body (All-tail (Contains given) word (name ∷ body) h))) all
  changed_from macros (undef n k) h all = defined macros _ None (λ found is. absurd cc) all

  on_line_drawn : (t : Token) → Contains given t → (out : List Token) → From out → All (IsDrawn given) (on_line t.line out)
  on_line_drawn t there [] h = All-nil (IsDrawn given)
  on_line_drawn t there (u ∷ out) h =
      All-cons (IsDrawn given) (record u { line = t.line }) (on_line t.line out)
      (record { source = u; named = t; from_text = All-head (Contains given) u out h; at_name = there; same = refl })
      (on_line_drawn t there out (All-tail (Contains given) u out h))

  one_from : (t : Token) → Contains given t → From (t ∷ [])
  one_from t there = All-cons (Contains given) t [] there (All-nil (Contains given))

  drawn_from : {macros : Macros} {ts out : List Token} → AreFrom macros → Expanded text macros ts out → From ts → All (IsDrawn given) out
  drawn_from all x.end h = All-nil (IsDrawn given)
  drawn_from {macros} all (x.directive {hash = hash} {ts = ts} {words = words} {rest = rest} begins line o d) h =
      let further = subst From line.split (All-tail (Contains given) hash ts h) in
      drawn_from (changed_from macros o (front words rest further) all) d (back words rest further)
  drawn_from all (x.token {token = t} {ts = ts} {piece = piece} {out = out} begins r d) h =
      let there = All-head (Contains given) t ts h in
      All-append (IsDrawn given) (on_line t.line piece) out
      (on_line_drawn t there piece (replaced_from all r (one_from t there)))
      (drawn_from all d (All-tail (Contains given) t ts h))

pub drawn : {text : Text} {ts out : List Token} → Expanded text [] ts out → All (IsDrawn ts) out
unfolding AreFrom
drawn {text} {ts} d = drawn_from text ts (none text ts) d (All-contains_itself ts)
  where
    none : (text : Text) (ts : List Token) → AreFrom text ts []
    none text ts name body is = absurd cc
