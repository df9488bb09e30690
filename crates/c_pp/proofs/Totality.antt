-- Each list of tokens becomes another, or there is a reason why not.
use Rattle.std.proofs.Common.{◌≡◌, ℕ, zero, suc, ◌+◌, ◌-◌, ◌≤◌, List, [], ◌∷◌, ◌++◌, length, take, drop, Option, Some, None, Bool, true, false, inl, inr, ◌⊎◌, refl, sym, ap, subst, ◌∙◌, arith, length-append}
use Rattle.std.specs.Prelude.{Contains, ◌||◌}
use Rattle.std.specs.Str.{bytes_eq}
use Rattle.std.proofs.lemmas.Bool.{cases_Bool, cases_lt}
use Rattle.std.proofs.lemmas.List.{length-drop}
use Rattle.std.proofs.lemmas.Slice.Eq.{bytes_eq-Decides}
use Rattle.c_tokens.specs.declared.token.Token.{Token}
use Rattle.c_pp.specs.declared.error.PpError.{PpError}
use Rattle.c_pp.specs.declared.error.PpError.TheVariants.{MacroLoop, TooManyTokens}
use Rattle.c_tokens.specs.Names.{Text, Name, spelling, is_name}
use Rattle.c_pp.specs.Directives.{Definition, begins_directive, Obeys}
use Rattle.c_pp.specs.Macros.{Macros, body_of, changed, Replaces, Loops, on_line, plain, macro, here, within, later}
use Rattle.c_pp.specs.Macros as m
use Rattle.c_tokens.specs.Limits.{max_tokens}
use Rattle.c_pp.specs.Expands.{Expanded, HasPpFault, Expands, IsPpFault, end, directive, token, bad, loop, full}
use Rattle.c_pp.specs.Reading as reading
use Rattle.c_pp.proofs.Lines.{line_is, judged}
use Rattle.c_pp.proofs.Replacing.{none_contained, first_contained, later_contained, contained_cases, length-on_line}

-- ---- names that are being replaced

among : List Name → Name → Bool
among [] name = false
among (b ∷ busy) name = bytes_eq b name || among busy name

or_true : (a b : Bool) → (a || b) ≡ true → (a ≡ true) ⊎ (b ≡ true)
or_true true b h = inl refl
or_true false b h = inr h

or_right : (a b : Bool) → b ≡ true → (a || b) ≡ true
or_right true b h = refl
or_right false b h = h

among_contained : (busy : List Name) (name : Name) → among busy name ≡ true → Contains busy name
unfolding among
among_contained [] name h = absurd cc
among_contained (b ∷ busy) name h = elim (or_true (bytes_eq b name) (among busy name) h) [
  | inl y ↦ subst (λ (n : Name). Contains (b ∷ busy) n) ((bytes_eq-Decides b name).0 y) (first_contained b busy)
  | inr y ↦ later_contained b name busy (among_contained busy name y)
]

contained_among : (busy : List Name) (name : Name) → Contains busy name → among busy name ≡ true
unfolding among
contained_among [] name h = absurd (none_contained name h)
contained_among (b ∷ busy) name h = elim (contained_cases b name busy h) [
  | inl e ↦ (let y = (bytes_eq-Decides b name).1 e in rw y refl)
  | inr there ↦ or_right (bytes_eq b name) (among busy name) (contained_among busy name there)
]

weight : Bool → ℕ
weight true = 0
weight false = 1

-- how many entries of the table are of names that are not being replaced
free : Macros → List Name → ℕ
free [] busy = 0
free (d ∷ macros) busy = weight (among busy d.0) + free macros busy

weight_less : (a b : Bool) → weight (a || b) ≤ weight b
unfolding weight
weight_less true true = omega arith
weight_less true false = omega arith
weight_less false b = omega arith

no_freer : (macros : Macros) (name : Name) (busy : List Name) → free macros (name ∷ busy) ≤ free macros busy
unfolding free among
no_freer [] name busy = omega arith
no_freer (d ∷ macros) name busy =
    let a = weight_less (bytes_eq name d.0) (among busy d.0) in
    let b = no_freer macros name busy in
    omega arith

less_free : (macros : Macros) (name : Name) (busy : List Name) (body : List Token) → body_of macros name ≡ Some body → among busy name ≡ false → suc (free macros (name ∷ busy)) ≤ free macros busy
unfolding free among weight
less_free [] name busy body is apart = absurd cc
less_free (d ∷ macros) name busy body is apart = elim (cases_Bool (bytes_eq d.0 name)) [
  | inl y ↦ (
      let e = (bytes_eq-Decides d.0 name).0 y in
      let was : weight (among busy d.0) ≡ 1 = ap (λ n. weight (among busy n)) e ∙ ap weight apart in
      let same = (bytes_eq-Decides name d.0).1 (sym e) in
      let now : weight (bytes_eq name d.0 || among busy d.0) ≡ 0 = ap (λ b. weight (b || among busy d.0)) same in
      let rest = no_freer macros name busy in
      omega arith)
  | inr n ↦ (
      let further : body_of macros name ≡ Some body = (let e : body_of (d ∷ macros) name ≡ body_of macros name = rw n refl in sym e ∙ is) in
      let rest = less_free macros name busy body further apart in
      let first = weight_less (bytes_eq name d.0) (among busy d.0) in
      omega arith)
]

-- ---- each list of tokens is replaced, or leads back

module _ (text : Text) (macros : Macros) where
  abbrev Settled : List Name → List Token → Type 0
  Settled busy ts = ((out : List Token) × Replaces text macros busy ts out) ⊎ Loops text macros busy ts

  settle_plain : (busy : List Name) (t : Token) (ts : List Token) → m.IsPlain text macros t → Settled busy ts → Settled busy (t ∷ ts)
  settle_plain busy t ts i (inl (out, d)) = inl (t ∷ out, plain i d)
  settle_plain busy t ts i (inr l) = inr (later l)

  settle_macro : (busy : List Name) (t : Token) (ts body : List Token) → m.IsMacro text macros t body → (Contains busy (spelling text t) → ⊥) →
      Settled (spelling text t ∷ busy) body → Settled busy ts → Settled busy (t ∷ ts)
  settle_macro busy t ts body i apart (inl (inner, d)) (inl (out, e)) = inl (inner ++ out, macro i apart d e)
  settle_macro busy t ts body i apart (inr l) rest = inr (within i l)
  settle_macro busy t ts body i apart (inl (inner, d)) (inr l) = inr (later l)

  settle_tokens : (fuel : ℕ) → ((busy : List Name) (body : List Token) → suc (free macros busy) ≤ fuel → Settled busy body) →
      (busy : List Name) (ts : List Token) → free macros busy ≤ fuel → Settled busy ts
  settle_tokens fuel below busy [] low = inl ([], m.end)
  settle_tokens fuel below busy (t ∷ ts) low = by_kind (is_name t.kind) refl (settle_tokens fuel below busy ts low)
    where
      by_busy : (body : List Token) → m.IsMacro text macros t body → (is : Bool) → among busy (spelling text t) ≡ is → Settled busy ts → Settled busy (t ∷ ts)
      by_busy body i true e rest = inr (here i (among_contained busy (spelling text t) e))
      by_busy body i false e rest =
          settle_macro busy t ts body i (λ there. let y = contained_among busy (spelling text t) there in cc)
          (below (spelling text t ∷ busy) body (let less = less_free macros (spelling text t) busy body i.1 e in omega arith)) rest

      by_body : (body : Option (List Token)) → body_of macros (spelling text t) ≡ body → is_name t.kind ≡ true → Settled busy ts → Settled busy (t ∷ ts)
      by_body None e named rest = settle_plain busy t ts (λ _. e) rest
      by_body (Some body) e named rest = by_busy body (named, e) (among busy (spelling text t)) refl rest

      by_kind : (named : Bool) → is_name t.kind ≡ named → Settled busy ts → Settled busy (t ∷ ts)
      by_kind true e rest = by_body (body_of macros (spelling text t)) refl e rest
      by_kind false e rest = settle_plain busy t ts (λ named. absurd cc) rest

  settle : (fuel : ℕ) (busy : List Name) (ts : List Token) → free macros busy ≤ fuel → Settled busy ts
  settle zero busy ts low = settle_tokens zero (λ busy body h. absurd (omega arith)) busy ts low
  settle (suc fuel) busy ts low = settle_tokens (suc fuel) (λ busy body h. settle fuel busy body (omega arith)) busy ts low

  pub settled : (ts : List Token) → Settled [] ts
  settled ts = settle (free macros []) [] ts (omega arith)

-- ---- each text has an answer

module _ (text : Text) where
  abbrev Answer : Macros → ℕ → List Token → Type 0
  Answer macros room ts = ((out : List Token) × Expanded text macros ts out × (length out ≤ room)) ⊎ ((e : PpError) × HasPpFault text macros room ts e)

  at_directive : (macros : Macros) (room : ℕ) (t : Token) (ts : List Token) (change : Option Definition) → begins_directive t ≡ true →
      Obeys text (take (reading.line_len ts) ts) change → Answer (changed change macros) room (drop (reading.line_len ts) ts) → Answer macros room (t ∷ ts)
  at_directive macros room t ts change begins o (inl (out, d, few)) = inl (out, directive begins (line_is ts) o d, few)
  at_directive macros room t ts change begins o (inr (e, d)) = inr (e, directive begins (line_is ts) o d)

  at_token : (macros : Macros) (room : ℕ) (t : Token) (ts piece : List Token) → begins_directive t ≡ false → Replaces text macros [] (t ∷ []) piece → length piece ≤ room →
      Answer macros (room - length piece) ts → Answer macros room (t ∷ ts)
  at_token macros room t ts piece begins r low (inl (out, d, few)) =
      inl (on_line t.line piece ++ out, token begins r d, (let a = length-append (on_line t.line piece) out in let b = length-on_line t.line piece in omega arith))
  at_token macros room t ts piece begins r low (inr (e, d)) = inr (e, token begins r low d)

  answer : (fuel : ℕ) (macros : Macros) (room : ℕ) (ts : List Token) → length ts ≤ fuel → Answer macros room ts
  answer fuel macros room [] low = inl ([], end, omega arith)
  answer zero macros room (t ∷ ts) low = absurd (omega arith)
  answer (suc fuel) macros room (t ∷ ts) low = elim (cases_Bool (begins_directive t)) [
    | inl begins ↦ elim (judged text (take (reading.line_len ts) ts) t.line) [
      | inl (change, o) ↦ at_directive macros room t ts change begins o
          (answer fuel (changed change macros) room (drop (reading.line_len ts) ts) (let n = length-drop (reading.line_len ts) ts in omega arith))
      | inr (e, d) ↦ inr (e, bad begins (line_is ts) d)
    ]
    | inr other ↦ elim (settled text macros (t ∷ [])) [
      | inl (piece, r) ↦ elim (cases_lt room (length piece)) [
        | inl over ↦ inr (TooManyTokens t.line, full other r over)
        | inr few ↦ at_token macros room t ts piece other r few (answer fuel macros (room - length piece) ts (omega arith))
      ]
      | inr l ↦ inr (MacroLoop t.line, loop other l)
    ]
  ]

pub one_of_both : (text : Text) (ts : List Token) → ((out : List Token) × Expands text ts out) ⊎ ((e : PpError) × IsPpFault text ts e)
one_of_both text ts = elim (answer text (length ts) [] max_tokens ts (omega arith)) [
  | inl (out, d, few) ↦ inl (out, record { expanded = d; few = few })
  | inr r ↦ inr r
]
