-- What stands for tokens: one list, and none where a macro leads back to itself.
use Rattle.std.proofs.Common.{◌≡◌, ℕ, zero, suc, max, ◌<◌, ◌≤◌, List, [], ◌∷◌, ◌++◌, length, Some, refl, sym, ap, subst, ◌∙◌, arith, ◌⊎◌, inl, inr, append_assoc, append-nil}
use Rattle.std.specs.Prelude.{Contains}
use Rattle.c_tokens.specs.declared.token.Token.{Token}
use Rattle.c_tokens.specs.Names.{Text, Name, spelling}
use Rattle.c_pp.specs.Macros.{Macros, body_of, IsMacro, IsPlain, Replaces, Loops, on_line, end, plain, macro, here, within, later}
use Rattle.c_pp.specs.Walks.{Yields}
use Rattle.c_pp.specs.Walks as w

-- ---- names that are among others

pub none_contained : {X : Type 0} (x : X) → Contains [] x → ⊥
none_contained x (k, low, is) = absurd (omega arith)

pub first_contained : {X : Type 0} (x : X) (xs : List X) → Contains (x ∷ xs) x
first_contained x xs = (0, omega arith, refl)

pub later_contained : {X : Type 0} (x y : X) (xs : List X) → Contains xs y → Contains (x ∷ xs) y
later_contained x y xs (k, low, is) = (suc k, omega arith, is)

pub contained_cases : {X : Type 0} (x y : X) (xs : List X) → Contains (x ∷ xs) y → (x ≡ y) ⊎ Contains xs y
contained_cases x y xs (zero, low, is) = inl is
contained_cases x y xs (suc k, low, is) = inr (k, (let l : suc k < suc (length xs) = low in omega arith), is)

pub on_line-append : (line : ℕ) (a b : List Token) → on_line line (a ++ b) ≡ on_line line a ++ on_line line b
on_line-append line [] b = refl
on_line-append line (t ∷ a) b = ap (λ l. record t { line = line } ∷ l) (on_line-append line a b)

pub on_line-again : (line other : ℕ) (a : List Token) → on_line line (on_line other a) ≡ on_line line a
on_line-again line other [] = refl
on_line-again line other (t ∷ a) = ap (λ l. record t { line = line } ∷ l) (on_line-again line other a)

pub length-on_line : (line : ℕ) (a : List Token) → length (on_line line a) ≡ length a
length-on_line line [] = refl
length-on_line line (t ∷ a) = ap suc (length-on_line line a)

module _ (text : Text) (macros : Macros) where
  -- a token is not both
  both_absurd : (token : Token) (body : List Token) → IsMacro text macros token body → IsPlain text macros token → ⊥
  both_absurd token body (named, is) free = let none = free named in cc

  plain_absurd : (token other : Token) (body : List Token) → IsMacro text macros token body → IsPlain text macros other → token ≡ other → ⊥
  plain_absurd token other body m i e = both_absurd token body m (subst (λ (t : Token). IsPlain text macros t) (sym e) i)

  one_body : (token : Token) (a b : List Token) → IsMacro text macros token a → IsMacro text macros token b → a ≡ b
  one_body token a b x y = let p = x.1 in let q = y.1 in cc

  -- ---- one replacement

  pub replaces_one : {busy : List Name} {ts a b : List Token} → Replaces text macros busy ts a → Replaces text macros busy ts b → a ≡ b
  replaces_one end d = by d refl
    where
      by : {busy : List Name} {ts b : List Token} → Replaces text macros busy ts b → ts ≡ [] → [] ≡ b
      by end e = refl
      by (plain i d) e = absurd cc
      by (macro m free d after) e = absurd cc
  replaces_one (plain {token = t} i d) (plain j e) = ap (λ l. t ∷ l) (replaces_one d e)
  replaces_one (plain {token = t} i d) (macro {body = body} m free e after) = absurd (both_absurd t body m i)
  replaces_one (macro {token = t} {body = body} m free d after) (plain i e) = absurd (both_absurd t body m i)
  replaces_one {busy = busy} (macro {token = t} {body = body} {inner = inner} {out = out} m free d after) (macro {body = other} {inner = again} {out = rest} n free_too e second_after) =
      let same = one_body t other body n m in
      let first : inner ≡ again = replaces_one d (subst (λ (l : List Token). Replaces text macros (spelling text t ∷ busy) l again) same e) in
      let second : out ≡ rest = replaces_one after second_after in
      cc

  pub not_loops : {busy : List Name} {ts out : List Token} → Replaces text macros busy ts out → Loops text macros busy ts → ⊥
  not_loops end e = elim e [ ]
  not_loops (plain {token = t} i d) (here {body = body} m among) = both_absurd t body m i
  not_loops (plain {token = t} i d) (within {body = body} m e) = both_absurd t body m i
  not_loops (plain i d) (later e) = not_loops d e
  not_loops (macro m free d after) (here n among) = free among
  not_loops {busy = busy} (macro {token = t} {body = body} m free d after) (within {body = other} n e) =
      let same = one_body t other body n m in
      not_loops d (subst (λ (l : List Token). Loops text macros (spelling text t ∷ busy) l) same e)
  not_loops (macro m free d after) (later e) = not_loops after e

  -- ---- what is gone through comes to an end

  pub yields_append : {a b p q : List Token} → Yields text macros a p → Yields text macros b q → Yields text macros (a ++ b) (p ++ q)
  yields_append w.end e = e
  yields_append (w.plain i d) e = w.plain i (yields_append d e)
  yields_append {b = b} {q = q} (w.macro {token = t} {ts = ts} {inner = inner} {out = out} m d after) e =
      subst (λ (l : List Token). Yields text macros (t ∷ ts ++ b) l) (sym (append_assoc inner out q)) (w.macro m d (yields_append after e))

  pub yields_plain : (token : Token) → IsPlain text macros token → Yields text macros (token ∷ []) (token ∷ [])
  yields_plain token i = w.plain i w.end

  pub yields_macro : (token : Token) (body inner : List Token) → IsMacro text macros token body → Yields text macros body inner → Yields text macros (token ∷ []) inner
  yields_macro token body inner m d = subst (λ (l : List Token). Yields text macros (token ∷ []) l) (append-nil inner) (w.macro m d w.end)

  -- how deep macros stand in each other
  depth : {ts out : List Token} → Yields text macros ts out → ℕ
  depth w.end = 0
  depth (w.plain i d) = depth d
  depth (w.macro m d after) = max (suc (depth d)) (depth after)

  one_depth : {ts us a b : List Token} (d : Yields text macros ts a) (e : Yields text macros us b) → ts ≡ us → depth d ≡ depth e
  unfolding depth
  one_depth w.end e same = none e same
    where
      none : {us b : List Token} (e : Yields text macros us b) → [] ≡ us → 0 ≡ depth e
      none w.end same = refl
      none (w.plain i d) same = absurd cc
      none (w.macro m d after) same = absurd cc
  one_depth (w.plain i d) w.end same = absurd cc
  one_depth (w.macro m d after) w.end same = absurd cc
  one_depth (w.plain i d) (w.plain j e) same = one_depth d e cc
  one_depth (w.plain {token = t} i d) (w.macro {token = u} {body = body} m e after) same = absurd (plain_absurd u t body m i cc)
  one_depth (w.macro {token = t} {body = body} m d after) (w.plain {token = u} i e) same = absurd (plain_absurd t u body m i cc)
  one_depth (w.macro {token = t} {body = body} m d after) (w.macro {token = u} {body = other} n e second_after) same =
      let tokens : t ≡ u = cc in
      let x = m.1 in
      let y = n.1 in
      let bodies : body ≡ other = cc in
      let first = one_depth d e bodies in
      let second = one_depth after second_after cc in
      cc

  -- the macro of this name is at least so deep
  record IsAtLeast (word : Name) (low : ℕ) : Type 0 where
    pub body : List Token
    pub out : List Token
    pub is_body : body_of macros word ≡ Some body
    pub yields : Yields text macros body out
    pub deep : low ≤ depth yields

  shallower : (word : Name) (low high : ℕ) → low ≤ high → IsAtLeast word high → IsAtLeast word low
  shallower word low high le h = record { body = h.body; out = h.out; is_body = h.is_body; yields = h.yields; deep = (let deep = h.deep in omega arith) }

  replaces : {ts out : List Token} (d : Yields text macros ts out) (busy : List Name) → ((word : Name) → Contains busy word → IsAtLeast word (depth d)) →
      Replaces text macros busy ts out
  unfolding depth
  replaces w.end busy deep = end
  replaces (w.plain i d) busy deep = plain i (replaces d busy deep)
  replaces (w.macro {token = token} {body = body} {inner = inner} m d after) busy deep =
      macro m free
      (replaces d (spelling text token ∷ busy) inside)
      (replaces after busy (λ word among. shallower word (depth after) (max (suc (depth d)) (depth after)) (omega arith) (deep word among)))
    where
      free : Contains busy (spelling text token) → ⊥
      free among =
          let h = deep (spelling text token) among in
          let x = h.is_body in
          let y = m.1 in
          let bodies : h.body ≡ body = cc in
          let same = one_depth h.yields d bodies in
          let low = h.deep in
          absurd (omega arith)

      inside : (word : Name) → Contains (spelling text token ∷ busy) word → IsAtLeast word (depth d)
      inside word among = elim (contained_cases (spelling text token) word busy among) [
        | inl e ↦ record { body = body; out = inner; is_body = ap (body_of macros) (sym e) ∙ m.1; yields = d; deep = omega arith }
        | inr there ↦ shallower word (depth d) (max (suc (depth d)) (depth after)) (omega arith) (deep word there)
      ]

  -- what comes to an end stands for the tokens
  pub yields_replaces : {ts out : List Token} → Yields text macros ts out → Replaces text macros [] ts out
  yields_replaces d = replaces d [] (λ word among. absurd (none_contained word among))
