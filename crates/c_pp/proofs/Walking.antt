-- Macros are replaced one within another.
use Rattle.std.proofs.Common.{◌≡◌, ℕ, ◌+◌, ◌<◌, ◌≤◌, List, [], ◌∷◌, ◌++◌, length, Option, Some, inl, inr, refl, sym, ap, subst, ◌∙◌, arith, append_assoc, append-nil, length-append}
use Rattle.std.specs.Prelude.{slice_get, slice_range, slice_set, Contains}
use Rattle.std.proofs.lemmas.Bool.{cases_eq}
use Rattle.c_tokens.specs.declared.token.Token.{Token}
use Rattle.c_pp.specs.declared.marks.Mark.{Mark}
use Rattle.c_pp.specs.declared.marks.Mark.TheVariants as mark
use Rattle.c_pp.specs.declared.output.Output.{Output}
use Rattle.c_pp.specs.declared.replacement.Macro.{Macro}
use Rattle.c_pp.specs.declared.replacement.Open.{Open}
use Rattle.c_pp.specs.declared.replacement.Stop.TheVariants.{End, Enter, Loop}
use Rattle.c_pp.specs.declared.span.Span.{Span}
use Rattle.c_tokens.specs.Names.{Text, Name, spelling}
use Rattle.c_pp.specs.Macros.{Macros, body_of, IsMacro, Loops, on_line, here, within, later}
use Rattle.c_tokens.specs.Limits.{max_tokens}
use Rattle.c_pp.specs.Marked.{mark_at}
use Rattle.c_pp.specs.Walks.{IsUse, Yields, Holds, IsPart, StandsAt, IsKnown, Knows, AreClosed, PutsOut, IsReplaced, part}
use Rattle.c_pp.specs.Walks as w
use Rattle.c_pp.proofs.Parts.{part_split, part_first, part_after}
use Rattle.c_pp.proofs.Replacing.{none_contained, first_contained, later_contained, contained_cases, on_line-append, yields_append, yields_macro}
use Rattle.c_pp.proofs.OutputLemmas.{whole, not_over}
use Rattle.c_pp.proofs.WalkLemmas.{knows_grown}
use Rattle.c_pp.proofs.MarkLemmas.{set_at, set_elsewhere}

same_ends : {X : Type 0} (xs ys : List X) (x y : X) → xs ++ x ∷ [] ≡ ys ++ y ∷ [] → (xs ≡ ys) × (x ≡ y)
same_ends [] [] x y e = (refl, cc)
same_ends [] (b ∷ []) x y e = absurd cc
same_ends [] (b ∷ c ∷ ys) x y e = absurd cc
same_ends (a ∷ []) [] x y e = absurd cc
same_ends (a ∷ b ∷ xs) [] x y e = absurd cc
same_ends (a ∷ xs) (b ∷ ys) x y e =
    let l : xs ++ x ∷ [] ≡ ys ++ y ∷ [] = cc in
    let r = same_ends xs ys x y l in
    let h : a ≡ b = cc in
    let t = r.0 in
    (cc, r.1)

not_empty : {X : Type 0} (xs : List X) (x : X) → xs ++ x ∷ [] ≡ [] → ⊥
not_empty [] x e = cc
not_empty (a ∷ xs) x e = cc

module _ (text : Text) (macros : Macros) (name : ℕ → Name) (tokens : List Token) (count line : ℕ) (all before : List Token) where
  -- `Awaits opens busy around made`: of the macros that are being replaced, the last stands for `around`, and `made` was put out before it
  pub data Awaits : List Open → List Name → List Token → List Token → Type 0 where
    root : Awaits [] [] all before
    entered : (opens : List Open) (busy : List Name) (around made done piece body : List Token) (o : Open) (token : Token) →
        Awaits opens busy around made → around ≡ done ++ token ∷ part tokens o.rest → Yields text macros done piece → IsMacro text macros token body →
        spelling text token ≡ name o.number → o.number < count →
        (length (made ++ on_line line piece) ≤ max_tokens → o.begin ≡ length (made ++ on_line line piece)) →
        Awaits (opens ++ o ∷ []) (spelling text token ∷ busy) body (made ++ on_line line piece)

  pub record Walking (marks : List (Option Mark)) (opens : List Open) (span : Span) (output : Output) : Type 0 where
    pub busy : List Name
    pub around : List Token
    pub made : List Token
    pub done : List Token
    pub piece : List Token
    pub awaits : Awaits opens busy around made
    pub split : around ≡ done ++ part tokens span
    pub yields : Yields text macros done piece
    pub holds : Holds output (made ++ on_line line piece)
    pub knows : Knows text macros name marks (made ++ on_line line piece)
    pub opened : (number : ℕ) → mark_at marks number ≡ Some mark.Open → (number < count) × Contains busy (name number)

  -- ---- the beginning

  pub walk_begins : (marks : List (Option Mark)) (span : Span) (output : Output) → all ≡ part tokens span → Holds output before → Knows text macros name marks before → AreClosed marks →
      Walking marks [] span output
  walk_begins marks span output is h knows closed = record {
    busy = [];
    around = all;
    made = before;
    done = [];
    piece = [];
    awaits = root;
    split = is;
    yields = w.end;
    holds = subst (λ (l : List Token). Holds output l) (sym (append-nil before)) h;
    knows = subst (λ (l : List Token). Knows text macros name marks l) (sym (append-nil before)) knows;
    opened = λ number is. absurd (closed number is);
  }

  joined : (made a b : List Token) → (made ++ on_line line a) ++ on_line line b ≡ made ++ on_line line (a ++ b)
  joined made a b = append_assoc made (on_line line a) (on_line line b) ∙ ap (λ l. made ++ l) (sym (on_line-append line a b))

  -- ---- a macro is entered

  around_use : (around done : List Token) (span rest : Span) (at : ℕ) (token : Token) → around ≡ done ++ part tokens span → span.start ≤ at → at < span.end →
      rest.start ≡ at + 1 → rest.end ≡ span.end → slice_get tokens at ≡ Some token →
      around ≡ (done ++ slice_range tokens span.start at) ++ token ∷ part tokens rest
  around_use around done span rest at token split low high start end there =
      let r : part tokens rest ≡ slice_range tokens (at + 1) span.end = ap (λ s. slice_range tokens s rest.end) start ∙ ap (λ e. slice_range tokens (at + 1) e) end in
      split
      ∙ ap (λ l. done ++ l) (part_split tokens span.start at span.end low (omega arith) ∙ ap (λ l. slice_range tokens span.start at ++ l) (part_first tokens at span.end token high there))
      ∙ sym (append_assoc done (slice_range tokens span.start at) (token ∷ slice_range tokens (at + 1) span.end))
      ∙ ap (λ l. (done ++ slice_range tokens span.start at) ++ token ∷ l) (sym r)

  pub walk_enters : (marks : List (Option Mark)) (opens : List Open) (span rest : Span) (old output : Output) (found : Macro) (begin : ℕ) →
      length marks ≡ count → begin ≡ length output.tokens.items →
      (before : Walking marks opens span old) → PutsOut text macros name tokens marks count span line (before.made ++ on_line line before.piece) output (Enter found rest) →
      Walking (slice_set marks found.number (Some mark.Open)) (opens ++ record { number = found.number; begin = begin; rest = rest } ∷ []) found.body output
  walk_enters marks opens span rest old output found begin counted len b put =
      let stopped = put.stopped in
      let found_use = stopped.4 in
      let made = b.made ++ on_line line (b.piece ++ put.piece) in
      let h : Holds output made = subst (λ (l : List Token). Holds output l) (joined b.made b.piece put.piece) put.holds in
      let o : Open = record { number = found.number; begin = begin; rest = rest } in
      record {
        busy = spelling text found_use.token ∷ b.busy;
        around = part tokens found.body;
        made = made;
        done = [];
        piece = [];
        awaits = entered opens b.busy b.around b.made (b.done ++ slice_range tokens span.start put.at) (b.piece ++ put.piece) (part tokens found.body) o found_use.token b.awaits (around_use b.around b.done span rest put.at found_use.token b.split stopped.0 stopped.1 stopped.2 stopped.3 found_use.stands)
            (yields_append text macros b.yields put.yields) found_use.is_macro found_use.named found_use.counted
            (λ few. len ∙ ap length (whole output made (not_over output made h few) h).0);
        split = refl;
        yields = w.end;
        holds = subst (λ (l : List Token). Holds output l) (sym (append-nil made)) h;
        knows = λ number there is. entered_known marks found made (let n = found_use.counted in omega arith) (subst (λ (l : List Token). Knows text macros name marks l) (joined b.made b.piece put.piece)
            (knows_grown text macros name marks (b.made ++ on_line line b.piece) (on_line line put.piece) b.knows)) number there is;
        opened = λ number is. entered_open marks found (spelling text found_use.token) b.busy (let n = found_use.counted in omega arith) found_use.counted found_use.named b.opened number is;
      }
    where
      entered_known : (marks : List (Option Mark)) (found : Macro) (made : List Token) → found.number < length marks → Knows text macros name marks made →
          (number : ℕ) (there : Span) → mark_at (slice_set marks found.number (Some mark.Open)) number ≡ Some (mark.Known there) → IsKnown text macros (name number) (made ++ []) there
      entered_known marks found made low knows number there is = elim (cases_eq number found.number) [
        | inl e ↦ absurd (let x = set_at marks found.number (Some mark.Open) low in let y = ap (mark_at (slice_set marks found.number (Some mark.Open))) e in cc)
        | inr other ↦ subst (λ (l : List Token). IsKnown text macros (name number) l there) (sym (append-nil made))
            (knows number there (sym (set_elsewhere marks found.number (Some mark.Open) number other) ∙ is))
      ]

      entered_open : (marks : List (Option Mark)) (found : Macro) (word : Name) (busy : List Name) → found.number < length marks → found.number < count → word ≡ name found.number →
          ((number : ℕ) → mark_at marks number ≡ Some mark.Open → (number < count) × Contains busy (name number)) →
          (number : ℕ) → mark_at (slice_set marks found.number (Some mark.Open)) number ≡ Some mark.Open → (number < count) × Contains (word ∷ busy) (name number)
      entered_open marks found word busy low counted named opened number is = elim (cases_eq number found.number) [
        | inl e ↦ (omega arith, subst (λ (n : Name). Contains (word ∷ busy) n) (named ∙ ap name (sym e)) (first_contained word busy))
        | inr other ↦ (
            let o = opened number (sym (set_elsewhere marks found.number (Some mark.Open) number other) ∙ is) in
            (o.0, later_contained word (name number) busy o.1))
      ]

  -- ---- a macro is left

  -- the macro that is being replaced last
  record IsLast (opens : List Open) (o : Open) (busy : List Name) (body made : List Token) : Type 0 where
    pub busy_before : List Name
    pub around : List Token
    pub made_before : List Token
    pub done : List Token
    pub piece : List Token
    pub token : Token
    pub awaits : Awaits opens busy_before around made_before
    pub split : around ≡ done ++ token ∷ part tokens o.rest
    pub yields : Yields text macros done piece
    pub is_macro : IsMacro text macros token body
    pub named : spelling text token ≡ name o.number
    pub counted : o.number < count
    pub begins : length made ≤ max_tokens → o.begin ≡ length made
    pub is_busy : busy ≡ spelling text token ∷ busy_before
    pub is_made : made ≡ made_before ++ on_line line piece

  last_open : {opens : List Open} {busy : List Name} {body made : List Token} → Awaits opens busy body made → (rest : List Open) (o : Open) → opens ≡ rest ++ o ∷ [] → IsLast rest o busy body made
  last_open root rest o e = absurd (not_empty rest o (sym e))
  last_open (entered opens busy around made done piece body last token awaits split yields is_macro named counted begins) rest o e =
      let ends = same_ends opens rest last o e in
      let f = ends.1 in
      record {
        busy_before = busy;
        around = around;
        made_before = made;
        done = done;
        piece = piece;
        token = token;
        awaits = subst (λ (l : List Open). Awaits l busy around made) ends.0 awaits;
        split = split ∙ ap (λ (x : Open). done ++ token ∷ part tokens x.rest) f;
        yields = yields;
        is_macro = is_macro;
        named = named ∙ ap (λ (x : Open). name x.number) f;
        counted = subst (λ (x : Open). x.number < count) f counted;
        begins = λ few. sym (ap (λ (x : Open). x.begin) f) ∙ begins few;
        is_busy = refl;
        is_made = refl;
      }

  no_open : {opens : List Open} {busy : List Name} {body made : List Token} → Awaits opens busy body made → opens ≡ [] → (busy ≡ []) × (body ≡ all) × (made ≡ before)
  no_open root e = (refl, refl, refl)
  no_open (entered opens busy around made done piece body last token awaits split yields is_macro named counted begins) e = absurd (not_empty opens last e)

  -- all that was around was put out
  all_around : (marks : List (Option Mark)) (opens : List Open) (span : Span) (old output : Output) (b : Walking marks opens span old) →
      (put : PutsOut text macros name tokens marks count span line (b.made ++ on_line line b.piece) output End) → Yields text macros b.around (b.piece ++ put.piece)
  all_around marks opens span old output b put =
      subst (λ (l : List Token). Yields text macros l (b.piece ++ put.piece)) (ap (λ l. b.done ++ l) put.stopped ∙ sym b.split) (yields_append text macros b.yields put.yields)

  pub walk_leaves : (marks : List (Option Mark)) (opens rest : List Open) (o : Open) (span : Span) (old output : Output) (end : ℕ) →
      length marks ≡ count → ((k l : ℕ) → k < count → l < count → name k ≡ name l → k ≡ l) → opens ≡ rest ++ o ∷ [] → end ≡ length output.tokens.items →
      (b : Walking marks opens span old) → PutsOut text macros name tokens marks count span line (b.made ++ on_line line b.piece) output End →
      Walking (slice_set marks o.number (Some (mark.Known (record { start = o.begin; end = end })))) rest o.rest output
  walk_leaves marks opens rest o span old output end counted apart is len b put =
      let l = last_open b.awaits rest o is in
      let inner = b.piece ++ put.piece in
      let total = b.made ++ on_line line inner in
      let h : Holds output total = subst (λ (l : List Token). Holds output l) (joined b.made b.piece put.piece) put.holds in
      let same : total ≡ l.made_before ++ on_line line (l.piece ++ inner) = ap (λ m. m ++ on_line line inner) l.is_made ∙ joined l.made_before l.piece inner in
      let y = all_around marks opens span old output b put in
      record {
        busy = l.busy_before;
        around = l.around;
        made = l.made_before;
        done = l.done ++ l.token ∷ [];
        piece = l.piece ++ inner;
        awaits = l.awaits;
        split = l.split ∙ sym (append_assoc l.done (l.token ∷ []) (part tokens o.rest));
        yields = yields_append text macros l.yields (yields_macro text macros l.token b.around inner l.is_macro y);
        holds = subst (λ (l : List Token). Holds output l) same h;
        knows = λ number there at. subst (λ (m : List Token). IsKnown text macros (name number) m there) same
            (left_known l.token b.around b.made inner (let n = l.counted in omega arith) l.is_macro l.named y l.begins
            (λ few. len ∙ ap length (whole output total (not_over output total h few) h).0)
            (subst (λ (l : List Token). Knows text macros name marks l) (joined b.made b.piece put.piece)
            (knows_grown text macros name marks (b.made ++ on_line line b.piece) (on_line line put.piece) b.knows)) number there at);
        opened = λ number at. left_open l.token l.busy_before (let n = l.counted in omega arith) l.counted l.named
            (λ number at. let was = b.opened number at in (was.0, subst (λ (l : List Name). Contains l (name number)) l.is_busy was.1)) number at;
      }
    where
      is_piece : (made inner : List Token) → (length made ≤ max_tokens → o.begin ≡ length made) → (length (made ++ on_line line inner) ≤ max_tokens → end ≡ length (made ++ on_line line inner)) →
          StandsAt (made ++ on_line line inner) (record { start = o.begin; end = end }) inner
      is_piece made inner begins ends few =
          let n = length-append made (on_line line inner) in
          let s : o.begin ≡ length made = begins (omega arith) in
          let e : end ≡ length (made ++ on_line line inner) = ends few in
          record {
            line = line;
            same = ap (λ k. slice_range (made ++ on_line line inner) k end) s ∙ ap (λ k. slice_range (made ++ on_line line inner) (length made) k) e ∙ part_after made (on_line line inner);
            ordered = omega arith;
            within = omega arith;
          }

      left_known : (token : Token) (body made inner : List Token) → o.number < length marks → IsMacro text macros token body → spelling text token ≡ name o.number → Yields text macros body inner →
          (length made ≤ max_tokens → o.begin ≡ length made) → (length (made ++ on_line line inner) ≤ max_tokens → end ≡ length (made ++ on_line line inner)) →
          Knows text macros name marks (made ++ on_line line inner) → (number : ℕ) (there : Span) →
          mark_at (slice_set marks o.number (Some (mark.Known (record { start = o.begin; end = end })))) number ≡ Some (mark.Known there) →
          IsKnown text macros (name number) (made ++ on_line line inner) there
      left_known token body made inner low is_macro named yields begins ends knows number there at = elim (cases_eq number o.number) [
        | inl e ↦ (
            let new = slice_set marks o.number (Some (mark.Known (record { start = o.begin; end = end }))) in
            let x = set_at marks o.number (Some (mark.Known (record { start = o.begin; end = end }))) low in
            let y = ap (mark_at new) e in
            let there_is : record { start = o.begin; end = end } ≡ there = cc in
            subst (λ (s : Span). IsKnown text macros (name number) (made ++ on_line line inner) s) there_is
            (record {
              body = body;
              piece = inner;
              is_body = ap (λ n. body_of macros (name n)) e ∙ sym (ap (body_of macros) named) ∙ is_macro.1;
              yields = yields;
              stands = is_piece made inner begins ends;
            }))
        | inr other ↦ knows number there (sym (set_elsewhere marks o.number (Some (mark.Known (record { start = o.begin; end = end }))) number other) ∙ at)
      ]

      left_open : (token : Token) (busy : List Name) → o.number < length marks → o.number < count → spelling text token ≡ name o.number →
          ((number : ℕ) → mark_at marks number ≡ Some mark.Open → (number < count) × Contains (spelling text token ∷ busy) (name number)) → (number : ℕ) →
          mark_at (slice_set marks o.number (Some (mark.Known (record { start = o.begin; end = end })))) number ≡ Some mark.Open → (number < count) × Contains busy (name number)
      left_open token busy low below named opened number at = elim (cases_eq number o.number) [
        | inl e ↦ absurd (
            let x = set_at marks o.number (Some (mark.Known (record { start = o.begin; end = end }))) low in
            let y = ap (mark_at (slice_set marks o.number (Some (mark.Known (record { start = o.begin; end = end }))))) e in
            cc)
        | inr other ↦ (
            let was = opened number (sym (set_elsewhere marks o.number (Some (mark.Known (record { start = o.begin; end = end }))) number other) ∙ at) in
            elim (contained_cases (spelling text token) (name number) busy was.1) [
              | inl e ↦ absurd (other (apart number o.number was.0 below (sym e ∙ named)))
              | inr there ↦ (was.0, there)
            ])
      ]

  -- ---- the end

  pub walk_ends : (marks : List (Option Mark)) (opens : List Open) (span : Span) (old output : Output) (token : Token) → all ≡ token ∷ [] → line ≡ token.line → opens ≡ [] →
      (b : Walking marks opens span old) → PutsOut text macros name tokens marks count span line (b.made ++ on_line line b.piece) output End → IsReplaced text macros name token before marks output
  walk_ends marks opens span old output token is on none b put =
      let n = no_open b.awaits none in
      let inner = b.piece ++ put.piece in
      let total : (b.made ++ on_line line b.piece) ++ on_line line put.piece ≡ before ++ on_line token.line inner =
      joined b.made b.piece put.piece ∙ ap (λ m. m ++ on_line line inner) n.2 ∙ ap (λ k. before ++ on_line k inner) on in
      record {
        piece = inner;
        yields = subst (λ (l : List Token). Yields text macros l inner) (n.1 ∙ is) (all_around marks opens span old output b put);
        holds = subst (λ (l : List Token). Holds output l) total put.holds;
        knows = subst (λ (l : List Token). Knows text macros name marks l) total (knows_grown text macros name marks (b.made ++ on_line line b.piece) (on_line line put.piece) b.knows);
        closed = λ number at. none_contained (name number) (subst (λ (l : List Name). Contains l (name number)) n.0 (b.opened number at).1);
      }

  -- ---- a loop

  loops_after : {busy : List Name} (a : List Token) {b : List Token} → Loops text macros busy b → Loops text macros busy (a ++ b)
  loops_after [] l = l
  loops_after (t ∷ a) l = later (loops_after a l)

  loops_around : {opens : List Open} {busy : List Name} {around made : List Token} → Awaits opens busy around made → Loops text macros busy around → Loops text macros [] all
  loops_around root l = l
  loops_around (entered opens busy around made done piece body o token awaits split yields is_macro named counted begins) l =
      loops_around awaits (subst (λ (x : List Token). Loops text macros busy x) (sym split) (loops_after done (within is_macro l)))

  pub walk_loops : (marks : List (Option Mark)) (opens : List Open) (span : Span) (old output : Output) (token : Token) → all ≡ token ∷ [] →
      (b : Walking marks opens span old) → PutsOut text macros name tokens marks count span line (b.made ++ on_line line b.piece) output Loop → Loops text macros [] (token ∷ [])
  walk_loops marks opens span old output token is b put =
      let stopped = put.stopped in
      let found = stopped.2.0 in
      let found_use = stopped.2.1 in
      let rest : Span = record { start = put.at + 1; end = span.end } in
      let split = around_use b.around b.done span rest put.at found_use.token b.split stopped.0 stopped.1 refl refl found_use.stands in
      let busy : Contains b.busy (spelling text found_use.token) = subst (λ (n : Name). Contains b.busy n) (sym found_use.named) (b.opened found.number stopped.2.2).1 in
      subst (λ (l : List Token). Loops text macros [] l) is
      (loops_around b.awaits (subst (λ (x : List Token). Loops text macros b.busy x) (sym split)
      (loops_after (b.done ++ slice_range tokens span.start put.at) (here found_use.is_macro busy))))
