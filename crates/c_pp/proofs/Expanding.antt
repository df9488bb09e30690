-- The tokens of a text are read one after another.
use Rattle.std.proofs.Common.{◌≡◌, ℕ, zero, suc, ◌+◌, ◌-◌, ◌<◌, ◌≤◌, List, [], ◌∷◌, ◌++◌, length, drop, replicate, Option, Some, None, true, false, inl, inr, ◌⊎◌, refl, sym, ap, subst, ◌∙◌, arith, append_assoc, append-nil}
use Rattle.std.specs.Prelude.{slice_get, alloc_error, All, MatchResult, IfOk, IfErr}
use Rattle.std.proofs.Common.{Result, Ok, Err}
use Rattle.std.proofs.lemmas.List.{drop_all, length-replicate}
use Rattle.std.specs.Option.{option_map}
use Rattle.c_tokens.specs.declared.token.Token.{Token}
use Rattle.c_pp.specs.declared.error.PpError.{PpError}
use Rattle.c_pp.specs.declared.error.PpError.TheVariants.{Memory, MacroLoop, TooManyTokens}
use Rattle.c_pp.specs.declared.marks.Mark.{Mark}
use Rattle.c_pp.specs.declared.output.Output.{Output}
use Rattle.c_pp.specs.declared.span.Span.{Span}
use Rattle.c_pp.specs.declared.table.Table.{Table}
use Rattle.c_tokens.specs.Names.{Text, Name}
use Rattle.c_pp.specs.Directives.{begins_directive}
use Rattle.c_pp.specs.Macros.{Macros, changed, Loops, on_line}
use Rattle.c_tokens.specs.Limits.{max_tokens}
use Rattle.c_pp.specs.Expands.{Expanded, HasPpFault, Expands, IsPpFault, IsDrawn, end, directive, token, loop, full}
use Rattle.c_pp.specs.Marked.{held, mark_at, marks_of, met_of, is_met}
use Rattle.c_pp.specs.Walks.{IsNumbered, IsSeen, Knows, AreClosed, Covers, Holds, IsReplaced, part}
use Rattle.c_pp.specs.Changes.{IsObeyed}
use Rattle.c_pp.proofs.Replacing.{yields_replaces}
use Rattle.c_pp.proofs.Obeying.{from_here}
use Rattle.c_pp.proofs.Readings.{expanded_one, not_both, refuses_one}
use Rattle.c_pp.proofs.Drawn.{drawn}
use Rattle.c_pp.proofs.OutputLemmas.{whole, over, not_over, more_length}

no_bodies : ℕ → List (Option Span)
no_bodies count = replicate count None

held_none : (count k : ℕ) → held (slice_get (no_bodies count) k) ≡ None
unfolding no_bodies
held_none zero k = refl
held_none (suc count) zero = refl
held_none (suc count) (suc k) = held_none count k

none_marked : (count k : ℕ) → mark_at (replicate count None) k ≡ None
none_marked zero k = refl
none_marked (suc count) zero = refl
none_marked (suc count) (suc k) = none_marked count k

none_met : (count k : ℕ) → is_met (replicate count false) k ≡ false
none_met zero k = refl
none_met (suc count) zero = refl
none_met (suc count) (suc k) = none_met count k

-- what was read of the text, up to the token at this place
pub record IsReading (text : Text) (tokens : List Token) (numbers : List (Option ℕ)) (table : Table) (output : Output) (at : ℕ) : Type 0 where
  pub name : ℕ → Name
  pub macros : Macros
  pub made : List Token
  pub seen : IsSeen text macros name tokens numbers table.bodies.items
  pub knows : Knows text macros name (marks_of table.marks) made
  pub closed : AreClosed (marks_of table.marks)
  pub covers : Covers tokens numbers table.bodies.items (marks_of table.marks) (met_of table.marks)
  pub holds : Holds output made
  pub few : length made ≤ max_tokens
  pub reads : (out : List Token) → Expanded text macros (drop at tokens) out → Expanded text [] tokens (made ++ out)
  pub refuses : (e : PpError) → HasPpFault text macros (max_tokens - length made) (drop at tokens) e → HasPpFault text [] max_tokens tokens e

pub reading_begins : (text : Text) (tokens : List Token) (numbers : List (Option ℕ)) (table : Table) (output : Output) (count : ℕ) (name : ℕ → Name) →
    IsNumbered text tokens numbers count name → table.bodies.items ≡ replicate count None → marks_of table.marks ≡ replicate count None → met_of table.marks ≡ replicate count false → Holds output [] →
    IsReading text tokens numbers table output 0
unfolding no_bodies
reading_begins text tokens numbers table output count name numbered bodies marks met h = record {
  name = name;
  macros = [];
  made = [];
  seen = record {
    numbered = subst (λ (n : ℕ). IsNumbered text tokens numbers n name) (sym (ap length bodies ∙ length-replicate count None)) numbered;
    defined = λ number low. sym (ap (λ (l : List (Option Span)). option_map (part tokens) (held (slice_get l number))) bodies ∙ ap (option_map (part tokens)) (held_none count number));
  };
  knows = λ number there is. absurd (let x = ap (λ l. mark_at l number) marks in let y = none_marked count number in cc);
  closed = λ number is. (let x = ap (λ l. mark_at l number) marks in let y = none_marked count number in cc);
  covers = record {
    marked = λ number found is. absurd (let x = ap (λ l. mark_at l number) marks in let y = none_marked count number in cc);
    entered = λ number own is has none. (let x = ap (λ l. is_met l number) met in let y = none_met count number in cc);
    known = λ number own there is has. absurd (let x = ap (λ l. mark_at l number) marks in let y = none_marked count number in cc);
  };
  holds = h;
  few = omega arith;
  reads = λ out d. d;
  refuses = λ e d. d;
}

module _ (text : Text) (tokens : List Token) (numbers : List (Option ℕ)) (table : Table) (output : Output) (at : ℕ) (r : IsReading text tokens numbers table output at) where
  -- the same, of slices of the same
  pub reading_seen : (slice : List (Option ℕ)) (bodies : List (Option Span)) → slice ≡ numbers → bodies ≡ table.bodies.items → IsSeen text r.macros r.name tokens slice bodies
  reading_seen slice bodies a b =
      subst (λ (l : List (Option ℕ)). IsSeen text r.macros r.name tokens l bodies) (sym a)
      (subst (λ (l : List (Option Span)). IsSeen text r.macros r.name tokens numbers l) (sym b) r.seen)

  pub reading_obeyed : (new : Table) (next : ℕ) (hash : Token) → length (marks_of table.marks) ≡ length table.bodies.items → slice_get tokens at ≡ Some hash → begins_directive hash ≡ true →
      IsObeyed text r.macros r.name tokens numbers table new at next → IsReading text tokens numbers new output next
  reading_obeyed new next hash counted there begins o = record {
    name = r.name;
    macros = changed o.change r.macros;
    made = r.made;
    seen = o.followed.seen;
    knows = o.followed.knows counted r.closed r.covers r.made r.knows;
    closed = o.followed.closed r.closed;
    covers = o.followed.covers r.covers;
    holds = r.holds;
    few = r.few;
    reads = λ out d. r.reads out (subst (λ (ts : List Token). Expanded text r.macros ts out) (sym (from_here tokens at hash there)) (directive begins o.line o.obeys d));
    refuses = λ e d. r.refuses e (subst (λ (ts : List Token). HasPpFault text r.macros (max_tokens - length r.made) ts e) (sym (from_here tokens at hash there)) (directive begins o.line o.obeys d));
  }

  pub reading_replaced : (new : Table) (more : Output) (t : Token) → slice_get tokens at ≡ Some t → begins_directive t ≡ false → new.bodies.items ≡ table.bodies.items →
      Covers tokens numbers table.bodies.items (marks_of new.marks) (met_of new.marks) →
      IsReplaced text r.macros r.name t r.made (marks_of new.marks) more → more.is_over ≡ false → IsReading text tokens numbers new more (at + 1)
  reading_replaced new more t there plain same covers p fine =
      let made = r.made ++ on_line t.line p.piece in
      let low = (whole more made fine p.holds).1 in
      let n = more_length r.made t.line p.piece in
      let m : max_tokens - length made ≡ max_tokens - length r.made - length p.piece = omega arith in
      let in_room : length p.piece ≤ max_tokens - length r.made = omega arith in
      record {
        name = r.name;
        macros = r.macros;
        made = made;
        seen = subst (λ (l : List (Option Span)). IsSeen text r.macros r.name tokens numbers l) (sym same) r.seen;
        knows = p.knows;
        closed = p.closed;
        covers = subst (λ (l : List (Option Span)). Covers tokens numbers l (marks_of new.marks) (met_of new.marks)) (sym same) covers;
        holds = p.holds;
        few = low;
        reads = λ out d. subst (λ (l : List Token). Expanded text [] tokens l) (sym (append_assoc r.made (on_line t.line p.piece) out))
            (r.reads (on_line t.line p.piece ++ out) (subst (λ (ts : List Token). Expanded text r.macros ts (on_line t.line p.piece ++ out)) (sym (from_here tokens at t there))
            (token plain (yields_replaces text r.macros p.yields) d)));
        refuses = λ e d. r.refuses e (subst (λ (ts : List Token). HasPpFault text r.macros (max_tokens - length r.made) ts e) (sym (from_here tokens at t there))
            (token plain (yields_replaces text r.macros p.yields) in_room (subst (λ (room : ℕ). HasPpFault text r.macros room (drop (at + 1) tokens) e) m d)));
      }

  -- ---- refusals

  pub reading_refused : (e : PpError) → ((room : ℕ) → HasPpFault text r.macros room (drop at tokens) e) → IsPpFault text tokens e
  reading_refused e d = r.refuses e (d (max_tokens - length r.made))

  pub reading_error : (e : PpError) → ((e ≡ Memory alloc_error) ⊎ ((room : ℕ) → HasPpFault text r.macros room (drop at tokens) e)) → (e ≡ Memory alloc_error) ⊎ IsPpFault text tokens e
  reading_error e (inl memory) = inl memory
  reading_error e (inr refused) = inr (reading_refused e refused)

  pub reading_stuck : (e : PpError) (t : Token) → slice_get tokens at ≡ Some t → begins_directive t ≡ false →
      ((e ≡ Memory alloc_error) ⊎ ((e ≡ MacroLoop t.line) × Loops text r.macros [] (t ∷ []))) → (e ≡ Memory alloc_error) ⊎ IsPpFault text tokens e
  reading_stuck e t there plain (inl memory) = inl memory
  reading_stuck e t there plain (inr (is, l)) =
      inr (subst (λ (e : PpError). IsPpFault text tokens e) (sym is)
      (r.refuses (MacroLoop t.line) (subst (λ (ts : List Token). HasPpFault text r.macros (max_tokens - length r.made) ts (MacroLoop t.line)) (sym (from_here tokens at t there)) (loop plain l))))

  pub reading_loops : (t : Token) → slice_get tokens at ≡ Some t → begins_directive t ≡ false → Loops text r.macros [] (t ∷ []) → IsPpFault text tokens (MacroLoop t.line)
  reading_loops t there plain l =
      r.refuses (MacroLoop t.line) (subst (λ (ts : List Token). HasPpFault text r.macros (max_tokens - length r.made) ts (MacroLoop t.line)) (sym (from_here tokens at t there)) (loop plain l))

  pub reading_full : (marks : List (Option Mark)) (more : Output) (t : Token) → slice_get tokens at ≡ Some t → begins_directive t ≡ false →
      IsReplaced text r.macros r.name t r.made marks more → more.is_over ≡ true → IsPpFault text tokens (TooManyTokens t.line)
  reading_full marks more t there plain p much =
      let made = r.made ++ on_line t.line p.piece in
      let high = over more made much p.holds in
      let n = more_length r.made t.line p.piece in
      let few = r.few in
      let past : max_tokens - length r.made < length p.piece = omega arith in
      r.refuses (TooManyTokens t.line) (subst (λ (ts : List Token). HasPpFault text r.macros (max_tokens - length r.made) ts (TooManyTokens t.line)) (sym (from_here tokens at t there))
      (full plain (yields_replaces text r.macros p.yields) past))

  -- ---- the end

  pub reading_ends : output.is_over ≡ false → length tokens ≤ at → Expands text tokens output.tokens.items
  reading_ends fine past =
      let w = whole output r.made fine r.holds in
      let none : drop at tokens ≡ [] = drop_all at tokens past in
      let all = r.reads [] (subst (λ (ts : List Token). Expanded text r.macros ts []) (sym none) end) in
      record {
        expanded = subst (λ (l : List Token). Expanded text [] tokens l) (append-nil r.made ∙ sym w.0) all;
        few = (let n = ap length w.0 in let few = r.few in omega arith);
      }

  pub reading_fine : output.is_over ≡ false
  reading_fine = not_over output r.made r.holds r.few

-- ---- no other answer

module _ {V : Type 0} (items : V → List Token) (text : Text) (ts : List Token) where
  pub only_expanded : (result : Result V PpError) → IfOk result (λ v. Expands text ts (items v)) → IfErr result (λ e. (e ≡ Memory alloc_error) ⊎ IsPpFault text ts e) →
      (out : List Token) → Expands text ts out → MatchResult result (λ v. items v ≡ out) (λ e. e ≡ Memory alloc_error)
  only_expanded (Ok v) found refused out e = expanded_one found.expanded e.expanded
  only_expanded (Err e) found (inl memory) out d = memory
  only_expanded (Err e) found (inr refused) out d = absurd (not_both d.expanded d.few refused)

  pub only_refusal : (result : Result V PpError) → IfOk result (λ v. Expands text ts (items v)) → IfErr result (λ e. (e ≡ Memory alloc_error) ⊎ IsPpFault text ts e) →
      (e : PpError) → IsPpFault text ts e → MatchResult result (λ v. ⊥) (λ got. (got ≡ e) ⊎ (got ≡ Memory alloc_error))
  only_refusal (Ok v) found refused e d = not_both found.expanded found.few d
  only_refusal (Err got) found (inl memory) e d = inr memory
  only_refusal (Err got) found (inr refused) e d = inl (refuses_one refused d)

  pub all_few : (result : Result V PpError) → IfOk result (λ v. Expands text ts (items v)) → IfOk result (λ v. length (items v) ≤ max_tokens)
  all_few (Ok v) found = found.few
  all_few (Err e) found = found

  pub all_drawn : (result : Result V PpError) → IfOk result (λ v. Expands text ts (items v)) → IfOk result (λ v. All (IsDrawn ts) (items v))
  all_drawn (Ok v) found = drawn found.expanded
  all_drawn (Err e) found = found
