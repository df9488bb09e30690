-- Directives change the table of macros.
use Rattle.std.proofs.Common.{◌≡◌, ℕ, zero, suc, ◌+◌, ◌-◌, ◌<◌, List, [], ◌∷◌, length, map, take, drop, Option, Some, None, Bool, true, false, ◌⊎◌, inl, inr, refl, sym, ap, subst, ◌∙◌, arith}
use Rattle.std.specs.Prelude.{slice_get, slice_range, slice_set, MatchOption}
use Rattle.std.specs.Option.{option_map}
use Rattle.std.specs.Str.{bytes_eq}
use Rattle.std.proofs.lemmas.Bool.{cases_eq, cases_Bool}
use Rattle.std.proofs.lemmas.List.{length-set}
use Rattle.std.proofs.lemmas.Slice.Eq.{bytes_eq-Decides}
use Rattle.c_tokens.specs.declared.token.Token.{Token}
use Rattle.c_pp.specs.declared.directive.Directive.TheVariants as says
use Rattle.c_pp.specs.declared.error.PpError.{PpError}
use Rattle.c_pp.specs.declared.marks.Mark.{Mark}
use Rattle.c_pp.specs.declared.marks.Mark.TheVariants as mark
use Rattle.c_pp.specs.declared.span.Span.{Span}
use Rattle.c_pp.specs.declared.table.Table.{Table}
use Rattle.c_tokens.specs.Names.{Text, Name, spelling, is_name}
use Rattle.c_pp.specs.Directives.{IsLine, Disobeys, begins_directive}
use Rattle.c_pp.specs.Macros.{Macros, body_of}
use Rattle.c_pp.specs.Expands.{HasPpFault, bad}
use Rattle.c_pp.specs.Marked.{held, mark_at, marks_of, met_of, is_met}
use Rattle.c_pp.specs.Reading as reading
use Rattle.c_pp.specs.Walks.{IsNumbered, IsSeen, Knows, AreClosed, Covers, part}
use Rattle.c_pp.specs.Changes.{IsChanged, IsFollowed, IsObeyed}
use Rattle.c_pp.proofs.MeetLemmas.{still_known}
use Rattle.c_pp.proofs.Parts.{drop_then, drop_at, second_word}
use Rattle.c_pp.proofs.Lines.{line_is, is_nothing, IsAbout}

-- the line of the directive at this place
pub line_at : (tokens : List Token) (at n : ℕ) → n ≡ reading.line_len (drop (at + 1) tokens) → IsLine (drop (at + 1) tokens) (slice_range tokens (at + 1) (at + 1 + n)) (drop (at + 1 + n) tokens)
line_at tokens at n is =
    let l = line_is (drop (at + 1) tokens) in
    let m : reading.line_len (drop (at + 1) tokens) ≡ at + 1 + n - (at + 1) = omega arith in
    subst (λ (words : List Token). IsLine (drop (at + 1) tokens) words (drop (at + 1 + n) tokens)) (ap (λ k. take k (drop (at + 1) tokens)) m)
    (subst (λ (rest : List Token). IsLine (drop (at + 1) tokens) (take (reading.line_len (drop (at + 1) tokens)) (drop (at + 1) tokens)) rest)
    (ap (λ k. drop k (drop (at + 1) tokens)) (sym is) ∙ drop_then (at + 1) n tokens) l)

pub from_here : (tokens : List Token) (at : ℕ) (token : Token) → slice_get tokens at ≡ Some token → drop at tokens ≡ token ∷ drop (at + 1) tokens
from_here tokens at token there = let n : suc at ≡ at + 1 = omega arith in drop_at tokens at token there ∙ ap (λ k. token ∷ drop k tokens) n

-- ---- a directive that is refused

pub refused_here : (text : Text) (macros : Macros) (tokens : List Token) (at n room : ℕ) (hash : Token) (e : PpError) → slice_get tokens at ≡ Some hash → begins_directive hash ≡ true →
    n ≡ reading.line_len (drop (at + 1) tokens) → Disobeys text (slice_range tokens (at + 1) (at + 1 + n)) hash.line e → HasPpFault text macros room (drop at tokens) e
refused_here text macros tokens at n room hash e there begins is disobeys =
    subst (λ (ts : List Token). HasPpFault text macros room ts e) (sym (from_here tokens at hash there)) (bad begins (line_at tokens at n is) disobeys)

-- ---- no marks

none_at : (marks : List (Option Mark)) (k : ℕ) → mark_at (map (λ _. None) marks) k ≡ None
none_at [] k = refl
none_at (m ∷ marks) zero = refl
none_at (m ∷ marks) (suc k) = none_at marks k

none_met_at : (met : List Bool) (k : ℕ) → is_met (map (λ _. false) met) k ≡ false
none_met_at [] k = refl
none_met_at (m ∷ met) zero = refl
none_met_at (m ∷ met) (suc k) = none_met_at met k

pub none_known : (text : Text) (macros : Macros) (name : ℕ → Name) (marks old : List (Option Mark)) (made : List Token) → marks ≡ map (λ _. None) old → Knows text macros name marks made
none_known text macros name marks old made none number there is = absurd (let x = ap (λ l. mark_at l number) none in let y = none_at old number in cc)

pub none_open : (marks old : List (Option Mark)) → marks ≡ map (λ _. None) old → AreClosed marks
none_open marks old none number is = let x = ap (λ l. mark_at l number) none in let y = none_at old number in cc

-- ---- a body is set

held_set : (bodies : List (Option Span)) (n : ℕ) (body : Option Span) → n < length bodies → held (slice_get (slice_set bodies n body) n) ≡ body
held_set [] n body low = absurd (omega arith)
held_set (b ∷ bodies) zero body low = refl
held_set (b ∷ bodies) (suc n) body low = held_set bodies n body (omega arith)

held_elsewhere : (bodies : List (Option Span)) (n k : ℕ) (body : Option Span) → (k ≡ n → ⊥) → held (slice_get (slice_set bodies n body) k) ≡ held (slice_get bodies k)
held_elsewhere [] n k body other = refl
held_elsewhere (b ∷ bodies) zero zero body other = absurd (other refl)
held_elsewhere (b ∷ bodies) zero (suc k) body other = refl
held_elsewhere (b ∷ bodies) (suc n) zero body other = refl
held_elsewhere (b ∷ bodies) (suc n) (suc k) body other = held_elsewhere bodies n k body (λ e. other (ap suc e))

pub set_none : (bodies : List (Option Span)) (n : ℕ) → n < length bodies → held (slice_get bodies n) ≡ None → bodies ≡ slice_set bodies n None
set_none [] n low none = refl
set_none (b ∷ bodies) zero low none = ap (λ x. x ∷ bodies) none
set_none (b ∷ bodies) (suc n) low none = ap (λ l. b ∷ l) (set_none bodies n (omega arith) none)

module _ (text : Text) (macros : Macros) (name : ℕ → Name) (tokens : List Token) (numbers : List (Option ℕ)) where
  seen_set : (bodies : List (Option Span)) (n : ℕ) (body : Option Span) (word : Name) (what : Option (List Token)) → IsSeen text macros name tokens numbers bodies →
      n < length bodies → word ≡ name n → what ≡ option_map (part tokens) body → IsSeen text ((word, what) ∷ macros) name tokens numbers (slice_set bodies n body)
  seen_set bodies n body word what seen low named is = record {
    numbered = subst (λ (count : ℕ). IsNumbered text tokens numbers count name) (sym (length-set bodies n body)) seen.numbered;
    defined = λ number below. at number (let l = length-set bodies n body in omega arith);
  }
    where
      at : (number : ℕ) → number < length bodies → body_of ((word, what) ∷ macros) (name number) ≡ option_map (part tokens) (held (slice_get (slice_set bodies n body) number))
      at number below = elim (cases_eq number n) [
        | inl e ↦ (
            let same = (bytes_eq-Decides word (name number)).1 (named ∙ ap name (sym e)) in
            let first : body_of ((word, what) ∷ macros) (name number) ≡ what = rw same refl in
            first ∙ is ∙ ap (option_map (part tokens)) (sym (held_set bodies n body low) ∙ ap (λ k. held (slice_get (slice_set bodies n body) k)) (sym e)))
        | inr other ↦ elim (cases_Bool (bytes_eq word (name number))) [
          | inl y ↦ absurd (other (sym (seen.numbered.apart n number low below (sym named ∙ (bytes_eq-Decides word (name number)).0 y))))
          | inr apart ↦ (
              let rest : body_of ((word, what) ∷ macros) (name number) ≡ body_of macros (name number) = rw apart refl in
              rest ∙ seen.defined number below ∙ ap (option_map (part tokens)) (sym (held_elsewhere bodies n number body other)))
        ]
      ]

  -- what stands for the other names that were met, or for all, is as before
  others_same : (bodies : List (Option Span)) (met : List Bool) (n : ℕ) (body : Option Span) (word : Name) (what : Option (List Token)) → IsSeen text macros name tokens numbers bodies →
      n < length bodies → word ≡ name n → what ≡ option_map (part tokens) body → ((is_met met n ≡ false) ⊎ ((held (slice_get bodies n) ≡ None) × (body ≡ None))) →
      (number : ℕ) → number < length bodies → is_met met number ≡ true → body_of ((word, what) ∷ macros) (name number) ≡ body_of macros (name number)
  others_same bodies met n body word what seen low named is apart number below was_met = elim (cases_Bool (bytes_eq word (name number))) [
    | inl y ↦ (
        let same : n ≡ number = seen.numbered.apart n number low below (sym named ∙ (bytes_eq-Decides word (name number)).0 y) in
        let first : body_of ((word, what) ∷ macros) (name number) ≡ what = rw y refl in
        elim apart [
          | inl not_met ↦ absurd (let x = ap (is_met met) same in cc)
          | inr none ↦ first ∙ is ∙ ap (option_map (part tokens)) (none.1 ∙ sym none.0 ∙ ap (λ k. held (slice_get bodies k)) same) ∙ sym (seen.defined number below)
        ])
    | inr other ↦ rw other refl
  ]

  covers_set : (bodies : List (Option Span)) (marks : List (Option Mark)) (met : List Bool) (n : ℕ) (body : Option Span) → n < length bodies →
      ((is_met met n ≡ false) ⊎ ((held (slice_get bodies n) ≡ None) × (body ≡ None))) → Covers tokens numbers bodies marks met → Covers tokens numbers (slice_set bodies n body) marks met
  covers_set bodies marks met n body low apart c = record {
    marked = c.marked;
    entered = λ k own is has none. elim (cases_eq k n) [
      | inl e ↦ no_body k own e is has
      | inr other ↦ c.entered k own is (sym (held_elsewhere bodies n k body other) ∙ has) none
    ];
    known = λ k own there is has at j first last below named counts. elim (cases_eq k n) [
      | inl e ↦ absurd (no_body k own e (c.marked k (mark.Known there) is) has)
      | inr other ↦ c.known k own there is (sym (held_elsewhere bodies n k body other) ∙ has) at j first last below named (let l = length-set bodies n body in omega arith)
    ];
  }
    where
      no_body : (k : ℕ) (own : Span) → k ≡ n → is_met met k ≡ true → held (slice_get (slice_set bodies n body) k) ≡ Some own → ⊥
      no_body k own e is has = elim apart [
        | inl not_met ↦ (let x = ap (is_met met) e in cc)
        | inr none ↦ (let x = held_set bodies n body low in let y = ap (λ i. held (slice_get (slice_set bodies n body) i)) e in let z = none.1 in cc)
      ]

  covers_none : (bodies : List (Option Span)) (marks old : List (Option Mark)) (met was : List Bool) → marks ≡ map (λ _. None) old → met ≡ map (λ _. false) was →
      Covers tokens numbers bodies marks met
  covers_none bodies marks old met was none none_met = record {
    marked = λ k found is. absurd (let x = ap (λ l. mark_at l k) none in let y = none_at old k in cc);
    entered = λ k own is has at. (let x = ap (λ l. is_met l k) none_met in let y = none_met_at was k in cc);
    known = λ k own there is has. absurd (let x = ap (λ l. mark_at l k) none in let y = none_at old k in cc);
  }

  -- the name that the line is about has its number, and a body or none from now on
  changes : (old new : Table) (place : ℕ) (token : Token) (number : Option ℕ) (body : Option Span) (what : Option (List Token)) →
      IsSeen text macros name tokens numbers old.bodies.items → slice_get tokens place ≡ Some token → is_name token.kind ≡ true → number ≡ held (slice_get numbers place) →
      what ≡ option_map (part tokens) body → MatchOption number (new.bodies.items ≡ old.bodies.items) (λ n. n < length old.bodies.items → IsChanged old new n body) →
      IsFollowed text macros ((spelling text token, what) ∷ macros) name tokens numbers old new
  changes old new place token None body what seen there named is defined change = absurd (let no_name = seen.numbered.others place token there (sym is) in cc)
  changes old new place token (Some n) body what seen there named is defined change =
      let h = seen.numbered.named place token n there (sym is) in
      let own = change h.2 in
      let bodies = sym own.bodies in
      let seen_new = subst (λ (l : List (Option Span)). IsSeen text ((spelling text token, what) ∷ macros) name tokens numbers l) bodies
      (seen_set old.bodies.items n body (spelling text token) what seen h.2 h.1 defined) in
      elim own.marks [
        | inl gone ↦ record {
          seen = seen_new;
          knows = λ counted closed covers made k. none_known text ((spelling text token, what) ∷ macros) name (marks_of new.marks) (marks_of old.marks) made gone.marks;
          closed = λ closed. none_open (marks_of new.marks) (marks_of old.marks) gone.marks;
          covers = λ covers. covers_none new.bodies.items (marks_of new.marks) (marks_of old.marks) (met_of new.marks) (met_of old.marks) gone.marks gone.met;
        }
        | inr kept ↦ record {
          seen = seen_new;
          knows = λ counted closed covers made k. subst (λ (l : List (Option Mark)). Knows text ((spelling text token, what) ∷ macros) name l made) (sym kept.marks)
              (still_known text macros ((spelling text token, what) ∷ macros) name tokens numbers old.bodies.items (marks_of old.marks) (met_of old.marks) seen closed covers
              (others_same old.bodies.items (met_of old.marks) n body (spelling text token) what seen h.2 h.1 defined kept.apart) counted made k);
          closed = λ closed. subst (λ (l : List (Option Mark)). AreClosed l) (sym kept.marks) closed;
          covers = λ covers. subst (λ (l : List (Option Span)). Covers tokens numbers l (marks_of new.marks) (met_of new.marks)) bodies
              (subst (λ (l : List (Option Mark)). Covers tokens numbers (slice_set old.bodies.items n body) l (met_of new.marks)) (sym kept.marks)
              (subst (λ (l : List Bool). Covers tokens numbers (slice_set old.bodies.items n body) (marks_of old.marks) l) (sym kept.met)
              (covers_set old.bodies.items (marks_of old.marks) (met_of old.marks) n body h.2 kept.apart covers)));
        }
      ]

  pub obeyed_about : (old new : Table) (at n : ℕ) (number : Option ℕ) (body : Option Span) (what : List Token → Option (List Token)) →
      IsSeen text macros name tokens numbers old.bodies.items → n ≡ reading.line_len (drop (at + 1) tokens) → number ≡ held (slice_get numbers (at + 2)) →
      what (slice_range tokens (at + 3) (at + 1 + n)) ≡ option_map (part tokens) body → IsAbout text (slice_range tokens (at + 1) (at + 1 + n)) what →
      MatchOption number (new.bodies.items ≡ old.bodies.items) (λ n. n < length old.bodies.items → IsChanged old new n body) →
      IsObeyed text macros name tokens numbers old new at (at + 1 + n)
  obeyed_about old new at n number body what seen is numbered defined about change =
      let w = second_word tokens (at + 1) (at + 1 + n) about.word about.name about.body about.split in
      let second : at + 2 ≡ at + 1 + 1 = omega arith in
      let third : at + 1 + 2 ≡ at + 3 = omega arith in
      let rest : about.body ≡ slice_range tokens (at + 3) (at + 1 + n) = w.1 ∙ ap (λ k. slice_range tokens k (at + 1 + n)) third in
      let c = changes old new (at + 2) about.name number body (what about.body) seen (ap (slice_get tokens) second ∙ w.0) about.named numbered (ap what rest ∙ defined) change in
      record {
        words = slice_range tokens (at + 1) (at + 1 + n);
        change = Some (spelling text about.name, what about.body);
        line = line_at tokens at n is;
        obeys = about.obeys;
        followed = c;
      }

  pub obeyed_nothing : (table : Table) (at n : ℕ) → IsSeen text macros name tokens numbers table.bodies.items → n ≡ reading.line_len (drop (at + 1) tokens) →
      reading.said text (slice_range tokens (at + 1) (at + 1 + n)) ≡ says.Nothing → IsObeyed text macros name tokens numbers table table at (at + 1 + n)
  obeyed_nothing table at n seen is said = record {
    words = slice_range tokens (at + 1) (at + 1 + n);
    change = None;
    line = line_at tokens at n is;
    obeys = is_nothing text (slice_range tokens (at + 1) (at + 1 + n)) said;
    followed = record {
      seen = seen;
      knows = λ counted closed covers made k. k;
      closed = λ closed. closed;
      covers = λ covers. covers;
    };
  }
