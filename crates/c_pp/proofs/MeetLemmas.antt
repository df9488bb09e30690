-- Which names were met in what stands for macros, and that what is known stays where others change.
use Rattle.std.proofs.Common.{◌≡◌, ℕ, zero, suc, ◌+◌, ◌-◌, ◌<◌, ◌≤◌, inl, inr, Bool, true, List, [], ◌∷◌, ◌++◌, length, take, drop, Option, Some, None, refl, sym, ap, subst, ◌∙◌, arith}
use Rattle.std.specs.Prelude.{slice_get, slice_set, slice_range}
use Rattle.std.specs.Option.{option_map}
use Rattle.std.proofs.lemmas.Bool.{cases_eq, cases_lt}
use Rattle.std.proofs.lemmas.List.{length-set}
use Rattle.std.proofs.lemmas.Option.{slice_get_past}
use Rattle.c_tokens.specs.declared.token.Token.{Token}
use Rattle.c_tokens.specs.Names.{Text, Name, spelling, is_name}
use Rattle.c_pp.specs.declared.marks.Mark.{Mark}
use Rattle.c_pp.specs.declared.marks.Mark.TheVariants as mark
use Rattle.c_pp.specs.declared.replacement.Macro.{Macro}
use Rattle.c_pp.specs.declared.replacement.Open.{Open}
use Rattle.c_pp.specs.declared.replacement.Stop.TheVariants.{End, Enter}
use Rattle.c_pp.specs.declared.span.Span.{Span}
use Rattle.c_pp.specs.Macros.{Macros, body_of}
use Rattle.c_pp.specs.Marked.{held, mark_at, is_met, met_also}
use Rattle.c_pp.specs.Walks.{IsNumbered, IsSeen, Yields, IsKnown, Knows, AreClosed, AreMet, Covers, IsRead, AreRead, ReadsUpTo, MeetsMore, AreMarkedMet, part, macro_of, macro_at}
use Rattle.c_pp.specs.Walks as w
use Rattle.c_pp.proofs.MarkLemmas.{set_at, set_elsewhere}
use Rattle.c_pp.proofs.Parts.{part_first}

-- ---- one name more

met_set : (met : List Bool) (number : ℕ) → number < length met → is_met (slice_set met number true) number ≡ true
met_set [] number low = absurd (omega arith)
met_set (m ∷ met) zero low = refl
met_set (m ∷ met) (suc number) low = met_set met number (omega arith)

met_elsewhere : (met : List Bool) (number other : ℕ) → (other ≡ number → ⊥) → is_met (slice_set met number true) other ≡ is_met met other
met_elsewhere [] number other apart = refl
met_elsewhere (m ∷ met) zero zero apart = absurd (apart refl)
met_elsewhere (m ∷ met) zero (suc other) apart = refl
met_elsewhere (m ∷ met) (suc number) zero apart = refl
met_elsewhere (m ∷ met) (suc number) (suc other) apart = met_elsewhere met number other (λ e. apart (ap suc e))

met_beyond : (met : List Bool) (number other : ℕ) → is_met met other ≡ true → is_met (slice_set met number true) other ≡ true
met_beyond [] number other h = h
met_beyond (m ∷ met) zero zero h = refl
met_beyond (m ∷ met) zero (suc other) h = h
met_beyond (m ∷ met) (suc number) zero h = h
met_beyond (m ∷ met) (suc number) (suc other) h = met_beyond met number other h

abbrev as_macro : ℕ → Span → Macro
as_macro number body = record { number = number; body = body }

-- ---- putting out

module _ (tokens : List Token) (numbers : List (Option ℕ)) (bodies : List (Option Span)) (marks : List (Option Mark)) (met : List Bool) where
  -- what was met since the span's start, up to this place
  pub record IsMeeting (more : List Bool) (start at : ℕ) : Type 0 where
    pub len : length more ≡ length met
    pub meets : MeetsMore bodies marks met more
    pub read : AreMarkedMet marks met → AreMet tokens numbers (length bodies) more start at

  pub meeting_begins : (start : ℕ) → IsMeeting met start start
  meeting_begins start = record {
    len = refl;
    meets = record { grown = λ number h. h; plain = λ number h. inl h };
    read = λ marked at number low high there is below. absurd (omega arith);
  }

  -- a token that is no name, or of a macro that has a mark
  pub meeting_on : (more : List Bool) (start at : ℕ) → IsMeeting more start at →
      (AreMarkedMet marks met → (number : ℕ) → held (slice_get numbers at) ≡ Some number → number < length bodies → is_met more number ≡ true) → IsMeeting more start (at + 1)
  meeting_on more start at m here = record {
    len = m.len;
    meets = m.meets;
    read = λ marked k number low high there is below. elim (cases_eq k at) [
      | inl e ↦ here marked number (ap (λ i. held (slice_get numbers i)) (sym e) ∙ is) below
      | inr other ↦ m.read marked k number low (omega arith) there is below
    ];
  }

  pub meeting_plain : (more : List Bool) (start at number : ℕ) → IsMeeting more start at → length met ≡ length bodies → held (slice_get numbers at) ≡ Some number →
      held (slice_get bodies number) ≡ None → IsMeeting (slice_set more number true) start (at + 1)
  meeting_plain more start at number m same is none = record {
    len = length-set more number true ∙ m.len;
    meets = record {
      grown = λ n h. met_beyond more number n (m.meets.grown n h);
      plain = λ n h. elim (cases_eq n number) [
        | inl e ↦ inr (ap (λ k. held (slice_get bodies k)) e ∙ none)
        | inr other ↦ m.meets.plain n (sym (met_elsewhere more number n other) ∙ h)
      ];
    };
    read = λ marked k n low high there named below. elim (cases_eq k at) [
      | inl e ↦ (
          let found : Some number ≡ Some n = sym is ∙ ap (λ i. held (slice_get numbers i)) (sym e) ∙ named in
          let f : number ≡ n = cc in
          let len = m.len in
          subst (λ j. is_met (slice_set more number true) j ≡ true) f (met_set more number (omega arith)))
      | inr other ↦ met_beyond more number n (m.read marked k n low (omega arith) there named below)
    ];
  }

  pub meeting_known : (more : List Bool) (start at number : ℕ) (found : Mark) → IsMeeting more start at → held (slice_get numbers at) ≡ Some number →
      mark_at marks number ≡ Some found → IsMeeting more start (at + 1)
  meeting_known more start at number found m is there = meeting_on more start at m (λ marked n named below.
      let same : Some number ≡ Some n = sym is ∙ named in
      let f : number ≡ n = cc in
      m.meets.grown n (subst (λ j. is_met met j ≡ true) f (marked number found there)))

  no_body : (body : Option Span) (number : ℕ) → option_map (as_macro number) body ≡ None → body ≡ None
  no_body None number h = refl
  no_body (Some body) number h = absurd (let x : option_map (as_macro number) (Some body) ≡ Some (as_macro number body) = refl in cc)

  -- a token that is no macro's name
  pub meeting_other : (more : List Bool) (start at : ℕ) (number : Option ℕ) → IsMeeting more start at → length met ≡ length bodies → held (slice_get numbers at) ≡ number →
      macro_at numbers bodies at ≡ None → IsMeeting (met_also more number) start (at + 1)
  unfolding macro_at
  meeting_other more start at None m same is none = meeting_on more start at m (λ marked n named below. absurd (let x = sym is ∙ named in cc))
  meeting_other more start at (Some number) m same is none =
      meeting_plain more start at number m same is (no_body (held (slice_get bodies number)) number (ap (macro_of bodies) (sym is) ∙ none))

  -- no token stands past the last
  pub meeting_past : (more : List Bool) (start at end : ℕ) → IsMeeting more start at → length tokens ≤ at → AreMarkedMet marks met → AreMet tokens numbers (length bodies) more start end
  meeting_past more start at end m past marked k number low high there is below = m.read marked k number low (omega arith) there is below

record_of : (body : Option Span) (number : ℕ) (found : Macro) → option_map (as_macro number) body ≡ Some found →
    (number ≡ found.number) × (body ≡ Some found.body)
record_of None number found h = absurd cc
record_of (Some body) number found h =
    let x : Some (as_macro number body) ≡ Some found = h in
    let f : as_macro number body ≡ found = cc in
    (ap (λ (m : Macro). m.number) f, ap (λ (m : Macro). Some m.body) f)

body_below : (bodies : List (Option Span)) (number : ℕ) (body : Span) → held (slice_get bodies number) ≡ Some body → number < length bodies
body_below bodies number body is = elim (cases_lt number (length bodies)) [
  | inl low ↦ low
  | inr high ↦ absurd (let x : held (slice_get bodies number) ≡ None = ap held (slice_get_past bodies number high) in cc)
]

-- the name and the body of a macro that stands there
pub macro_parts : (numbers : List (Option ℕ)) (bodies : List (Option Span)) (at : ℕ) (found : Macro) → macro_at numbers bodies at ≡ Some found →
    (held (slice_get numbers at) ≡ Some found.number) × (held (slice_get bodies found.number) ≡ Some found.body)
unfolding macro_at
macro_parts numbers bodies at found is = by (held (slice_get numbers at)) refl
  where
    by : (number : Option ℕ) → held (slice_get numbers at) ≡ number → (held (slice_get numbers at) ≡ Some found.number) × (held (slice_get bodies found.number) ≡ Some found.body)
    by None e = absurd (let x : macro_of bodies None ≡ Some found = ap (macro_of bodies) (sym e) ∙ is in cc)
    by (Some number) e =
        let r = record_of (held (slice_get bodies number)) number found (ap (macro_of bodies) (sym e) ∙ is) in
        (e ∙ ap (λ n. Some n) r.0, ap (λ n. held (slice_get bodies n)) (sym r.0) ∙ r.1)

-- ---- a walk

module _ (tokens : List Token) (numbers : List (Option ℕ)) (bodies : List (Option Span)) where
  read_grown : (met more : List Bool) (number : ℕ) (rest : Span) → ((n : ℕ) → is_met met n ≡ true → is_met more n ≡ true) →
      IsRead tokens numbers bodies met number rest → IsRead tokens numbers bodies more number rest
  read_grown met more number rest grown r = record {
    own = grown number r.own;
    ends = r.ends;
    before = λ body is at n low high there named below. grown n (r.before body is at n low high there named below);
  }

  all_grown : (met more : List Bool) (span : Span) (opens : List Open) → ((n : ℕ) → is_met met n ≡ true → is_met more n ≡ true) →
      AreRead tokens numbers bodies met span opens → AreRead tokens numbers bodies more span opens
  all_grown met more span [] grown r = tt
  all_grown met more span (o ∷ []) grown r = read_grown met more o.number span grown r
  all_grown met more span (o ∷ p ∷ opens) grown r = (read_grown met more o.number p.rest grown r.0, all_grown met more span (p ∷ opens) grown r.1)

  -- the last is read further
  read_on : (met : List Bool) (span rest : Span) (number : ℕ) → IsRead tokens numbers bodies met number span → rest.end ≡ span.end →
      AreMet tokens numbers (length bodies) met span.start rest.start → IsRead tokens numbers bodies met number rest
  read_on met span rest number r ends on = record {
    own = r.own;
    ends = λ body is. r.ends body is ∙ sym ends;
    before = λ body is at n low high there named below. elim (cases_lt at span.start) [
      | inl before ↦ r.before body is at n low before there named below
      | inr after ↦ on at n after high there named below
    ];
  }

  all_on : (met : List Bool) (span rest : Span) (opens : List Open) → rest.end ≡ span.end → AreMet tokens numbers (length bodies) met span.start rest.start →
      AreRead tokens numbers bodies met span opens → AreRead tokens numbers bodies met rest opens
  all_on met span rest [] ends on r = tt
  all_on met span rest (o ∷ []) ends on r = read_on met span rest o.number r ends on
  all_on met span rest (o ∷ p ∷ opens) ends on r = (r.0, all_on met span rest (p ∷ opens) ends on r.1)

  all_pushed : (met : List Bool) (opens : List Open) (o : Open) (span : Span) → AreRead tokens numbers bodies met o.rest opens →
      IsRead tokens numbers bodies met o.number span → AreRead tokens numbers bodies met span (opens ++ o ∷ [])
  all_pushed met [] o span r own = own
  all_pushed met (p ∷ []) o span r own = (r, own)
  all_pushed met (p ∷ q ∷ opens) o span r own = (r.0, all_pushed met (q ∷ opens) o span r.1 own)

  all_popped : (met : List Bool) (opens : List Open) (o : Open) (span : Span) → AreRead tokens numbers bodies met span (opens ++ o ∷ []) →
      AreRead tokens numbers bodies met o.rest opens × IsRead tokens numbers bodies met o.number span
  all_popped met [] o span r = (tt, r)
  all_popped met (p ∷ []) o span r = r
  all_popped met (p ∷ q ∷ opens) o span r = let more = all_popped met (q ∷ opens) o span r.1 in ((r.0, more.0), more.1)

  covers_more : (marks : List (Option Mark)) (met more : List Bool) → MeetsMore bodies marks met more → Covers tokens numbers bodies marks met → Covers tokens numbers bodies marks more
  covers_more marks met more m c = record {
    marked = λ number found is. m.grown number (c.marked number found is);
    entered = λ number body is there none. elim (m.plain number is) [
      | inl old ↦ c.entered number body old there none
      | inr no_body ↦ cc
    ];
    known = λ number body there is has at n low high below named counted. m.grown n (c.known number body there is has at n low high below named counted);
  }

  -- the macros that are being replaced, with what was met
  pub record IsCovering (marks : List (Option Mark)) (met : List Bool) (span : Span) (opens : List Open) : Type 0 where
    pub covers : Covers tokens numbers bodies marks met
    pub read : AreRead tokens numbers bodies met span opens

  pub covering_enters : (marks : List (Option Mark)) (met more : List Bool) (span rest : Span) (opens : List Open) (found : Macro) (o : Open) →
      length marks ≡ length bodies → length more ≡ length bodies → found.number < length bodies → o.number ≡ found.number → o.rest ≡ rest → MeetsMore bodies marks met more →
      (AreMarkedMet marks met → ReadsUpTo tokens numbers bodies more span (Enter found rest)) → IsCovering marks met span opens →
      IsCovering (slice_set marks found.number (Some mark.Open)) (slice_set more found.number true) found.body (opens ++ o ∷ [])
  covering_enters marks met more span rest opens found o counted len low own its_rest m reads c =
      let up = reads c.covers.marked in
      let old = covers_more marks met more m c.covers in
      let grown : (n : ℕ) → is_met more n ≡ true → is_met (slice_set more found.number true) n ≡ true = λ n h. met_beyond more found.number n h in
      let here : is_met (slice_set more found.number true) found.number ≡ true = met_set more found.number (omega arith) in
      record {
        covers = record {
          marked = λ n f is. elim (cases_eq n found.number) [
            | inl e ↦ subst (λ k. is_met (slice_set more found.number true) k ≡ true) (sym e) here
            | inr other ↦ grown n (old.marked n f (sym (set_elsewhere marks found.number (Some mark.Open) n other) ∙ is))
          ];
          entered = λ n body is has none. elim (cases_eq n found.number) [
            | inl e ↦ (
                let x = set_at marks found.number (Some mark.Open) (omega arith) in
                let y = ap (mark_at (slice_set marks found.number (Some mark.Open))) e in
                cc)
            | inr other ↦ old.entered n body (sym (met_elsewhere more found.number n other) ∙ is) has (sym (set_elsewhere marks found.number (Some mark.Open) n other) ∙ none)
          ];
          known = λ n body there is has at k first last below named counts. elim (cases_eq n found.number) [
            | inl e ↦ absurd (
                let x = set_at marks found.number (Some mark.Open) (omega arith) in
                let y = ap (mark_at (slice_set marks found.number (Some mark.Open))) e in
                cc)
            | inr other ↦ grown k (old.known n body there (sym (set_elsewhere marks found.number (Some mark.Open) n other) ∙ is) has at k first last below named counts)
          ];
        };
        read = all_pushed (slice_set more found.number true) opens o found.body
            (subst (λ (s : Span). AreRead tokens numbers bodies (slice_set more found.number true) s opens) (sym its_rest)
            (all_on (slice_set more found.number true) span rest opens up.0 (further up here)
            (all_grown met (slice_set more found.number true) span opens (λ n h. grown n (m.grown n h)) c.read)))
            (record {
              own = subst (λ k. is_met (slice_set more found.number true) k ≡ true) (sym own) here;
              ends = λ body is. (let e : Some body ≡ Some found.body = sym is ∙ ap (λ k. held (slice_get bodies k)) own ∙ up.1 in ap (λ (s : Span). s.end) (same_body body e));
              before = λ body is at n first last there named below.
                  (let e : Some body ≡ Some found.body = sym is ∙ ap (λ k. held (slice_get bodies k)) own ∙ up.1 in
                  let s = ap (λ (s : Span). s.start) (same_body body e) in
                  absurd (omega arith));
            });
      }
    where
      same_body : (body : Span) → Some body ≡ Some found.body → body ≡ found.body
      same_body body e = cc

      further : ReadsUpTo tokens numbers bodies more span (Enter found rest) → is_met (slice_set more found.number true) found.number ≡ true →
          AreMet tokens numbers (length bodies) (slice_set more found.number true) span.start rest.start
      further up here at n first last there named below =
          let place = up.2.0 in
          let starts : rest.start ≡ place + 1 = up.2.1 in
          elim (cases_eq at place) [
            | inl e ↦ (
                let same : Some found.number ≡ Some n = sym up.2.2 ∙ ap (λ k. held (slice_get numbers k)) (sym e) ∙ named in
                let f : found.number ≡ n = cc in
                subst (λ k. is_met (slice_set more found.number true) k ≡ true) f here)
            | inr other ↦ met_beyond more found.number n (up.2.3 at n first (omega arith) there named below)
          ]

  pub covering_leaves : (marks : List (Option Mark)) (met more : List Bool) (span there : Span) (opens rest : List Open) (o : Open) →
      length marks ≡ length bodies → opens ≡ rest ++ o ∷ [] → MeetsMore bodies marks met more → (AreMarkedMet marks met → ReadsUpTo tokens numbers bodies more span End) →
      IsCovering marks met span opens → IsCovering (slice_set marks o.number (Some (mark.Known there))) more o.rest rest
  covering_leaves marks met more span there opens rest o counted is m reads c =
      let up = reads c.covers.marked in
      let old = covers_more marks met more m c.covers in
      let popped = all_popped more rest o span (all_grown met more span (rest ++ o ∷ []) m.grown (subst (λ (l : List Open). AreRead tokens numbers bodies met span l) is c.read)) in
      let last = popped.1 in
      record {
        covers = record {
          marked = λ n f at. elim (cases_eq n o.number) [
            | inl e ↦ subst (λ k. is_met more k ≡ true) (sym e) last.own
            | inr other ↦ old.marked n f (sym (set_elsewhere marks o.number (Some (mark.Known there)) n other) ∙ at)
          ];
          entered = λ n body met has none. elim (cases_eq n o.number) [
            | inl e ↦ (
                let below = body_below bodies n body has in
                let x = set_at marks o.number (Some (mark.Known there)) (omega arith) in
                let y = ap (mark_at (slice_set marks o.number (Some (mark.Known there)))) e in
                cc)
            | inr other ↦ old.entered n body met has (sym (set_elsewhere marks o.number (Some (mark.Known there)) n other) ∙ none)
          ];
          known = λ n body span_known at has k j first high below named counts. elim (cases_eq n o.number) [
            | inl e ↦ (
                let has_own : held (slice_get bodies o.number) ≡ Some body = ap (λ i. held (slice_get bodies i)) (sym e) ∙ has in
                let ends = last.ends body has_own in
                elim (cases_lt k span.start) [
                  | inl before ↦ last.before body has_own k j first before below named counts
                  | inr after ↦ up k j after (omega arith) below named counts
                ])
            | inr other ↦ old.known n body span_known (sym (set_elsewhere marks o.number (Some (mark.Known there)) n other) ∙ at) has k j first high below named counts
          ];
        };
        read = popped.0;
      }

  pub covering_ends : (marks : List (Option Mark)) (met more : List Bool) (span : Span) (opens : List Open) → MeetsMore bodies marks met more → IsCovering marks met span opens →
      Covers tokens numbers bodies marks more
  covering_ends marks met more span opens m c = covers_more marks met more m c.covers

-- ---- what stands for a macro stays where others change

module _ (text : Text) (macros others : Macros) (name : ℕ → Name) (tokens : List Token) (numbers : List (Option ℕ)) (bodies : List (Option Span)) (marks : List (Option Mark)) (met : List Bool)
    (seen : IsSeen text macros name tokens numbers bodies) (closed : AreClosed marks) (c : Covers tokens numbers bodies marks met)
    (same : (number : ℕ) → number < length bodies → is_met met number ≡ true → body_of others (name number) ≡ body_of macros (name number)) where
  -- the names among the tokens were met
  abbrev AllMet : List Token → Type 0
  AllMet [] = Unit {0}
  AllMet (t ∷ ts) = (is_name t.kind ≡ true → (number : ℕ) × (number < length bodies) × (is_met met number ≡ true) × (spelling text t ≡ name number)) × AllMet ts

  none_met : (ts : List Token) → AllMet (take 0 ts)
  none_met [] = tt
  none_met (t ∷ ts) = tt

  empty_part : (ts : List Token) (start n : ℕ) → slice_get ts start ≡ None → take n (drop start ts) ≡ []
  empty_part [] zero zero h = refl
  empty_part [] zero (suc n) h = refl
  empty_part [] (suc start) zero h = refl
  empty_part [] (suc start) (suc n) h = refl
  empty_part (t ∷ ts) zero n h = absurd cc
  empty_part (t ∷ ts) (suc start) n h = empty_part ts start n h

  within : (ts : List Token) (at : ℕ) (t : Token) → slice_get ts at ≡ Some t → at < length ts
  within [] at t h = absurd cc
  within (u ∷ ts) zero t h = omega arith
  within (u ∷ ts) (suc at) t h = let low = within ts at t h in omega arith

  one_met : (at : ℕ) (t : Token) (number : Option ℕ) → slice_get tokens at ≡ Some t → held (slice_get numbers at) ≡ number →
      ((n : ℕ) → held (slice_get numbers at) ≡ Some n → n < length bodies → is_met met n ≡ true) → is_name t.kind ≡ true →
      (number : ℕ) × (number < length bodies) × (is_met met number ≡ true) × (spelling text t ≡ name number)
  one_met at t None there is here named = absurd (let other = seen.numbered.others at t there is in cc)
  one_met at t (Some n) there is here named = let h = seen.numbered.named at t n there is in (n, h.2, here n is h.2, h.1)

  first_met : (fuel start end : ℕ) (found : Option Token) → slice_get tokens start ≡ found → AreMet tokens numbers (length bodies) met start end →
      (end - (start + 1) ≤ fuel → AllMet (slice_range tokens (start + 1) end)) → end - start ≤ suc fuel → AllMet (slice_range tokens start end)
  first_met fuel start end None is m rest low = subst (λ (l : List Token). AllMet l) (sym (empty_part tokens start (end - start) is)) tt
  first_met fuel start end (Some t) is m rest low = elim (cases_lt start end) [
    | inl some ↦ subst (λ (l : List Token). AllMet l) (sym (part_first tokens start end t some is))
        (one_met start t (held (slice_get numbers start)) is refl (λ n named below. m start n (omega arith) some (within tokens start t is) named below), rest (omega arith))
    | inr none ↦ (let e : end - start ≡ 0 = omega arith in subst (λ k. AllMet (take k (drop start tokens))) (sym e) (none_met (drop start tokens)))
  ]

  part_met : (fuel start end : ℕ) → end - start ≤ fuel → AreMet tokens numbers (length bodies) met start end → AllMet (slice_range tokens start end)
  part_met zero start end low m = let e : end - start ≡ 0 = omega arith in subst (λ k. AllMet (take k (drop start tokens))) (sym e) (none_met (drop start tokens))
  part_met (suc fuel) start end low m =
      first_met fuel start end (slice_get tokens start) refl m (λ less. part_met fuel (start + 1) end less (λ at n first last there named below. m at n (omega arith) last there named below)) low

  -- of a macro that was met the names of the body were met
  own_met : (number : ℕ) (own : Span) → is_met met number ≡ true → held (slice_get bodies number) ≡ Some own → (found : Option Mark) → mark_at marks number ≡ found →
      AreMet tokens numbers (length bodies) met own.start own.end
  own_met number own is has None at = absurd (c.entered number own is has at)
  own_met number own is has (Some mark.Open) at = absurd (closed number at)
  own_met number own is has (Some (mark.Known there)) at = c.known number own there at has

  body_met : (number : ℕ) (body : List Token) → number < length bodies → is_met met number ≡ true → body_of macros (name number) ≡ Some body → AllMet body
  body_met number body low is has = at_body (held (slice_get bodies number)) refl
    where
      at_body : (own : Option Span) → held (slice_get bodies number) ≡ own → AllMet body
      at_body None e = absurd (let x : body_of macros (name number) ≡ None = seen.defined number low ∙ ap (option_map (part tokens)) e in cc)
      at_body (Some own) e =
          let x : body_of macros (name number) ≡ Some (part tokens own) = seen.defined number low ∙ ap (option_map (part tokens)) e in
          let f : part tokens own ≡ body = cc in
          subst (λ (l : List Token). AllMet l) f (part_met (own.end - own.start) own.start own.end (omega arith) (own_met number own is e (mark_at marks number) refl))

  still_yields : {ts out : List Token} → Yields text macros ts out → AllMet ts → Yields text others ts out
  still_yields w.end m = w.end
  still_yields (w.plain {token = t} plain d) m =
      w.plain (λ named. let (k, low, is, spelled) = m.0 named in
      ap (body_of others) spelled ∙ same k low is ∙ ap (body_of macros) (sym spelled) ∙ plain named) (still_yields d m.1)
  still_yields (w.macro {token = t} {body = body} is_macro d after) m =
      let (k, low, is, spelled) = m.0 is_macro.0 in
      let own : body_of macros (name k) ≡ Some body = ap (body_of macros) (sym spelled) ∙ is_macro.1 in
      w.macro (is_macro.0, ap (body_of others) spelled ∙ same k low is ∙ own) (still_yields d (body_met k body low is own)) (still_yields after m.1)

  marked_low : (number : ℕ) (found : Mark) → mark_at marks number ≡ Some found → number < length marks
  marked_low number found is = elim (cases_lt number (length marks)) [
    | inl low ↦ low
    | inr high ↦ absurd (let x : mark_at marks number ≡ None = ap held (slice_get_past marks number high) in cc)
  ]

  pub still_known : length marks ≡ length bodies → (made : List Token) → Knows text macros name marks made → Knows text others name marks made
  still_known counted made knows number span is =
      let k = knows number span is in
      let low = marked_low number (mark.Known span) is in
      let met_here = c.marked number (mark.Known span) is in
      record {
        body = k.body;
        piece = k.piece;
        is_body = same number (omega arith) met_here ∙ k.is_body;
        yields = still_yields k.yields (body_met number k.body (omega arith) met_here k.is_body);
        stands = k.stands;
      }
