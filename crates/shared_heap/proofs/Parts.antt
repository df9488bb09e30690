-- The histories of the regions one after another, and the lists of passes by their numbers.
use Rattle.std.proofs.Common.{◌≡◌, ◌≢◌, ℕ, zero, suc, ◌+◌, ◌<◌, ◌≤◌, ◌==◌, cond, List, [], ◌∷◌, ◌++◌, length, get_or, refl, sym, ap, ap₂, ◌∙◌, subst, arith, eq-eqb, ne_eqb, ◌⊎◌, inl, inr}
use Rattle.std.specs.List.{AllByRecursion}
use Rattle.std.proofs.lemmas.Bool.{cases_eq}
use Rattle.std.proofs.lemmas.List.{append-nil}
use Rattle.std.proofs.lemmas.List.Elements.{filter-append}
use mathlib.Core.Logic.{dite}
use native.Mathlib.Decide.{dec_le}
use mathlib.Core.Option.{some, some-injective, some-ne-none}
use lib.ListN.{get_elem?}
use Rattle.heap_model.specs.History.{Log}
use Rattle.heap_model.specs.Legal.{of_region}
use Rattle.heap_model.specs.declared.calls.Entry.{Entry}
use Rattle.clock_order.specs.Parts.{entries_of}
use Rattle.region_lock.specs.Known.{Known}
use Rattle.shared_heap.specs.Closing.{made_by, IsHistoryOf, AreHistoriesOf}
use Rattle.shared_heap.specs.Regions.{Region}

-- ---- histories beside their regions

pub histories-push : (rs : List Region) (hs : List Log) (r : Region) (h : Log) → AreHistoriesOf rs hs → IsHistoryOf r h
    → AreHistoriesOf (rs ++ r ∷ []) (hs ++ h ∷ [])
histories-push [] [] r h all one = (one, tt)
histories-push [] (x ∷ hs) r h none one = elim none [ ]
histories-push (q ∷ rs) [] r h none one = elim none [ ]
histories-push (q ∷ rs) (x ∷ hs) r h all one = (all.0, histories-push rs hs r h all.1 one)

pub length-histories : (rs : List Region) (hs : List Log) → AreHistoriesOf rs hs → length rs ≡ length hs
length-histories [] [] all = refl
length-histories [] (x ∷ hs) none = elim none [ ]
length-histories (q ∷ rs) [] none = elim none [ ]
length-histories (q ∷ rs) (x ∷ hs) all = ap suc (length-histories rs hs all.1)

pub history-at : (rs : List Region) (hs : List Log) → AreHistoriesOf rs hs → (k : ℕ) (h : Log) → get_elem? hs k ≡ some h
    → (r : Region) × (get_elem? rs k ≡ some r) × IsHistoryOf r h
history-at [] [] all k h e = absurd (some-ne-none h (sym e))
history-at [] (x ∷ hs) none k h e = elim none [ ]
history-at (q ∷ rs) [] none k h e = elim none [ ]
history-at (q ∷ rs) (x ∷ hs) all zero h e =
    (q, refl, subst (IsHistoryOf q) (some-injective x h e) all.0)
history-at (q ∷ rs) (x ∷ hs) all (suc k) h e = history-at rs hs all.1 k h e

pub at-get_or : {A : Type 0} (l : List A) (i : ℕ) (d : A) → i < length l → get_elem? l i ≡ some (get_or l i d)
at-get_or [] i d below = absurd (omega arith)
at-get_or (x ∷ xs) zero d below = refl
at-get_or (x ∷ xs) (suc i) d below = at-get_or xs i d (omega arith)

-- ---- the entries of one region

whole : (r : ℕ) (es : List Entry) → AllByRecursion (λ e. e.region ≡ r) es → of_region r es ≡ es
whole r [] all = refl
whole r (e ∷ es) all =
    ap (λ b. cond b (e ∷ of_region r es) (of_region r es)) (eq-eqb e.region r all.0)
    ∙ ap (λ (l : List Entry). e ∷ l) (whole r es all.1)

nothing : (r : ℕ) (es : List Entry) → AllByRecursion (λ e. e.region ≢ r) es → of_region r es ≡ []
nothing r [] none = refl
nothing r (e ∷ es) none =
    ap (λ b. cond b (e ∷ of_region r es) (of_region r es)) (ne_eqb e.region r none.0) ∙ nothing r es none.1

pub each : {P Q : Entry → Type 0} (es : List Entry) → ((e : Entry) → P e → Q e) → AllByRecursion P es
    → AllByRecursion Q es
each [] f all = tt
each (e ∷ es) f all = (f e all.0, each es f all.1)

-- entries of the regions up to a number have none of another
pub outside : (count r : ℕ) (es : List Entry) → AllByRecursion (λ e. (0 < e.region) × (e.region ≤ count)) es
    → (r ≤ 0) ⊎ (count < r) → of_region r es ≡ []
outside count r es all (inl low) =
    nothing r es (each es (λ e h. (λ same. absurd (omega (arith, h.0, low, same)))) all)
outside count r es all (inr high) =
    nothing r es (each es (λ e h. (λ same. absurd (omega (arith, h.1, high, same)))) all)

-- the parts are those of the regions after a number, in order
abbrev pub InOrder : ℕ → List Log → Type 0
InOrder n [] = Unit {0}
InOrder n (p ∷ ps) = AllByRecursion (λ e. e.region ≡ suc n) p.entries × InOrder (suc n) ps

pub in-order : (n : ℕ) (parts : List Log) → ((k : ℕ) (h : Log) → get_elem? parts k ≡ some h
    → AllByRecursion (λ e. e.region ≡ suc (n + k)) h.entries) → InOrder n parts
in-order n [] all = tt
in-order n (p ∷ ps) all =
    let here : suc (n + 0) ≡ suc n = omega arith in (
      subst (λ (q : ℕ). AllByRecursion (λ e. e.region ≡ q) p.entries) here (all 0 p refl),
      in-order (suc n) ps (λ k h e.
          let next : suc (n + suc k) ≡ suc (suc n + k) = omega arith in
          subst (λ (q : ℕ). AllByRecursion (λ e. e.region ≡ q) h.entries) next (all (suc k) h e)),
    )

-- a region has its part's entries, or is none of those of the parts and has none
abbrev pub IsPartOf : ℕ → List Log → ℕ → Type 0
IsPartOf n parts r =
    (k : ℕ) × (h : Log) × (get_elem? parts k ≡ some h) × (r ≡ suc (n + k)) × (of_region r (entries_of parts) ≡ h.entries)

abbrev pub IsNoPart : ℕ → List Log → ℕ → Type 0
IsNoPart n parts r = (of_region r (entries_of parts) ≡ []) × ((r ≤ n) ⊎ (n + length parts < r))

join : (r : ℕ) (p : Log) (ps : List Log) (xs ys : List Entry) → of_region r p.entries ≡ xs
    → of_region r (entries_of ps) ≡ ys → of_region r (entries_of (p ∷ ps)) ≡ xs ++ ys
join r p ps xs ys first rest =
    filter-append (λ e. e.region == r) p.entries (entries_of ps) ∙ ap₂ (λ (a b : List Entry). a ++ b) first rest

low_or_high : (n r : ℕ) → (r ≤ n) ⊎ (n + 0 < r)
low_or_high n r = dite (dec_le r n) (λ h. inl h) (λ h. inr (omega arith))

pub part-of : (n : ℕ) (parts : List Log) → InOrder n parts → (r : ℕ) → IsPartOf n parts r ⊎ IsNoPart n parts r
part-of n [] all r = inr (refl, low_or_high n r)
part-of n (p ∷ ps) all r = go (cases_eq r (suc n)) (part-of (suc n) ps all.1 r)
  where
    go : (r ≡ suc n) ⊎ (r ≡ suc n → ⊥) → IsPartOf (suc n) ps r ⊎ IsNoPart (suc n) ps r
        → IsPartOf n (p ∷ ps) r ⊎ IsNoPart n (p ∷ ps) r
    go (inl same) (inl found) = absurd (omega (arith, same, found.3))
    go (inl same) (inr none) =
        let mine : of_region r p.entries ≡ p.entries =
        whole r p.entries (subst (λ (q : ℕ). AllByRecursion (λ e. e.region ≡ q) p.entries) (sym same) all.0) in
        inl (0, p, refl, omega (arith, same), join r p ps p.entries [] mine none.0 ∙ append-nil p.entries)
    go (inr other) (inl found) =
        let mine : of_region r p.entries ≡ [] =
        nothing r p.entries (each p.entries (λ e is. (λ same. other (sym same ∙ is))) all.0) in
        inl (suc found.0, found.1, found.2, omega (arith, found.3), join r p ps [] found.1.entries mine found.4)
    go (inr other) (inr none) =
        let mine : of_region r p.entries ≡ [] =
        nothing r p.entries (each p.entries (λ e is. (λ same. other (sym same ∙ is))) all.0) in
        inr (join r p ps [] [] mine none.0, apart none.1)
      where
        apart : (r ≤ suc n) ⊎ (suc n + length ps < r) → (r ≤ n) ⊎ (n + length (p ∷ ps) < r)
        apart (inl low) = inl (below low (cases_eq r (suc n)))
          where
            below : r ≤ suc n → (r ≡ suc n) ⊎ (r ≡ suc n → ⊥) → r ≤ n
            below le (inl same) = absurd (other same)
            below le (inr ne) = omega (arith, le, ne)
        apart (inr high) = inr (omega (arith, high))

-- ---- the list of a number

abbrev pub IsPassOf : List Known → ℕ → Type 0
IsPassOf ps w = (j : ℕ) × (p : Known) × (get_elem? ps j ≡ some p) × (p.worker ≡ w) × (made_by ps w ≡ p.list)

abbrev pub IsNoPass : List Known → ℕ → Type 0
IsNoPass ps w = AllByRecursion (λ p. p.worker ≢ w) ps × (made_by ps w ≡ [])

pub pass-of : (ps : List Known) (w : ℕ) → IsPassOf ps w ⊎ IsNoPass ps w
pass-of [] w = inr (tt, refl)
pass-of (p ∷ ps) w = go (cases_eq p.worker w) (pass-of ps w)
  where
    go : (p.worker ≡ w) ⊎ (p.worker ≡ w → ⊥) → IsPassOf ps w ⊎ IsNoPass ps w
        → IsPassOf (p ∷ ps) w ⊎ IsNoPass (p ∷ ps) w
    go (inl same) rest =
        inl (0, p, refl, same, ap (λ b. cond b p.list (made_by ps w)) (eq-eqb p.worker w same))
    go (inr other) (inl found) =
        inl (
          suc found.0,
          found.1,
          found.2,
          found.3,
          ap (λ b. cond b p.list (made_by ps w)) (ne_eqb p.worker w other) ∙ found.4,
        )
    go (inr other) (inr none) =
        inr ((other, none.0), ap (λ b. cond b p.list (made_by ps w)) (ne_eqb p.worker w other) ∙ none.1)

not-there : (ps : List Known) (w j : ℕ) (p : Known) → AllByRecursion (λ q. q.worker ≢ w) ps → get_elem? ps j ≡ some p
    → p.worker ≡ w → ⊥
not-there [] w j p none e same = some-ne-none p (sym e)
not-there (q ∷ ps) w zero p none e same = none.0 (ap (λ (x : Known). x.worker) (some-injective q p e) ∙ same)
not-there (q ∷ ps) w (suc j) p none e same = not-there ps w j p none.1 e same

-- where no two passes have one number, the list of a pass's number is its own
pub made-at : (ps : List Known) → ((i j : ℕ) (p q : Known) → get_elem? ps i ≡ some p → get_elem? ps j ≡ some q
    → p.worker ≡ q.worker → i ≡ j)
    → (j : ℕ) (p : Known) → get_elem? ps j ≡ some p → made_by ps p.worker ≡ p.list
made-at ps distinct j p at = go (pass-of ps p.worker)
  where
    go : IsPassOf ps p.worker ⊎ IsNoPass ps p.worker → made_by ps p.worker ≡ p.list
    go (inl found) =
        let place : found.0 ≡ j = distinct found.0 j found.1 p found.2 at found.3 in
        let is : found.1 ≡ p =
        some-injective found.1 p (sym found.2 ∙ (ap (λ (i : ℕ). get_elem? ps i) place ∙ at)) in
        found.4 ∙ ap (λ (x : Known). x.list) is
    go (inr none) = absurd (not-there ps p.worker j p none.0 at refl)
