-- Each step keeps the rule.
use Rattle.std.proofs.Common.{◌≡◌, ◌≢◌, ℕ, suc, ◌+◌, ◌<◌, ◌≤◌, Bool, true, false, true≢false, List, [], ◌∷◌, ◌++◌}
use Rattle.std.proofs.Common.{length, get_or, set, max, sym, refl, ap, ◌∙◌, subst, ⊎_elim, arith, eqb, cond, ◌||◌}
use Rattle.std.proofs.Common.{Option, Some, None, length-set, length-append, get_or-set_same, get_or-set_other}
use Rattle.std.specs.List.{AllByRecursion}
use mathlib.Core.Logic.{dite}
use native.Mathlib.Decide.{ℕ_discrete}
use mathlib.Core.Option.{some, none, some-injective, Option as Maybe}
use lib.ListN.{get_elem?}
use prog.Atomic.{either}
use lib.Seq.{set-get_or}
use Rattle.atomic_table.specs.Table.{State, step, Act, keeps, takes, gives, Valid, carried_after, stepped, Allows}
use Rattle.atomic_table.specs.Table.{Splits, Joins, Enters, rest}
use Rattle.atomic_table.proofs.Lists.{at_set, set_here, set_else, set_again, exchanged, at_longer}
use Rattle.heap_model.specs.declared.calls.Entry.{Entry}
use Rattle.heap_model.specs.Legal.{own, of_region}
use Rattle.heap_model.specs.Order.{StampsRise}
use Rattle.region_lock.specs.Entries.{last_stamp, IsMadeBy}
use Rattle.region_lock.proofs.Entries.{Each-snoc, last_from-snoc, StampsRise-snoc, own-snoc, own-snoc_other}
use Rattle.region_lock.proofs.Entries.{of_region-snoc, of_region-snoc_other, IsMadeBy-snoc}
use Rattle.region_lock.specs.Weights.{total}
use Rattle.region_lock.specs.Rule.{view, nobody, weigh, Fits, Counts, clock_of, IsValueAt, Orderly}
use Rattle.region_lock.specs.Plays.{most, noting, freed, grow, grown, Sat, Found, taken, given, added, sat, counted}
use Rattle.region_lock.specs.Plays.{numbered, stamp_of, joined}
use Rattle.region_lock.specs.Passes.{pass_view, list_in, IsResting, IsHolding, IsNext}
use Rattle.region_lock.specs.declared.view.View.{View}
use Rattle.region_lock.proofs.Sums.{snoc_same, each_map, each_both, each_append, upd, upd_here, upd_else, total-append}
use Rattle.region_lock.proofs.Sums.{every, at_inside, at_end, total-set, terms_le, below_le, below-same, below-change}
use Rattle.region_lock.proofs.Sums.{only, only-same, below-only, none_of}

-- a word after a write of another, and of this one
word_here : (ws : List ℕ) (k x : ℕ) → suc k < length ws → get_or (set ws (suc k) x) (suc k) 0 ≡ x
word_here ws k x h = get_or-set_same ws (suc k) x 0 h

word_else : (ws : List ℕ) (k x i : ℕ) → i ≢ k → get_or (set ws (suc k) x) (suc i) 0 ≡ get_or ws (suc i) 0
word_else ws k x i ne = get_or-set_other ws (suc k) (suc i) x 0 (λ e. ne (omega arith))

-- a view keeps fitting where nothing that it speaks of changed
fits_other : (made c c' : ℕ) (lists lists' held held' : ℕ → List Entry) (noter noter' : ℕ → ℕ) (ws ws' : List ℕ)
    (j : ℕ) (u : View)
    → Fits made c lists held noter ws j u → c ≤ c' → AllByRecursion (λ o. lists o.0 ≡ lists' o.0) u.owns
    → ((k : ℕ) → u.region ≡ suc k → (noter k ≡ noter' k) × (held k ≡ held' k) ×
    (get_or ws (suc k) 0 ≡ get_or ws' (suc k) 0))
    → Fits made c' lists' held' noter' ws' j u
fits_other made c c' lists lists' held held' noter noter' ws ws' j u f le same at = record {
  owns = each_map (λ (o : ℕ × List Entry). ((o.1 ≡ lists o.0) × (o.0 < made) × (last_stamp o.1 ≤ u.last)) ×
      (lists o.0 ≡ lists' o.0)) (λ o. (o.1 ≡ lists' o.0) × (o.0 < made) × (last_stamp o.1 ≤ u.last)) u.owns
      (λ o p. (p.0.0 ∙ p.1, p.0.1, p.0.2)) (each_both _ _ u.owns f.owns same);
  late = omega (arith, f.late);
  notes = λ k e. let t = f.notes k e in let a = at k e in (
    t.0 ∙ a.0,
    t.1 ∙ a.1,
    (t.2.0, t.2.1, t.2.2, sym a.2 ∙ t.2.3),
  );
}

or-false : (b : Bool) → (b || false) ≡ b
or-false true = refl
or-false false = refl

or-true : (b : Bool) → (b || true) ≡ true
or-true true = refl
or-true false = refl

-- the count of numbers stays with one view
counts_set : (made : ℕ) (vs : List View) (id : ℕ) (v w : View) → get_elem? vs id ≡ some v → Counts made vs
    → w.keeps ≡ v.keeps → (v.keeps ≡ true → w.made ≡ v.made) → Counts made (set vs id w)
counts_set made vs id v w me c same-keeps same-made = record {
  keeper = c.keeper;
  there = dite (ℕ_discrete c.keeper id)
      (λ e. let is : v ≡ c.there.0 = some-injective v c.there.0 (sym me ∙
      (ap (λ (x : ℕ). get_elem? vs x) (sym e) ∙ c.there.1)) in (
        w,
        ap (λ (x : ℕ). get_elem? (set vs id w) x) e ∙ set_here vs id w (at_inside vs id v me),
        same-keeps ∙
            (ap (λ (x : View). x.keeps) is ∙ c.there.2),
      ))
      (λ ne. (c.there.0, set_else vs id c.keeper w ne ∙ c.there.1, c.there.2));
  only = λ j x e k. ⊎_elim
      (λ (q : (j ≡ id) × (w ≡ x)). let kept = sym same-keeps ∙ (ap (λ (y : View). y.keeps) q.1
      ∙ k) in let t = c.only id v me kept in (
        q.0 ∙ t.0,
        ap (λ (y : View). y.made) (sym q.1) ∙
            (same-made kept ∙ t.1),
      ))
      (λ (q : (j ≢ id) × (get_elem? vs j ≡ some x)). c.only j x q.1 k)
      (at_set vs id j w x e);
}

counts_next : (made : ℕ) (vs : List View) (id : ℕ) (v w : View) → get_elem? vs id ≡ some v → Counts made vs
    → v.keeps ≡ true → w.keeps ≡ true → w.made ≡ suc made → Counts (suc made) (set vs id w)
counts_next made vs id v w me c has has' next =
    let t = c.only id v me has in
    record {
      keeper = id;
      there = (w, set_here vs id w (at_inside vs id v me), has');
      only = λ j x e k. ⊎_elim
          (λ (q : (j ≡ id) × (w ≡ x)). (q.0, ap (λ (y : View). y.made) (sym q.1) ∙ next))
          (λ (q : (j ≢ id) × (get_elem? vs j ≡ some x)). absurd (q.0 ((c.only j x q.1 k).0 ∙ sym t.0)))
          (at_set vs id j w x e);
    }

counts_add : (made : ℕ) (vs : List View) (w : View) → Counts made vs → w.keeps ≡ false → Counts made (vs ++ w ∷ [])
counts_add made vs w c none-kept = record {
  keeper = c.keeper;
  there = (c.there.0, at_longer vs (w ∷ []) c.keeper c.there.0 c.there.1, c.there.2);
  only = λ j x e k. ⊎_elim (λ was. c.only j x was k) (λ (q : (j ≡ length vs) × (w ≡ x)). absurd
      (true≢false (sym k ∙ (ap (λ (y : View). y.keeps) (sym q.1) ∙ none-kept)))) (at_end vs w x j e);
}

counts_join : (made : ℕ) (vs : List View) (id : ℕ) (v : View) (other : ℕ) (u w : View) → ¬ (other ≡ id)
    → get_elem? vs id ≡ some v → get_elem? vs other ≡ some u → Counts made vs → (b : Bool) → u.keeps ≡ b → w.keeps ≡
    (v.keeps || b) → w.made ≡ cond b u.made v.made
    → Counts made (set (set vs id w) other nobody)
counts_join made vs id v other u w ne me them c false has keeps-is made-is =
    let in-other : get_elem? (set vs id w) other ≡ some u = set_else vs id other w ne ∙ them in
    counts_set made (set vs id w) other u nobody in-other (counts_set made vs id v w me c
    (keeps-is ∙ or-false v.keeps) (λ _. made-is)) (sym has) (λ z. absurd (true≢false (sym z ∙ has)))
counts_join made vs id v other u w ne me them c true has keeps-is made-is =
    let t = c.only other u them has in
    record {
      keeper = id;
      there = (
        w,
        set_else (set vs id w) other id nobody (λ e. ne (sym e)) ∙ set_here vs id w (at_inside vs id v me),
        keeps-is ∙ or-true v.keeps,
      );
      only = λ j x e k. ⊎_elim
          (λ (q : (j ≡ other) × (nobody ≡ x)). absurd (true≢false (sym k ∙ ap (λ (y : View). y.keeps) (sym q.1))))
          (λ (q : (j ≢ other) × (get_elem? (set vs id w) j ≡ some x)). ⊎_elim
          (λ (p : (j ≡ id) × (w ≡ x)). (p.0, ap (λ (y : View). y.made) (sym p.1) ∙ (made-is ∙ t.1)))
          (λ (p : (j ≢ id) × (get_elem? vs j ≡ some x)). absurd (q.0 ((c.only j x p.1 k).0 ∙ sym t.0)))
          (at_set vs id j w x q.1))
          (at_set (set vs id w) other j nobody x e);
    }

module _ {W P : Type 0} (region : W → ℕ) (list : W → List Entry) (plain : W → P) (plains : List P)
    (passes budget : ℕ) where
  abbrev pub Or : State (Option W) View → Type 0
  Or = Orderly region list plain plains passes budget

  abbrev pub state : List ℕ → List (Maybe (Option W)) → List View → State (Option W) View
  state ws hs vs = record { words = ws; homes = hs; views = vs }

  -- all stamps are low
  low : (s : State (Option W) View) (o : Or s) → clock_of o.lists o.made ≤ most
  low s o = omega (
    arith,
    below_le (λ n. length (o.lists n)) o.made (λ n. omega (arith, o.short n, o.few.2)),
    o.few.0,
    o.few.1,
  )

  -- the list that a view has under its one number
  sole : (made : ℕ) (lists : ℕ → List Entry) (last n : ℕ) (l : List Entry) (owns : List (ℕ × List Entry)) → owns ≡
      (n, l) ∷ []
      → AllByRecursion (λ o. (o.1 ≡ lists o.0) × (o.0 < made) × (last_stamp o.1 ≤ last)) owns → (l ≡ lists n) ×
      (n < made) × (last_stamp l ≤ last)
  sole made lists last n l owns e all = (subst (AllByRecursion (λ (o : ℕ × List Entry). (o.1 ≡ lists o.0) ×
      (o.0 < made) × (last_stamp o.1 ≤ last))) e all).0

  -- another seat has not the number
  apart : (s : State (Option W) View) (o : Or s) (id : ℕ) (v : View) (n : ℕ) (l : List Entry)
      → get_elem? s.views id ≡ some v → v.owns ≡ (n, l) ∷ []
      → (j : ℕ) (u : View) → j ≢ id → get_elem? s.views j ≡ some u → AllByRecursion (λ o. o.0 ≢ n) u.owns
  apart s o id v n l me has j u ne them =
      let one : weigh (only n) v ≡ 1 = ap (λ (x : List (ℕ × List Entry)). total (λ o. only n o.0) x) has ∙ omega
      (arith, only-same n) in
      none_of n u.owns (omega (
        arith,
        terms_le (weigh (only n)) s.views id j v u ne me them,
        o.once (only n),
        (below-only n o.made).0,
      ))

  -- taking the region k + 1
  takes_free : (fact : W → Type 0) (s : State (Option W) View) (o : Or s) (id : ℕ) (v : View) (n : ℕ) (l : List Entry)
      (k : ℕ) → k < length s.homes
      → get_elem? s.views id ≡ some v → v.owns ≡ (n, l) ∷ [] → v.region ≡ 0 → get_or s.words (suc k) 0 ≡ 0 → (y : W)
      → get_elem? s.homes k ≡ some (some (Some y)) → list y ≡ o.held k
      → Or (state (set s.words (suc k) (suc n)) (set s.homes k none) (set s.views id (noting v (suc k) (list y))))
  takes_free fact s o id v n l k near me has idle free y at lst =
      let w : View = noting v (suc k) (list y) in
      let wide = o.wide in
      let long : length (set s.homes k none) ≡ length s.homes = length-set s.homes k none in
      let inside : (i : ℕ) → i < length (set s.homes k none) → i < length s.homes = λ i h. subst
      (λ (c : ℕ). i < c) long h in
      let here : get_or (set s.words (suc k) (suc n)) (suc k) 0 ≡ suc n = word_here s.words k (suc n) (omega arith) in
      let mine = o.fits id v me in
      record {
        made = o.made;
        lists = o.lists;
        held = o.held;
        noter = upd o.noter k id;
        few = o.few;
        wide = length-set s.words (suc k) (suc n) ∙ (wide ∙ ap suc (sym long));
        home = λ i h e. dite (ℕ_discrete i k)
            (λ same. let z : get_or (set s.words (suc k) (suc n)) (suc i) 0 ≡ suc n = ap
            (λ (x : ℕ). get_or (set s.words (suc k) (suc n)) (suc x) 0) same ∙ here in absurd (omega arith))
            (λ ne. let t = o.home i (inside i h) (sym (word_else s.words k (suc n) i ne) ∙ e) in
            (t.0, set_else s.homes k i none ne ∙ t.1, t.2));
        out = λ i h e. dite (ℕ_discrete i k)
            (λ same. (
              w,
              ap (λ (x : ℕ). get_elem? (set s.views id w) x) (upd_here o.noter k id i same)
                  ∙ set_here s.views id w (at_inside s.views id v me),
              ap suc (sym same),
              ap
                  (λ (x : ℕ). get_elem? (set s.homes k none) x) same ∙ set_here s.homes k none near,
            ))
            (λ ne. let t = o.out i (inside i h) (λ z. e (word_else s.words k (suc n) i ne ∙ z)) in
            let other : o.noter i ≢ id = λ z. let same : v ≡ t.0 = some-injective v t.0
            (sym me ∙ (ap (λ (x : ℕ). get_elem? s.views x) (sym z) ∙ t.1)) in absurd
            (omega (arith, ap (λ (x : View). x.region) same, t.2)) in (
              t.0,
              ap (λ (x : ℕ). get_elem? (set s.views id w) x) (upd_else o.noter k id i ne) ∙
                  (set_else s.views id (o.noter i) w other ∙ t.1),
              t.2,
              set_else s.homes k i none ne ∙ t.3,
            ));
        fits = λ j u e. ⊎_elim
            (λ (q : (j ≡ id) × (w ≡ u)). subst (λ (p : ℕ × View). Fits o.made (clock_of o.lists o.made) o.lists o.held
            (upd o.noter k id) (set s.words (suc k) (suc n)) p.0 p.1) (λ i. (sym q.0 i, q.1 i))
            record {
              owns = mine.owns;
              late = mine.late;
              notes = λ i z. let same : i ≡ k = omega arith in (
                sym (upd_here o.noter k id i same),
                lst ∙ ap o.held (sym same),
                (n, l, has, ap (λ (x : ℕ). get_or (set s.words (suc k) (suc n)) (suc x) 0) same ∙ here),
              );
            })
            (λ (q : (j ≢ id) × (get_elem? s.views j ≡ some u)). let f = o.fits j u q.1 in
            fits_other o.made (clock_of o.lists o.made)
            (clock_of o.lists o.made) o.lists o.lists o.held o.held o.noter (upd o.noter k id) s.words
            (set s.words (suc k) (suc n)) j u f (omega arith) (every
            (λ (x : ℕ × List Entry). o.lists x.0 ≡ o.lists x.0) u.owns (λ _. refl))
            (λ i z. let ne : i ≢ k = λ same. let a : get_or s.words (suc i) 0 ≡ suc (f.notes i z).2.0 =
            (f.notes i z).2.3 in let b : get_or s.words (suc i) 0 ≡ 0 = ap
            (λ (x : ℕ). get_or s.words (suc x) 0) same ∙ free in omega arith in
            (sym (upd_else o.noter k id i ne), refl, sym (word_else s.words k (suc n) i ne))))
            (at_set s.views id j w u e);
        counts = counts_set o.made s.views id v w me o.counts refl (λ _. refl);
        once = λ h. omega (arith, total-set (weigh h) s.views id v w me, o.once h);
        mine = λ i. subst (λ (c : ℕ). IsMadeBy i c (o.lists i)) (sym long) (o.mine i);
        unmade = o.unmade;
        short = o.short;
        parts = λ i m h. o.parts i m (inside i h);
        listed = λ i h. o.listed i (inside i h);
        known = λ i h. o.known i (inside i h);
      }

  takes_one : (fact : W → Type 0) (slots id : ℕ) (m : Sat W) (n : ℕ) (l : List Entry) (k new : ℕ)
      (said : Maybe (Option W)) → new ≡ suc n → k < slots → m.0.owns ≡ (n, l) ∷ [] → m.0.region ≡ 0
      → ((y : W) → region y ≡ suc k → get_elem? plains k ≡ some (plain y) → fact y)
      → Allows Or slots id m (suc k) (λ r. either (eqb r 0) new r) (taken region list fact
      (step slots (suc k) 0 new said) m)
  takes_one fact slots id m n l k new said is inside has idle tells s o wide me _ =
      let then = taken region list fact (step slots (suc k) 0 new said) m in
      exchanged (get_or s.words (suc k) 0) 0 new
      (λ x. (w : View) × (a : Act (Option W)) × Valid s.homes m.1 a × Or (stepped s (suc k) x id m.1 w a) × then
      (get_or s.words (suc k) 0) (w, carried_after m.1 a))
      (λ free. let near : k < length s.homes = omega arith in let t = o.home k near free in let y = t.0 in (
        noting m.0 (suc k) (list y),
        takes k (Some y),
        t.1,
        subst (λ (x : ℕ). Or (state (set s.words (suc k) x) (set s.homes k none)
            (set s.views id (noting m.0 (suc k) (list y))))) (sym is)
            (takes_free fact s o id m.0 n l k near me has idle free y t.1 t.2.1),
        (
          (λ hit i e. let same : k ≡ i = omega arith in
              subst (λ (x : ℕ). Found region list fact x m (noting m.0 (suc k) (list y), (k, Some y) ∷ m.1)) same (
                y,
                refl,
                tells y t.2.0 t.2.2,
                t.2.0,
                omega (arith, low s o, o.known k near, ap last_stamp t.2.1),
                omega
                    (arith, low s o, (o.fits id m.0 me).late),
              )),
          λ miss. absurd (miss free),
        ),
      ))
      (λ held. (m.0, keeps, tt, subst Or (same_state s o id m.0 me) o, ((λ hit. absurd (held hit)), λ _. refl)))
    where
      same_state : (s : State (Option W) View) (o : Or s) (id : ℕ) (v : View) → get_elem? s.views id ≡ some v
          → s ≡ state (set s.words (suc k) (get_or s.words (suc k) 0)) s.homes (set s.views id v)
      same_state s o id v me = λ i. record {
        words = sym (set-get_or s.words
            (suc k) 0) i;
        homes = s.homes;
        views = sym (set_again s.views id v me) i;
      }

  -- giving the region k + 1 back, with the list xs, where the lists of the number n become l'
  regive : (s : State (Option W) View) (o : Or s) (id k n : ℕ) (v : View) (l l' xs : List Entry) (last : ℕ) (y : W)
      → k < length s.homes → get_elem? s.views id ≡ some v → v.owns ≡ (n, l) ∷ [] → v.region ≡ suc k
      → IsValueAt region list plain plains k xs y → clock_of o.lists o.made ≤ clock_of (upd o.lists n l') o.made
      → last ≤ clock_of (upd o.lists n l') o.made → last_stamp l' ≤ last
      → IsMadeBy n (length s.homes) l' → length l' ≤ budget → ((m : ℕ) → own xs m ≡ of_region (suc k)
      (upd o.lists n l' m)) → ((i : ℕ) → i ≢ k → of_region (suc i) l' ≡ of_region (suc i) l)
      → StampsRise xs × AllByRecursion (λ e. e.region ≡ suc k) xs → last_stamp xs ≤ clock_of (upd o.lists n l') o.made
      → Or (state (set s.words (suc k) 0) (set s.homes k (some (Some y)))
      (set s.views id (view ((n, l') ∷ []) last 0 [] v.keeps v.made)))
  regive s o id k n v l l' xs last y near me has region-is fit grows late high made-by short parts others listed known =
      let w : View = view ((n, l') ∷ []) last 0 [] v.keeps v.made in
      let wide = o.wide in
      let hs = set s.homes k (some (Some y)) in
      let long : length hs ≡ length s.homes = length-set s.homes k (some (Some y)) in
      let inside : (i : ℕ) → i < length hs → i < length s.homes = λ i h. subst (λ (c : ℕ). i < c) long h in
      let here : get_or (set s.words (suc k) 0) (suc k) 0 ≡ 0 = word_here s.words k 0 (omega arith) in
      let f = o.fits id v me in
      let whole = sole o.made o.lists v.last n l v.owns has f.owns in
      let lists' = upd o.lists n l' in
      let held' = upd o.held k xs in
      let mine : lists' n ≡ l' = upd_here o.lists n l' n refl in
      record {
        made = o.made;
        lists = lists';
        held = held';
        noter = o.noter;
        few = o.few;
        wide = length-set s.words (suc k) 0 ∙ (wide ∙ ap suc (sym long));
        home = λ i h e. dite (ℕ_discrete i k)
            (λ same. (
              y,
              ap (λ (x : ℕ). get_elem? hs x) same ∙ set_here s.homes k (some (Some y)) near,
              (
                fit.0 ∙ ap suc (sym same),
                fit.1 ∙ sym (upd_here o.held k xs i same),
                ap
                    (λ (x : ℕ). get_elem? plains x) same ∙ fit.2,
              ),
            ))
            (λ ne. let t = o.home i (inside i h) (sym (word_else s.words k 0 i ne) ∙ e) in (
              t.0,
              set_else s.homes k i (some (Some y)) ne ∙ t.1,
              (
                t.2.0,
                t.2.1 ∙ sym (upd_else o.held k xs i ne),
                t.2.2,
              ),
            ));
        out = λ i h e. dite (ℕ_discrete i k)
            (λ same. absurd (e (ap (λ (x : ℕ). get_or (set s.words (suc k) 0) (suc x) 0) same ∙ here)))
            (λ ne. let t = o.out i (inside i h) (λ z. e (word_else s.words k 0 i ne ∙ z)) in
            let other : o.noter i ≢ id = λ z. let same : v ≡ t.0 = some-injective v t.0
            (sym me ∙ (ap (λ (x : ℕ). get_elem? s.views x) (sym z) ∙ t.1)) in ne
            (omega (arith, ap (λ (x : View). x.region) same, t.2)) in
            (t.0, set_else s.views id (o.noter i) w other ∙ t.1, t.2, set_else s.homes k i (some (Some y)) ne ∙ t.3));
        fits = λ j u e. ⊎_elim
            (λ (q : (j ≡ id) × (w ≡ u)). subst (λ (p : ℕ × View). Fits o.made
            (clock_of lists' o.made) lists' held' o.noter (set s.words (suc k) 0) p.0 p.1) (λ i. (sym q.0 i, q.1 i))
            record { owns = ((sym mine, whole.1, high), tt); late = late; notes = λ i z. absurd (omega arith) })
            (λ (q : (j ≢ id) × (get_elem? s.views j ≡ some u)). let g = o.fits j u q.1 in
            fits_other o.made (clock_of o.lists o.made)
            (clock_of lists' o.made) o.lists lists' o.held held' o.noter o.noter s.words
            (set s.words (suc k) 0) j u g grows
            (each_map (λ (x : ℕ × List Entry). x.0 ≢ n) (λ (x : ℕ × List Entry). o.lists x.0 ≡ lists' x.0) u.owns
            (λ x ne. sym (upd_else o.lists n l' x.0 ne)) (apart s o id v n l me has j u q.0 q.1))
            (λ i z. let ne : i ≢ k = λ same. q.0 ((g.notes i z).0 ∙ (ap o.noter same ∙ sym (f.notes k region-is).0)) in
            (refl, sym (upd_else o.held k xs i ne), sym (word_else s.words k 0 i ne))))
            (at_set s.views id j w u e);
        counts = counts_set o.made s.views id v w me o.counts refl (λ _. refl);
        once = λ h. let same : weigh h w ≡ weigh h v = ap (λ (x : List (ℕ × List Entry)). total (λ o. h o.0) x)
            (sym has) in omega (arith, total-set (weigh h) s.views id v w me, o.once h, same);
        mine = λ i. subst (λ (c : ℕ). IsMadeBy i c (lists' i)) (sym long) (dite (ℕ_discrete i n)
            (λ same. subst (λ (x : ℕ × List Entry). IsMadeBy x.0 (length s.homes) x.1)
            (λ t. (sym same t, sym (upd_here o.lists n l' i same) t)) made-by)
            (λ ne. subst (IsMadeBy i (length s.homes)) (sym (upd_else o.lists n l' i ne)) (o.mine i)));
        unmade = λ i h. upd_else o.lists n l' i (λ same. let b = whole.1 in omega arith) ∙ o.unmade i h;
        short = λ i. dite (ℕ_discrete i n) (λ same. omega (arith, ap length (upd_here o.lists n l' i same)))
            (λ ne. omega (arith, ap length (upd_else o.lists n l' i ne), o.short i));
        parts = λ i m h. dite (ℕ_discrete i k)
            (λ same. ap (λ (es : List Entry). own es m) (upd_here o.held k xs i same) ∙
            (parts m ∙ ap (λ (x : ℕ). of_region (suc x) (lists' m)) (sym same)))
            (λ ne. ap (λ (es : List Entry). own es m) (upd_else o.held k xs i ne) ∙
            (o.parts i m (inside i h) ∙ dite (ℕ_discrete m n)
            (λ same. ap (λ (x : ℕ). of_region (suc i) (o.lists x)) same ∙
            (ap (of_region (suc i)) (sym whole.0) ∙ (sym (others i ne) ∙ ap (of_region (suc i))
            (sym (upd_here o.lists n l' m same)))))
            (λ nn. ap (of_region (suc i)) (sym (upd_else o.lists n l' m nn)))));
        listed = λ i h. dite (ℕ_discrete i k)
            (λ same. subst (λ (x : ℕ × List Entry). StampsRise x.1 × AllByRecursion (λ e. e.region ≡ suc x.0) x.1)
            (λ t. (sym same t, sym (upd_here o.held k xs i same) t)) listed)
            (λ ne. subst (λ (x : List Entry). StampsRise x × AllByRecursion (λ e. e.region ≡ suc i) x)
            (sym (upd_else o.held k xs i ne)) (o.listed i (inside i h)));
        known = λ i h. dite (ℕ_discrete i k) (λ same. omega (arith, ap last_stamp (upd_here o.held k xs i same)))
            (λ ne. omega (arith, ap last_stamp (upd_else o.held k xs i ne), o.known i (inside i h)));
      }

  -- the region goes back with its list as it was
  gives_same : (slots id : ℕ) (v : View) (k n : ℕ) (l : List Entry) (y : W) (more : List (ℕ × Option W)) → k < slots
      → v.owns ≡ (n, l) ∷ [] → v.region ≡ suc k → IsValueAt region list plain plains k v.noted y
      → Allows Or slots id (v, (k, Some y) ∷ more) (suc k) (λ _. 0) (given (step slots (suc k) 0 0 none)
      (v, (k, Some y) ∷ more))
  gives_same slots id v k n l y more inside has region-is fit s o wide me _ =
      let near : k < length s.homes = omega arith in
      let f = o.fits id v me in
      let whole = sole o.made o.lists v.last n l v.owns has f.owns in
      let noted = (f.notes k region-is).1 in
      let lists' = upd o.lists n l in
      let each : (i : ℕ) → o.lists i ≡ lists' i = λ i. dite (ℕ_discrete i n)
      (λ same. ap o.lists same ∙ (sym whole.0 ∙ sym (upd_here o.lists n l i same)))
      (λ ne. sym (upd_else o.lists n l i ne)) in
      let clock : clock_of o.lists o.made ≡ clock_of lists' o.made = below-same (λ i. length (o.lists i))
      (λ i. length (lists' i)) o.made (λ i _. ap length (each i)) in (
        freed v,
        gives,
        tt,
        subst (λ (x : List (ℕ × List Entry)). Or (state (set s.words (suc k) 0) (set s.homes k (some (Some y)))
            (set s.views id (view x v.last 0 [] v.keeps v.made)))) (sym has)
            (regive s o id k n v l l v.noted v.last y near me has region-is fit (omega arith)
            (omega (arith, f.late)) whole.2
            (subst (IsMadeBy n (length s.homes)) (sym whole.0) (o.mine n)) (omega (arith, o.short n, ap length whole.0))
            (λ m. ap (λ (es : List Entry). own es m) noted ∙ (o.parts k m near ∙ ap (of_region (suc k)) (each m)))
            (λ i ne. refl)
            (subst (λ (x : List Entry). StampsRise x × AllByRecursion (λ e. e.region ≡ suc k) x) (sym noted)
            (o.listed k near)) (omega (arith, ap last_stamp noted, o.known k near))),
        refl,
      )

  -- the region goes back with one entry more
  gives_entry : (slots id : ℕ) (v : View) (k n : ℕ) (l : List Entry) (e : Entry) (y : W) (more : List (ℕ × Option W))
      → k < slots → v.owns ≡ (n, l) ∷ [] → v.region ≡ suc k → IsValueAt region list plain plains k (v.noted ++ e ∷ []) y
      → e.worker ≡ n → e.region ≡ suc k → e.number ≡ length l → e.stamp ≡ max v.last (last_stamp v.noted) + 1
      → length l < budget
      → Allows Or slots id (v, (k, Some y) ∷ more) (suc k) (λ _. 0) (added list (step slots (suc k) 0 0 none)
      (v, (k, Some y) ∷ more))
  gives_entry slots id v k n l e y more inside has region-is fit worker at number stamp room s o wide me _ =
      let near : k < length s.homes = omega arith in
      let f = o.fits id v me in
      let whole = sole o.made o.lists v.last n l v.owns has f.owns in
      let noted = (f.notes k region-is).1 in
      let l' = l ++ e ∷ [] in
      let xs = v.noted ++ e ∷ [] in
      let lists' = upd o.lists n l' in
      let mine : lists' n ≡ l' = upd_here o.lists n l' n refl in
      let longer : length l' ≡ length l + 1 = length-append l (e ∷ []) in
      let clock : clock_of lists' o.made ≡ clock_of o.lists o.made + 1 =
      omega (
        arith,
        below-change (λ i. length (lists' i)) (λ i. length (o.lists i)) o.made n whole.1
            (λ i ne. ap length (upd_else o.lists n l' i ne)),
        ap length mine,
        longer,
        ap length whole.0,
      ) in
      let before : last_stamp v.noted ≤ clock_of o.lists o.made = omega (arith, ap last_stamp noted, o.known k near) in
      let listed : StampsRise v.noted × AllByRecursion (λ x. x.region ≡ suc k) v.noted = subst
      (λ (x : List Entry). StampsRise x × AllByRecursion (λ e. e.region ≡ suc k) x) (sym noted) (o.listed k near) in
      let mine-before : IsMadeBy n (length s.homes) l = subst (IsMadeBy n (length s.homes)) (sym whole.0) (o.mine n) in
      let same-own : (m : ℕ) → own v.noted m ≡ of_region (suc k) (o.lists m) = λ m. ap
      (λ (es : List Entry). own es m) noted ∙ o.parts k m near in
      let stamped : e.stamp ≤ clock_of lists' o.made = omega (arith, f.late) in
      let parts : (m : ℕ) → own xs m ≡ of_region (suc k) (lists' m) = λ m. dite (ℕ_discrete m n)
      (λ same. own-snoc m v.noted e (worker ∙ sym same) ∙ (ap (λ (x : List Entry). x ++ e ∷ [])
      (same-own m ∙ ap (of_region (suc k)) (ap o.lists same ∙ sym whole.0)) ∙
      (sym (of_region-snoc (suc k) l e at) ∙ ap (of_region (suc k)) (sym (upd_here o.lists n l' m same)))))
      (λ ne. own-snoc_other m v.noted e (λ z. ne (sym z ∙ worker)) ∙ (same-own m ∙ ap (of_region (suc k))
      (sym (upd_else o.lists n l' m ne)))) in (
        grown v e,
        gives,
        tt,
        subst (λ (x : List (ℕ × List Entry)). Or (state (set s.words (suc k) 0) (set s.homes k (some (Some y)))
            (set s.views id (view x e.stamp 0 [] v.keeps v.made)))) (sym
            (ap (λ (x : List (ℕ × List Entry)). grow x e) has))
            (regive s o id k n v l l' xs e.stamp y near me has region-is fit (omega arith) stamped
            (omega (arith, last_from-snoc 0 l e))
            (IsMadeBy-snoc n (length s.homes) l e mine-before worker number (omega (arith, whole.2)) (omega arith)
            (omega arith)) (omega arith)
            parts (λ i ne. of_region-snoc_other (suc i) l e (λ z. ne (omega arith))) (
              StampsRise-snoc 0 v.noted e listed.0 (omega arith),
              Each-snoc
                  (λ (x : Entry). x.region ≡ suc k) v.noted e listed.1 at,
            ) (omega (arith, last_from-snoc 0 v.noted e))),
        λ k' y' e' more' same lists. let p : ◌≡◌ {A = ℕ × Option W} (k, Some y)
            (k', Some y') = cc in let q : Some y ≡ Some y' = ap (λ (z : ℕ
            × Option W). z.1) p in let a : y ≡ y' = cc in let b : more ≡ more' = cc in
            let c : e ≡ e' = snoc_same v.noted e e' (sym fit.1 ∙ (ap list a ∙ lists)) in λ i. (grown v (c i), b i),
      )

  -- the next number goes to a new seat
  pub splits_number : (id : ℕ) (v : View) → v.keeps ≡ true → v.made < passes → v.region ≡ 0 → Splits Or id v
      (counted v) (numbered v)
  splits_number id v counts more idle s o me =
      let left = counted v in
      let right = numbered v in
      let f = o.fits id v me in
      let mine : v.made ≡ o.made = (o.counts.only id v me counts).1 in
      let clock : clock_of o.lists o.made ≤ clock_of o.lists (suc o.made) = omega arith in
      let next : (u : View) (c : ℕ) → AllByRecursion (λ x. (x.1 ≡ o.lists x.0) × (x.0 < o.made) ×
      (last_stamp x.1 ≤ c)) u.owns → AllByRecursion (λ x. (x.1 ≡ o.lists x.0) × (x.0 < suc o.made) ×
      (last_stamp x.1 ≤ c)) u.owns
      = λ u c h. each_map (λ (x : ℕ × List Entry). (x.1 ≡ o.lists x.0) × (x.0 < o.made) × (last_stamp x.1 ≤ c))
      (λ (x : ℕ × List Entry). (x.1 ≡ o.lists x.0) × (x.0 < suc o.made) × (last_stamp x.1 ≤ c)) u.owns
      (λ x p. let b = p.1 in (p.0, omega arith, p.2)) h in
      record {
        made = suc o.made;
        lists = o.lists;
        held = o.held;
        noter = o.noter;
        few = (omega (arith, o.few.0), o.few.1, o.few.2);
        wide = o.wide;
        home = o.home;
        out = λ i h e. let t = o.out i h e in
            let other : o.noter i ≢ id = λ z. let same : v ≡ t.0 = some-injective v t.0
            (sym me ∙ (ap (λ (x : ℕ). get_elem? s.views x) (sym z) ∙ t.1)) in absurd
            (omega (arith, ap (λ (x : View). x.region) same, t.2)) in (
              t.0,
              at_longer (set s.views id left) (right ∷ []) (o.noter i) t.0
                  (set_else s.views id (o.noter i) left other ∙ t.1),
              t.2,
              t.3,
            );
        fits = λ j u e. ⊎_elim
            (λ was. ⊎_elim
            (λ (q : (j ≡ id) × (left ≡ u)). subst (λ (p : ℕ × View). Fits (suc o.made)
            (clock_of o.lists (suc o.made)) o.lists o.held o.noter s.words p.0 p.1) (λ i. (sym q.0 i, q.1 i))
            record { owns = next v v.last f.owns; late = omega (arith, f.late); notes = λ k z. absurd (omega arith) })
            (λ (q : (j ≢ id) × (get_elem? s.views j ≡ some u)). let g = o.fits j u q.1 in
            record { owns = next u u.last g.owns; late = omega (arith, g.late); notes = g.notes })
            (at_set s.views id j left u was))
            (λ (is : (j ≡ length (set s.views id left)) × (right ≡ u)). subst
            (λ (x : View). Fits (suc o.made)
            (clock_of o.lists (suc o.made)) o.lists o.held o.noter s.words j x) is.1
            record {
              owns = (
                (sym (ap o.lists mine ∙ o.unmade o.made (omega arith)), omega arith, omega arith),
                tt,
              );
              late = omega arith;
              notes = λ k z. absurd (omega arith);
            })
            (at_end (set s.views id left) right u j e);
        counts = counts_add (suc o.made) (set s.views id left) right
            (counts_next o.made s.views id v left me o.counts counts counts (ap suc mine)) refl;
        once = λ h. omega (
          arith,
          total-append (weigh h) (set s.views id left) (right ∷ []),
          total-set
              (weigh h) s.views id v left me,
          o.once h,
          ap h mine,
        );
        mine = o.mine;
        unmade = λ n h. o.unmade n (omega arith);
        short = o.short;
        parts = o.parts;
        listed = o.listed;
        known = λ k h. omega (arith, o.known k h);
      }

  -- a new seat with a view that owns nothing and notes nothing
  grows_by : (s : State (Option W) View) (o : Or s) (w : View) → w.owns ≡ [] → w.region ≡ 0 → w.keeps ≡ false
      → w.last ≤ clock_of o.lists o.made → Or (state s.words s.homes (s.views ++ w ∷ []))
  grows_by s o w none-owned idle plain-one late = record {
    made = o.made;
    lists = o.lists;
    held = o.held;
    noter = o.noter;
    few = o.few;
    wide = o.wide;
    home = o.home;
    out = λ i h e. let t = o.out i h e in (t.0, at_longer s.views (w ∷ []) (o.noter i) t.0 t.1, t.2, t.3);
    fits = λ j u e. ⊎_elim (λ was. o.fits j u was)
        (λ (is : (j ≡ length s.views) × (w ≡ u)). subst (λ (x : View). Fits o.made
        (clock_of o.lists o.made) o.lists o.held o.noter s.words j x) is.1
        record {
          owns = subst (AllByRecursion (λ (x : ℕ × List Entry). (x.1 ≡ o.lists x.0) × (x.0 < o.made) ×
              (last_stamp x.1 ≤ w.last))) (sym none-owned) tt;
          late = late;
          notes = λ k z. absurd (omega arith);
        })
        (at_end s.views w u j e);
    counts = counts_add o.made s.views w o.counts plain-one;
    once = λ h. omega (
      arith,
      total-append (weigh h) s.views (w ∷ []),
      o.once h,
      ap
          (λ (x : List (ℕ × List Entry)). total (λ o. h o.0) x) none-owned,
    );
    mine = o.mine;
    unmade = o.unmade;
    short = o.short;
    parts = o.parts;
    listed = o.listed;
    known = o.known;
  }

  -- a seat that carries the last stamp
  pub splits_stamp : (id : ℕ) (v : View) → Splits Or id v v (stamp_of v)
  splits_stamp id v s o me = subst (λ (vs : List View). Or (state s.words s.homes (vs ++ stamp_of v ∷ [])))
      (sym (set_again s.views id v me)) (grows_by s o (stamp_of v) refl refl refl (o.fits id v me).late)

  pub enters : (slots i : ℕ) (m : Sat W) → Enters Or slots i (λ n w. sat (step slots i 0 0 none) m n (w, []))
  enters slots i m s o wide _ = (nobody, grows_by s o nobody refl refl refl (omega arith), refl)

  -- a seat takes in another's view; neither holds a region
  pub joins : (id : ℕ) (v : View) (other : ℕ) (u : View) → v.region ≡ 0 → u.region ≡ 0 → Joins Or id v other u
      (joined v u) nobody
  joins id v other u idle theirs s o me apart-from them =
      let w : View = joined v u in
      let vs = set s.views id w in
      let there : get_elem? s.views other ≡ some u = sym (set_else s.views id other w apart-from) ∙ them in
      let f = o.fits id v me in
      let g = o.fits other u there in
      let up : (x : View) → x.last ≤ w.last → AllByRecursion (λ o'. (o'.1 ≡ o.lists o'.0) × (o'.0 < o.made) ×
      (last_stamp o'.1 ≤ x.last)) x.owns → AllByRecursion (λ o'. (o'.1 ≡ o.lists o'.0) × (o'.0 < o.made) ×
      (last_stamp o'.1 ≤ w.last)) x.owns
      = λ x le h. each_map (λ (o' : ℕ × List Entry). (o'.1 ≡ o.lists o'.0) × (o'.0 < o.made) ×
      (last_stamp o'.1 ≤ x.last)) (λ (o' : ℕ × List Entry). (o'.1 ≡ o.lists o'.0) × (o'.0 < o.made) ×
      (last_stamp o'.1 ≤ w.last)) x.owns (λ y p. let a = p.2 in (p.0, p.1, omega arith)) h in
      record {
        made = o.made;
        lists = o.lists;
        held = o.held;
        noter = o.noter;
        few = o.few;
        wide = o.wide;
        home = o.home;
        out = λ i h e. let t = o.out i h e in
            let not : (a : ℕ) (x : View) → get_elem? s.views a ≡ some x → x.region ≡ 0
            → o.noter i ≢ a = λ a x at z same. let is : x ≡ t.0 = some-injective x t.0
            (sym at ∙ (ap (λ (y : ℕ). get_elem? s.views y) (sym same) ∙ t.1)) in omega
            (arith, ap (λ (y : View). y.region) is, t.2) in (
              t.0,
              set_else vs other (o.noter i) nobody (not other u there theirs) ∙
                  (set_else s.views id (o.noter i) w (not id v me idle) ∙ t.1),
              t.2,
              t.3,
            );
        fits = λ j x e. ⊎_elim
            (λ (q : (j ≡ other) × (nobody ≡ x)). subst (λ (y : View). Fits o.made
            (clock_of o.lists o.made) o.lists o.held o.noter s.words j y) q.1
            record { owns = tt; late = omega arith; notes = λ k z. absurd (omega arith) })
            (λ (q : (j ≢ other) × (get_elem? vs j ≡ some x)). ⊎_elim
            (λ (p : (j ≡ id) × (w ≡ x)). subst (λ (y : ℕ × View). Fits o.made
            (clock_of o.lists o.made) o.lists o.held o.noter s.words y.0 y.1) (λ i. (sym p.0 i, p.1 i))
            record {
              owns = each_append (λ (o' : ℕ × List Entry). (o'.1 ≡ o.lists o'.0) × (o'.0 < o.made) ×
                  (last_stamp o'.1 ≤ w.last)) v.owns u.owns (up v (omega arith) f.owns)
                  (up u (omega arith) g.owns);
              late = omega (arith, f.late, g.late);
              notes = λ k z. absurd
                  (omega arith);
            })
            (λ (p : (j ≢ id) × (get_elem? s.views j ≡ some x)). o.fits j x p.1)
            (at_set s.views id j w x q.1))
            (at_set vs other j nobody x e);
        counts = counts_join o.made s.views id v other u w apart-from me there o.counts u.keeps refl refl refl;
        once = λ h. omega (
          arith,
          total-set (weigh h) s.views id v w me,
          total-set (weigh h) vs other u nobody them,
          total-append (λ (o' : ℕ × List Entry). h o'.0) v.owns u.owns,
          o.once h,
        );
        mine = o.mine;
        unmade = o.unmade;
        short = o.short;
        parts = o.parts;
        listed = o.listed;
        known = o.known;
      }

  -- the steps, as calls ask for them
  pub takes_at : (fact : W → Type 0) (slots id : ℕ) (m : Sat W) (n k w new : ℕ) (said : Maybe (Option W)) → w ≡ suc k
      → new ≡ suc n → k < slots → IsResting n m
      → ((y : W) → region y ≡ suc k → get_elem? plains k ≡ some (plain y) → fact y)
      → Allows Or slots id m w (λ r. either (eqb r 0) new r) (taken region list fact (step slots w 0 new said) m)
  takes_at fact slots id m n k w new said at is inside rests tells =
      subst (λ (x : ℕ). Allows Or slots id m x (λ r. either (eqb r 0) new r)
      (taken region list fact (step slots x 0 new said) m)) (sym at)
      (takes_one fact slots id m n (list_in m.0) k new said is inside (ap (λ (x : Sat W). x.0.owns) rests)
      (ap (λ (x : Sat W). x.0.region) rests) tells)

  pub gives_at : (slots id : ℕ) (m : Sat W) (v : View) (n k w : ℕ) (y : W) (more : List (ℕ × Option W)) → w ≡ suc k
      → k < slots → m ≡ (v, (k, Some y) ∷ more) → v ≡ noting (pass_view n (list_in v) v.last) (suc k) v.noted
      → IsValueAt region list plain plains k v.noted y → Allows Or slots id m w (λ _. 0)
      (given (step slots w 0 0 none) m)
  gives_at slots id m v n k w y more at inside is holds fit =
      subst (λ (x : ℕ × Sat W). Allows Or slots id x.1 x.0 (λ _. 0) (given (step slots x.0 0 0 none) x.1))
      (λ i. (sym at i, sym is i))
      (gives_same slots id v k n (list_in v) y more inside (ap (λ (x : View). x.owns) holds)
      (ap (λ (x : View). x.region) holds) fit)

  pub adds_at : (slots id : ℕ) (m : Sat W) (v : View) (n k w : ℕ) (e : Entry) (y : W) (more : List (ℕ × Option W))
      → w ≡ suc k → k < slots → m ≡ (v, (k, Some y) ∷ more) → v ≡ noting (pass_view n (list_in v) v.last)
      (suc k) v.noted
      → IsValueAt region list plain plains k (v.noted ++ e ∷ []) y → IsNext n k v e → length (list_in v) < budget
      → Allows Or slots id m w (λ _. 0) (added list (step slots w 0 0 none) m)
  adds_at slots id m v n k w e y more at inside is holds fit next room =
      subst (λ (x : ℕ × Sat W). Allows Or slots id x.1 x.0 (λ _. 0) (added list (step slots x.0 0 0 none) x.1))
      (λ i. (sym at i, sym is i))
      (gives_entry slots id v k n (list_in v) e y more inside (ap (λ (x : View). x.owns) holds)
      (ap (λ (x : View). x.region) holds) fit next.0 next.1 next.2 next.3 room)

-- what a seat is afterwards
abbrev pair : {W : Type 0} → View → List (ℕ × Option W) → Sat W
pair a b = (a, b)

pub gives_done : {W : Type 0} (n k : ℕ) (m m₁ m₂ : Sat W) (y : W) → IsHolding n k m → m₁ ≡
    (m.0, (k, Some y) ∷ rest m.1) → m₂ ≡ (freed m₁.0, rest m₁.1) → m₂ ≡ (pass_view n (list_in m.0) m.0.last, [])
gives_done {W} n k m m₁ m₂ y holds is e =
    e ∙ (ap (λ (x : Sat W). pair (freed x.0) (rest x.1)) is ∙ ap (λ (x : Sat W). pair (freed x.0) (rest x.1)) holds)

pub adds_done : {W : Type 0} (list : W → List Entry) (n k : ℕ) (m m₁ m₂ : Sat W) (y : W) (e : Entry) → IsHolding n k m
    → m₁ ≡ (m.0, (k, Some y) ∷ rest m.1) → list y ≡ m.0.noted ++ e ∷ []
    → ((k : ℕ) (y : W) (e : Entry) (more : List (ℕ × Option W)) → m₁.1 ≡ (k, Some y) ∷ more
    → list y ≡ m₁.0.noted ++ e ∷ [] → m₂ ≡ (grown m₁.0 e, more))
    → m₂ ≡ (pass_view n (list_in m.0 ++ e ∷ []) e.stamp, [])
adds_done {W} list n k m m₁ m₂ y e holds is lists then =
    then k y e (rest m.1) (ap (λ (x : Sat W). x.1) is) (lists ∙ ap (λ (x : Sat W). x.0.noted ++ e ∷ []) (sym is))
    ∙ (ap (λ (x : Sat W). pair (grown x.0 e) (rest m.1)) is ∙ ap (λ (x : Sat W). pair (grown x.0 e) (rest x.1)) holds)

module _ {W : Type 0} (region : W → ℕ) (list : W → List Entry) (fact : W → Type 0) where
  pub takes_slot : (k : ℕ) (m m₁ : Sat W) → Found region list fact k m m₁ → (x : Option W) × (m₁.1 ≡ (k, x) ∷ rest m₁.1)
  takes_slot k m m₁ t = let e : m₁.1 ≡ (k, Some t.0) ∷ m.1 = ap (λ (x : Sat W). x.1) t.1 in
      (Some t.0, e ∙ ap (λ (l : List (ℕ × Option W)). (k, Some t.0) ∷ rest l) (sym e))

  pub takes_some : (k : ℕ) (m m₁ : Sat W) (t : Found region list fact k m m₁) (r : Option W) → m₁.1 ≡
      (k, r) ∷ rest m₁.1 → r ≡ Some t.0
  takes_some k m m₁ t r at =
      let y = t.0 in
      let e : (k, r) ∷ rest m₁.1 ≡ (k, Some y) ∷ m.1 = sym at ∙ ap (λ (z : Sat W). z.1) t.1 in
      let p : ◌≡◌ {A = ℕ × Option W} (k, r) (k, Some y) = cc in
      ap (λ (z : ℕ × Option W). z.1) p

  abbrev pub Taken : ℕ → Sat W → Sat W → W → Type 0
  Taken k m₀ m₂ x = (m₂ ≡ (noting m₀.0 (suc k) (list x), (k, None) ∷ [])) × (fact x × (region x ≡ suc k)) ×
      ((last_stamp (list x) ≤ most) × (m₀.0.last ≤ most))

  pub takes_done : (k n : ℕ) (m₀ m m₁ m₂ : Sat W) → Found region list fact k m m₁ → m ≡ m₀ → IsResting n m₀ →
      (r : Option W) → m₁.1 ≡ (k, r) ∷ rest m₁.1 → m₂ ≡ (m₁.0, (k, None) ∷ rest m₁.1) → (x : W) → r ≡ Some x
      → Taken k m₀ m₂ x
  takes_done k n m₀ m m₁ m₂ t same rests r at after x is =
      let y = t.0 in
      let q : r ≡ Some y = takes_some k m m₁ t r at in
      let here : y ≡ x = cc in
      let none-left : rest m₁.1 ≡ [] = ap (λ (z : Sat W). rest z.1) t.1 ∙
      (ap (λ (z : Sat W). z.1) same ∙ ap (λ (z : Sat W). z.1) rests) in
      let view-is : m₁.0 ≡ noting m₀.0 (suc k) (list x) = ap (λ (z : Sat W). z.0) t.1 ∙
      (λ i. noting (same i).0 (suc k) (list (here i))) in
      let low-list : last_stamp (list x) ≤ most = subst (λ (z : W). last_stamp (list z) ≤ most) here t.4 in
      let low-own : m₀.0.last ≤ most = subst (λ (z : Sat W). z.0.last ≤ most) same t.5 in (
        after ∙ (λ i. (view-is i, (k, None) ∷ none-left i)),
        (
          subst fact here t.2,
          subst
              (λ (z : W). region z ≡ suc k) here t.3,
        ),
        (low-list, low-own),
      )
