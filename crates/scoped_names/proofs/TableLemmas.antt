-- What the fields of `Names` keep, as names come and go.
use Rattle.std.proofs.Common.{◌≡◌, ◌≢◌, ℕ, zero, suc, ◌<◌, ◌≤◌, List, [], ◌∷◌, ◌++◌, length, Option, Some, None, true, cond, inl, inr, refl, sym, ap, subst, ◌∙◌, append_assoc, append-nil, ⊎_elim, set, get_or, get_or-set_same, get_or-set_other, arith}
use Rattle.std.specs.Prelude.{nat_eq}
use Rattle.std.proofs.lemmas.Bool.{cases_Bool, cond-true, cond-false, eqb-false}
use Rattle.std.proofs.lemmas.Bool.Decides.{Decides-eqb}
use Rattle.scoped_names.specs.declared.names.Declared.{Declared}
use Rattle.scoped_names.specs.Names.{last_place}
use Rattle.scoped_names.specs.Places.{place_of}
use Rattle.scoped_names.specs.Scoping.{names_of, HideEarlier, IsKept}
use Rattle.scoped_names.proofs.NameLemmas.{last_place-none, last_place-push}

-- ---- a change of the table at one name

pub same_name : (a b : ℕ) → nat_eq a b ≡ true → a ≡ b
same_name a b h = (Decides-eqb a b).0 h

-- The table after a change has this at the name, and at other names what it had.
abbrev pub Changes : List (Option ℕ) → List (Option ℕ) → ℕ → Option ℕ → Type 0
Changes old new name what = (other : ℕ) → place_of new other ≡ cond (nat_eq name other) what (place_of old other)

pub changes : (old : List (Option ℕ)) (name : ℕ) (what : Option ℕ) → name < length old → Changes old (set old name what) name what
changes old name what within other =
    ⊎_elim
    (λ y. subst (λ n. get_or (set old name what) n None ≡ what) (same_name name other y) (get_or-set_same old name what None within)
    ∙ sym (cond-true (nat_eq name other) what (place_of old other) y))
    (λ n. let apart : other ≢ name = λ e. eqb-false name other n (sym e) in
    get_or-set_other old name other what None apart ∙ sym (cond-false (nat_eq name other) what (place_of old other) n))
    (cases_Bool (nat_eq name other))

-- ---- the names

pub names-push : (declared : List Declared) (new : Declared) → names_of (declared ++ new ∷ []) ≡ names_of declared ++ new.name ∷ []
names-push [] new = refl
names-push (d ∷ ds) new = ap (λ l. d.name ∷ l) (names-push ds new)

pub length-names : (declared : List Declared) → length (names_of declared) ≡ length declared
length-names [] = refl
length-names (d ∷ ds) = ap suc (length-names ds)

hide-push : (earlier : List ℕ) (declared : List Declared) (new : Declared) → HideEarlier earlier declared →
    new.hides ≡ last_place (earlier ++ names_of declared) new.name → HideEarlier earlier (declared ++ new ∷ [])
hide-push earlier [] new h hides = (hides ∙ ap (λ l. last_place l new.name) (append-nil earlier), tt)
hide-push earlier (d ∷ ds) new h hides = (
  h.0,
  hide-push (earlier ++ d.name ∷ []) ds new h.1
      (hides ∙ ap (λ l. last_place l new.name) (sym (append_assoc earlier (d.name ∷ []) (names_of ds)))),
)

hide-pop : (earlier : List ℕ) (declared : List Declared) (new : Declared) → HideEarlier earlier (declared ++ new ∷ []) →
    HideEarlier earlier declared × (new.hides ≡ last_place (earlier ++ names_of declared) new.name)
hide-pop earlier [] new h = (tt, h.0 ∙ ap (λ l. last_place l new.name) (sym (append-nil earlier)))
hide-pop earlier (d ∷ ds) new h =
    let r = hide-pop (earlier ++ d.name ∷ []) ds new h.1 in
    ((h.0, r.0), r.1 ∙ ap (λ l. last_place l new.name) (append_assoc earlier (d.name ∷ []) (names_of ds)))

-- ---- what is kept

pub kept_none : IsKept [] []
kept_none = record { latest = λ name. sym (last_place-none name); hidden = tt }

pub kept_same : (old new : List (Option ℕ)) (declared : List Declared) → IsKept old declared →
    ((other : ℕ) → place_of new other ≡ place_of old other) → IsKept new declared
kept_same old new declared kept same = record { latest = λ name. same name ∙ kept.latest name; hidden = kept.hidden }

pub kept_push : (old new : List (Option ℕ)) (declared : List Declared) (more : Declared) → IsKept old declared →
    Changes old new more.name (Some (length declared)) → more.hides ≡ place_of old more.name → IsKept new (declared ++ more ∷ [])
kept_push old new declared more kept change hides = record {
  latest = λ name.
      let here : Some (length declared) ≡ Some (length (names_of declared)) = ap (λ n. Some n) (sym (length-names declared)) in
      change name ∙ rw (here, kept.latest name) (sym (last_place-push (names_of declared) more.name name))
      ∙ ap (λ l. last_place l name) (sym (names-push declared more));
  hidden = hide-push [] declared more kept.hidden (hides ∙ kept.latest more.name);
}

pub kept_pop : (old new : List (Option ℕ)) (declared : List Declared) (last : Declared) → IsKept old (declared ++ last ∷ []) →
    Changes old new last.name last.hides → IsKept new declared
kept_pop old new declared last kept change =
    let (before, hides) = hide-pop [] declared last kept.hidden in
    record {
      latest = λ name.
          let was = kept.latest name ∙ ap (λ l. last_place l name) (names-push declared last) ∙ last_place-push (names_of declared) last.name name in
          elim (cases_Bool (nat_eq last.name name)) [
            | inl y ↦ change name ∙ cond-true (nat_eq last.name name) last.hides (place_of old name) y
                ∙ hides ∙ ap (λ l. last_place (names_of declared) l) (same_name last.name name y)
            | inr n ↦ change name ∙ cond-false (nat_eq last.name name) last.hides (place_of old name) n
                ∙ was ∙ cond-false (nat_eq last.name name) (Some (length (names_of declared))) (last_place (names_of declared) name) n
          ];
      hidden = before;
    }

get_or-past : (places : List (Option ℕ)) (name : ℕ) → length places ≤ name → place_of places name ≡ None
get_or-past [] name past = refl
get_or-past (p ∷ places) zero past = absurd (omega arith)
get_or-past (p ∷ places) (suc name) past = let less : length places ≤ name = omega arith in get_or-past places name less

-- the table reaches the last name
pub last_within : (old : List (Option ℕ)) (declared : List Declared) (last : Declared) → IsKept old (declared ++ last ∷ []) → last.name < length old
last_within old declared last kept =
    let was = kept.latest last.name ∙ ap (λ l. last_place l last.name) (names-push declared last)
    ∙ last_place-push (names_of declared) last.name last.name
    ∙ cond-true (nat_eq last.name last.name) (Some (length (names_of declared))) (last_place (names_of declared) last.name) ((Decides-eqb last.name last.name).1 refl) in
    let some : (length old ≤ last.name) → ⊥ = λ past. (let none = get_or-past old last.name past in cc) in
    omega (arith, some)
