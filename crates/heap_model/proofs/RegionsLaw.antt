-- A history is legal exactly where its restriction to each region is.
use Rattle.std.proofs.Common.{◌≡◌, ℕ, ◌≤◌, cond, List, [], ◌∷◌, refl, ap, sym, subst, eq-eqb, ne_eqb}
use Rattle.std.proofs.lemmas.Bool.{cases_eq}
use Rattle.std.proofs.Common.{◌⊎◌, inl, inr}
use Rattle.heap_model.specs.Answers.{Words}
use Rattle.heap_model.specs.Layouts.{Layouts}
use Rattle.heap_model.specs.Legal.{Meets, after, IsLegalFrom, of_region, InRegions}
use Rattle.heap_model.proofs.Regional.{within, Answers-within, next-within, next-elsewhere}
use Rattle.heap_model.specs.declared.calls.Entry.{Entry}

-- the restriction of a history with an entry in front
pub of_region-here : (r : ℕ) (e : Entry) (es : List Entry) → e.region ≡ r → of_region r (e ∷ es) ≡ e ∷ of_region r es
of_region-here r e es same = ap (λ b. cond b (e ∷ of_region r es) (of_region r es)) (eq-eqb _ _ same)

pub of_region-there : (r : ℕ) (e : Entry) (es : List Entry) → (e.region ≡ r → ⊥) → of_region r (e ∷ es) ≡ of_region r es
of_region-there r e es other = ap (λ b. cond b (e ∷ of_region r es) (of_region r es)) (ne_eqb _ _ other)

module _ (layouts : Layouts) where
  -- the entry's rules are those of its region's objects alone
  Meets-within : (h : Words) (e : Entry) → Meets layouts h e → Meets layouts (within e.region h) e
  Meets-within h e m = record { fits = m.fits; types = m.types; region_is = m.region_is; answers = (Answers-within e.region h layouts e.call e.reply m.region_is).1 m.answers }

  Meets-from : (h : Words) (e : Entry) → Meets layouts (within e.region h) e → Meets layouts h e
  Meets-from h e m = record { fits = m.fits; types = m.types; region_is = m.region_is; answers = (Answers-within e.region h layouts e.call e.reply m.region_is).0 m.answers }

  after-here : (h : Words) (e : Entry) → Meets layouts h e → within e.region (after h e) ≡ after (within e.region h) e
  after-here h e m = next-within e.region h layouts e.worker e.number e.call e.reply m.answers

  after-there : (q : ℕ) (h : Words) (e : Entry) → (e.region ≡ q → ⊥) → Meets layouts h e → within q (after h e) ≡ within q h
  after-there q h e other m = next-elsewhere e.region h q other layouts e.worker e.number e.call e.reply m.region_is m.answers

  -- an entry in front, of any region
  put_in_front : (r : ℕ) (h : Words) (e : Entry) (es : List Entry) → Meets layouts h e
      → IsLegalFrom layouts (within r (after h e)) (of_region r es) → IsLegalFrom layouts (within r h) (of_region r (e ∷ es))
  put_in_front r h e es m rest = go (cases_eq e.region r)
    where
      go : (e.region ≡ r) ⊎ (e.region ≡ r → ⊥) → IsLegalFrom layouts (within r h) (of_region r (e ∷ es))
      go (inl same) =
          subst (IsLegalFrom layouts (within r h)) (sym (of_region-here r e es same)) (
            subst (λ q. Meets layouts (within q h) e) same (Meets-within h e m),
            subst (λ g. IsLegalFrom layouts g (of_region r es)) (subst (λ q. within q (after h e) ≡ after (within q h) e) same (after-here h e m)) rest,
          )
      go (inr other) =
          subst (IsLegalFrom layouts (within r h)) (sym (of_region-there r e es other))
          (subst (λ g. IsLegalFrom layouts g (of_region r es)) (after-there r h e other m) rest)

  -- and taken away
  here : (h : Words) (e : Entry) (es : List Entry) → IsLegalFrom layouts (within e.region h) (of_region e.region (e ∷ es))
      → Meets layouts (within e.region h) e × IsLegalFrom layouts (after (within e.region h) e) (of_region e.region es)
  here h e es l = subst (IsLegalFrom layouts (within e.region h)) (of_region-here e.region e es refl) l

  taken_away : (r : ℕ) (h : Words) (e : Entry) (es : List Entry) → Meets layouts h e
      → IsLegalFrom layouts (within r h) (of_region r (e ∷ es)) → IsLegalFrom layouts (within r (after h e)) (of_region r es)
  taken_away r h e es m l = go (cases_eq e.region r)
    where
      go : (e.region ≡ r) ⊎ (e.region ≡ r → ⊥) → IsLegalFrom layouts (within r (after h e)) (of_region r es)
      go (inl same) = subst (λ q. IsLegalFrom layouts (within q (after h e)) (of_region q es)) same
          (subst (λ g. IsLegalFrom layouts g (of_region e.region es)) (sym (after-here h e m))
          (here h e es (subst (λ q. IsLegalFrom layouts (within q h) (of_region q (e ∷ es))) (sym same) l)).1)
      go (inr other) = subst (λ g. IsLegalFrom layouts g (of_region r es)) (sym (after-there r h e other m))
          (subst (IsLegalFrom layouts (within r h)) (of_region-there r e es other) l)

  pub restricted : (r : ℕ) (h : Words) (es : List Entry) → IsLegalFrom layouts h es → IsLegalFrom layouts (within r h) (of_region r es)
  restricted r h [] l = tt
  restricted r h (e ∷ es) l = put_in_front r h e es l.0 (restricted r (after h e) es l.1)

  pub joined : (h : Words) (es : List Entry) → InRegions es → ((r : ℕ) → 1 ≤ r → r ≤ 27 → IsLegalFrom layouts (within r h) (of_region r es)) → IsLegalFrom layouts h es
  joined h [] in' all = tt
  joined h (e ∷ es) in' all =
      let m = Meets-from h e (here h e es (all e.region in'.0 in'.1)).0 in
      (m, joined (after h e) es in'.2 (λ r lo hi. taken_away r h e es m (all r lo hi)))
