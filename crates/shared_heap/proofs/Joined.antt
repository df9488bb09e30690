-- What regions and passes keep makes one history.
use Rattle.std.proofs.Common.{◌≡◌, ◌≢◌, ℕ, suc, ◌+◌, ◌<◌, ◌≤◌, List, [], map, length, get_or, sym, ap, ◌∙◌, subst, arith, ◌⊎◌, inl, inr}
use Rattle.std.specs.List.{All, AllPairs, AllByRecursion}
use Rattle.std.proofs.lemmas.List.Elements.{All-from_recursion}
use mathlib.Core.Option.{some}
use lib.ListN.{get_elem?}
use Rattle.c_types.specs.Table.{Types}
use Rattle.heap_model.specs.History.{Log}
use Rattle.heap_model.specs.Layouts.{layouts_of}
use Rattle.heap_model.specs.Legal.{of_region, own, CountsFrom, InRegions, IsLegal}
use Rattle.heap_model.specs.Order.{StampsRise, ArePasses, IsRecord}
use Rattle.heap_model.specs.Restricted.{RestrictionsLaw}
use Rattle.heap_model.specs.declared.calls.Entry.{Entry}
use Rattle.clock_order.specs.Parts.{by_region, AreApart, Extends}
use Rattle.region_lock.specs.Closing.{Closes}
use Rattle.region_lock.specs.Entries.{IsMadeBy}
use Rattle.region_lock.specs.Known.{Known}
use Rattle.shared_heap.specs.Closing.{made_by, AreHistoriesOf}
use Rattle.shared_heap.specs.Regions.{Region, fresh_regions, rules_of}
use Rattle.shared_heap.specs.declared.rules.Rules.{Rules}
use Rattle.shared_heap.proofs.Parts.{IsPartOf, IsNoPart, IsPassOf, IsNoPass, at-get_or, each, history-at, in-order, length-histories, made-at, outside, part-of, pass-of}
use Rattle.shared_heap.proofs.Starts.{rules-of_region}

-- what is known of the regions' histories, which stand in order from region 1 on
pub record AreClosed (types : Types) (ps : List Known) (parts : List Log) : Type 0 where
  pub regions : (k : ℕ) (h : Log) → get_elem? parts k ≡ some h → AllByRecursion (λ e. e.region ≡ suc k) h.entries
  pub stamps : (k : ℕ) (h : Log) → get_elem? parts k ≡ some h → StampsRise h.entries
  pub legal : (k : ℕ) (h : Log) → get_elem? parts k ≡ some h → IsLegal (layouts_of types) h.entries
  pub same : (j : ℕ) (p : Known) → get_elem? ps j ≡ some p → (k : ℕ) (h : Log) → get_elem? parts k ≡ some h
      → own h.entries p.worker ≡ of_region (suc k) p.list
  pub others : (m : ℕ) → AllByRecursion (λ p. p.worker ≢ m) ps → (k : ℕ) (h : Log) → get_elem? parts k ≡ some h
      → own h.entries m ≡ []
  pub made : (j : ℕ) (p : Known) → get_elem? ps j ≡ some p → IsMadeBy p.worker (length parts) p.list
  pub distinct : (i j : ℕ) (p q : Known) → get_elem? ps i ≡ some p → get_elem? ps j ≡ some q
      → p.worker ≡ q.worker → i ≡ j

pub closed : (types : Types) (plains : List Rules) (ps : List Known) (regions : List Region) (parts : List Log)
    → plains ≡ map rules_of (fresh_regions types)
    → Closes (λ (r : Region). r.number) (λ r. r.entries) rules_of plains ps regions
    → AreHistoriesOf regions parts → AreClosed types ps parts
closed types plains ps regions parts are c all =
    let long = length-histories regions parts all in
    record {
      regions = λ k h e. let f = history-at regions parts all k h e in
          subst (λ (l : List Entry). AllByRecursion (λ e. e.region ≡ suc k) l) (sym f.2.entries)
          (c.listed k f.0 f.1).1;
      stamps = λ k h e. let f = history-at regions parts all k h e in
          subst StampsRise (sym f.2.entries) (c.listed k f.0 f.1).0;
      legal = λ k h e. let f = history-at regions parts all k h e in
          subst (λ (t : Types). IsLegal (layouts_of t) h.entries) (types-at k f.0 f.1) f.2.legal;
      same = λ j p at k h e. let f = history-at regions parts all k h e in
          ap (λ (l : List Entry). own l p.worker) f.2.entries ∙ c.parts j p at k f.0 f.1;
      others = λ m none k h e. let f = history-at regions parts all k h e in
          ap (λ (l : List Entry). own l m) f.2.entries ∙ c.others m none k f.0 f.1;
      made = λ j p at. subst (λ (n : ℕ). IsMadeBy p.worker n p.list) long (c.made j p at);
      distinct = c.distinct;
    }
  where
    types-at : (k : ℕ) (r : Region) → get_elem? regions k ≡ some r → r.types ≡ types
    types-at k r e = ap (λ (p : Rules). p.table)
        (rules-of_region types k (rules_of r) (ap (λ (l : List Rules). get_elem? l k) (sym are) ∙ c.plain_data k r e))

module _ (types : Types) (ps : List Known) (parts : List Log) (c : AreClosed types ps parts) where
  -- ---- what a merge asks for

  region-at : (k : ℕ) (d : Log) → k < length parts → AllByRecursion (λ e. e.region ≡ suc k) (get_or parts k d).entries
  region-at k d below = c.regions k (get_or parts k d) (at-get_or parts k d below)

  pub apart : AllPairs AreApart parts
  apart i j d first below =
      let xs = (get_or parts i d).entries in
      let ys = (get_or parts j d).entries in
      let a : AllByRecursion (λ (e : Entry). e.region ≡ suc i) xs = region-at i d (omega (arith, first, below)) in
      let b : AllByRecursion (λ (f : Entry). f.region ≡ suc j) ys = region-at j d below in
      let far : (e : Entry) → e.region ≡ suc i → All (λ (f : Entry). e.region ≢ f.region) ys =
      (λ e is. All-from_recursion (λ (f : Entry). e.region ≢ f.region) ys
      (each {P = λ (f : Entry). f.region ≡ suc j} {Q = λ (f : Entry). e.region ≢ f.region} ys
      (λ f at. (λ same. absurd (omega (arith, is, at, same, first)))) b)) in
      All-from_recursion (λ (e : Entry). All (λ (f : Entry). e.region ≢ f.region) ys) xs
      (each {P = λ (e : Entry). e.region ≡ suc i} {Q = λ (e : Entry). All (λ (f : Entry). e.region ≢ f.region) ys} xs far a)

  pub rise : All (λ (p : Log). StampsRise p.entries) parts
  rise k d below = c.stamps k (get_or parts k d) (at-get_or parts k d below)

  -- ---- what regions and passes keep

  found : (r : ℕ) → IsPartOf 0 parts r ⊎ IsNoPart 0 parts r
  found r = part-of 0 parts (in-order 0 parts (λ k h e.
      let place : suc k ≡ suc (0 + k) = omega arith in
      subst (λ (q : ℕ). AllByRecursion (λ e. e.region ≡ q) h.entries) place (c.regions k h e))) r

  part-keeps : (P : List Entry → Type 0) → P [] → ((k : ℕ) (h : Log) → get_elem? parts k ≡ some h → P h.entries)
      → (r : ℕ) → P (by_region parts r)
  part-keeps P none one r = go (found r)
    where
      go : IsPartOf 0 parts r ⊎ IsNoPart 0 parts r → P (by_region parts r)
      go (inl f) = subst P (sym f.4) (one f.0 f.1 f.2)
      go (inr f) = subst P (sym f.0) none

  pass-keeps : (P : List Entry → Type 0) → P [] → ((j : ℕ) (p : Known) → get_elem? ps j ≡ some p → P p.list)
      → (w : ℕ) → P (made_by ps w)
  pass-keeps P none one w = go (pass-of ps w)
    where
      go : IsPassOf ps w ⊎ IsNoPass ps w → P (made_by ps w)
      go (inl f) = subst P (sym f.4) (one f.0 f.1 f.2)
      go (inr f) = subst P (sym f.1) none

  in-both : (w r : ℕ) → IsPartOf 0 parts r ⊎ IsNoPart 0 parts r → IsPassOf ps w ⊎ IsNoPass ps w
      → own (by_region parts r) w ≡ of_region r (made_by ps w)
  in-both w r (inl f) (inl g) =
      let place : suc f.0 ≡ r = omega (arith, f.3) in
      ap (λ (l : List Entry). own l w) f.4
      ∙ ap (own f.1.entries) (sym g.3)
      ∙ c.same g.0 g.1 g.2 f.0 f.1 f.2
      ∙ ap (λ (q : ℕ). of_region q g.1.list) place
      ∙ ap (of_region r) (sym g.4)
  in-both w r (inl f) (inr g) =
      ap (λ (l : List Entry). own l w) f.4 ∙ c.others w g.0 f.0 f.1 f.2 ∙ ap (of_region r) (sym g.1)
  in-both w r (inr f) (inl g) =
      ap (λ (l : List Entry). own l w) f.0
      ∙ sym (outside (length parts) r g.1.list (c.made g.0 g.1 g.2).inside (near f.1))
      ∙ ap (of_region r) (sym g.4)
    where
      near : (r ≤ 0) ⊎ (0 + length parts < r) → (r ≤ 0) ⊎ (length parts < r)
      near (inl low) = inl low
      near (inr high) = inr (omega (arith, high))
  in-both w r (inr f) (inr g) = ap (λ (l : List Entry). own l w) f.0 ∙ ap (of_region r) (sym g.1)

  pub passes : ArePasses (layouts_of types) (by_region parts) (made_by ps)
  passes = record {
    legal = part-keeps (IsLegal (layouts_of types)) tt c.legal;
    region_stamps = part-keeps StampsRise tt c.stamps;
    pass_stamps = pass-keeps StampsRise tt (λ j p at. (c.made j p at).rises);
    numbers = pass-keeps (CountsFrom 0) tt (λ j p at. (c.made j p at).numbered);
    same = λ w r. in-both w r (found r) (pass-of ps w);
  }

  -- ---- the one history

  pub recorded : (history : List Entry) → Extends (by_region parts) history
      → IsRecord (layouts_of types) (made_by ps) history
  recorded history extends = (extends (layouts_of types) (made_by ps) passes).recorded

  pub owns : (history : List Entry) → Extends (by_region parts) history
      → All (λ (p : Known). own history p.worker ≡ p.list) ps
  owns history extends k d below =
      let p = get_or ps k d in
      (recorded history extends).own_is p.worker ∙ made-at ps c.distinct k p (at-get_or ps k d below)

  pub in-regions : RestrictionsLaw → (history : List Entry) → Extends (by_region parts) history → InRegions history
  in-regions law history extends = ((law (layouts_of types) history).0 (recorded history extends).legal).0
