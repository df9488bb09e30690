-- An access that is no report is inside its reach and inside its object, and what a check finds are the preferred bounds.
use Rattle.std.proofs.Common.{◌≡◌, ℕ, ◌+◌, ◌%◌, ◌≤◌, Bool, true, false, cond, ◌&&◌, ◌==◌, List, [], ◌∷◌, ◌++◌, length, Option, Some, None, refl, sym, ap, ◌∙◌, subst}
use Rattle.std.specs.Prelude.{nat_le, IsFalse}
use Rattle.std.proofs.lemmas.Bool.{leb-true, eqb-true, and_parts}
use Rattle.std.proofs.lemmas.Option.{same_Some, none-some}
use Rattle.type_layout.specs.declared.preference.Bounds as bounds
use Rattle.slot_headers.specs.Words.{address_of, version_of}
use Rattle.slot_headers.specs.Cells.{cells_at}
use Rattle.heap_model.specs.Cells.{Act, Loads, Stores, Adds, width, access_report, report_or, outcome_inside, access_outcome}
use Rattle.heap_model.specs.Heap.{Body, access_at, empty}
use Rattle.heap_model.specs.Layouts.{Layouts}
use Rattle.heap_model.specs.Answers.{Words, access, answer, answer_by, live_in, reply, offset, is_inside, datum, check_reply, found_reply, first_byte}
use Rattle.heap_model.specs.Legal.{Answers, IsLegal, IsLegalFrom, Meets, after, replay}
use Rattle.heap_model.specs.Performed.{Access, access_of, is_report, IsInside, AreFound, AccessesLaw, FoundLaw}
use Rattle.heap_model.specs.declared.calls.AccessKind.{AccessKind}
use Rattle.heap_model.specs.declared.calls.Reach.{Reach}
use Rattle.heap_model.specs.declared.calls.Call.{Call}
use Rattle.heap_model.specs.declared.calls.Call.TheVariants.{Alloc, Free as Frees, Load, Store, Add, Check}
use Rattle.heap_model.specs.declared.calls.Reply.{Reply}
use Rattle.heap_model.specs.declared.calls.Reply.TheVariants.{Report, Found}
use Rattle.heap_model.specs.declared.calls.ReportKind.{ReportKind}
use Rattle.heap_model.specs.declared.calls.ReportKind.TheVariants.{WrongType, Null, Free, Bounds, Align}
use Rattle.heap_model.specs.declared.calls.Entry.{Entry}

-- ---- one access

placed-fits : (inside : Bool) (k w size : ℕ) → access_report inside k w size ≡ None → (inside ≡ true) × (k + w ≤ size) × (k % w ≡ 0)
unfolding access_report
placed-fits inside k w size e = go inside (nat_le (k + w) size) (k % w == 0) refl refl refl
  where
    wrong : (f : ReportKind) → Some f ≡ None → ⊥
    wrong f e = cc

    go : (a b c : Bool) → inside ≡ a → nat_le (k + w) size ≡ b → k % w == 0 ≡ c → (inside ≡ true) × (k + w ≤ size) × (k % w ≡ 0)
    go true true true x y z = (x, leb-true _ _ y, eqb-true _ _ z)
    go true true false x y z = absurd (wrong Align ((λ i. cond (sym x i && sym y i) (cond (sym z i) None (Some Align)) (Some Bounds)) ∙ e))
    go true false c x y z = absurd (wrong Bounds ((λ i. cond (sym x i && sym y i) (cond (k % w == 0) None (Some Align)) (Some Bounds)) ∙ e))
    go false b c x y z = absurd (wrong Bounds ((λ i. cond (sym x i && nat_le (k + w) size) (cond (k % w == 0) None (Some Align)) (Some Bounds)) ∙ e))

not_found : (f : ReportKind) (reach : Reach) → Report f ≡ Found reach → ⊥
not_found f reach e = cc

reach_of : Reach → Reply → Reach
reach_of r (Found s) = s
reach_of r _ = r

same_Found : (r s : Reach) → Found r ≡ Found s → r ≡ s
unfolding reach_of
same_Found r s e = ap (reach_of r) e

not_report : (f : ReportKind) → is_report (Report f) ≡ false → ⊥
not_report f e = cc

pub placed : (h : Words) (p : ℕ) (reach : Reach) (kind : AccessKind) (act : Act ℕ) → is_report (access (live_in h) p reach kind act) ≡ false
    → IsInside h (record { word = p; reach = reach; kind = kind })
unfolding access access_outcome
placed h p reach kind act fine = go (version_of p == 0) (live_in h reach.lo p) refl fine
  where
    inside : Bool
    inside = is_inside reach (address_of p) (width kind)

    at : (b : Body ℕ) → live_in h reach.lo p ≡ Some b → (m : Option ReportKind) → access_report inside (offset reach.lo p) (width kind) (length b.cells) ≡ m
        → is_report (reply (report_or m (outcome_inside kind act (cells_at (offset reach.lo p) (width kind) b.cells)))) ≡ false
        → IsInside h (record { word = p; reach = reach; kind = kind })
    at b found None e fine =
        let ok = placed-fits inside (offset reach.lo p) (width kind) (length b.cells) e in
        let ends = and_parts _ _ ok.0 in
        record { body = b; named = found; from = leb-true _ _ ends.0; to = leb-true _ _ ends.1; in_object = ok.1; aligned = ok.2 }
    at b found (Some f) e fine = absurd (not_report f fine)

    go : (null : Bool) (o : Option (Body ℕ)) → live_in h reach.lo p ≡ o
        → is_report (cond null (Report Null) (reply (access_at inside (offset reach.lo p) kind act o))) ≡ false
        → IsInside h (record { word = p; reach = reach; kind = kind })
    go true o found fine = absurd (not_report Null fine)
    go false None found fine = absurd (not_report Free fine)
    go false (Some b) found fine = at b found (access_report inside (offset reach.lo p) (width kind) (length b.cells)) refl fine

-- ---- an entry of a legal history

module _ (layouts : Layouts) where
  pub met : (h : Words) (before later : List Entry) (e : Entry) → IsLegalFrom layouts h (before ++ e ∷ later) → Meets layouts (replay h before) e
  met h [] later e legal = legal.0
  met h (f ∷ before) later e legal = met (after h f) before later e legal.1

  at_access : (h : Words) (p : ℕ) (reach : Reach) (kind : AccessKind) (act : Act ℕ) (given : Reply) (at : Access)
      → given ≡ access (live_in h) p reach kind act → Some (record { word = p; reach = reach; kind = kind }) ≡ Some at → is_report given ≡ false → IsInside h at
  at_access h p reach kind act given at e same fine =
      subst (IsInside h) (same_Some _ _ same) (placed h p reach kind act (ap is_report (sym e) ∙ fine))

  no_access : (h : Words) (at : Access) → None ≡ Some at → IsInside h at
  no_access h at e = absurd (none-some at e)

  answered : (h : Words) (r : ℕ) (call : Call) (given : Reply) (at : Access) → Answers layouts h r call given → access_of call ≡ Some at → is_report given ≡ false → IsInside h at
  unfolding Answers answer_by
  answered h r (Alloc elem size fixed) given at e same fine = no_access h at same
  answered h r (Frees p fixed) given at e same fine = no_access h at same
  answered h r (Check p want) given at e same fine = no_access h at same
  answered h r (Load p reach kind) given at e same fine = at_access h p reach kind Loads given at e same fine
  answered h r (Store p reach kind v) given at e same fine = at_access h p reach kind (Stores (datum v)) given at e same fine
  answered h r (Add p reach kind n) given at e same fine = at_access h p reach kind (Adds n) given at e same fine

  -- ---- a check

  looked_up : (h : Words) (p want first k : ℕ) (b : Body ℕ) (reach : Reach) → live_in h (address_of p) p ≡ Some b → first ≡ first_byte (address_of p) → k ≡ offset (address_of p) p
      → (o : Option bounds.Bounds) → layouts.preferred b.elem (length b.cells) k want ≡ o → found_reply first o ≡ Found reach → AreFound layouts h p want reach
  looked_up h p want first k b reach named at_first at_k None e given = absurd (not_found WrongType reach given)
  looked_up h p want first k b reach named at_first at_k (Some o) e given =
      let same = same_Found _ _ given in
      record {
        body = b;
        named = named;
        bounds = o;
        are_preferred = ap (λ k. layouts.preferred b.elem (length b.cells) k want) (sym at_k) ∙ e;
        from = ap (λ r. r.lo) (sym same) ∙ ap (λ f. f + o.lo) at_first;
        to = ap (λ r. r.hi) (sym same) ∙ ap (λ f. f + o.hi) at_first;
      }

  checked : (h : Words) (p want : ℕ) (reach : Reach) → answer layouts h (Check p want) ≡ Found reach → AreFound layouts h p want reach
  unfolding answer_by
  checked h p want reach given = go (version_of p == 0) (live_in h (address_of p) p) refl given
    where
      go : (null : Bool) (o : Option (Body ℕ)) → live_in h (address_of p) p ≡ o
          → cond null (Report Null) (check_reply layouts (offset (address_of p) p) (first_byte (address_of p)) want o) ≡ Found reach → AreFound layouts h p want reach
      go true o named given = absurd (not_found Null reach given)
      go false None named given = absurd (not_found Free reach given)
      go false (Some b) named given = looked_up h p want _ _ b reach named refl refl _ refl given

  -- ---- the laws

  pub accesses : (before later : List Entry) (e : Entry) (at : Access) → IsLegal layouts (before ++ e ∷ later)
      → access_of e.call ≡ Some at → IsFalse (is_report e.reply) → IsInside (replay empty before) at
  accesses before later e at legal same fine =
      let m = met empty before later e legal in
      answered (replay empty before) e.region e.call e.reply at m.answers same fine

  pub finds : (before later : List Entry) (e : Entry) (word want : ℕ) (reach : Reach) → IsLegal layouts (before ++ e ∷ later)
      → e.call ≡ Check word want → e.reply ≡ Found reach → AreFound layouts (replay empty before) word want reach
  unfolding Answers
  finds before later e word want reach legal call given =
      let m = met empty before later e legal in
      let A : Call → Type 0 = λ c. Answers layouts (replay empty before) e.region c e.reply in
      let a : e.reply ≡ answer layouts (replay empty before) (Check word want) = subst A call m.answers in
      checked (replay empty before) word want reach (sym a ∙ given)

pub accesses_law : AccessesLaw
accesses_law layouts before later e at legal same fine = accesses layouts before later e at legal same fine

pub found_law : FoundLaw
found_law layouts before later e word want reach legal call given = finds layouts before later e word want reach legal call given
