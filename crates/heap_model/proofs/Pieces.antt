-- Each aligned piece of each live object is whole.
use Rattle.std.proofs.Common.{◌≡◌, ℕ, zero, suc, ◌+◌, ◌-◌, ◌*◌, ◌/◌, ◌%◌, ◌<◌, ◌≤◌, Bool, true, false, cond, not, ◌==◌, ◌||◌, List, [], ◌∷◌, ◌++◌, map, length, filter, find, take, drop, option_map, Option, Some, None, inl, inr, refl, sym, ap, ◌∙◌, subst, arith, length-take, length-drop}
use Rattle.std.specs.Prelude.{nat_lt}
use Rattle.std.proofs.lemmas.Bool.{ltb-true, ltb-false}
use Rattle.std.proofs.lemmas.Option.{same_Some, none-some}
use Rattle.std.proofs.lemmas.List.{length-map}
use Rattle.std.specs.List.{AllByRecursion}
use Rattle.lowfat_regions.specs.Regions.{Slot, slot_of}
use Rattle.slot_headers.specs.Words.{address_of, version_of}
use Rattle.slot_headers.specs.Cells.{Cell, Byte, Part, bytes, zeros, number_in, parts, cells_at, put, without_mark, without_pointer}
use Rattle.heap_model.specs.Cells.{Number, Pointer, Act, Stores, Adds, width, cells_after_store, cells_after_add, access_cells}
use Rattle.heap_model.specs.Heap.{Body, Object, empty, live_body, live_count, with_cells_if}
use Rattle.heap_model.specs.Answers.{Name, Words, is_at, names, offset, datum, access, answer_by, live_in, new_object, after_access, next}
use Rattle.heap_model.specs.Layouts.{Layouts}
use Rattle.heap_model.specs.Forms.{may_store, fits_call}
use Rattle.heap_model.specs.Legal.{Answers, IsLegalFrom, after, replay}
use Rattle.heap_model.specs.Performed.{is_report}
use Rattle.heap_model.specs.Pieces.{IsByte, IsWhole, all_bytes, one_pointer, HasWholePieces, PiecesLaw}
use Rattle.heap_model.specs.declared.calls.AccessKind.{AccessKind}
use Rattle.heap_model.specs.declared.calls.AccessKind.TheVariants.{I8, U8, I16, U16, I32, U32, Ptr, Word}
use Rattle.heap_model.specs.declared.calls.Reach.{Reach}
use Rattle.heap_model.specs.declared.calls.Value.{Value}
use Rattle.heap_model.specs.declared.calls.Call.{Call}
use Rattle.heap_model.specs.declared.calls.Call.TheVariants.{Alloc, Free, Store, Add}
use Rattle.heap_model.specs.declared.calls.Reply.{Reply}
use Rattle.heap_model.specs.declared.calls.Reply.TheVariants.{Placed, Done, Value as Moved}
use Rattle.heap_model.specs.declared.calls.Entry.{Entry}
use Rattle.heap_model.proofs.Unique.{Member, one-passes}
use Rattle.heap_model.proofs.Apart.{IsSound, sound-next, sound-empty}
use Rattle.heap_model.proofs.Merge.{all-filter}
use Rattle.heap_model.proofs.Performed.{placed}
use Rattle.heap_model.proofs.CellLists.{all-take, all-drop, all-replicate, all-put, at-put_before, at-put_behind, at-put_inside, put_whole, at-within}

-- ---- cells

-- a byte below 256, or a part of a pointer value
abbrev pub IsLow : Cell ℕ → Type 0
IsLow (Byte b) = b < 256
IsLow (Part i p) = Unit {0}

lows : (cells : List (Cell ℕ)) → AllByRecursion IsByte cells → AllByRecursion IsLow cells
lows [] all = tt
lows (Byte b ∷ cells) all = (all.0, lows cells all.1)
lows (Part i p ∷ cells) all = absurd all.0

pub whole-low : (cells : List (Cell ℕ)) → IsWhole cells → AllByRecursion IsLow cells
whole-low cells (all_bytes all) = lows cells all
whole-low cells (one_pointer word v e) =
    subst (AllByRecursion IsLow) (sym e) (tt, (tt, (tt, (tt, (tt, (tt, (tt, (tt, tt))))))))

-- without marks, low cells are bytes
cleared-bytes : (cells : List (Cell ℕ)) → AllByRecursion IsLow cells → AllByRecursion IsByte (map without_mark cells)
cleared-bytes [] all = tt
cleared-bytes (Byte b ∷ cells) all = (all.0, cleared-bytes cells all.1)
cleared-bytes (Part i p ∷ cells) all = (omega arith, cleared-bytes cells all.1)

bytes-below : (w n : ℕ) → AllByRecursion IsByte (bytes {P = ℕ} w n)
bytes-below zero n = tt
bytes-below (suc w) n = (omega arith, bytes-below w (n / 256))

length-bytes : (w n : ℕ) → length (bytes {P = ℕ} w n) ≡ w
length-bytes zero n = refl
length-bytes (suc w) n = ap suc (length-bytes w (n / 256))

-- cells of a pointer value hold no number
no_number : (i w : ℕ) (word : ℕ) → i < 8 → 1 ≤ w → number_in (take w (drop i (parts word))) ≡ None
no_number i zero word l h = absurd (omega arith)
no_number zero (suc w) word l h = refl
no_number (suc zero) (suc w) word l h = refl
no_number (suc (suc zero)) (suc w) word l h = refl
no_number (suc (suc (suc zero))) (suc w) word l h = refl
no_number (suc (suc (suc (suc zero)))) (suc w) word l h = refl
no_number (suc (suc (suc (suc (suc zero))))) (suc w) word l h = refl
no_number (suc (suc (suc (suc (suc (suc zero)))))) (suc w) word l h = refl
no_number (suc (suc (suc (suc (suc (suc (suc zero))))))) (suc w) word l h = refl
no_number (suc (suc (suc (suc (suc (suc (suc (suc i)))))))) (suc w) word l h = absurd (omega arith)

-- ---- an aligned access lies in one piece

pub width_some : (kind : AccessKind) → 1 ≤ width kind
width_some I8 = omega arith
width_some U8 = omega arith
width_some I16 = omega arith
width_some U16 = omega arith
width_some I32 = omega arith
width_some U32 = omega arith
width_some _ = omega arith

pub in_piece : (kind : AccessKind) (k : ℕ) → k % width kind ≡ 0 → k + width kind ≤ 8 * (k / 8) + 8
in_piece I8 k e = omega (arith, e)
in_piece U8 k e = omega (arith, e)
in_piece I16 k e = omega (arith, e)
in_piece U16 k e = omega (arith, e)
in_piece I32 k e = omega (arith, e)
in_piece U32 k e = omega (arith, e)
in_piece _ k e = omega (arith, e)

-- ---- what is put into one piece leaves the others

module _ (q k : ℕ) (new cells : List (Cell ℕ)) (low : 8 * q ≤ k) (high : k + length new ≤ 8 * q + 8)
    (pieces : HasWholePieces cells)
    (here : IsWhole (put (k - 8 * q) new (cells_at (8 * q) 8 cells))) where
  pub pieces-put : HasWholePieces (put k new cells)
  pieces-put i = go (nat_lt i q) (nat_lt q i) refl refl
    where
      go : (a b : Bool) → nat_lt i q ≡ a → nat_lt q i ≡ b → IsWhole (cells_at (8 * i) 8 (put k new cells))
      go true b x y =
          let less : i < q = ltb-true _ _ x in
          subst IsWhole (sym (at-put_behind (8 * i) 8 k new cells (omega arith))) (pieces i)
      go false true x y =
          let more : q < i = ltb-true _ _ y in
          subst IsWhole (sym (at-put_before (8 * i) 8 k new cells (omega arith))) (pieces i)
      go false false x y =
          let same : q ≡ i = omega (arith, ltb-false _ _ x, ltb-false _ _ y) in
          subst (λ p. IsWhole (cells_at (8 * p) 8 (put k new cells))) same
          (subst IsWhole (sym (at-put_inside (8 * q) 8 k new cells low high)) here)

-- ---- accesses

module _ (kind : AccessKind) (k n : ℕ) (cells : List (Cell ℕ)) (pieces : HasWholePieces cells)
    (aligned : k % width kind ≡ 0) where
  abbrev q : ℕ
  q = k / 8

  abbrev piece : List (Cell ℕ)
  piece = cells_at (8 * q) 8 cells

  abbrev number : ℕ → List (Cell ℕ)
  number n = bytes (width kind) n

  low : 8 * q ≤ k
  low = omega arith

  high : (n : ℕ) → k + length (number n) ≤ 8 * q + 8
  high n = omega (arith, in_piece kind k aligned, length-bytes (width kind) n)

  abbrev cleared : List (Cell ℕ)
  cleared = put (8 * q) (map without_mark piece) cells

  length-piece : length piece ≤ 8
  length-piece = omega (arith, length-take 8 (drop (8 * q) cells))

  cleared-here : put (8 * q - 8 * q) (map without_mark piece) piece ≡ map without_mark piece
  cleared-here =
      let none : 8 * q - 8 * q ≡ 0 = omega arith in
      ap (λ j. put j (map without_mark piece) piece) none
      ∙ put_whole (map without_mark piece) piece (length-map piece without_mark)

  all-cleared : AllByRecursion IsByte (map without_mark piece)
  all-cleared = cleared-bytes piece (whole-low piece (pieces q))

  cleared-high : 8 * q + length (map without_mark piece) ≤ 8 * q + 8
  cleared-high = omega (arith, length-map piece without_mark, length-piece)

  cleared-pieces : HasWholePieces cleared
  cleared-pieces =
      pieces-put q (8 * q) (map without_mark piece) cells (omega arith) cleared-high pieces
      (subst IsWhole (sym cleared-here) (all_bytes all-cleared))

  cleared-piece : cells_at (8 * q) 8 cleared ≡ map without_mark piece
  cleared-piece =
      at-put_inside (8 * q) 8 (8 * q) (map without_mark piece) cells (omega arith) cleared-high ∙ cleared-here

  pub pieces-number : HasWholePieces (cells_after_store kind k (Number n) cells)
  unfolding cells_after_store without_pointer
  pieces-number =
      pieces-put q k (number n) cleared low (high n) cleared-pieces
      (all_bytes (all-put IsByte (k - 8 * q) (number n) (cells_at (8 * q) 8 cleared) (bytes-below (width kind) n)
      (subst (AllByRecursion IsByte) (sym cleared-piece) all-cleared)))

  added : (old : ℕ) → number_in (cells_at k (width kind) cells) ≡ Some old → IsWhole piece
      → IsWhole (put (k - 8 * q) (number (old + n)) piece)
  added old e (all_bytes all) =
      all_bytes (all-put IsByte (k - 8 * q) (number (old + n)) piece (bytes-below (width kind) (old + n)) all)
  added old e (one_pointer word v same) =
      let read : cells_at (k - 8 * q) (width kind) (parts word) ≡ cells_at k (width kind) cells =
      ap (cells_at (k - 8 * q) (width kind)) (sym same)
      ∙ at-within (8 * q) k (width kind) cells low (in_piece kind k aligned) in
      let none : number_in (cells_at (k - 8 * q) (width kind) (parts word)) ≡ None =
      no_number (k - 8 * q) (width kind) word (omega arith) (width_some kind) in
      absurd (none-some old (sym none ∙ ap number_in read ∙ e))

  sum_in : (r : Option ℕ) → number_in (cells_at k (width kind) cells) ≡ r
      → HasWholePieces (cells_after_add kind k n r cells)
  unfolding cells_after_add
  sum_in None e = pieces
  sum_in (Some old) e = pieces-put q k (number (old + n)) cells low (high (old + n)) pieces (added old e (pieces q))

  pub pieces-add : HasWholePieces (access_cells k kind (Adds n) cells)
  unfolding access_cells
  pieces-add = sum_in (number_in (cells_at k (width kind) cells)) refl

module _ (kind : AccessKind) (k word : ℕ) (cells : List (Cell ℕ)) (pieces : HasWholePieces cells)
    (aligned : k % 8 ≡ 0) (inside : k + 8 ≤ length cells) (version : 1 ≤ version_of word) where
  here-pointer : put (k - 8 * (k / 8)) (parts word) (cells_at (8 * (k / 8)) 8 cells) ≡ parts word
  here-pointer =
      let none : k - 8 * (k / 8) ≡ 0 = omega (arith, aligned) in
      let there : 8 * (k / 8) ≡ k = omega (arith, aligned) in
      let long : 8 ≡ length (cells_at (8 * (k / 8)) 8 cells) =
      rw there (omega (arith, length-take 8 (drop k cells), long-drop)) in
      ap (λ j. put j (parts word) (cells_at (8 * (k / 8)) 8 cells)) none
      ∙ put_whole (parts word) (cells_at (8 * (k / 8)) 8 cells) long
    where
      long-drop : length (drop k cells) ≡ length cells - k
      long-drop = length-drop k cells

  pub pieces-pointer : HasWholePieces (cells_after_store kind k (Pointer word) cells)
  unfolding cells_after_store
  pieces-pointer =
      pieces-put (k / 8) k (parts word) cells (omega arith) (omega (arith, aligned)) pieces
      (one_pointer word version here-pointer)

pub pieces-zeros : (size : ℕ) → HasWholePieces (zeros size)
pieces-zeros size i =
    all_bytes (all-take IsByte 8 (drop (8 * i) (zeros size))
    (all-drop IsByte (8 * i) (zeros size) (all-replicate IsByte size (Byte 0) (omega arith))))

-- ---- objects

module _ {X : Type 0} where
  pub all-member : (Q : X → Type 0) (xs : List X) (x : X) → AllByRecursion Q xs → Member x xs → Q x
  all-member Q [] x all m = absurd m
  all-member Q (y ∷ ys) x all (inl e) = subst Q (sym e) all.0
  all-member Q (y ∷ ys) x all (inr m) = all-member Q ys x all.1 m

  pub all-push : (Q : X → Type 0) (xs : List X) (x : X) → AllByRecursion Q xs → Q x → AllByRecursion Q (xs ++ x ∷ [])
  all-push Q [] x all here = (here, tt)
  all-push Q (y ∷ ys) x all here = (all.0, all-push Q ys x all.1 here)

  pub find-member : (p : X → Bool) (xs : List X) (y : X) → find p xs ≡ Some y → Member y xs × (p y ≡ true)
  find-member p [] y e = absurd (none-some y e)
  find-member p (x ∷ xs) y e = go (p x) refl e (find-member p xs y)
    where
      go : (b : Bool) → p x ≡ b → cond b (Some x) (find p xs) ≡ Some y
          → (find p xs ≡ Some y → Member y xs × (p y ≡ true)) → Member y (x ∷ xs) × (p y ≡ true)
      go true passes same later =
          let here : x ≡ y = same_Some _ _ same in (inl (sym here), subst (λ z. p z ≡ true) here passes)
      go false passes same later = let found = later same in (inr found.0, found.1)

  none-pass : (xs : List X) → length (filter (λ x. false) xs) ≡ 0
  none-pass [] = refl
  none-pass (x ∷ xs) = none-pass xs

-- the object that is named
named-object : (is : Name → Bool) (h : Words) (body : Body ℕ) → live_body is h ≡ Some body
    → (o : Object Name ℕ) × Member o h.live × (is o.name ≡ true) × (o.body ≡ body)
named-object is h body e = go (find (λ o. is o.name) h.live) refl e
  where
    go : (r : Option (Object Name ℕ)) → find (λ o. is o.name) h.live ≡ r → option_map (λ o. o.body) r ≡ Some body
        → (o : Object Name ℕ) × Member o h.live × (is o.name ≡ true) × (o.body ≡ body)
    go None found same = absurd (none-some body same)
    go (Some o) found same = let m = find-member (λ o. is o.name) h.live o found in (o, m.0, m.1, same_Some _ _ same)

-- in a sound heap a word names one live object at most
few-named : (h : Words) → IsSound h → (anchor word : ℕ) → live_count (names anchor word) h ≤ 1
few-named h s anchor word = go (slot_of anchor)
  where
    go : (o : Option Slot) → live_count (is_at o (version_of word)) h ≤ 1
    go None = omega (arith, none-pass h.live)
    go (Some t) = omega (arith, s.one_version t (version_of word))

one-named : (is : Name → Bool) (h : Words) (body : Body ℕ) (o : Object Name ℕ) → live_count is h ≤ 1
    → live_body is h ≡ Some body → Member o h.live → is o.name ≡ true → o.body ≡ body
one-named is h body o few e m passes =
    let n = named-object is h body e in
    ap (λ x. x.body) (one-passes (λ x. is x.name) h.live o n.0 m n.1 passes n.2 few) ∙ n.3

abbrev pub IsWholeObject : Object Name ℕ → Type 0
IsWholeObject o = HasWholePieces o.body.cells

pub named-whole : (is : Name → Bool) (h : Words) (body : Body ℕ) → AllByRecursion IsWholeObject h.live
    → live_body is h ≡ Some body → HasWholePieces body.cells
named-whole is h body all e =
    let n = named-object is h body e in
    subst (λ b. HasWholePieces b.cells) n.3 (all-member IsWholeObject h.live n.0 all n.1)

whole-map : (is : Name → Bool) (f : List (Cell ℕ) → List (Cell ℕ)) (os : List (Object Name ℕ))
    → ((o : Object Name ℕ) → Member o os → is o.name ≡ true → HasWholePieces (f o.body.cells))
    → AllByRecursion IsWholeObject os → AllByRecursion IsWholeObject (map (with_cells_if is f) os)
whole-map is f [] given all = tt
whole-map is f (o ∷ os) given all = (either (is o.name) refl, whole-map is f os (λ x m e. given x (inr m) e) all.1)
  where
    either : (b : Bool) → is o.name ≡ b → HasWholePieces (cond b (f o.body.cells) o.body.cells)
    either true e = given o (inl refl) e
    either false e = all.0

-- ---- a step

pointer-fits : (kind : AccessKind) (b : Bool) (bits : ℕ) → b ≡ true
    → may_store kind (record { bits = bits; pointer = b }) ≡ true → (width kind ≡ 8) × (1 ≤ version_of bits)
pointer-fits Ptr b bits e m =
    (refl, ltb-true _ _ (ap (λ c. cond c (nat_lt 0 (version_of bits)) (bits == 0)) (sym e) ∙ m))
pointer-fits Word b bits e m = (refl, ltb-true _ _ (ap (λ c. not c || nat_lt 0 (version_of bits)) (sym e) ∙ m))
pointer-fits _ b bits e m = absurd (let no : false ≡ true = ap not (sym e) ∙ m in cc)

stored : (kind : AccessKind) (k : ℕ) (v : Value) (cells : List (Cell ℕ)) → may_store kind v ≡ true
    → HasWholePieces cells → k % width kind ≡ 0 → k + width kind ≤ length cells
    → HasWholePieces (access_cells k kind (Stores (datum v)) cells)
unfolding access_cells
stored kind k v cells fits pieces aligned inside = go v.pointer refl
  where
    go : (b : Bool) → v.pointer ≡ b
        → HasWholePieces (cells_after_store kind k (cond b (Pointer v.bits) (Number v.bits)) cells)
    go true e =
        let f = pointer-fits kind v.pointer v.bits e fits in
        pieces-pointer kind k v.bits cells pieces
        (subst (λ w. k % w ≡ 0) f.0 aligned) (subst (λ w. k + w ≤ length cells) f.0 inside) f.1
    go false e = pieces-number kind k v.bits cells pieces aligned

module _ (layouts : Layouts) where
  whole-access : (h : Words) (p : ℕ) (reach : Reach) (kind : AccessKind) (act : Act ℕ) → IsSound h
      → AllByRecursion IsWholeObject h.live
      → is_report (access (live_in h) p reach kind act) ≡ false
      → ((cells : List (Cell ℕ)) → HasWholePieces cells → offset reach.lo p % width kind ≡ 0
      → offset reach.lo p + width kind ≤ length cells
      → HasWholePieces (access_cells (offset reach.lo p) kind act cells))
      → AllByRecursion IsWholeObject (after_access p reach kind act h).live
  whole-access h p reach kind act s all fine keeps =
      let m = placed h p reach kind act fine in
      whole-map (names reach.lo p) (access_cells (offset reach.lo p) kind act) h.live
      (λ o member passes.
      let same : m.body ≡ o.body = sym (one-named (names reach.lo p) h m.body o
      (few-named h s reach.lo p) m.named member passes) in
      subst (λ b. HasWholePieces (access_cells (offset reach.lo p) kind act b.cells)) same
      (keeps m.body.cells (named-whole (names reach.lo p) h m.body all m.named) m.aligned m.in_object))
      all

  whole-next : (worker number : ℕ) (h : Words) (r : ℕ) (call : Call) (reply : Reply) → fits_call call ≡ true
      → Answers layouts h r call reply → IsSound h → AllByRecursion IsWholeObject h.live
      → AllByRecursion IsWholeObject (next worker number h call reply).live
  unfolding next Answers answer_by
  whole-next worker number h r (Alloc elem size fixed) (Placed word) fits a s all =
      all-push IsWholeObject h.live (new_object worker number elem size fixed word) all (pieces-zeros size)
  whole-next worker number h r (Free p fixed) Done fits a s all =
      all-filter IsWholeObject (λ o. not (names (address_of p) p o.name)) h.live all
  whole-next worker number h r (Store p reach kind v) Done fits a s all =
      whole-access h p reach kind (Stores (datum v)) s all (ap is_report (sym a))
      (λ cells pieces aligned inside. stored kind (offset reach.lo p) v cells fits pieces aligned inside)
  whole-next worker number h r (Add p reach kind n) (Moved v) fits a s all =
      whole-access h p reach kind (Adds n) s all (ap is_report (sym a))
      (λ cells pieces aligned inside. pieces-add kind (offset reach.lo p) n cells pieces aligned)
  whole-next worker number h r _ _ fits a s all = all

  pub whole-replay : (h : Words) (es : List Entry) → IsLegalFrom layouts h es → IsSound h
      → AllByRecursion IsWholeObject h.live → AllByRecursion IsWholeObject (replay h es).live
  whole-replay h [] legal s all = all
  whole-replay h (e ∷ es) legal s all =
      whole-replay (after h e) es legal.1
      (sound-next layouts e.worker e.number h e.region e.call e.reply legal.0.region_is legal.0.answers s)
      (whole-next e.worker e.number h e.region e.call e.reply legal.0.fits legal.0.answers s all)

  pub legal-before : (h : Words) (before later : List Entry) → IsLegalFrom layouts h (before ++ later)
      → IsLegalFrom layouts h before
  legal-before h [] later legal = tt
  legal-before h (e ∷ before) later legal = (legal.0, legal-before (after h e) before later legal.1)

pub pieces_law : PiecesLaw
pieces_law layouts before later legal =
    whole-replay layouts empty before (legal-before layouts empty before later legal) sound-empty tt
