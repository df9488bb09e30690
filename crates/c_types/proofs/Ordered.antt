-- Types in an order, each after those that it needs: their trees depend neither on the depth nor on what comes later.
use Rattle.std.proofs.Common.{◌≡◌, ◌⊎◌, ◌≢◌, ℕ, zero, suc, ◌+◌, ◌≤◌, ◌<◌, List, [], ◌∷◌, ◌++◌, length, Some, None, sym, ap, ap₂, ◌∙◌, refl, arith, inl, inr, ⊎_elim, subst, length-append, Contains, IsTrue, IsFalse, true, false, slice_get, Bool, Option, true≢false}
use Rattle.std.proofs.lemmas.List.Elements.{Contains-append_left, Contains-push, Contains-push_cases}
use Rattle.c_types.specs.declared.kinds.CType.{CType}
use Rattle.c_types.specs.declared.kinds.CType.TheVariants.{Void, Num, Pointer, Array, Flexible, Struct, Union}
use Rattle.c_types.specs.declared.kinds.Field.{Field}
use Rattle.c_types.specs.Shapes.{Shape, Members}
use Rattle.c_types.specs.Shapes as s
use Rattle.c_types.specs.Table.{Types, Tag, kind_of, fields_of, members_from, members_of_fields, tagged, shape_of_kind, shape_within, shape_of, HasTrees}
use Rattle.c_types.specs.Holds.{AreAfter, IsAfter, IsOrdered}
use Rattle.c_types.specs.Holds.IsOrdered.{none, next}
use Rattle.c_types.specs.Rows.{has_fields, is_known}

-- ---- elements of a list

pub here : {X : Type 0} (x : X) (xs : List X) → Contains (x ∷ xs) x
here x xs = (0, omega arith, refl)

pub there : {X : Type 0} (y x : X) (xs : List X) → Contains xs x → Contains (y ∷ xs) x
there y x xs c = (suc c.0, omega (arith, c.1), c.2)

-- ---- two ways to see the trees of parts

pub members_alike : (f g : ℕ → Shape) (fields : List Field) → ((x : Field) → Contains fields x → f x.kind ≡ g x.kind) →
    members_of_fields f fields ≡ members_of_fields g fields
members_alike f g [] same = refl
members_alike f g (x ∷ fields) same =
    ap₂ members_from (same x (here x fields)) (members_alike f g fields (λ y c. same y (there x y fields c)))

tagged_alike : (whole : Members → Shape) (f g : ℕ → Shape) (n : ℕ) (fields : List Field) →
    ((x : Field) → Contains fields x → f x.kind ≡ g x.kind) → tagged whole f n fields ≡ tagged whole g n fields
tagged_alike whole f g n [] same = refl
tagged_alike whole f g n (x ∷ fields) same = ap whole (members_alike f g (x ∷ fields) same)

-- Trees over parts that are alike.
alike : (a b : Types) (before : List ℕ) (f g : ℕ → Shape) (n : ℕ) (kind : CType) →
    ((p : ℕ) → Contains before p → f p ≡ g p) → IsAfter a before kind →
    ((tag : ℕ) → fields_of a.tags tag ≢ [] → fields_of b.tags tag ≡ fields_of a.tags tag) →
    shape_of_kind a.tags f n (Some kind) ≡ shape_of_kind b.tags g n (Some kind)
alike a b before f g n Void same after tags = refl
alike a b before f g n (Num width signed) same after tags = refl
alike a b before f g n (Pointer to) same after tags = refl
alike a b before f g n (Array of count) same after tags = ap (λ shape. s.Array n shape count) (same of after)
alike a b before f g n (Flexible of) same after tags = ap (λ shape. s.Open n shape) (same of after)
alike a b before f g n (Struct tag) same after tags =
    tagged_alike (s.Struct n) f g n (fields_of a.tags tag) (λ x c. same x.kind (after.1 x c)) ∙
    ap (λ fields. tagged (s.Struct n) g n fields) (sym (tags tag after.0))
alike a b before f g n (Union tag) same after tags =
    tagged_alike (s.Union n) f g n (fields_of a.tags tag) (λ x c. same x.kind (after.1 x c)) ∙
    ap (λ fields. tagged (s.Union n) g n fields) (sym (tags tag after.0))

-- ---- the depth

-- two tables agree on the numbers of a list
pub record AgreesOn (a b : Types) (order : List ℕ) : Type 0 where
  pub kinds : (n : ℕ) → Contains order n → kind_of b n ≡ kind_of a n
  pub tags : (tag : ℕ) → fields_of a.tags tag ≢ [] → fields_of b.tags tag ≡ fields_of a.tags tag

agrees_before : (a b : Types) (before : List ℕ) (n : ℕ) → AgreesOn a b (before ++ n ∷ []) → AgreesOn a b before
agrees_before a b before n agrees =
    record { kinds = λ m c. agrees.kinds m (Contains-append_left before (n ∷ []) m c); tags = agrees.tags }

at_depth : (a b : Types) (before : List ℕ) (n : ℕ) (kind : CType) (d e : ℕ) → length before < d → length before < e →
    ((p : ℕ) → Contains before p → (d e : ℕ) → length before ≤ d → length before ≤ e → shape_within d a p ≡ shape_within e b p) →
    kind_of a n ≡ Some kind → kind_of b n ≡ kind_of a n → IsAfter a before kind →
    ((tag : ℕ) → fields_of a.tags tag ≢ [] → fields_of b.tags tag ≡ fields_of a.tags tag) →
    shape_within d a n ≡ shape_within e b n
at_depth a b before n kind zero e deep_d deep_e inner is same after tags = absurd (omega (arith, deep_d))
at_depth a b before n kind (suc d) zero deep_d deep_e inner is same after tags = absurd (omega (arith, deep_e))
at_depth a b before n kind (suc d) (suc e) deep_d deep_e inner is same after tags =
    ap (λ k. shape_of_kind a.tags (shape_within d a) n k) is ∙
    (alike a b before (shape_within d a) (shape_within e b) n kind
    (λ p c. inner p c d e (omega (arith, deep_d)) (omega (arith, deep_e))) after tags ∙
    ap (λ k. shape_of_kind b.tags (shape_within e b) n k) (sym (same ∙ is)))

-- Two tables that agree on types in an order give them the same trees at every depth that is not below their number.
pub same_within : (a b : Types) (order : List ℕ) → IsOrdered a order → AgreesOn a b order → (n : ℕ) → Contains order n →
    (d e : ℕ) → length order ≤ d → length order ≤ e → shape_within d a n ≡ shape_within e b n
same_within a b _ none agrees n c d e deep_d deep_e = absurd (omega (arith, c.1))
same_within a b _ (next before m kind ordered fresh is after) agrees n c d e deep_d deep_e =
    let long : length (before ++ m ∷ []) ≡ suc (length before) = simp (length-append) (omega arith) in
    let inner : (p : ℕ) → Contains before p → (d e : ℕ) → length before ≤ d → length before ≤ e → shape_within d a p ≡ shape_within e b p =
    same_within a b before ordered (agrees_before a b before m agrees) in
    ⊎_elim
    (λ (old : Contains before n). inner n old d e (omega (arith, long, deep_d)) (omega (arith, long, deep_e)))
    (λ (new : m ≡ n). subst (λ p. shape_within d a p ≡ shape_within e b p) new
    (at_depth a b before m kind d e (omega (arith, long, deep_d)) (omega (arith, long, deep_e)) inner is
    (agrees.kinds m (Contains-push before m)) after agrees.tags))
    (Contains-push_cases before m n c)

-- ---- trees are made of trees

agrees_itself : (a : Types) (order : List ℕ) → AgreesOn a a order
agrees_itself a order = record { kinds = λ n c. refl; tags = λ tag some. refl }

after_more : (a : Types) (before more : List ℕ) (kind : CType) → IsAfter a before kind → IsAfter a (before ++ more) kind
after_more a before more Void after = tt
after_more a before more (Num width signed) after = tt
after_more a before more (Pointer to) after = tt
after_more a before more (Array of count) after = Contains-append_left before more of after
after_more a before more (Flexible of) after = Contains-append_left before more of after
after_more a before more (Struct tag) after = (after.0, λ f c. Contains-append_left before more f.kind (after.1 f c))
after_more a before more (Union tag) after = (after.0, λ f c. Contains-append_left before more f.kind (after.1 f c))

pub after_all : (a : Types) (order : List ℕ) → IsOrdered a order → (n : ℕ) (kind : CType) → Contains order n → kind_of a n ≡ Some kind →
    IsAfter a order kind
after_all a _ none n kind c is = absurd (omega (arith, c.1))
after_all a _ (next before m found ordered fresh here after) n kind c is =
    ⊎_elim
    (λ (old : Contains before n). after_more a before (m ∷ []) kind (after_all a before ordered n kind old is))
    (λ (new : m ≡ n). let same : found ≡ kind = search (sym here ∙ (ap (kind_of a) new ∙ is)) in
    subst (IsAfter a (before ++ m ∷ [])) same (after_more a before (m ∷ []) found after))
    (Contains-push_cases before m n c)

untagged : (whole : Members → Shape) (f g : ℕ → Shape) (n : ℕ) (fields : List Field) → IsFalse (has_fields fields) →
    tagged whole f n fields ≡ tagged whole g n fields
untagged whole f g n [] nothing = refl
untagged whole f g n (x ∷ fields) nothing = absurd (true≢false nothing)

-- A decision on whether a type is known.
pub by_known : (A : Type 0) (b : Bool) → (b ≡ true → A) → (b ≡ false → A) → A
by_known A true if_so if_not = if_so refl
by_known A false if_so if_not = if_not refl

unknown_alike : (a : Types) (f g : ℕ → Shape) (n : ℕ) (kind : CType) → IsFalse (is_known a.tags kind) →
    shape_of_kind a.tags f n (Some kind) ≡ shape_of_kind a.tags g n (Some kind)
unknown_alike a f g n Void nothing = absurd (true≢false nothing)
unknown_alike a f g n (Num width signed) nothing = absurd (true≢false nothing)
unknown_alike a f g n (Pointer to) nothing = absurd (true≢false nothing)
unknown_alike a f g n (Array of count) nothing = absurd (true≢false nothing)
unknown_alike a f g n (Flexible of) nothing = absurd (true≢false nothing)
unknown_alike a f g n (Struct tag) nothing = untagged (s.Struct n) f g n (fields_of a.tags tag) nothing
unknown_alike a f g n (Union tag) nothing = untagged (s.Union n) f g n (fields_of a.tags tag) nothing

module _ (a : Types) (order : List ℕ) (ordered : IsOrdered a order) (few : length order ≤ length a.kinds)
    (known : (n : ℕ) (kind : CType) → kind_of a n ≡ Some kind → IsTrue (is_known a.tags kind) → Contains order n) where
  -- the trees of numbers of the order
  steady : (n : ℕ) → Contains order n → (d : ℕ) → length order ≤ d → shape_within d a n ≡ shape_of a n
  unfolding shape_of
  steady n c d deep = same_within a a order ordered (agrees_itself a order) n c d (suc (length a.kinds)) deep (omega (arith, few))

  tree_of_kind : (n : ℕ) (kind : CType) → kind_of a n ≡ Some kind →
      shape_of_kind a.tags (shape_within (length a.kinds) a) n (Some kind) ≡ shape_of_kind a.tags (shape_of a) n (Some kind)
  tree_of_kind n kind is = by_known _ (is_known a.tags kind)
      (λ it. alike a a order (shape_within (length a.kinds) a) (shape_of a) n kind (λ p c. steady p c (length a.kinds) few)
      (after_all a order ordered n kind (known n kind is it) is) (λ tag some. refl))
      (λ it. unknown_alike a (shape_within (length a.kinds) a) (shape_of a) n kind it)

  tree_by : (n : ℕ) (kind : Option CType) → kind_of a n ≡ kind →
      shape_of_kind a.tags (shape_within (length a.kinds) a) n kind ≡ shape_of_kind a.tags (shape_of a) n kind
  tree_by n None is = refl
  tree_by n (Some kind) is = tree_of_kind n kind is

  pub trees : HasTrees a
  unfolding shape_of
  trees n = tree_by n (kind_of a n) refl
