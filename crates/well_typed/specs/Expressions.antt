-- Expressions (C11 6.5) that are well typed: each operand has a type that its rule wants, and places stand where places
-- are wanted. Each variant of a place and of a value has its rule, which looks at one layer of the tree.
use Rattle.std.specs.Prelude.{◌≡◌, ◌≢◌, ◌⊎◌, ℕ, ◌<◌, ℤ, List, [], ◌∷◌, Some, slice_get, IsTrue, IsFalse}
use Rattle.c_print.specs.declared.parts.Part.{Part}
use Rattle.c_print.specs.declared.parts.Part.TheVariants as part
use Rattle.c_tree.specs.declared.operators.Operator.{Operator}
use Rattle.c_tree.specs.declared.operators.Comparison.{Comparison}
use Rattle.c_tree.specs.declared.operators.LogicalOperator.{LogicalOperator}
use Rattle.c_tree.specs.declared.operators.UnaryOperator.{UnaryOperator}
use Rattle.c_tree.specs.declared.operators.Step.{Step}
use Rattle.c_tree.specs.declared.operators.Fixity.{Fixity}
use Rattle.c_tree.specs.declared.operators.Written.{Written}
use Rattle.c_tree.specs.declared.values.Place.{Place, Place-F, out-Place}
use Rattle.c_tree.specs.declared.values.Value.{Value, Value-F, out-Value}
use Rattle.well_typed.specs.Kinds.{promoted, usual, wrapped, element}
use Rattle.well_typed.specs.Constants.{IsNullConstant}
use Rattle.well_typed.specs.Surroundings.{PlaceLayer, ValueLayer, at, Surroundings, IsSeenAs, is_shift, is_equality, IsVariable, IsObject, IsWhole, IsPromoted, IsScalar, IsAggregate, HasSize, PointsTo, PointsToSized, IsPointer, IsSizedPointer, IsVoidPointer, IsArray, HasMember, MayBeChecked, Allocates, IsFormat, Takes}

-- `malloc` or `calloc` itself
abbrev pub IsAllocation : ValueLayer → Type 0
IsAllocation (Value-F.Allocate a element size) = Unit {0}
IsAllocation (Value-F.AllocateMany a element count size) = Unit {0}
IsAllocation _ = ⊥

module _ (around : Surroundings) where
  mutual
    -- `IsPlace q kind`: where an object of this type stands.
    pub data IsPlace : Place → ℕ → Type 0 where
      place : {q : Place} {kind : ℕ} → PlaceRule (out-Place q) kind → IsPlace q kind

    -- `IsValue x kind`: a value of this type.
    pub data IsValue : Value → ℕ → Type 0 where
      value : {x : Value} {kind : ℕ} → ValueRule (out-Value x) kind → IsValue x kind

    pub data PlaceRule : PlaceLayer → ℕ → Type 0 where
      -- a variable or a parameter (C11 6.5.1p2)
      variable : {line declared kind n : ℕ} → IsVariable around n declared → IsSeenAs around.types declared kind →
          PlaceRule (Place-F.Variable (at line kind) n) kind
      -- an object of file scope (6.5.1p2)
      global : {line declared kind n : ℕ} → around.globals n ≡ Some declared → IsSeenAs around.types declared kind →
          PlaceRule (Place-F.Global (at line kind) n) kind
      -- a string literal (6.4.5p6)
      literal : {line kind n : ℕ} → slice_get around.literals n ≡ Some kind →
          PlaceRule (Place-F.Literal (at line kind) n) kind
      -- `*x` (6.5.3.2p4)
      dereference : {line pointer to : ℕ} {x : Value} → IsValue x pointer → PointsToSized around pointer to →
          PlaceRule (Place-F.Dereference (at line to) x) to
      -- `x[y]`, of a pointer and a number (6.5.2.1)
      index : {line pointer to whole : ℕ} {x y : Value} → IsValue x pointer → PointsToSized around pointer to →
          IsValue y whole → IsWhole whole → PlaceRule (Place-F.Index (at line to) x y) to
      -- `x[y]`, of a number and a pointer (6.5.2.1)
      index_first : {line pointer to whole : ℕ} {x y : Value} → IsValue x whole → IsWhole whole →
          IsValue y pointer → PointsToSized around pointer to → PlaceRule (Place-F.IndexFirst (at line to) x y) to
      -- `q.member` (6.5.2.3p3)
      member : {line whole kind offset : ℕ} {q : Place} → IsPlace q whole → HasMember around whole offset kind →
          PlaceRule (Place-F.Member (at line kind) q offset) kind
      -- `x->member` (6.5.2.3p4)
      arrow : {line pointer to kind offset : ℕ} {x : Value} → IsValue x pointer → PointsToSized around pointer to →
          HasMember around to offset kind → PlaceRule (Place-F.Arrow (at line kind) x offset) kind

    pub data ValueRule : ValueLayer → ℕ → Type 0 where
      -- ---- constants

      -- a number that its type has (6.4.4p2)
      number : {line kind : ℕ} {n : ℤ} → IsWhole kind → wrapped kind n ≡ n →
          ValueRule (Value-F.Number (at line kind) n) kind
      -- `NULL` (7.19p3)
      null : {line kind : ℕ} → IsVoidPointer around kind → ValueRule (Value-F.Null (at line kind)) kind
      -- ---- of places

      -- (6.3.2.1p2)
      load : {line kind : ℕ} {q : Place} → IsPlace q kind → IsScalar around kind →
          ValueRule (Value-F.Load (at line kind) q) kind
      -- an array as the address of its first element (6.3.2.1p3)
      decay : {line array of kind : ℕ} {q : Place} → IsPlace q array → element around.types array ≡ Some of →
          PointsTo around kind of → ValueRule (Value-F.Decay (at line kind) q) kind
      -- `&q` (6.5.3.2p3)
      address : {line of kind : ℕ} {q : Place} → IsPlace q of → IsObject around (out-Place q) →
          PointsTo around kind of → ValueRule (Value-F.Address (at line kind) q) kind
      -- a struct or a union that nothing reads (6.3.2.2)
      mention : {line kind : ℕ} {q : Place} → IsPlace q kind → IsAggregate around kind →
          ValueRule (Value-F.Mention (at line kind) q) kind
      -- ---- conversions

      -- (6.3.1.1 to 6.3.1.8)
      convert : {line from kind : ℕ} {how : Written} {x : Value} → IsValue x from → IsWhole from →
          IsWhole kind → ValueRule (Value-F.Convert (at line kind) how x) kind
      -- (6.3.2.3p3)
      null_pointer : {line from kind : ℕ} {how : Written} {x : Value} → IsValue x from →
          IsNullConstant around.types x → IsPointer around kind →
          ValueRule (Value-F.NullPointer (at line kind) how x) kind
      -- (6.3.2.3p1)
      keep_pointer : {line from kind : ℕ} {how : Written} {x : Value} → IsValue x from → IsPointer around from →
          IsVoidPointer around kind → ValueRule (Value-F.KeepPointer (at line kind) how x) kind
      -- (6.3.2.3p1 and p7)
      check_pointer : {line from kind to : ℕ} {how : Written} {x : Value} → IsValue x from →
          MayBeChecked around how from → PointsTo around kind to → to ≢ 1 →
          ValueRule (Value-F.CheckPointer (at line kind) how x) kind
      -- `(void)x` (6.3.2.2)
      discard : {line from : ℕ} {x : Value} → IsValue x from → ValueRule (Value-F.Discard (at line 1) x) 1
      -- ---- whole numbers

      -- `+x`, `-x` and `~x` (6.5.3.3)
      unary : {line kind : ℕ} {o : UnaryOperator} {x : Value} → IsValue x kind → IsPromoted kind →
          ValueRule (Value-F.Unary (at line kind) o x) kind
      -- two numbers of one type (6.5.5, 6.5.6, 6.5.10 to 6.5.12)
      binary : {line kind : ℕ} {o : Operator} {x y : Value} → IsFalse (is_shift o) → IsValue x kind → IsValue y kind →
          IsPromoted kind → ValueRule (Value-F.Binary (at line kind) o x y) kind
      -- two numbers, of which each is promoted by itself (6.5.7p3)
      shift : {line kind whole : ℕ} {o : Operator} {x y : Value} → IsTrue (is_shift o) → IsValue x kind →
          IsPromoted kind → IsValue y whole → IsPromoted whole →
          ValueRule (Value-F.Binary (at line kind) o x y) kind
      -- (6.5.8, 6.5.9)
      compare : {line kind : ℕ} {c : Comparison} {x y : Value} → IsValue x kind → IsValue y kind →
          IsPromoted kind → ValueRule (Value-F.Compare (at line 6) c x y) 6
      -- ---- pointers

      -- `==` and `!=` of two pointers to any type (6.5.9p2)
      equal_pointers : {line kind : ℕ} {c : Comparison} {x y : Value} → IsTrue (is_equality c) → IsValue x kind →
          IsValue y kind → IsPointer around kind → ValueRule (Value-F.ComparePointers (at line 6) c x y) 6
      -- `<`, `>`, `<=` and `>=`, of two pointers to a type with a size (6.5.8p2)
      order_pointers : {line kind : ℕ} {c : Comparison} {x y : Value} → IsFalse (is_equality c) → IsValue x kind →
          IsValue y kind → IsSizedPointer around kind → ValueRule (Value-F.ComparePointers (at line 6) c x y) 6
      -- `x + y` (6.5.6p2)
      advance : {line kind whole : ℕ} {x y : Value} → IsValue x kind → IsSizedPointer around kind → IsValue y whole →
          IsWhole whole → ValueRule (Value-F.Advance (at line kind) x y) kind
      advance_first : {line kind whole : ℕ} {x y : Value} → IsValue x whole → IsWhole whole → IsValue y kind →
          IsSizedPointer around kind → ValueRule (Value-F.AdvanceFirst (at line kind) x y) kind
      -- `x - y` of a pointer and a number, and of two pointers (6.5.6p3)
      retreat : {line kind whole : ℕ} {x y : Value} → IsValue x kind → IsSizedPointer around kind → IsValue y whole →
          IsWhole whole → ValueRule (Value-F.Retreat (at line kind) x y) kind
      difference : {line kind : ℕ} {x y : Value} → IsValue x kind → IsValue y kind → IsSizedPointer around kind →
          ValueRule (Value-F.Difference (at line 8) x y) 8
      -- ---- tests

      -- (6.5.3.3p5)
      is_not : {line kind : ℕ} {x : Value} → IsValue x kind → IsScalar around kind →
          ValueRule (Value-F.Not (at line 6) x) 6
      -- (6.5.13, 6.5.14)
      logical : {line left right : ℕ} {o : LogicalOperator} {x y : Value} → IsValue x left → IsScalar around left →
          IsValue y right → IsScalar around right → ValueRule (Value-F.Logical (at line 6) o x y) 6
      -- two numbers, two pointers, or two of type void, of one type (6.5.15p3, p5 and p6)
      conditional : {line test kind : ℕ} {x y z : Value} → IsValue x test → IsScalar around test → IsValue y kind →
          IsValue z kind → IsPromoted kind ⊎ IsPointer around kind ⊎ (kind ≡ 1) →
          ValueRule (Value-F.Conditional (at line kind) x y z) kind
      -- (6.5.17)
      comma : {line first kind : ℕ} {x : Value} {xs : List Value} → IsValue x first → EndsIn xs kind →
          ValueRule (Value-F.Comma (at line kind) (x ∷ xs)) kind
      -- ---- assignments

      -- (6.5.16.1)
      assign : {line kind : ℕ} {q : Place} {x : Value} → IsPlace q kind → IsScalar around kind → IsValue x kind →
          ValueRule (Value-F.Assign (at line kind) q x) kind
      -- a struct or a union (6.5.16.1p1)
      copy : {line kind : ℕ} {to from : Place} → IsPlace to kind → IsPlace from kind → IsAggregate around kind →
          HasSize around kind → ValueRule (Value-F.Copy (at line kind) to from) kind
      -- `q op= x`, computed in the common type of both (6.5.16.2p3)
      update : {line kind common : ℕ} {o : Operator} {q : Place} {x : Value} → IsFalse (is_shift o) → IsPlace q kind →
          IsWhole kind → IsValue x common → IsWhole common → usual kind common ≡ common →
          ValueRule (Value-F.Update (at line kind) o common q x) kind
      -- `q <<= x` and `q >>= x`, computed in the promoted type of the left one (6.5.7p3)
      update_shift : {line kind whole : ℕ} {o : Operator} {q : Place} {x : Value} → IsTrue (is_shift o) →
          IsPlace q kind → IsWhole kind → IsValue x whole → IsPromoted whole →
          ValueRule (Value-F.Update (at line kind) o (promoted kind) q x) kind
      -- (6.5.16.2p1)
      update_pointer : {line kind whole : ℕ} {s : Step} {q : Place} {x : Value} → IsPlace q kind →
          IsSizedPointer around kind → IsValue x whole → IsWhole whole →
          ValueRule (Value-F.UpdatePointer (at line kind) s q x) kind
      -- `++` and `--`: 1 of type int is added or taken away (6.5.2.4p2, 6.5.3.1p2)
      step : {line kind : ℕ} {s : Step} {f : Fixity} {q : Place} → IsPlace q kind → IsWhole kind →
          ValueRule (Value-F.Step (at line kind) s f (promoted kind) q) kind
      step_pointer : {line kind : ℕ} {s : Step} {f : Fixity} {q : Place} → IsPlace q kind → IsSizedPointer around kind →
          ValueRule (Value-F.StepPointer (at line kind) s f q) kind
      -- ---- calls

      -- (6.5.2.2p2 and p7)
      call : {line n : ℕ} {result : ℕ} {parameters : List ℕ} {xs : List Value} →
          slice_get around.functions n ≡ Some (record { result = result; parameters = parameters }) →
          AreValues xs parameters → ValueRule (Value-F.Call (at line result) n xs) result
      -- `malloc(x)` (7.22.3.4)
      allocate : {line kind element : ℕ} {x : Value} → Allocates around kind element → IsValue x 9 →
          ValueRule (Value-F.Allocate (at line kind) element x) kind
      -- `calloc(x, y)` (7.22.3.2)
      allocate_many : {line kind element : ℕ} {x y : Value} → Allocates around kind element → IsValue x 9 →
          IsValue y 9 → ValueRule (Value-F.AllocateMany (at line kind) element x y) kind
      -- a cast that converts one of these at once (6.5.4), to a pointer to a type with a size
      allocated : {line kind : ℕ} {x : Value} → IsValue x kind → IsAllocation (out-Value x) →
          IsSizedPointer around kind → ValueRule (Value-F.Allocated (at line kind) x) kind
      -- `free(x)` (7.22.3.3)
      free : {line kind : ℕ} {x : Value} → IsValue x kind → IsVoidPointer around kind →
          ValueRule (Value-F.Free (at line 1) x) 1
      -- `memcpy(x, y, z)` (7.24.2.1)
      copy_bytes : {line kind : ℕ} {x y z : Value} → IsValue x kind → IsValue y kind → IsVoidPointer around kind →
          IsValue z 9 → ValueRule (Value-F.CopyBytes (at line kind) x y z) kind
      -- `memset(x, y, z)` (7.24.6.1)
      fill_bytes : {line kind : ℕ} {x y z : Value} → IsValue x kind → IsVoidPointer around kind → IsValue y 6 →
          IsValue z 9 → ValueRule (Value-F.FillBytes (at line kind) x y z) kind
      -- `strlen(x)` (7.24.6.3)
      string_length : {line kind : ℕ} {x : Value} → IsValue x kind → PointsTo around kind 2 →
          ValueRule (Value-F.StringLength (at line 9) x) 9
      -- `puts(x)` (7.21.7.9)
      print_line : {line kind : ℕ} {x : Value} → IsValue x kind → PointsTo around kind 2 →
          ValueRule (Value-F.PrintLine (at line 6) x) 6
      -- `putchar(x)` (7.21.7.8)
      print_byte : {line : ℕ} {x : Value} → IsValue x 6 → ValueRule (Value-F.PrintByte (at line 6) x) 6
      -- `atomic_fetch_add(x, y)` (7.17.7.5)
      fetch_add : {line kind pointer : ℕ} {x y : Value} → IsValue x pointer → PointsTo around pointer kind →
          IsWhole kind → IsValue y kind → ValueRule (Value-F.FetchAdd (at line kind) x y) kind
      -- `printf(format, ..)` (7.21.6.3)
      print : {line : ℕ} {parts : List Part} {xs : List Value} → IsFormat parts → Fit parts xs →
          ValueRule (Value-F.Print (at line 6) parts xs) 6

    -- values of these types, one after another
    pub data AreValues : List Value → List ℕ → Type 0 where
      no_value : AreValues [] []
      one_more : {x : Value} {xs : List Value} {kind : ℕ} {kinds : List ℕ} → IsValue x kind → AreValues xs kinds →
          AreValues (x ∷ xs) (kind ∷ kinds)

    -- values of any types, the last of this one
    pub data EndsIn : List Value → ℕ → Type 0 where
      last : {x : Value} {kind : ℕ} → IsValue x kind → EndsIn (x ∷ []) kind
      before : {x : Value} {xs : List Value} {first kind : ℕ} → IsValue x first → EndsIn xs kind → EndsIn (x ∷ xs) kind

    -- arguments for the parts of a format that are conversions, in their order
    pub data Fit : List Part → List Value → Type 0 where
      at_end : Fit [] []
      plain : {text : List ℕ} {parts : List Part} {xs : List Value} → Fit parts xs → Fit (part.Plain text ∷ parts) xs
      converted : {first : Part} {parts : List Part} {x : Value} {xs : List Value} {kind : ℕ} → IsValue x kind →
          Takes around first kind → Fit parts xs → Fit (first ∷ parts) (x ∷ xs)
