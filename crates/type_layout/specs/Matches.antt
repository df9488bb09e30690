-- Which parts of an object match a wanted type, and which of them a pointer into the object may mean.
use Rattle.std.specs.Prelude.{◌≡◌, ℕ, ◌-◌, ◌%◌, ◌≤◌, Bool, false, ◌||◌, ◌==◌, Option, Some, None, IsTrue, IsFalse, Contains, if◌then◌else◌}
use Rattle.c_types.specs.Shapes.{Shape, Whole, Pointer, size, number_of}
use Rattle.type_layout.specs.declared.preference.Match.{Match}
use Rattle.type_layout.specs.Runs.{ShapeRun, runs_of_object, end_of}

-- ---- tiers

abbrev pub is_character : Shape → Bool
is_character (Whole n width signed) = width == 1
is_character _ = false

-- whole numbers of one width
abbrev pub has_width : ℕ → Shape → Bool
has_width w (Whole n width signed) = width == w
has_width w _ = false

abbrev pub one_width : Shape → Shape → Bool
one_width (Whole n width signed) want = has_width width want
one_width _ want = false

-- pointer types of which one is `void *`: void has the number 1
abbrev pub is_pointer_beside : Bool → Shape → Bool
is_pointer_beside void_before (Pointer n to) = void_before || (to == 1)
is_pointer_beside void_before _ = false

abbrev pub void_pointers : Shape → Shape → Bool
void_pointers (Pointer n to) want = is_pointer_beside (to == 1) want
void_pointers _ want = false

-- The tier in which a run of a type matches a wanted type: in the first where they are the same type or whole numbers of
-- one width, in the second where both are pointers and one is `void *`.
abbrev pub tier_of : Shape → Shape → Option ℕ
tier_of kind want =
    if (number_of kind == number_of want) || one_width kind want then Some 1 else
    (if void_pointers kind want then Some 2 else None)

-- ---- matches

-- The object of a type, of so many bytes, has this match for a wanted type.
pub data IsMatch (elem : Shape) (bytes : ℕ) (want : Shape) : Match → Type 0 where
  -- a run
  of_run : (run : ShapeRun) (tier : ℕ) → Contains (runs_of_object elem bytes) run → tier_of run.kind want ≡ Some tier →
      IsMatch elem bytes want (record { tier = tier; lo = run.lo; hi = end_of run; step = size run.kind })
  -- the whole object, which has characters where none are wanted
  of_characters : IsTrue (is_character elem) → IsFalse (is_character want) →
      IsMatch elem bytes want (record { tier = 3; lo = 0; hi = bytes; step = 1 })
  -- the whole object, where characters are wanted
  as_characters : IsTrue (is_character want) →
      IsMatch elem bytes want (record { tier = 2; lo = 0; hi = bytes; step = 1 })

-- A match that an offset may mean: the offset is at a value of the match, or at its end.
pub record IsCandidate (elem : Shape) (bytes k : ℕ) (want : Shape) (m : Match) : Type 0 where
  pub found : IsMatch elem bytes want m
  pub from : m.lo ≤ k
  pub to : k ≤ m.hi
  pub aligned : (k - m.lo) % m.step ≡ 0
