-- What an initialiser stores (C11 6.7.9): a list in the order of the text. A store says by a path where in the object
-- it goes, since the type of an array without a size is known at the end of its initialiser alone.
use Rattle.std.specs.Prelude.{ℕ, List, [], ◌∷◌, ◌++◌, map, Option, Some, None}
use Rattle.c_tree.specs.declared.statements.Initial.{Initial}
use Rattle.c_tree.specs.declared.statements.Initial.TheVariants as i
use Rattle.c_tree.specs.declared.values.At.{At}
use Rattle.c_tree.specs.declared.values.Place.{Place}
use Rattle.c_tree.specs.declared.values.Place.TheVariants as p
use Rattle.c_tree.specs.declared.values.Value.{Value}
use Rattle.declaration_rules.specs.declared.stores.Step.{Step}
use Rattle.declaration_rules.specs.declared.stores.Step.TheVariants as step_to
use Rattle.declaration_rules.specs.declared.stores.Unfit.{Unfit}
use Rattle.declaration_rules.specs.declared.stores.Unfit.TheVariants as unfits

-- ---- where

abbrev pub kind_behind : Step → ℕ
kind_behind (step_to.Member kind offset) = kind
kind_behind (step_to.Element kind index) = kind

abbrev pub at : ℕ → ℕ → At
at line kind = record { kind = kind; line = line }

abbrev pub place_behind : ℕ → Place → Step → Place
place_behind line object (step_to.Member kind offset) = p.Member (at line kind) object offset
place_behind line object (step_to.Element kind index) = p.Element (at line kind) object index

-- the place to which a path leads from an object
abbrev pub place_at : ℕ → Place → List Step → Place
place_at line object [] = object
place_at line object (step ∷ path) = place_at line (place_behind line object step) path

-- ---- what

pub data Stored : Type 0 where
  -- a scalar's value, converted to its type
  Scalar : Value → Stored
  -- a struct or a union from a place of its own type
  Copied : Place → Stored
  -- a string literal's bytes, with the zero byte where it fits
  Bytes : List ℕ → Stored

pub record Store : Type 0 where
  pub path : List Step
  pub what : Stored

abbrev pub stored_at : Place → Stored → Initial
stored_at place (Scalar value) = i.Value place value
stored_at place (Copied from) = i.Copy place from
stored_at place (Bytes bytes) = i.Bytes place bytes

-- the stores in an object, of which this is the place
abbrev pub placed : ℕ → Place → List Store → List Initial
placed line object stores = map (λ (store : Store). stored_at (place_at line object store.path) store.what) stores

-- ---- what does not fit

-- Of two causes at one node the mismatch is told.
abbrev pub told_of : Unfit → Option Unfit → Unfit
told_of unfits.Mismatch other = unfits.Mismatch
told_of unfits.Elided (Some unfits.Mismatch) = unfits.Mismatch
told_of unfits.Elided (Some unfits.Elided) = unfits.Elided
told_of unfits.Elided None = unfits.Elided

abbrev pub first_told : Option Unfit → Option Unfit → Option Unfit
first_told None other = other
first_told (Some one) other = Some (told_of one other)

-- what an initialiser stores, and why it does not fit, if it does not: this waits for the end of the braces or the
-- declaration to which it belongs
pub record Found : Type 0 where
  pub stores : List Store
  pub unfit : Option Unfit

abbrev pub nothing : Found
nothing = record { stores = []; unfit = None }

abbrev pub unfit : Unfit → Found
unfit reason = record { stores = []; unfit = Some reason }

abbrev pub stored : List Step → Stored → Found
stored path what = record { stores = record { path = path; what = what } ∷ []; unfit = None }

abbrev pub then_found : Found → Found → Found
then_found first rest = record { stores = first.stores ++ rest.stores; unfit = first_told first.unfit rest.unfit }
