-- What reading a part of a tree gives: something, or the first fault.
use Rattle.std.specs.Prelude.{ℕ, Bool, true, false, List, [], ◌∷◌, Option, Some, None, Result, Ok, Err}
use Rattle.c_types.specs.declared.kinds.TypeError.{TypeError}
use Rattle.static_rules.specs.declared.faults.CheckError.{CheckError}
use Rattle.static_rules.specs.declared.faults.CheckKind.{CheckKind}
use Rattle.static_rules.specs.declared.faults.CheckKind.TheVariants as why

abbrev pub Answer : Type 0 → Type 0
Answer A = Result A CheckError

infixl 10 ◌>>=◌
abbrev pub ◌>>=◌ : {A B : Type 0} → Answer A → (A → Answer B) → Answer B
(Ok x) >>= f = f x
(Err e) >>= f = Err e

abbrev pub fault : {A : Type 0} → CheckKind → ℕ → Answer A
fault kind line = Err (record { kind = kind; line = line })

-- where a test holds
abbrev pub fault_if : Bool → CheckKind → ℕ → Answer (Unit {0})
fault_if true kind line = fault kind line
fault_if false kind line = Ok record {}

-- what may be nothing, which is a fault at a node
abbrev pub or_fault : {A : Type 0} → CheckKind → ℕ → Option A → Answer A
or_fault kind here (Some x) = Ok x
or_fault kind here None = fault kind here

abbrev pub or_mismatch : {A : Type 0} → ℕ → Option A → Answer A
or_mismatch here found = or_fault why.TypeMismatch here found

-- what a type may be refused for
abbrev pub or_bad_type : {A : Type 0} → ℕ → Result A TypeError → Answer A
or_bad_type here (Ok x) = Ok x
or_bad_type here (Err reason) = fault (why.BadType reason) here

abbrev pub unless_bad : {A : Type 0} → ℕ → Option TypeError → A → Answer A
unless_bad here (Some reason) x = fault (why.BadType reason) here
unless_bad here None x = Ok x

-- What each of a list gives, in order: the state goes on from each to the next.
abbrev pub each : {A B S : Type 0} → (S → A → Answer (B × S)) → S → List A → Answer (List B × S)
each read s [] = Ok ([], s)
each read s (x ∷ xs) = read s x >>= λ r. each read r.1 xs >>= λ rest. Ok (r.0 ∷ rest.0, rest.1)

-- where each changes the state alone
abbrev pub all : {A S : Type 0} → (S → A → Answer S) → S → List A → Answer S
all read s [] = Ok s
all read s (x ∷ xs) = read s x >>= λ after. all read after xs
