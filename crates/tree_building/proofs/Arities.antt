-- The functions that each text has give no node where they take another number of arguments.
use Rattle.std.proofs.Common.{◌≡◌, refl, ℕ, List, [], ◌∷◌, None, length}
use Rattle.c_tree.specs.declared.values.Value.{Value}
use Rattle.static_rules.specs.declared.symbols.BuiltIn.TheVariants as given
use Rattle.static_rules.specs.Calls.{node_of}

pub no_malloc : (line any : ℕ) (xs : List Value) → ¬ (length xs ≡ 1) → node_of line any given.Malloc xs ≡ None
no_malloc line any [] other = refl
no_malloc line any (x ∷ []) other = absurd (other refl)
no_malloc line any (x ∷ y ∷ rest) other = refl

pub no_free : (line any : ℕ) (xs : List Value) → ¬ (length xs ≡ 1) → node_of line any given.Free xs ≡ None
no_free line any [] other = refl
no_free line any (x ∷ []) other = absurd (other refl)
no_free line any (x ∷ y ∷ rest) other = refl

pub no_strlen : (line any : ℕ) (xs : List Value) → ¬ (length xs ≡ 1) → node_of line any given.Strlen xs ≡ None
no_strlen line any [] other = refl
no_strlen line any (x ∷ []) other = absurd (other refl)
no_strlen line any (x ∷ y ∷ rest) other = refl

pub no_puts : (line any : ℕ) (xs : List Value) → ¬ (length xs ≡ 1) → node_of line any given.Puts xs ≡ None
no_puts line any [] other = refl
no_puts line any (x ∷ []) other = absurd (other refl)
no_puts line any (x ∷ y ∷ rest) other = refl

pub no_putchar : (line any : ℕ) (xs : List Value) → ¬ (length xs ≡ 1) → node_of line any given.Putchar xs ≡ None
no_putchar line any [] other = refl
no_putchar line any (x ∷ []) other = absurd (other refl)
no_putchar line any (x ∷ y ∷ rest) other = refl

pub no_calloc : (line any : ℕ) (xs : List Value) → ¬ (length xs ≡ 2) → node_of line any given.Calloc xs ≡ None
no_calloc line any [] other = refl
no_calloc line any (x ∷ []) other = refl
no_calloc line any (x ∷ y ∷ []) other = absurd (other refl)
no_calloc line any (x ∷ y ∷ z ∷ rest) other = refl

pub no_memcpy : (line any : ℕ) (xs : List Value) → ¬ (length xs ≡ 3) → node_of line any given.Memcpy xs ≡ None
no_memcpy line any [] other = refl
no_memcpy line any (x ∷ []) other = refl
no_memcpy line any (x ∷ y ∷ []) other = refl
no_memcpy line any (x ∷ y ∷ z ∷ []) other = absurd (other refl)
no_memcpy line any (x ∷ y ∷ z ∷ w ∷ rest) other = refl

pub no_memset : (line any : ℕ) (xs : List Value) → ¬ (length xs ≡ 3) → node_of line any given.Memset xs ≡ None
no_memset line any [] other = refl
no_memset line any (x ∷ []) other = refl
no_memset line any (x ∷ y ∷ []) other = refl
no_memset line any (x ∷ y ∷ z ∷ []) other = absurd (other refl)
no_memset line any (x ∷ y ∷ z ∷ w ∷ rest) other = refl
