-- Lines of a fixed number of words.
use Rattle.std.proofs.Common.{◌≡◌, ℕ, ◌≤◌, List, [], ◌∷◌, length, map, get_or, Some, None, sym, ap, ◌∙◌, arith}
use Rattle.effs_words.specs.Numbers.{Word}
use Rattle.effs_words.specs.Words as words
use Rattle.effs_words.specs.Words.{Words, BadWord, command_of, size_of, offset_of, scale_of}
use Rattle.effs_words.specs.declared.command.Command.TheVariants as command
use Rattle.effs_words.specs.declared.error.WordError.TheVariants as error
use Rattle.effs_words.specs.declared.options.CommandName.TheVariants as name

module _ {X : Type 0} (f : X → Word) where
  pub no_word : (ws : List X) → length ws ≡ 0 → BadWord (map f ws) error.NoCommand
  no_word [] empty = words.no_command
  no_word (x ∷ ws) empty = absurd (omega arith)

  pub no_such_command : (ws : List X) (x : X) → 1 ≤ length ws → x ≡ get_or ws 0 x → None ≡ command_of (f x)
      → BadWord (map f ws) (error.UnknownWord 1)
  no_such_command [] x some is other = absurd (omega arith)
  no_such_command (y ∷ ws) x some is other = words.unknown (ap (λ z. command_of (f z)) (sym is) ∙ sym other)

module _ {X : Type 0} (f : X → Word) (word : Word) where
  -- ---- no word

  pub check_alone : (ws : List X) → length ws ≡ 0 → command_of word ≡ Some name.Check → Words (word ∷ map f ws) command.Check
  check_alone [] empty named = words.check named
  check_alone (x ∷ ws) empty named = absurd (omega arith)

  pub check_more : (ws : List X) → 1 ≤ length ws → command_of word ≡ Some name.Check → BadWord (word ∷ map f ws) (error.UnknownWord 2)
  check_more [] some named = absurd (omega arith)
  check_more (x ∷ ws) some named = words.after_check named

  pub verify_alone : (ws : List X) → length ws ≡ 0 → command_of word ≡ Some name.Verify → Words (word ∷ map f ws) command.Verify
  verify_alone [] empty named = words.verify named
  verify_alone (x ∷ ws) empty named = absurd (omega arith)

  pub verify_more : (ws : List X) → 1 ≤ length ws → command_of word ≡ Some name.Verify → BadWord (word ∷ map f ws) (error.UnknownWord 2)
  verify_more [] some named = absurd (omega arith)
  verify_more (x ∷ ws) some named = words.after_verify named

  -- ---- one

  pub big_missing : (ws : List X) → length ws ≡ 0 → command_of word ≡ Some name.Big → BadWord (word ∷ map f ws) (error.MissingValue 1)
  big_missing [] empty named = words.no_scale named
  big_missing (x ∷ ws) empty named = absurd (omega arith)

  pub big_bad : (ws : List X) (x : X) → 1 ≤ length ws → x ≡ get_or ws 0 x → None ≡ scale_of (f x) → command_of word ≡ Some name.Big
      → BadWord (word ∷ map f ws) (error.BadNumber 2)
  big_bad [] x some is bad named = absurd (omega arith)
  big_bad (y ∷ ws) x some is bad named = words.bad_scale named (ap (λ z. scale_of (f z)) (sym is) ∙ sym bad)

  pub big_good : (ws : List X) (x : X) (n : ℕ) → length ws ≡ 1 → x ≡ get_or ws 0 x → Some n ≡ scale_of (f x) → command_of word ≡ Some name.Big
      → Words (word ∷ map f ws) (command.Big n)
  big_good [] x n one is good named = absurd (omega arith)
  big_good (y ∷ []) x n one is good named = words.big named (ap (λ z. scale_of (f z)) (sym is) ∙ sym good)
  big_good (y ∷ z ∷ ws) x n one is good named = absurd (omega arith)

  pub big_more : (ws : List X) (x : X) (n : ℕ) → 2 ≤ length ws → x ≡ get_or ws 0 x → Some n ≡ scale_of (f x) → command_of word ≡ Some name.Big
      → BadWord (word ∷ map f ws) (error.UnknownWord 3)
  big_more [] x n more is good named = absurd (omega arith)
  big_more (y ∷ []) x n more is good named = absurd (omega arith)
  big_more (y ∷ z ∷ ws) x n more is good named = words.after_big n named (ap (λ z. scale_of (f z)) (sym is) ∙ sym good)

  -- ---- four

  module _ (named : command_of word ≡ Some name.Layout) where
    pub layout_0 : (ws : List X) → length ws ≡ 0 → BadWord (word ∷ map f ws) (error.MissingValue 1)
    layout_0 [] empty = words.no_elem named
    layout_0 (x ∷ ws) empty = absurd (omega arith)

    pub layout_1 : (ws : List X) → length ws ≡ 1 → BadWord (word ∷ map f ws) (error.MissingValue 2)
    layout_1 [] one = absurd (omega arith)
    layout_1 (x ∷ []) one = words.no_size named
    layout_1 (x ∷ y ∷ ws) one = absurd (omega arith)

    sized : (x y : X) (s : ℕ) → x ≡ y → Some s ≡ size_of (f x) → size_of (f y) ≡ Some s
    sized x y s is good = ap (λ z. size_of (f z)) (sym is) ∙ sym good

    placed : (x y : X) (k : ℕ) → x ≡ y → Some k ≡ offset_of (f x) → offset_of (f y) ≡ Some k
    placed x y k is good = ap (λ z. offset_of (f z)) (sym is) ∙ sym good

    pub layout_size : (ws : List X) (x : X) → 2 ≤ length ws → x ≡ get_or ws 1 x → None ≡ size_of (f x) → BadWord (word ∷ map f ws) (error.BadNumber 3)
    layout_size [] x two is bad = absurd (omega arith)
    layout_size (a ∷ []) x two is bad = absurd (omega arith)
    layout_size (a ∷ b ∷ ws) x two is bad = words.bad_size named (ap (λ z. size_of (f z)) (sym is) ∙ sym bad)

    pub layout_2 : (ws : List X) (x : X) (s : ℕ) → length ws ≡ 2 → x ≡ get_or ws 1 x → Some s ≡ size_of (f x) → BadWord (word ∷ map f ws) (error.MissingValue 3)
    layout_2 [] x s two is good = absurd (omega arith)
    layout_2 (a ∷ []) x s two is good = absurd (omega arith)
    layout_2 (a ∷ b ∷ []) x s two is good = words.no_offset s named (sized x b s is good)
    layout_2 (a ∷ b ∷ c ∷ ws) x s two is good = absurd (omega arith)

    pub layout_offset : (ws : List X) (x y : X) (s : ℕ) → 3 ≤ length ws → x ≡ get_or ws 1 x → Some s ≡ size_of (f x) → y ≡ get_or ws 2 y
        → None ≡ offset_of (f y) → BadWord (word ∷ map f ws) (error.BadNumber 4)
    layout_offset [] x y s three is good at bad = absurd (omega arith)
    layout_offset (a ∷ []) x y s three is good at bad = absurd (omega arith)
    layout_offset (a ∷ b ∷ []) x y s three is good at bad = absurd (omega arith)
    layout_offset (a ∷ b ∷ c ∷ ws) x y s three is good at bad =
        words.bad_offset s named (sized x b s is good) (ap (λ z. offset_of (f z)) (sym at) ∙ sym bad)

    pub layout_3 : (ws : List X) (x y : X) (s k : ℕ) → length ws ≡ 3 → x ≡ get_or ws 1 x → Some s ≡ size_of (f x) → y ≡ get_or ws 2 y
        → Some k ≡ offset_of (f y) → BadWord (word ∷ map f ws) (error.MissingValue 4)
    layout_3 [] x y s k three is good at there = absurd (omega arith)
    layout_3 (a ∷ []) x y s k three is good at there = absurd (omega arith)
    layout_3 (a ∷ b ∷ []) x y s k three is good at there = absurd (omega arith)
    layout_3 (a ∷ b ∷ c ∷ []) x y s k three is good at there = words.no_want s k named (sized x b s is good) (placed y c k at there)
    layout_3 (a ∷ b ∷ c ∷ d ∷ ws) x y s k three is good at there = absurd (omega arith)

    pub layout_4 : (ws : List X) (x y u v : X) (s k : ℕ) → length ws ≡ 4 → x ≡ get_or ws 1 x → Some s ≡ size_of (f x) → y ≡ get_or ws 2 y
        → Some k ≡ offset_of (f y) → u ≡ get_or ws 0 u → v ≡ get_or ws 3 v → Words (word ∷ map f ws) (command.Layout (f u) s k (f v))
    layout_4 [] x y u v s k four is good at there first last = absurd (omega arith)
    layout_4 (a ∷ []) x y u v s k four is good at there first last = absurd (omega arith)
    layout_4 (a ∷ b ∷ []) x y u v s k four is good at there first last = absurd (omega arith)
    layout_4 (a ∷ b ∷ c ∷ []) x y u v s k four is good at there first last = absurd (omega arith)
    layout_4 (a ∷ b ∷ c ∷ d ∷ []) x y u v s k four is good at there first last =
        rw (first, last) (words.layout named (sized x b s is good) (placed y c k at there))
    layout_4 (a ∷ b ∷ c ∷ d ∷ e ∷ ws) x y u v s k four is good at there first last = absurd (omega arith)

    pub layout_more : (ws : List X) (x y : X) (s k : ℕ) → 5 ≤ length ws → x ≡ get_or ws 1 x → Some s ≡ size_of (f x) → y ≡ get_or ws 2 y
        → Some k ≡ offset_of (f y) → BadWord (word ∷ map f ws) (error.UnknownWord 6)
    layout_more [] x y s k more is good at there = absurd (omega arith)
    layout_more (a ∷ []) x y s k more is good at there = absurd (omega arith)
    layout_more (a ∷ b ∷ []) x y s k more is good at there = absurd (omega arith)
    layout_more (a ∷ b ∷ c ∷ []) x y s k more is good at there = absurd (omega arith)
    layout_more (a ∷ b ∷ c ∷ d ∷ []) x y s k more is good at there = absurd (omega arith)
    layout_more (a ∷ b ∷ c ∷ d ∷ e ∷ ws) x y s k more is good at there = words.after_layout s k named (sized x b s is good) (placed y c k at there)
