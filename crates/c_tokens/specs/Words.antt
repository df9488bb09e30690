-- How keywords and marks are spelled (C11 6.4.1 and 6.4.6): the tables of the code.
use Rattle.std.specs.Prelude.{◌≡◌, ℕ, Bool, List, [], ◌∷◌, ◌⊎◌, map}
use denote.Enum.Bare.{sameb}
use Rattle.c_tokens.specs.contracts.kind.Keyword.{the_type as keyword_type}
use Rattle.c_tokens.specs.contracts.kind.Mark.{the_type as mark_type}
use Rattle.c_tokens.specs.declared.kind.Keyword.{Keyword}
use Rattle.c_tokens.specs.declared.kind.Mark.{Mark}
use Rattle.c_tokens.specs.declared.words.TheConstants.{KEYWORDS, MARKS}

abbrev pub keywords : List (Keyword × List ℕ)
keywords = map (λ e. (e.0, e.1.now)) KEYWORDS

-- a longer one before those that it begins with
abbrev pub marks : List (Mark × List ℕ)
marks = map (λ e. (e.0, e.1.now)) MARKS

-- the word stands in the table, for this entry
abbrev pub Among : {K : Type 0} → List (K × List ℕ) → K → List ℕ → Type 0
Among [] kind word = ⊥
Among (e ∷ table) kind word = ((e.0 ≡ kind) × (e.1 ≡ word)) ⊎ Among table kind word

-- the entry is of this keyword
abbrev pub is_of_keyword : Keyword → Keyword × List ℕ → Bool
is_of_keyword word e = sameb keyword_type e.0 word

-- the entry is of this mark
abbrev pub is_of_mark : Mark → Mark × List ℕ → Bool
is_of_mark mark e = sameb mark_type e.0 mark
