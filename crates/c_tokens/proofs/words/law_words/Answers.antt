use Rattle.std.proofs.Common.{◌≡◌, count_by, refl}
use Rattle.c_tokens.specs.declared.kind.Keyword.{Keyword}
use Rattle.c_tokens.specs.declared.kind.Keyword.TheVariants as word
use Rattle.c_tokens.specs.declared.kind.Mark.{Mark}
use Rattle.c_tokens.specs.declared.kind.Mark.TheVariants as mark
use Rattle.c_tokens.specs.Words.{keywords, marks, is_of_keyword, is_of_mark}
use Rattle.c_tokens.proofs.words.law_words.Goals as goal

one_keyword : (word : Keyword) → count_by (is_of_keyword word) keywords ≡ 1
one_keyword word.Auto = refl
one_keyword _ = refl

one_mark : (mark : Mark) → count_by (is_of_mark mark) marks ≡ 1
one_mark mark.LeftBracket = refl
one_mark _ = refl

pub returns-clause-keywords : goal.returns-clause-keywords
returns-clause-keywords c word = one_keyword word

pub returns-clause-marks : goal.returns-clause-marks
returns-clause-marks c mark = one_mark mark
