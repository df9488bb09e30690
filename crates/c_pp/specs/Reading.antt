-- What a line after a `#` says, as a function.
use Rattle.std.specs.Prelude.{ℕ, not, ◌&&◌, List, [], ◌∷◌, codes, if◌then◌else◌}
use Rattle.std.specs.List.{prefix_len}
use Rattle.std.specs.Str.{bytes_eq}
use Rattle.c_tokens.specs.declared.token.Token.{Token}
use Rattle.c_pp.specs.declared.directive.Directive.{Directive}
use Rattle.c_pp.specs.declared.directive.Directive.TheVariants.{Nothing, Define, Undefine, UnknownHeader, Unknown}
use Rattle.c_tokens.specs.Names.{Text, Name, spelling, is_name}
use Rattle.c_pp.specs.Directives.{is_header, touches}

-- how many of the tokens stand before the next that is first of its line
abbrev pub line_len : List Token → ℕ
line_len ts = prefix_len (λ (token : Token). not token.first) ts

abbrev pub include : Text → List Token → Directive
include text header = if is_header text header then Nothing else UnknownHeader

abbrev pub define : Text → List Token → Directive
define text [] = Unknown
define text (name ∷ body) = if is_name name.kind && not (touches text name body) then Define else Unknown

abbrev pub undef : List Token → Directive
undef (name ∷ []) = if is_name name.kind then Undefine else Unknown
undef _ = Unknown

abbrev pub by_word : Text → Name → List Token → Directive
by_word text word ts =
    if bytes_eq word (codes "include") then include text ts
    else (if bytes_eq word (codes "define") then define text ts
    else (if bytes_eq word (codes "undef") then undef ts else Unknown))

unfoldable pub said : Text → List Token → Directive
said text [] = Nothing
said text (word ∷ ts) = if is_name word.kind then by_word text (spelling text word) ts else Unknown
