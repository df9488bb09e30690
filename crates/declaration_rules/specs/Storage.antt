-- Storage words of specifiers (C11 6.7.1): where each may stand, and what the specifiers of a declaration say by them.
use Rattle.std.specs.Prelude.{Bool, true, false, ◌&&◌, ◌||◌, List, [], ◌∷◌, Option, Some, None, if◌then◌else◌}
use Rattle.c_grammar.specs.declared.words.Storage.{Storage}
use Rattle.c_grammar.specs.declared.words.Storage.TheVariants as word
use Rattle.c_grammar.specs.declared.phrases.Declarator.TheOpen.{Specifier-F}
use Rattle.c_grammar.specs.declared.phrases.Specifier.{Specifier, out-Specifier}
use Rattle.c_grammar.specs.declared.phrases.Specs.{Specs, out-Specs}
use Rattle.static_rules.specs.declared.faults.CheckKind.{CheckKind}
use Rattle.static_rules.specs.declared.faults.CheckKind.TheVariants as why
use Rattle.static_rules.specs.declared.faults.Feature.TheVariants as feature
use Rattle.static_rules.specs.Layers.{SpecifierLayer}
use Rattle.declaration_rules.specs.declared.specifiers.Setting.{Setting}
use Rattle.declaration_rules.specs.declared.specifiers.Setting.TheVariants as specs_of
use Rattle.static_rules.specs.declared.states.Where.{Where}

abbrev pub is_typedef : Storage → Bool
is_typedef word.Typedef = true
is_typedef word.Extern = false
is_typedef word.Static = false
is_typedef word.Register = false
is_typedef word.Auto = false

abbrev pub is_extern : Storage → Bool
is_extern word.Typedef = false
is_extern word.Extern = true
is_extern word.Static = false
is_extern word.Register = false
is_extern word.Auto = false

abbrev pub is_static : Storage → Bool
is_static word.Typedef = false
is_static word.Extern = false
is_static word.Static = true
is_static word.Register = false
is_static word.Auto = false

-- the others are read and ignored where they may stand
abbrev pub has_effect : Storage → Bool
has_effect word = is_typedef word || is_extern word

abbrev pub mismatch_if : Bool → Option CheckKind
mismatch_if true = Some why.TypeMismatch
mismatch_if false = None

-- Why a storage word may not stand there, behind one with an effect or not. `static` of a declaration in a function is
-- left out; at most one word with an effect stands in a declaration (C11 6.7.1p2); a function that is defined, a member
-- and a parameter are no types (C11 6.9.1p4, 6.7.2.1p1, 6.7.6.3p2), and the name of a type declares nothing (C11
-- 6.7.7p1).
abbrev pub storage_fault : Setting → Where → (behind : Bool) → Storage → Option CheckKind
storage_fault (specs_of.Declaration alone) w behind word =
    if w.in_function && is_static word then Some (why.LeftOut feature.StaticLocal)
    else mismatch_if (behind && has_effect word)
storage_fault specs_of.Definition w behind word = mismatch_if (is_typedef word || behind && has_effect word)
storage_fault specs_of.Member w behind word = mismatch_if (is_typedef word)
storage_fault specs_of.Parameter w behind word = mismatch_if (is_typedef word)
storage_fault specs_of.TypeName w behind word = Some why.TypeMismatch

-- ---- what specifiers say

abbrev pub says_at : (Storage → Bool) → SpecifierLayer → Bool
says_at is (Specifier-F.Storage place word) = is word
says_at is (Specifier-F.Qualifier place word) = false
says_at is (Specifier-F.Basic place word) = false
says_at is (Specifier-F.Members place which tag members) = false
says_at is (Specifier-F.Tag place which tag) = false
says_at is (Specifier-F.Enumerators place tag constants) = false
says_at is (Specifier-F.EnumTag place tag) = false
says_at is (Specifier-F.TypedefName place) = false

abbrev pub any_says : (Storage → Bool) → List Specifier → Bool
any_says is [] = false
any_says is (first ∷ rest) = says_at is (out-Specifier first) || any_says is rest

-- The names that are declared are types (C11 6.7.8).
unfoldable pub says_typedef : Specs → Bool
says_typedef specs = any_says is_typedef (out-Specs specs).words

-- The objects that are declared are those of the whole text, which another declaration defines (C11 6.2.2p4).
unfoldable pub says_extern : Specs → Bool
says_extern specs = any_says is_extern (out-Specs specs).words

-- ---- a tag and nothing else (C11 6.7.2.3p7)

abbrev pub is_tag_at : SpecifierLayer → Bool
is_tag_at (Specifier-F.Tag place which tag) = true
is_tag_at (Specifier-F.Storage place word) = false
is_tag_at (Specifier-F.Qualifier place word) = false
is_tag_at (Specifier-F.Basic place word) = false
is_tag_at (Specifier-F.Members place which tag members) = false
is_tag_at (Specifier-F.Enumerators place tag constants) = false
is_tag_at (Specifier-F.EnumTag place tag) = false
is_tag_at (Specifier-F.TypedefName place) = false

abbrev pub is_tag_alone : List Specifier → Bool
is_tag_alone [] = false
is_tag_alone (only ∷ []) = is_tag_at (out-Specifier only)
is_tag_alone (first ∷ second ∷ rest) = false
