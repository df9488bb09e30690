-- No bad word is told as the end of memory.
use Rattle.std.proofs.Common.{◌≡◌, ◌⊎◌, inl, inr, ℕ, Bool, true, false, List, Some, sym, subst}
use Rattle.std.specs.Prelude.{is_some}
use Rattle.effs_words.specs.Numbers.{Word}
use Rattle.effs_words.specs.Options.{Asked, word_fault, value_fault, told_if, told_unless, or_told_if}
use Rattle.effs_words.specs.Lines as line
use Rattle.effs_words.specs.Lines.{IsBadNext}
use Rattle.effs_words.specs.Words as words
use Rattle.effs_words.specs.Words.{BadWord, IsMemory}
use Rattle.effs_words.specs.declared.error.WordError.{WordError}
use Rattle.effs_words.specs.declared.error.WordError.TheVariants as error
use Rattle.effs_words.specs.declared.options.OptionName.{OptionName}
use Rattle.effs_words.specs.declared.options.OptionName.TheVariants.{Entry, Setup, Finish, Turns, Record, Bytes, Trim, Watch, Schedule}

same : (x e : WordError) → Some x ≡ Some e → IsMemory e → IsMemory x
same x e is m = (let equal : x ≡ e = cc in subst IsMemory (sym equal) m)

of_told : (b : Bool) (x e : WordError) → told_if b x ≡ Some e → IsMemory e → IsMemory x
of_told true x e is m = same x e is m
of_told false x e is m = absurd cc

of_unless : (b : Bool) (x e : WordError) → told_unless b x ≡ Some e → IsMemory e → IsMemory x
of_unless true x e is m = absurd cc
of_unless false x e is m = same x e is m

of_either : (b c : Bool) (x y e : WordError) → or_told_if (told_if b x) c y ≡ Some e → IsMemory e → IsMemory x ⊎ IsMemory y
of_either true c x y e is m = inl (same x e is m)
of_either false c x y e is m = inr (of_told c y e is m)

no_word : (a : Asked) (n : ℕ) (name : OptionName) (e : WordError) → word_fault a n name ≡ Some e → IsMemory e → ⊥
no_word a n Entry e is m = absurd cc
no_word a n Setup e is m = of_told (is_some a.setup) (error.Repeated n) e is m
no_word a n Finish e is m = of_told (is_some a.finish) (error.Repeated n) e is m
no_word a n Turns e is m = of_told (is_some a.turns) (error.Repeated n) e is m
no_word a n Record e is m = elim (of_either _ _ (error.Repeated n) (error.Excluded n) e is m) [ inl never ↦ never | inr never ↦ never ]
no_word a n Bytes e is m = elim (of_either _ _ (error.Repeated n) (error.Excluded n) e is m) [ inl never ↦ never | inr never ↦ never ]
no_word a n Trim e is m = of_told a.trim (error.Repeated n) e is m
no_word a n Watch e is m = of_told a.bytes (error.Excluded n) e is m
no_word a n Schedule e is m = of_told (is_some a.schedule) (error.Repeated n) e is m

no_value : (workers : ℕ) (a : Asked) (n : ℕ) (name : OptionName) (value : Word) (e : WordError) → value_fault workers a n name value ≡ Some e → IsMemory e → ⊥
no_value workers a n Entry value e is m = of_told _ error.TooManyEntries e is m
no_value workers a n Turns value e is m = of_unless _ (error.BadNumber _) e is m
no_value workers a n Watch value e is m = of_told _ (error.Repeated n) e is m
no_value workers a n Schedule value e is m = of_unless _ (error.BadNumber _) e is m
no_value workers a n Setup value e is m = absurd cc
no_value workers a n Finish value e is m = absurd cc
no_value workers a n Record value e is m = absurd cc
no_value workers a n Bytes value e is m = absurd cc
no_value workers a n Trim value e is m = absurd cc

no_next : {play : Bool} {workers n : ℕ} {a : Asked} {ws : List Word} {e : WordError} → IsBadNext play workers a n ws e → IsMemory e → ⊥
no_next (line.unknown none) m = m
no_next {n = n} {a = a} {e = e} (line.misplaced name is fault) m = no_word a n name e fault m
no_next (line.missing name is none takes) m = m
no_next {workers = workers} {n = n} {a = a} {e = e} (line.bad_value {value = value} name is none takes fault) m = no_value workers a n name value e fault m
no_next (line.no_entry empty) m = m

pub no_memory : (ws : List Word) (e : WordError) → BadWord ws e → IsMemory e → ⊥
no_memory ws e words.no_command m = m
no_memory ws e (words.unknown none) m = m
no_memory ws e (words.run before rest a named reads bad) m = no_next bad m
no_memory ws e (words.play before rest a named reads bad) m = no_next bad m
no_memory ws e (words.no_elem named) m = m
no_memory ws e (words.no_size named) m = m
no_memory ws e (words.bad_size named none) m = m
no_memory ws e (words.no_offset s named is) m = m
no_memory ws e (words.bad_offset s named is none) m = m
no_memory ws e (words.no_want s k named is there) m = m
no_memory ws e (words.after_layout s k named is there) m = m
no_memory ws e (words.after_check named) m = m
no_memory ws e (words.after_verify named) m = m
no_memory ws e (words.no_scale named) m = m
no_memory ws e (words.bad_scale named none) m = m
no_memory ws e (words.after_big n named is) m = m
