-- How an error line tells a refusal of words: its name, and the place of a word where it has one.
use Rattle.std.specs.Prelude.{ℕ, List, Option, Some, None, codes}
use Rattle.effs_words.specs.declared.error.WordError.{WordError}
use Rattle.effs_words.specs.declared.error.WordError.TheVariants as error

abbrev pub error_name : WordError → List ℕ
error_name (error.Memory e) = codes "OutOfMemory"
error_name error.NoCommand = codes "NoCommand"
error_name (error.UnknownWord n) = codes "UnknownWord"
error_name (error.MissingValue n) = codes "MissingValue"
error_name (error.BadNumber n) = codes "BadNumber"
error_name (error.Repeated n) = codes "Repeated"
error_name error.NoEntry = codes "NoEntry"
error_name error.TooManyEntries = codes "TooManyEntries"
error_name error.NeedsThreads = codes "NeedsThreads"
error_name (error.UnknownWatch n) = codes "UnknownWatch"
error_name (error.Excluded n) = codes "Excluded"

abbrev pub error_place : WordError → Option ℕ
error_place (error.UnknownWord n) = Some n
error_place (error.MissingValue n) = Some n
error_place (error.BadNumber n) = Some n
error_place (error.Repeated n) = Some n
error_place (error.UnknownWatch n) = Some n
error_place (error.Excluded n) = Some n
error_place other = None
