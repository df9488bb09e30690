use Rattle.std.proofs.Common.{List}
use Rattle.std.proofs.lemmas.Result.{IfErr-weaker, IfOk-weaker}
use Rattle.c_print.specs.declared.error.FormatError.{FormatError}
use Rattle.c_print.specs.declared.error.FormatError.TheVariants.{Memory, BadFormat}
use Rattle.c_print.specs.Built.{IsReadError}
use Rattle.c_print.specs.Formats.{IsRefusal}
use Rattle.c_print.proofs.Complete.{parts_only, bad_found}
use Rattle.c_print.proofs.Sound.{parts_found}
use Rattle.c_print.proofs.formats.parts_of.Goals as goal

refused : (format : List _) (e : FormatError) → IsReadError format e → IsRefusal format e
refused format (Memory _) h = tt
refused format (BadFormat at) h = bad_found format at h

pub returns : goal.returns
returns c =
    let format = c.args.format.now in
    record {
      found = IfOk-weaker c.read.result _ _ (λ parts h. parts_found format parts.items h) c.read.ensures.parts;
      only = IfOk-weaker c.read.result _ _
          (λ parts h others p. parts_only format parts.items others h p) c.read.ensures.parts;
      refused = IfErr-weaker c.read.result _ _ (λ e h. refused format e h) c.read.ensures.bad;
    }
