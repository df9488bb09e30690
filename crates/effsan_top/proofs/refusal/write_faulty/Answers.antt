use Rattle.std.proofs.Common.{◌++◌, codes}
use Rattle.std.specs.Fmt.{decimal}
use Rattle.std.proofs.lemmas.Result.{err_from_is_err_and}
use Rattle.effsan_top.specs.Faults.{fault_name}
use Rattle.effsan_top.proofs.Pieces.{appends_both, some_of_front, some_after}
use Rattle.effsan_top.proofs.refusal.write_faulty.Goals as goal

pub returns-in_err-write_line_number-clause-failed : goal.returns-in_err-write_line_number-clause-failed
returns-in_err-write_line_number-clause-failed g c =
    let p = err_from_is_err_and c.from_residual.result c.from_residual.ensures.1 in
    rw p.1 ((some_of_front ((codes "effsan: line " ++ decimal c.args.fault.line) ++ (codes ": " ++ fault_name c.args.fault.kind)) (codes "\n") _ _ (some_of_front (codes "effsan: line " ++ decimal c.args.fault.line) (codes ": " ++ fault_name c.args.fault.kind) _ _ c.in_err-write_line_number.ensures.failed)))

pub returns-in_err-write_fault_name-clause-failed : goal.returns-in_err-write_fault_name-clause-failed
returns-in_err-write_fault_name-clause-failed g c =
    let p = err_from_is_err_and c.from_residual-in_err-write_fault_name.result c.from_residual-in_err-write_fault_name.ensures.1 in
    rw p.1 ((some_of_front ((codes "effsan: line " ++ decimal c.args.fault.line) ++ (codes ": " ++ fault_name c.args.fault.kind)) (codes "\n") _ _ (some_after (codes "effsan: line " ++ decimal c.args.fault.line) (codes ": " ++ fault_name c.args.fault.kind) _ _ _ c.in_ok-write_line_number.ensures.ok c.in_err-write_fault_name.ensures.failed)))

pub returns-in_err-write_all-clause-failed : goal.returns-in_err-write_all-clause-failed
returns-in_err-write_all-clause-failed g c =
    let p = err_from_is_err_and c.from_residual-in_err-write_all.result c.from_residual-in_err-write_all.ensures.1 in
    rw p.1 ((some_after ((codes "effsan: line " ++ decimal c.args.fault.line) ++ (codes ": " ++ fault_name c.args.fault.kind)) (codes "\n") _ _ _ (appends_both (codes "effsan: line " ++ decimal c.args.fault.line) (codes ": " ++ fault_name c.args.fault.kind) _ _ _ c.in_ok-write_line_number.ensures.ok c.in_ok-write_fault_name.ensures.ok) c.in_err-write_all.ensures.part))

pub returns-clause-ok : goal.returns-clause-ok
returns-clause-ok g c =
    (appends_both ((codes "effsan: line " ++ decimal c.args.fault.line) ++ (codes ": " ++ fault_name c.args.fault.kind)) (codes "\n") _ _ _ (appends_both (codes "effsan: line " ++ decimal c.args.fault.line) (codes ": " ++ fault_name c.args.fault.kind) _ _ _ c.in_ok-write_line_number.ensures.ok c.in_ok-write_fault_name.ensures.ok) c.in_ok-write_all.ensures.all)
