-- Too many bytes, or what their value is read as.
use Rattle.std.proofs.Common.{rules, arith}
use Rattle.std.proofs.lemmas.Result.{err_from_is_err_and}
use Rattle.plan_wire.proofs.Places.{path_of_root}
use Rattle.plan_wire.proofs.Bytes.{long, short}
use Rattle.plan_wire.proofs.Kept.Whole.{fits}
use Rattle.plan_wire.proofs.documents.read.read_document.Goals as goal

pub returns-then-bytes-gt-MOST_BYTES-clause-read :
    goal.returns-then-bytes-gt-MOST_BYTES-clause-read
returns-then-bytes-gt-MOST_BYTES-clause-read c = long _ _ (omega arith)

pub returns-in_err-v-clause-read : goal.returns-in_err-v-clause-read
returns-in_err-v-clause-read c =
    let p = err_from_is_err_and c.from_residual.result c.from_residual.ensures.1 in
    rw (p.1, p.2, short c.args.bytes.now c.args.want (omega arith)) (search (rules, c.in_err-v.ensures))

pub returns-clause-read : goal.returns-clause-read
returns-clause-read c = rw (short c.args.bytes.now c.args.want (omega arith), c.in_ok-v.ensures, ← path_of_root) c.value_of.ensures

pub returns-clause-fits : goal.returns-clause-fits
returns-clause-fits c = fits c.args.bytes.now c.args.want c.value_of.result (returns-clause-read c)
