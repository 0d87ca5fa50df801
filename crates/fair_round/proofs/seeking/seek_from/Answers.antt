use Rattle.std.proofs.Common.{rules}
use Rattle.fair_round.proofs.seeking.seek_from.Goals as goal

pub returns-in_err-pieces : goal.returns-in_err-pieces
returns-in_err-pieces c =
    record { sought = search rules; stop = search rules; counted = search rules; same = search rules }

pub returns-in-Pieces : goal.returns-in-Pieces
returns-in-Pieces c =
    record { sought = search rules; stop = search rules; counted = search rules; same = search rules }

pub returns-in_err-keep_run-in-Barred : goal.returns-in_err-keep_run-in-Barred
returns-in_err-keep_run-in-Barred c =
    record { sought = search rules; stop = search rules; counted = search rules; same = search rules }

pub returns-in_ok-keep_run-in-Barred : goal.returns-in_ok-keep_run-in-Barred
returns-in_ok-keep_run-in-Barred c =
    record { sought = search rules; stop = search rules; counted = search rules; same = search rules }
