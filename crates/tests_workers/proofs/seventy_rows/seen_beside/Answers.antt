use borrow.Author.Rules.{rules}
use denote.Param.Send.{sendable}
use Rattle.tests_workers.proofs.seventy_rows.seen_beside.Goals as goal

pub work-seat-requires : goal.work-seat-requires
work-seat-requires g c κs =
    let sp = c.type_bounds.sync-P in
    (search sendable depth 20, (search sendable depth 20, (search rules, (c.requires, (search rules, search rules)))))
