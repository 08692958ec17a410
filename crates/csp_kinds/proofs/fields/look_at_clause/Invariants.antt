use Rattle.std.specs.Prelude.{map, take}
use Rattle.csp_parse.specs.Declarations.{domain_of}
use Rattle.csp_kinds.specs.Fields.{AreFieldsOfClause, IsNextClause}
use Rattle.csp_kinds.proofs.fields.look_at_clause.Given as goal

abbrev pub invariant-loop-field : goal.invariant-loop-field
invariant-loop-field g l =
    (next : IsNextClause l.fn.above l.fn.fit l.fn.constructor (map domain_of l.fn.domains)) →
    AreFieldsOfClause next.raw next.above next.name next.clauses next.c (map domain_of (take l.field l.fn.domains)) l.fn.fit.some l.fields l.fit
