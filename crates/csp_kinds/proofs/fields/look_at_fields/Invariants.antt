use Rattle.std.specs.Prelude.{map, take}
use Rattle.csp_parse.specs.Declarations.{domain_of}
use Rattle.csp_kinds.specs.Fields.{AreFieldsOf, IsNextOf}
use Rattle.csp_kinds.proofs.fields.look_at_fields.Given as goal

abbrev pub invariant-loop-field : goal.invariant-loop-field
invariant-loop-field g l =
    (next : IsNextOf l.fn.above l.fn.fit l.fn.first l.fn.channels (map domain_of l.fn.domains)) →
    AreFieldsOf next.raw next.above next.names (map domain_of (take l.field l.fn.domains)) l.fn.fit.some l.fields l.fit
