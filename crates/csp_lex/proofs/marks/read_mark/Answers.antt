use Rattle.std.proofs.lemmas.Option.{IfSome_then}
use Rattle.csp_lex.proofs.Marking.{begins_mark, none_above_three, none_above_two, none_above_one, no_mark_at, none_then}
use Rattle.csp_lex.proofs.marks.read_mark.Goals as goal

pub returns-in-Some-clause-found : goal.returns-in-Some-clause-found
returns-in-Some-clause-found c = begins_mark 3 c.args.cursor _ _ c.requires (none_above_three c.args.cursor) c.in-Some.ensures.found

pub returns-in-Some-read_two-clause-found : goal.returns-in-Some-read_two-clause-found
returns-in-Some-read_two-clause-found c = begins_mark 2 c.args.cursor _ _ c.requires (none_above_two c.args.cursor c.in_default.ensures.none) c.in-Some-read_two.ensures.found

pub returns-clause-found : goal.returns-clause-found
returns-clause-found c =
    IfSome_then c.read_one.result c.read_one.ensures.found
    (λ r reads. begins_mark 1 c.args.cursor r.1 r.0 c.requires (none_above_one c.args.cursor c.in_default-read_two.ensures.none c.in_default.ensures.none) reads)

pub returns-clause-none : goal.returns-clause-none
returns-clause-none c =
    none_then c.read_one.result c.read_one.ensures.none
    (λ one. no_mark_at c.args.cursor c.requires one c.in_default-read_two.ensures.none c.in_default.ensures.none)
