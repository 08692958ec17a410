use Rattle.std.proofs.Common.{sym, ◌∙◌, ap, Some, None}
use Rattle.std.specs.Option.{option_copied}
use Rattle.kept_parts.proofs.Ordering.{told}
use Rattle.kept_parts.proofs.parts.Parts.compare.Goals as goal

pub returns-in-Some-Some : goal.returns-in-Some-Some
returns-in-Some-Some g c =
    c.compare_terms.ensures
    ∙ told c.args.self.now.terms.items c.args.part.0 c.args.other.0 (Some c.in-Some-Some.part.now) (Some c.in-Some-Some.other.now) (sym (ap option_copied c.in-Some-Some.is-0) ∙ c.term.ensures) (sym (ap option_copied c.in-Some-Some.is-1) ∙ c.term-2.ensures)

pub returns-in-Some-None : goal.returns-in-Some-None
returns-in-Some-None g c =
    told c.args.self.now.terms.items c.args.part.0 c.args.other.0 (Some c.in-Some-None.field-0-0.now) None (sym (ap option_copied c.in-Some-None.is-0) ∙ c.term.ensures) (sym (ap option_copied c.in-Some-None.is-1) ∙ c.term-2.ensures)

pub returns-in-None-Some : goal.returns-in-None-Some
returns-in-None-Some g c =
    told c.args.self.now.terms.items c.args.part.0 c.args.other.0 None (Some c.in-None-Some.field-0-1.now) (sym (ap option_copied c.in-None-Some.is-0) ∙ c.term.ensures) (sym (ap option_copied c.in-None-Some.is-1) ∙ c.term-2.ensures)

pub returns-in-None-None : goal.returns-in-None-None
returns-in-None-None g c =
    told c.args.self.now.terms.items c.args.part.0 c.args.other.0 None None (sym (ap option_copied c.in-None-None.is-0) ∙ c.term.ensures) (sym (ap option_copied c.in-None-None.is-1) ∙ c.term-2.ensures)
