use Rattle.std.proofs.Common.{◌∙◌}
use Rattle.theory_spelling.specs.Reading.{process_at}
use Rattle.csp_term.specs.Field.{fields_of}
use Rattle.csp_term.specs.Term.{process_of}
use Rattle.csp_term.proofs.Forms.{of_prefix}
use Rattle.csp_spell.proofs.ReadingTerms.{prefix_found}
use Rattle.csp_spell.proofs.read_terms.+read_term.Goals as goal

pub read_prefix-returns : goal.read_prefix-returns
read_prefix-returns g t c =
    let fields = c.in_ok-fields.fields in
    prefix_found c.args.depth (process_at c.args.depth) c.args.bytes.now c.in_ok-channel.channel c.in_ok-channel.rest.now (fields_of fields.items) c.in_ok-fields.rest.now (process_of c.in_ok-body.body) c.in_ok-body.rest.now (process_of c.in_ok-new.field-0) c.in_ok-channel.ensures c.in_ok-fields.ensures c.in_ok-body.ensures
    (c.in_ok-new.ensures ∙ of_prefix g.row.A.Denot _ fields c.in_ok-body.body)
