use Rattle.std.proofs.Common.{◌∙◌}
use Rattle.csp_term.specs.Term.{process_of}
use Rattle.csp_spell.proofs.WholeTerms.{term_is_short}
use Rattle.csp_packed.proofs.Spelled.{spelled_of_spelling, spells_of_spelling}
use Rattle.csp_packed.proofs.packed_term.PackedTerm.pack.Goals as goal

pub pack-requires : goal.pack-requires
pack-requires g c = term_is_short (process_of c.args.term.now) c.requires

pub invariant_of-result : goal.invariant_of-result
invariant_of-result g c = record {
  spells = spells_of_spelling (process_of c.args.term.now) c.shrink_to_fit.new.self.items c.requires c.in_ok-bytes.ensures.range (c.shrink_to_fit.ensures.items ∙ c.in_ok-bytes.ensures.spelled);
}

pub returns : goal.returns
returns g c = spelled_of_spelling (process_of c.args.term.now) c.shrink_to_fit.new.self.items c.requires c.in_ok-bytes.ensures.range (c.shrink_to_fit.ensures.items ∙ c.in_ok-bytes.ensures.spelled)
