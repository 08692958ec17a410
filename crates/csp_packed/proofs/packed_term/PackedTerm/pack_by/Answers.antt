use Rattle.csp_term.specs.Term.{process_of}
use Rattle.csp_spell.proofs.WholeTerms.{term_is_short}
use Rattle.csp_packed.proofs.Spelled.{spelled_of_spelling, spells_of_spelling}
use Rattle.csp_packed.proofs.packed_term.PackedTerm.pack_by.Goals as goal

pub pack_by-requires : goal.pack_by-requires
pack_by-requires g c = term_is_short (process_of c.args.term.now) c.requires

pub invariant_of-result : goal.invariant_of-result
invariant_of-result g c = record {
  spells = spells_of_spelling (process_of c.args.term.now) c.in_ok-bytes.bytes.items c.requires c.in_ok-bytes.ensures.range c.in_ok-bytes.ensures.spelled;
}

pub returns : goal.returns
returns g c = spelled_of_spelling (process_of c.args.term.now) c.in_ok-bytes.bytes.items c.requires c.in_ok-bytes.ensures.range c.in_ok-bytes.ensures.spelled
