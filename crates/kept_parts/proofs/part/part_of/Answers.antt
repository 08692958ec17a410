use Rattle.std.proofs.Common.{◌∙◌}
use Rattle.csp_spell.proofs.WholeTerms.{term_is_short, term_is_spellable}
use Rattle.csp_term.specs.Term.{process_of}
use Rattle.kept_parts.proofs.part.part_of.Goals as goal

pub pack-requires : goal.pack-requires
pack-requires g c = term_is_short (process_of c.args.term.now) c.requires

pub returns-clause-kept : goal.returns-clause-kept
returns-clause-kept g c = record {
  spellable = term_is_spellable (process_of c.args.term.now) c.requires c.in_ok-spelling.ensures.range;
  spelled = c.shrink_to_fit.ensures.items ∙ c.in_ok-spelling.ensures.spelled;
  size = c.size_of-size.ensures;
  depth = c.depth_of-depth.ensures;
}
