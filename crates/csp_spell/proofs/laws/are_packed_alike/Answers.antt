use Rattle.std.proofs.Common.{◌∙◌}
use Rattle.csp_term.specs.Term.{process_of}
use Rattle.csp_spell.proofs.WholeTerms.{alike, term_is_short, term_is_spellable}
use Rattle.csp_spell.proofs.laws.are_packed_alike.Goals as goal

pub pack-requires : goal.pack-requires
pack-requires g c = term_is_short (process_of c.args.term.now) c.requires.first

pub pack-requires-2 : goal.pack-requires-2
pack-requires-2 g c = term_is_short (process_of c.args.other.now) c.requires.second

pub returns : goal.returns
returns g c =
    let p = process_of c.args.term.now in
    let q = process_of c.args.other.now in
    alike p q (term_is_spellable p c.requires.first c.in_ok-bytes.ensures.range) (term_is_spellable q c.requires.second c.in_ok-others.ensures.range)
    c.deref.result.now c.deref-2.result.now (c.deref.ensures.value ∙ c.in_ok-bytes.ensures.spelled) (c.deref-2.ensures.value ∙ c.in_ok-others.ensures.spelled) c.are_same.result c.are_same.ensures
