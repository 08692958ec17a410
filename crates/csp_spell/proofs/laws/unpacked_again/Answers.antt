use Rattle.std.proofs.Common.{sym, ◌∙◌}
use Rattle.csp_term.specs.Term.{process_of}
use Rattle.csp_spell.proofs.WholeTerms.{term_is_short, term_is_spellable}
use Rattle.csp_spell.proofs.laws.unpacked_again.Goals as goal

pub pack-requires : goal.pack-requires
pack-requires g c = term_is_short (process_of c.args.term.now) c.requires

pub returns : goal.returns
returns g c =
    let p = process_of c.args.term.now in
    c.unpack.ensures.only p (term_is_spellable p c.requires c.in_ok-bytes.ensures.range) (sym (c.deref.ensures.value ∙ c.in_ok-bytes.ensures.spelled))
