-- A constructor lacks fields where it has some; any other name lacks none.
use Rattle.std.proofs.Common.{◌∙◌, ◌≡◌, Some, ap, not, sym}
use Rattle.theory_checking.specs.Names.{ConstructorName, Declared, meaning}
use Rattle.theory_checking.specs.Resolving as resolving
use Rattle.csp_names.specs.Meanings.{meaning_of}
use Rattle.csp_names.proofs.ConstructorNames.{is_constructor, lacks_by_count, lacks_none}
use Rattle.csp_names.proofs.NameMeanings.{constructor_has}
use Rattle.csp_names.proofs.scope.Scope.lacks_fields.Goals as goal

pub returns-in-Some : goal.returns-in-Some
returns-in-Some g c bound env n stands is =
    let k = c.in-Some.constructor.0 in
    let means : meaning env n ≡ Some (Declared ConstructorName k) = is ∙ ap Some (is_constructor (meaning_of c.args.meaning) k c.in-Some.ensures) in
    let counted = sym (constructor_has c.args.self.now bound env stands n k means ∙ sym c.constructor_count.ensures) in
    ap not c.counts_agree.ensures ∙ lacks_by_count c.constructor_count.result ∙ ap resolving.lacks_fields counted

pub returns-in-None : goal.returns-in-None
returns-in-None g c bound env n stands is = sym (lacks_none env n (meaning_of c.args.meaning) is c.in-None.ensures)
