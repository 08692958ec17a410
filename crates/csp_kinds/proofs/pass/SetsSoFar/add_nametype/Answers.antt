-- The nametype's set is read and taken up, and its members are added.
use Rattle.std.proofs.Common.{◌∙◌, ◌++◌, ◌∷◌, [], refl, sym, ap, subst}
use Rattle.theory_text.specs.Raw.{RawNametype}
use Rattle.csp_lex.specs.Places.{place_of}
use Rattle.theory_checking.specs.Sets.{datatypes_of, members_above, with_nametype}
use Rattle.csp_expression.specs.Evaluation.{table_of}
use Rattle.csp_parse.specs.Declarations.{domain_of}
use Rattle.csp_kinds.specs.Faults.{fault_of_set}
use Rattle.csp_kinds.specs.Fit.{TakesNametype}
use Rattle.csp_kinds.specs.Looking.{IsTableOf, looked_refusal}
use Rattle.csp_kinds.specs.Pass.{AreSetsSoFar}
use Rattle.csp_kinds.proofs.FieldsInTurn.{on_ok}
use Rattle.csp_kinds.proofs.Passed.{nametype_taken}
use Rattle.csp_kinds.proofs.pass.SetsSoFar.add_nametype.Goals as goal

pub returns : goal.returns
returns g c =
    on_ok c.push.result
    (λ pushed name raw above below stands position so_far.
    let d = domain_of c.args.domain.now in
    let l = c.in_ok-looked.looked in
    let looked = c.in_ok-looked.ensures raw above (RawNametype name (domain_of c.args.domain.now) ∷ below) (domain_of c.args.domain.now) (record { names = position.names; visible = position.visible; table = so_far.table }) stands refl in
    subst (λ r. AreSetsSoFar raw (above ++ RawNametype name (domain_of c.args.domain.now) ∷ []) (record { table = c.push.new.self; fit = c.add_nametype.new.self; channels = c.args.self.now.channels; refused = r })) (sym c.first_refusal-self.ensures)
    (nametype_taken raw above below name (domain_of c.args.domain.now) stands c.args.at.now position c.args.self.now so_far c.in_ok-looked.looked looked c.len-number.result c.add_nametype.new.self c.fault-fault.result c.push.new.self (c.len-number.ensures ∙ c.args.self.now.table.types.nametypes.ok.0)
    (subst (λ e. TakesNametype (table_of c.args.self.now.table.types) c.len-number.result e c.args.self.now.fit c.add_nametype.new.self) c.expression.ensures c.in_ok-add_nametype.ensures)
    (c.fault-fault.ensures ∙ ap (fault_of_set (looked_refusal c.in_ok-looked.looked) (place_of c.args.domain.now.place) c.add_nametype.new.self.some) c.has_value.ensures)
    (subst (λ m. IsTableOf (datatypes_of raw) (with_nametype m (members_above raw above)) c.push.new.self) c.into_members.ensures (pushed (datatypes_of raw) (members_above raw above) so_far.table))))
    c.push.ensures
