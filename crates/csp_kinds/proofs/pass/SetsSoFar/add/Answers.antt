-- Each sort of declaration is taken up.
use Rattle.std.specs.Prelude.{map}
use Rattle.std.proofs.Common.{◌∙◌, sym, ap, ap₂, subst}
use Rattle.theory_text.specs.Raw.{RawChannels, RawDatatype}
use Rattle.csp_parse.specs.Declarations.{clause_of, declaration_of, domain_of}
use Rattle.csp_parse.specs.Names.{name_of}
use Rattle.csp_kinds.specs.Pass.{HasNext, TakesUp}
use Rattle.csp_kinds.specs.Passing.{declares_sets}
use Rattle.csp_kinds.proofs.FieldsInTurn.{on_ok}
use Rattle.csp_kinds.proofs.Fitting.{fit_open}
use Rattle.csp_kinds.proofs.Passed.{other_up}
use Rattle.csp_kinds.proofs.pass.SetsSoFar.add.Goals as goal

pub add_nametype-requires : goal.add_nametype-requires
add_nametype-requires g c = fit_open c.requires.raw c.requires.above c.args.self.now.fit c.requires.so_far.fit

pub returns-in-Nametype : goal.returns-in-Nametype
returns-in-Nametype g c =
    on_ok c.add_nametype.result (λ taken. subst (λ d. TakesUp c.args.at.now d c.args.self.now c.add_nametype.new.self) (sym (ap declaration_of c.in-Nametype.is)) (taken (name_of c.in-Nametype.name))) c.add_nametype.ensures

pub add_channels-requires : goal.add_channels-requires
add_channels-requires g c =
    subst (HasNext c.args.at.now c.args.self.now)
    (ap declaration_of c.in-Channels.is ∙ ap₂ (λ ns ds. RawChannels (map name_of ns) (map domain_of ds)) (sym c.deref.ensures.value) (sym c.deref-in-Channels.ensures.value)) c.requires

pub returns-in-Channels : goal.returns-in-Channels
returns-in-Channels g c =
    on_ok c.add_channels.result
    (λ taken.
    subst (λ d. TakesUp c.args.at.now d c.args.self.now c.add_channels.new.self)
    (sym (ap declaration_of c.in-Channels.is ∙ ap₂ (λ ns ds. RawChannels (map name_of ns) (map domain_of ds)) (sym c.deref.ensures.value) (sym c.deref-in-Channels.ensures.value))) taken)
    c.add_channels.ensures

pub add_datatype-requires : goal.add_datatype-requires
add_datatype-requires g c = (
  name_of c.in-Datatype.name,
  subst (HasNext c.args.at.now c.args.self.now) (ap declaration_of c.in-Datatype.is ∙ ap (λ cs. RawDatatype (name_of c.in-Datatype.name) (map clause_of cs)) (sym c.deref-in-Datatype.ensures.value)) c.requires,
)

pub returns-in-Datatype : goal.returns-in-Datatype
returns-in-Datatype g c =
    on_ok c.add_datatype.result
    (λ taken.
    subst (λ d. TakesUp c.args.at.now d c.args.self.now c.add_datatype.new.self)
    (sym (ap declaration_of c.in-Datatype.is ∙ ap (λ cs. RawDatatype (name_of c.in-Datatype.name) (map clause_of cs)) (sym c.deref-in-Datatype.ensures.value))) (taken (name_of c.in-Datatype.name)))
    c.add_datatype.ensures

pub returns-in-Equation : goal.returns-in-Equation
returns-in-Equation g c = other_up c.args.at.now c.args.self.now (declaration_of c.args.declaration.now) (ap (λ d. declares_sets (declaration_of d)) c.in-Equation.is)

pub returns-in-Assertion : goal.returns-in-Assertion
returns-in-Assertion g c = other_up c.args.at.now c.args.self.now (declaration_of c.args.declaration.now) (ap (λ d. declares_sets (declaration_of d)) c.in-Assertion.is)
