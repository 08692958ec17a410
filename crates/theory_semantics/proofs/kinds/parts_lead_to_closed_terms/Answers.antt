use Rattle.std.proofs.Common.{[]}
use Rattle.theory_semantics.specs.Meaning.Substitution.{put}
use Rattle.theory_semantics.specs.Meaning.Events.{Communication, elements, prefix_communications, called}
use Rattle.theory_semantics.specs.Kinds.Kind.{Each}
use Rattle.theory_semantics.specs.Kinds.Events.{scope_behind}
use Rattle.theory_semantics.specs.Kinds.Processes.{IsClosedTerm}
use Rattle.theory_semantics.specs.Kinds.Putting.{BindingsFit}
use Rattle.theory_semantics.specs.Kinds.Values.{AreMembersOf}
use Rattle.theory_semantics.proofs.Misfits.{gives_value, each_map}
use Rattle.theory_semantics.proofs.KindedPutting.{put_kinded}
use Rattle.theory_semantics.proofs.KindedTerms.{elements_kind, prefix_fit, instances_closed, called_closed}
use Rattle.theory_semantics.proofs.kinds.parts_lead_to_closed_terms.Goals as goal

pub returns-clause-bodies : goal.returns-clause-bodies
returns-clause-bodies c = λ script kinds good n es ks t e h is. gives_value (IsClosedTerm script kinds) (called script n es) t (called_closed script kinds good.sets good.equations n es ks e h) is

pub returns-clause-instances : goal.returns-clause-instances
returns-clause-instances c = λ script kinds sets n e k p vs h g is.
    instances_closed script kinds sets n p k vs g (gives_value (λ us. AreMembersOf script.types kinds us k) (elements script.types e) vs (elements_kind script kinds sets e k h) is).0

pub returns-clause-prefixes : goal.returns-clause-prefixes
returns-clause-prefixes c = λ script kinds sets n fs p ms h is.
    let P : Communication → Type 0 = λ m. BindingsFit script.types kinds m.bindings (scope_behind [] fs h.0) [] in
    each_map P (λ m. IsClosedTerm script kinds (put m.bindings p)) ms (λ m fit. put_kinded script kinds m.bindings (scope_behind [] fs h.0) [] p fit h.3)
    (gives_value (Each P) (prefix_communications script n fs) ms (prefix_fit script kinds sets n fs h.0 h.1 h.2) is)
