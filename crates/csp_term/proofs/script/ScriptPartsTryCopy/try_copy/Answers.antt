-- Each list of the script is copied item by item.
use Rattle.std.proofs.Common.{◌≡◌, List, subst}
use Rattle.std.specs.String.{string_bytes}
use Rattle.theory_syntax.specs.Models.{unfolding_of}
use Rattle.csp_events.specs.declared.channel.Channel.{Channel}
use Rattle.csp_term.specs.declared.script.Constructor.{Constructor}
use Rattle.csp_term.specs.declared.script.Equation.{Equation}
use Rattle.csp_term.specs.declared.assertion.Assertion.{Assertion}
use Rattle.csp_value.specs.Copies.{AreCopies}
use Rattle.csp_events.specs.Channels.{channel_of}
use Rattle.csp_term.specs.Script.{assertion_of, equation_of}
use Rattle.csp_events.proofs.Channels.{same_names, same_sets}
use Rattle.csp_value.proofs.Copying.{copies_same}
use Rattle.csp_term.proofs.script.ScriptPartsTryCopy.try_copy.Goals as goal

pub returns : goal.returns
returns g c =
    let script = c.args.self.now in
    let K : List (Constructor g.row.A.Denot) → Type 0 = λ ks. AreCopies (λ x y. string_bytes y.spelling ≡ string_bytes x.spelling) ks c.in_ok-copy_all.field-0.items in
    let C : List (Channel g.row.A.Denot) → Type 0 = λ cs. AreCopies (λ x y. channel_of y ≡ channel_of x) cs c.in_ok-copy_all-2.field-0.items in
    let E : List (Equation g.row.A.Denot) → Type 0 = λ es. AreCopies (λ x y. equation_of y ≡ equation_of x) es c.in_ok-copy_all-3.field-0.items in
    let S : List (Assertion g.row.A.Denot) → Type 0 = λ es. AreCopies (λ x y. assertion_of y ≡ assertion_of x) es c.in_ok-copy_all-4.field-0.items in
    let constructors = subst K c.as_slice.ensures.value c.in_ok-copy_all.ensures in
    let channels = subst C c.as_slice-2.ensures.value c.in_ok-copy_all-2.ensures in
    let equations = subst E c.as_slice-3.ensures.value c.in_ok-copy_all-3.ensures in
    let assertions = subst S c.as_slice-4.ensures.value c.in_ok-copy_all-4.ensures in
    let types = c.in_ok-try_copy.ensures in
    let spelled = copies_same (λ x. string_bytes x.spelling) script.constructors.items c.in_ok-copy_all.field-0.items constructors in
    let together = copies_same channel_of script.channels.items c.in_ok-copy_all-2.field-0.items channels in
    let sets = same_sets c.in_ok-copy_all-2.field-0.items script.channels.items together in
    let names = same_names c.in_ok-copy_all-2.field-0.items script.channels.items together in
    let bodies = copies_same equation_of script.equations.items c.in_ok-copy_all-3.field-0.items equations in
    let asks = copies_same assertion_of script.assertions.items c.in_ok-copy_all-4.field-0.items assertions in
    λ i. record { types = types i; channels = sets i; equations = bodies i; assertions = asks i; channel_names = names i; constructor_names = spelled i; unfolds = unfolding_of script.unfolds }
