-- The settings are those of the words.
use Rattle.std.proofs.Common.{◌≡◌, ◌∙◌, List, Option, Some, ap, codes, subst, sym}
use Rattle.std.specs.Prelude.{◌↔◌, ℕ, IsTrue, option_map}
use Rattle.clap.specs.Kinds.{HasKind}
use Rattle.clap.specs.Simple.{App}
use Rattle.clap.specs.Values.{kind_of}
use Rattle.clap.specs.Walk.{texts}
use Rattle.clap.specs.Faults.{fault_of, is_simple_and_free}
use Rattle.settings.proofs.Numbers.{some_of}
use Rattle.walk_settings.proofs.Answered.{answered}
use Rattle.walk_settings.proofs.Taken as taken
use Rattle.walk_settings.proofs.options.read.Goals as goal

pub number-requires : goal.number-requires
number-requires c = taken.is_numeric c.in_ok-command_line.field-0 c.in-Ok.matches (texts c.args.words.now) c.in_ok-command_line.ensures c.in-Ok.ensures.parsed c.in-Ok.ensures.matches (codes "width") 0 1000000 (taken.width c.in_ok-command_line.field-0 c.in-Ok.matches (texts c.args.words.now) c.in_ok-command_line.ensures c.in-Ok.ensures.parsed c.in-Ok.ensures.matches)

pub returns-clause-width : goal.returns-clause-width
returns-clause-width c = taken.is_value c.in_ok-command_line.field-0 c.in-Ok.matches (texts c.args.words.now) c.in_ok-command_line.ensures c.in-Ok.ensures.parsed c.in-Ok.ensures.matches (codes "width") 0 1000000 c.number.result (taken.width c.in_ok-command_line.field-0 c.in-Ok.matches (texts c.args.words.now) c.in_ok-command_line.ensures c.in-Ok.ensures.parsed c.in-Ok.ensures.matches) c.number.ensures

pub number-requires-2 : goal.number-requires-2
number-requires-2 c = taken.is_numeric c.in_ok-command_line.field-0 c.in-Ok.matches (texts c.args.words.now) c.in_ok-command_line.ensures c.in-Ok.ensures.parsed c.in-Ok.ensures.matches (codes "assertion") 1 1000000 (taken.assertion c.in_ok-command_line.field-0 c.in-Ok.matches (texts c.args.words.now) c.in_ok-command_line.ensures c.in-Ok.ensures.parsed c.in-Ok.ensures.matches)

pub returns-clause-assertion : goal.returns-clause-assertion
returns-clause-assertion c = taken.is_value c.in_ok-command_line.field-0 c.in-Ok.matches (texts c.args.words.now) c.in_ok-command_line.ensures c.in-Ok.ensures.parsed c.in-Ok.ensures.matches (codes "assertion") 1 1000000 c.number-2.result (taken.assertion c.in_ok-command_line.field-0 c.in-Ok.matches (texts c.args.words.now) c.in_ok-command_line.ensures c.in-Ok.ensures.parsed c.in-Ok.ensures.matches) c.number-2.ensures

pub unwrap-requires : goal.unwrap-requires
unwrap-requires c =
    let text = taken.file c.in_ok-command_line.field-0 c.in-Ok.matches (texts c.args.words.now) c.in_ok-command_line.ensures c.in-Ok.ensures.parsed c.in-Ok.ensures.matches in
    some_of _ c.get_str.result text.0 (c.get_str.ensures ∙ text.1.0)

pub invariant_of-result : goal.invariant_of-result
invariant_of-result c = record {
  assertion_in_range = taken.in_range c.in_ok-command_line.field-0 c.in-Ok.matches (texts c.args.words.now) c.in_ok-command_line.ensures c.in-Ok.ensures.parsed c.in-Ok.ensures.matches (codes "assertion") 1 1000000 c.number-2.result (taken.assertion c.in_ok-command_line.field-0 c.in-Ok.matches (texts c.args.words.now) c.in_ok-command_line.ensures c.in-Ok.ensures.parsed c.in-Ok.ensures.matches) c.number-2.ensures;
}

pub returns-clause-taken : goal.returns-clause-taken
returns-clause-taken c = sym (ap (λ (a : App). fault_of a (texts c.args.words.now)) c.in_ok-command_line.ensures) ∙ c.in-Ok.ensures.kinds (ap is_simple_and_free c.in_ok-command_line.ensures)

pub returns-clause-at_once : goal.returns-clause-at_once
returns-clause-at_once c =
    let P : Option (List ℕ) → Type 0 = λ found. IsTrue c.is_used.result ↔ (found ≡ Some (codes "true")) in
    subst P (taken.same_value c.in_ok-command_line.field-0 c.in-Ok.matches (texts c.args.words.now) c.in_ok-command_line.ensures c.in-Ok.ensures.parsed c.in-Ok.ensures.matches (codes "unfold")) c.is_used.ensures

pub returns-clause-specification : goal.returns-clause-specification
returns-clause-specification c =
    let P : Option (List ℕ) → Type 0 = λ found. IsTrue c.is_used-2.result ↔ (found ≡ Some (codes "true")) in
    subst P (taken.same_value c.in_ok-command_line.field-0 c.in-Ok.matches (texts c.args.words.now) c.in_ok-command_line.ensures c.in-Ok.ensures.parsed c.in-Ok.ensures.matches (codes "specification")) c.is_used-2.ensures

pub returns-clause-file : goal.returns-clause-file
returns-clause-file c =
    let text = taken.file c.in_ok-command_line.field-0 c.in-Ok.matches (texts c.args.words.now) c.in_ok-command_line.ensures c.in-Ok.ensures.parsed c.in-Ok.ensures.matches in
    text.1.1 ∙ sym text.1.0 ∙ sym c.get_str.ensures ∙ ap (option_map (λ s. s.now)) c.unwrap.ensures

pub returns-in-Err-clause-fault : goal.returns-in-Err-clause-fault
returns-in-Err-clause-fault c =
    answered (texts c.args.words.now) (kind_of c.in-Err.error) c.of.result
    (subst (λ (a : App). HasKind (fault_of a (texts c.args.words.now)) c.in-Err.error) c.in_ok-command_line.ensures (c.in-Err.ensures.kinds (ap is_simple_and_free c.in_ok-command_line.ensures)))
    c.of.ensures
