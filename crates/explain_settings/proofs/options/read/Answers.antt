use Rattle.std.proofs.Common.{◌≡◌, ◌∙◌, List, Option, Some, ap, codes, subst, sym}
use Rattle.std.specs.Prelude.{◌↔◌, ℕ, [], IsTrue, option_map, unwrap_or}
use Rattle.clap.specs.Kinds.{HasKind}
use Rattle.clap.specs.Simple.{App}
use Rattle.clap.specs.Values.{kind_of}
use Rattle.clap.specs.Walk.{texts}
use Rattle.clap.specs.Faults.{fault_of, is_simple_and_free}
use Rattle.settings.proofs.Numbers.{some_of}
use Rattle.explain_settings.specs.CommandLine.{format_word}
use Rattle.explain_settings.proofs.Answered.{answered, none_of, refused}
use Rattle.explain_settings.proofs.Taken as taken
use Rattle.explain_settings.proofs.options.read.Goals as goal

pub number-requires : goal.number-requires
number-requires c = taken.is_numeric c.in_ok-command_line.field-0 c.in-Ok.matches (texts c.args.words.now) c.in_ok-command_line.ensures c.in-Ok.ensures.parsed c.in-Ok.ensures.matches (codes "workers") 1 64 (taken.workers c.in_ok-command_line.field-0 c.in-Ok.matches (texts c.args.words.now) c.in_ok-command_line.ensures c.in-Ok.ensures.parsed c.in-Ok.ensures.matches)

pub number-requires-2 : goal.number-requires-2
number-requires-2 c = taken.is_numeric c.in_ok-command_line.field-0 c.in-Ok.matches (texts c.args.words.now) c.in_ok-command_line.ensures c.in-Ok.ensures.parsed c.in-Ok.ensures.matches (codes "max-pairs") 1 1000000 (taken.pairs c.in_ok-command_line.field-0 c.in-Ok.matches (texts c.args.words.now) c.in_ok-command_line.ensures c.in-Ok.ensures.parsed c.in-Ok.ensures.matches)

pub number-requires-3 : goal.number-requires-3
number-requires-3 c = taken.is_numeric c.in_ok-command_line.field-0 c.in-Ok.matches (texts c.args.words.now) c.in_ok-command_line.ensures c.in-Ok.ensures.parsed c.in-Ok.ensures.matches (codes "max-nodes") 1 100000 (taken.nodes c.in_ok-command_line.field-0 c.in-Ok.matches (texts c.args.words.now) c.in_ok-command_line.ensures c.in-Ok.ensures.parsed c.in-Ok.ensures.matches)

pub number-requires-4 : goal.number-requires-4
number-requires-4 c = taken.is_numeric c.in_ok-command_line.field-0 c.in-Ok.matches (texts c.args.words.now) c.in_ok-command_line.ensures c.in-Ok.ensures.parsed c.in-Ok.ensures.matches (codes "width") 0 1000000 (taken.width c.in_ok-command_line.field-0 c.in-Ok.matches (texts c.args.words.now) c.in_ok-command_line.ensures c.in-Ok.ensures.parsed c.in-Ok.ensures.matches)

pub number-requires-5 : goal.number-requires-5
number-requires-5 c = taken.is_numeric c.in_ok-command_line.field-0 c.in-Ok.matches (texts c.args.words.now) c.in_ok-command_line.ensures c.in-Ok.ensures.parsed c.in-Ok.ensures.matches (codes "assertion") 0 1000000 (taken.assertion c.in_ok-command_line.field-0 c.in-Ok.matches (texts c.args.words.now) c.in_ok-command_line.ensures c.in-Ok.ensures.parsed c.in-Ok.ensures.matches)

pub unwrap-word-requires : goal.unwrap-word-requires
unwrap-word-requires c =
    let text = taken.format c.in_ok-command_line.field-0 c.in-Ok.matches (texts c.args.words.now) c.in_ok-command_line.ensures c.in-Ok.ensures.parsed c.in-Ok.ensures.matches in
    some_of _ c.get_str.result text.0 (c.get_str.ensures ∙ text.1)

pub unwrap-requires : goal.unwrap-requires
unwrap-requires c =
    let text = taken.file c.in_ok-command_line.field-0 c.in-Ok.matches (texts c.args.words.now) c.in_ok-command_line.ensures c.in-Ok.ensures.parsed c.in-Ok.ensures.matches in
    some_of _ c.get_str-2.result text.0 (c.get_str-2.ensures ∙ text.1)

pub returns-clause-format : goal.returns-clause-format
returns-clause-format c =
    let text = taken.format c.in_ok-command_line.field-0 c.in-Ok.matches (texts c.args.words.now) c.in_ok-command_line.ensures c.in-Ok.ensures.parsed c.in-Ok.ensures.matches in
    text.2 ∙ sym text.1 ∙ sym c.get_str.ensures ∙ ap (option_map (λ s. s.now)) c.unwrap-word.ensures ∙ ap (λ t. Some t) c.in-Some.ensures.known

pub invariant_of-result : goal.invariant_of-result
invariant_of-result c = record {
  workers_in_range = taken.in_range c.in_ok-command_line.field-0 c.in-Ok.matches (texts c.args.words.now) c.in_ok-command_line.ensures c.in-Ok.ensures.parsed c.in-Ok.ensures.matches (codes "workers") 1 64 c.number.result (taken.workers c.in_ok-command_line.field-0 c.in-Ok.matches (texts c.args.words.now) c.in_ok-command_line.ensures c.in-Ok.ensures.parsed c.in-Ok.ensures.matches) c.number.ensures;
  pairs_in_range = taken.in_range c.in_ok-command_line.field-0 c.in-Ok.matches (texts c.args.words.now) c.in_ok-command_line.ensures c.in-Ok.ensures.parsed c.in-Ok.ensures.matches (codes "max-pairs") 1 1000000 c.number-2.result (taken.pairs c.in_ok-command_line.field-0 c.in-Ok.matches (texts c.args.words.now) c.in_ok-command_line.ensures c.in-Ok.ensures.parsed c.in-Ok.ensures.matches) c.number-2.ensures;
  nodes_in_range = taken.in_range c.in_ok-command_line.field-0 c.in-Ok.matches (texts c.args.words.now) c.in_ok-command_line.ensures c.in-Ok.ensures.parsed c.in-Ok.ensures.matches (codes "max-nodes") 1 100000 c.number-3.result (taken.nodes c.in_ok-command_line.field-0 c.in-Ok.matches (texts c.args.words.now) c.in_ok-command_line.ensures c.in-Ok.ensures.parsed c.in-Ok.ensures.matches) c.number-3.ensures;
}

pub returns-clause-taken : goal.returns-clause-taken
returns-clause-taken c = sym (ap (λ (a : App). fault_of a (texts c.args.words.now)) c.in_ok-command_line.ensures) ∙ c.in-Ok.ensures.kinds (ap is_simple_and_free c.in_ok-command_line.ensures)

pub returns-clause-workers : goal.returns-clause-workers
returns-clause-workers c = taken.is_value c.in_ok-command_line.field-0 c.in-Ok.matches (texts c.args.words.now) c.in_ok-command_line.ensures c.in-Ok.ensures.parsed c.in-Ok.ensures.matches (codes "workers") 1 64 c.number.result (taken.workers c.in_ok-command_line.field-0 c.in-Ok.matches (texts c.args.words.now) c.in_ok-command_line.ensures c.in-Ok.ensures.parsed c.in-Ok.ensures.matches) c.number.ensures

pub returns-clause-pairs : goal.returns-clause-pairs
returns-clause-pairs c = taken.is_value c.in_ok-command_line.field-0 c.in-Ok.matches (texts c.args.words.now) c.in_ok-command_line.ensures c.in-Ok.ensures.parsed c.in-Ok.ensures.matches (codes "max-pairs") 1 1000000 c.number-2.result (taken.pairs c.in_ok-command_line.field-0 c.in-Ok.matches (texts c.args.words.now) c.in_ok-command_line.ensures c.in-Ok.ensures.parsed c.in-Ok.ensures.matches) c.number-2.ensures

pub returns-clause-nodes : goal.returns-clause-nodes
returns-clause-nodes c = taken.is_value c.in_ok-command_line.field-0 c.in-Ok.matches (texts c.args.words.now) c.in_ok-command_line.ensures c.in-Ok.ensures.parsed c.in-Ok.ensures.matches (codes "max-nodes") 1 100000 c.number-3.result (taken.nodes c.in_ok-command_line.field-0 c.in-Ok.matches (texts c.args.words.now) c.in_ok-command_line.ensures c.in-Ok.ensures.parsed c.in-Ok.ensures.matches) c.number-3.ensures

pub returns-clause-width : goal.returns-clause-width
returns-clause-width c = taken.is_value c.in_ok-command_line.field-0 c.in-Ok.matches (texts c.args.words.now) c.in_ok-command_line.ensures c.in-Ok.ensures.parsed c.in-Ok.ensures.matches (codes "width") 0 1000000 c.number-4.result (taken.width c.in_ok-command_line.field-0 c.in-Ok.matches (texts c.args.words.now) c.in_ok-command_line.ensures c.in-Ok.ensures.parsed c.in-Ok.ensures.matches) c.number-4.ensures

pub returns-clause-assertion : goal.returns-clause-assertion
returns-clause-assertion c = taken.is_value c.in_ok-command_line.field-0 c.in-Ok.matches (texts c.args.words.now) c.in_ok-command_line.ensures c.in-Ok.ensures.parsed c.in-Ok.ensures.matches (codes "assertion") 0 1000000 c.number-5.result (taken.assertion c.in_ok-command_line.field-0 c.in-Ok.matches (texts c.args.words.now) c.in_ok-command_line.ensures c.in-Ok.ensures.parsed c.in-Ok.ensures.matches) c.number-5.ensures

pub returns-clause-at_once : goal.returns-clause-at_once
returns-clause-at_once c =
    let P : Option (List ℕ) → Type 0 = λ found. IsTrue c.is_used.result ↔ (found ≡ Some (codes "true")) in
    subst P (taken.same_value c.in_ok-command_line.field-0 c.in-Ok.matches (texts c.args.words.now) c.in_ok-command_line.ensures c.in-Ok.ensures.parsed c.in-Ok.ensures.matches (codes "unfold")) c.is_used.ensures

pub returns-clause-count : goal.returns-clause-count
returns-clause-count c =
    let P : Option (List ℕ) → Type 0 = λ found. IsTrue c.is_used-2.result ↔ (found ≡ Some (codes "true")) in
    subst P (taken.same_value c.in_ok-command_line.field-0 c.in-Ok.matches (texts c.args.words.now) c.in_ok-command_line.ensures c.in-Ok.ensures.parsed c.in-Ok.ensures.matches (codes "count")) c.is_used-2.ensures

pub returns-clause-events : goal.returns-clause-events
returns-clause-events c =
    let P : Option (List ℕ) → Type 0 = λ found. IsTrue c.is_used-3.result ↔ (found ≡ Some (codes "true")) in
    subst P (taken.same_value c.in_ok-command_line.field-0 c.in-Ok.matches (texts c.args.words.now) c.in_ok-command_line.ensures c.in-Ok.ensures.parsed c.in-Ok.ensures.matches (codes "events")) c.is_used-3.ensures

pub returns-clause-steps : goal.returns-clause-steps
returns-clause-steps c =
    let P : Option (List ℕ) → Type 0 = λ found. IsTrue c.is_used-4.result ↔ (found ≡ Some (codes "true")) in
    subst P (taken.same_value c.in_ok-command_line.field-0 c.in-Ok.matches (texts c.args.words.now) c.in_ok-command_line.ensures c.in-Ok.ensures.parsed c.in-Ok.ensures.matches (codes "steps")) c.is_used-4.ensures

pub returns-clause-progress : goal.returns-clause-progress
returns-clause-progress c =
    let P : Option (List ℕ) → Type 0 = λ found. IsTrue c.is_used-5.result ↔ (found ≡ Some (codes "true")) in
    subst P (taken.same_value c.in_ok-command_line.field-0 c.in-Ok.matches (texts c.args.words.now) c.in_ok-command_line.ensures c.in-Ok.ensures.parsed c.in-Ok.ensures.matches (codes "progress")) c.is_used-5.ensures

pub returns-clause-file : goal.returns-clause-file
returns-clause-file c =
    let text = taken.file c.in_ok-command_line.field-0 c.in-Ok.matches (texts c.args.words.now) c.in_ok-command_line.ensures c.in-Ok.ensures.parsed c.in-Ok.ensures.matches in
    text.2 ∙ sym text.1 ∙ sym c.get_str-2.ensures ∙ ap (option_map (λ s. s.now)) c.unwrap.ensures

pub returns-in-Err-clause-fault : goal.returns-in-Err-clause-fault
returns-in-Err-clause-fault c =
    answered (texts c.args.words.now) (kind_of c.in-Err.error) c.fault.result
    (subst (λ (a : App). HasKind (fault_of a (texts c.args.words.now)) c.in-Err.error) c.in_ok-command_line.ensures (c.in-Err.ensures.kinds (ap is_simple_and_free c.in_ok-command_line.ensures)))
    c.fault.ensures

pub returns-in_default-clause-fault : goal.returns-in_default-clause-fault
returns-in_default-clause-fault c =
    let text = taken.format c.in_ok-command_line.field-0 c.in-Ok.matches (texts c.args.words.now) c.in_ok-command_line.ensures c.in-Ok.ensures.parsed c.in-Ok.ensures.matches in
    let whole = sym (ap (λ (a : App). fault_of a (texts c.args.words.now)) c.in_ok-command_line.ensures) ∙ c.in-Ok.ensures.kinds (ap is_simple_and_free c.in_ok-command_line.ensures) in
    let word = text.2 ∙ sym text.1 ∙ sym c.get_str.ensures ∙ ap (option_map (λ s. s.now)) c.unwrap-word.ensures in
    let unknown = c.format_of.ensures.unknown (none_of c.format_of.result c.in_default.not-Some) in
    refused (texts c.args.words.now) c.no_format.result (whole, λ format given. unknown format (ap (λ o. unwrap_or o []) (sym word ∙ given))) c.no_format.ensures
