use Rattle.kept_parts.specs.KnownSteps.{processes_of, script_in}
use Rattle.kept_parts.proofs.Showing.{extends_on}
use Rattle.csp_term.specs.Term.{process_of}
use Rattle.kept_parts.proofs.Numbered.{next_number, next_part}
use Rattle.kept_parts.proofs.numbering.number_all.Goals as goal

pub number-requires-clause-part : goal.number-requires-clause-part
number-requires-clause-part g c =
    let l = c.loop-part in
    let x = c.part-item.result in
    next_part (λ t. process_of t.now) (script_in c.args.known.now) (script_in l.known) c.args.parts.now l.part-index x x c.requires.parts l.invariant.grows.script c.loop-part-test.true c.part-item.is

pub loop-part-preserved : goal.loop-part-preserved
loop-part-preserved g c =
    let l = c.loop-part in
    let x = c.part-item.result in
    let grows = c.number.ensures.grows in
    record {
      known = c.number.ensures.known;
      grows = extends_on c.args.known.now l.known c.number.new.self l.invariant.grows grows;
      numbers =
          next_number (λ t. process_of t.now) (processes_of l.known) (processes_of c.number.new.self) c.args.parts.now l.part-index x l.numbers.items c.push.new.self.items c.in_ok-number.number grows.stays l.invariant.numbers c.loop-part-test.true c.part-item.is
          c.in_ok-number.ensures.number c.in_ok-push.ensures.items;
    }
