use Rattle.std.proofs.Common.{sym, subst}
use Rattle.std.specs.Prelude.{codes}
use Rattle.program.specs.Given.{sent}
use Rattle.program.specs.Running.{IsGiven}
use Rattle.program.specs.Refusal.{refusal_line}
use Rattle.program.specs.declared.refusal.Refusal.{Refusal}
use Rattle.program.proofs.Giving.{given}
use Rattle.program.proofs.refusal.push_line.Goals as goal

pub returns-in-File : goal.returns-in-File
returns-in-File g c =
    let err = sent g.E.Sink.taken g.E.Sink.has_failed c.args.sink.now c.push_all.new.sink in
    let P : Refusal → Type 0 = λ why. IsGiven err (refusal_line why) in
    subst P (sym c.in-File.is) (given err (codes "refused file\n") c.push_all.result c.push_all.ensures.whole c.push_all.ensures.beginning)

pub returns-in-Memory : goal.returns-in-Memory
returns-in-Memory g c =
    let err = sent g.E.Sink.taken g.E.Sink.has_failed c.args.sink.now c.push_all-in-Memory.new.sink in
    let P : Refusal → Type 0 = λ why. IsGiven err (refusal_line why) in
    subst P (sym c.in-Memory.is) (given err (codes "refused memory\n") c.push_all-in-Memory.result c.push_all-in-Memory.ensures.whole c.push_all-in-Memory.ensures.beginning)

pub returns-in-Thread : goal.returns-in-Thread
returns-in-Thread g c =
    let err = sent g.E.Sink.taken g.E.Sink.has_failed c.args.sink.now c.push_all-in-Thread.new.sink in
    let P : Refusal → Type 0 = λ why. IsGiven err (refusal_line why) in
    subst P (sym c.in-Thread.is) (given err (codes "refused thread\n") c.push_all-in-Thread.result c.push_all-in-Thread.ensures.whole c.push_all-in-Thread.ensures.beginning)

pub returns-in-Output : goal.returns-in-Output
returns-in-Output g c =
    let err = sent g.E.Sink.taken g.E.Sink.has_failed c.args.sink.now c.push_all-in-Output.new.sink in
    let P : Refusal → Type 0 = λ why. IsGiven err (refusal_line why) in
    subst P (sym c.in-Output.is) (given err (codes "refused output\n") c.push_all-in-Output.result c.push_all-in-Output.ensures.whole c.push_all-in-Output.ensures.beginning)
