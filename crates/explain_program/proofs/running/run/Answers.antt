-- What a run answers, by what its words ask for.
use Rattle.std.proofs.Common.{inl, inr, refl, subst}
use Rattle.explain_settings.specs.Faults.{IsFaultOf}
use Rattle.program.specs.Running.{texts_of}
use Rattle.explain_program.specs.Asking.{request_of}
use Rattle.explain_program.specs.Running as running
use Rattle.program.proofs.Serving.{zero_below}
use Rattle.explain_program.proofs.Asking.{asked}
use Rattle.explain_program.proofs.running.run.Goals as goal

pub returns-in-Ok-clause-served : goal.returns-in-Ok-clause-served
returns-in-Ok-clause-served g c below =
    let says = c.in-Ok.ensures in
    let settings = c.in-Ok.settings in
    running.explained (request_of settings) (asked (texts_of c.args.words.now) settings says.taken says.file says.pairs says.nodes says.at_once says.width says.count says.events says.steps says.format says.assertion) (c.explain.ensures.explained below)

pub returns-in-Ok-clause-refused : goal.returns-in-Ok-clause-refused
returns-in-Ok-clause-refused g c three =
    let says = c.in-Ok.ensures in
    let settings = c.in-Ok.settings in
    running.of_request (request_of settings) (asked (texts_of c.args.words.now) settings says.taken says.file says.pairs says.nodes says.at_once says.width says.count says.events says.steps says.format says.assertion) (c.explain.ensures.stopped three)

pub returns-in-Err-Help-clause-served : goal.returns-in-Err-Help-clause-served
returns-in-Err-Help-clause-served g c below =
    let zero = zero_below c.show.result c.show.ensures.status below in
    running.shown c.as_str.result.now (inl (subst (IsFaultOf (texts_of c.args.words.now)) c.in-Err-Help.field-0-is c.in-Err-Help.ensures.fault)) (c.show.ensures.shown zero) (c.show.ensures.silent zero) zero

pub returns-in-Err-Help-clause-refused : goal.returns-in-Err-Help-clause-refused
returns-in-Err-Help-clause-refused g c three =
    running.cut_text c.as_str.result.now (inl (subst (IsFaultOf (texts_of c.args.words.now)) c.in-Err-Help.field-0-is c.in-Err-Help.ensures.fault)) (c.show.ensures.cut three) (c.show.ensures.refused three)

pub returns-in-Err-Version-clause-served : goal.returns-in-Err-Version-clause-served
returns-in-Err-Version-clause-served g c below =
    let zero = zero_below c.show-in-Err-Version.result c.show-in-Err-Version.ensures.status below in
    running.shown c.as_str-in-Err-Version.result.now (inr (subst (IsFaultOf (texts_of c.args.words.now)) c.in-Err-Version.field-0-is c.in-Err-Version.ensures.fault)) (c.show-in-Err-Version.ensures.shown zero) (c.show-in-Err-Version.ensures.silent zero) zero

pub returns-in-Err-Version-clause-refused : goal.returns-in-Err-Version-clause-refused
returns-in-Err-Version-clause-refused g c three =
    running.cut_text c.as_str-in-Err-Version.result.now (inr (subst (IsFaultOf (texts_of c.args.words.now)) c.in-Err-Version.field-0-is c.in-Err-Version.ensures.fault)) (c.show-in-Err-Version.ensures.cut three) (c.show-in-Err-Version.ensures.refused three)

pub returns-in-Err-Refused-clause-refused : goal.returns-in-Err-Refused-clause-refused
returns-in-Err-Refused-clause-refused g c three = running.wrong_words c.as_str-in-Err-Refused.result.now (subst (IsFaultOf (texts_of c.args.words.now)) c.in-Err-Refused.field-0-is c.in-Err-Refused.ensures.fault) refl c.refuse_words.ensures.text
