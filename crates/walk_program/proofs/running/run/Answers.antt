-- What a run answers, by what its words ask for.
use Rattle.std.proofs.Common.{inl, inr, refl, subst}
use Rattle.program.specs.Running.{texts_of}
use Rattle.walk_settings.specs.Faults.{IsFaultOf}
use Rattle.walk_program.specs.Asking.{request_of}
use Rattle.walk_program.specs.Running as running
use Rattle.walk_program.proofs.Requests.{asked}
use Rattle.walk_program.proofs.running.run.Goals as goal

pub returns-in-Ok-clause-served : goal.returns-in-Ok-clause-served
returns-in-Ok-clause-served g c zero =
    let says = c.in-Ok.ensures in
    let settings = c.in-Ok.settings in
    running.walked (request_of settings) (asked (texts_of c.args.words.now) settings says.taken says.width says.at_once says.specification says.file says.assertion) (c.walk_file.ensures.shown zero)

pub returns-in-Ok-clause-refused : goal.returns-in-Ok-clause-refused
returns-in-Ok-clause-refused g c three =
    let says = c.in-Ok.ensures in
    let settings = c.in-Ok.settings in
    running.of_walk (request_of settings) (asked (texts_of c.args.words.now) settings says.taken says.width says.at_once says.specification says.file says.assertion) (c.walk_file.ensures.stopped three)

pub returns-in-Err-Help-clause-served : goal.returns-in-Err-Help-clause-served
returns-in-Err-Help-clause-served g c zero =
    running.shown c.as_str.result.now (inl (subst (IsFaultOf (texts_of c.args.words.now)) c.in-Err-Help.field-0-is c.in-Err-Help.ensures.fault)) (c.show.ensures.shown zero)

pub returns-in-Err-Help-clause-refused : goal.returns-in-Err-Help-clause-refused
returns-in-Err-Help-clause-refused g c three =
    running.cut_text c.as_str.result.now (inl (subst (IsFaultOf (texts_of c.args.words.now)) c.in-Err-Help.field-0-is c.in-Err-Help.ensures.fault)) (c.show.ensures.cut three) (c.show.ensures.refused three)

pub returns-in-Err-Version-clause-served : goal.returns-in-Err-Version-clause-served
returns-in-Err-Version-clause-served g c zero =
    running.shown c.as_str-in-Err-Version.result.now (inr (subst (IsFaultOf (texts_of c.args.words.now)) c.in-Err-Version.field-0-is c.in-Err-Version.ensures.fault)) (c.show-in-Err-Version.ensures.shown zero)

pub returns-in-Err-Version-clause-refused : goal.returns-in-Err-Version-clause-refused
returns-in-Err-Version-clause-refused g c three =
    running.cut_text c.as_str-in-Err-Version.result.now (inr (subst (IsFaultOf (texts_of c.args.words.now)) c.in-Err-Version.field-0-is c.in-Err-Version.ensures.fault)) (c.show-in-Err-Version.ensures.cut three) (c.show-in-Err-Version.ensures.refused three)

pub returns-in-Err-Refused-clause-refused : goal.returns-in-Err-Refused-clause-refused
returns-in-Err-Refused-clause-refused g c three = running.wrong_words c.as_str-in-Err-Refused.result.now (subst (IsFaultOf (texts_of c.args.words.now)) c.in-Err-Refused.field-0-is c.in-Err-Refused.ensures.fault) refl c.refuse_words.ensures.text
