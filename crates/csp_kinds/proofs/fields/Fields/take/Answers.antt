-- The set is added, and its fault is kept if it is the first.
use Rattle.std.proofs.Common.{◌∙◌, ap}
use Rattle.std.specs.Option.{option_or}
use Rattle.csp_lex.specs.Places.{place_of}
use Rattle.csp_kinds.specs.Faults.{fault_of_set}
use Rattle.csp_kinds.specs.Looking.{fault_in, looked_refusal}
use Rattle.csp_kinds.proofs.FieldsInTurn.{on_ok_both}
use Rattle.csp_kinds.proofs.fields.Fields.take.Goals as goal

pub returns : goal.returns
returns g c =
    on_ok_both c.push.result
    (λ first pushed. record {
      set = c.in_ok-set.set;
      is = c.in_ok-set.ensures;
      pushed = pushed;
      fault = first ∙ ap (option_or (fault_in c.args.self.now.fault))
          (c.fault-fault.ensures ∙ ap (fault_of_set (looked_refusal c.args.looked.now) (place_of c.args.place) c.args.fits) c.is_some.ensures);
    })
    c.push.ensures.first c.push.ensures.pushed
