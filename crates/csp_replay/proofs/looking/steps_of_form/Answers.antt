-- By the form.
use Rattle.std.proofs.Common.{map, sym, ◌∙◌, ap}
use Rattle.theory_runs.specs.Stuck.{steps_in}
use Rattle.csp_fire.specs.Form.{form_of, step_of}
use Rattle.csp_replay.proofs.looking.steps_of_form.Goals as goal

pub returns-in-Steps : goal.returns-in-Steps
returns-in-Steps g c = ap (λ f. steps_in (form_of f)) (sym c.in-Steps.is)

pub returns-in-Faulty : goal.returns-in-Faulty
returns-in-Faulty g c = ap (map step_of) c.new.ensures.items ∙ ap (λ f. steps_in (form_of f)) (sym c.in-Faulty.is)

pub returns : goal.returns
returns g c = ap (map step_of) c.new-in-Large.ensures.items ∙ ap (λ f. steps_in (form_of f)) (sym c.in-Large.is)
