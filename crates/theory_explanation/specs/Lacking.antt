-- What an offer lacks.
use Rattle.std.specs.Prelude.{List, not}
use Rattle.std.specs.List.{filter}
use Rattle.theory_syntax.specs.Value.{Action, has_action}

-- the actions of the acceptance that are not offered
abbrev pub lacking : List Action → List Action → List Action
lacking offer acceptance = filter (λ x. not (has_action offer x)) acceptance
