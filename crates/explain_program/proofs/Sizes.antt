-- What is answered by a search that has ended, or without one.
use Rattle.std.proofs.Common.{◌≡◌, ◌≢◌, Bool, true, false, Option, Some, None, refl}
use Rattle.std.specs.Prelude.{IsSomeAnd}
use Rattle.theory_syntax.specs.Process.{Assertion, Script}
use Rattle.theory_search.specs.Answer.{as_written}
use Rattle.theory_search.specs.Outcome.{Bounds, Why, Outcome, Unknown}
use Rattle.theory_search.specs.Search.{IsLawful, Open}
use Rattle.theory_search.specs.Sound.{IsFor, ScriptSearch}
use Rattle.explore.specs.Answering.{IsNotBegun, IsToldOrNoMemory}
use Rattle.explain_program.specs.Sizes.{HasSize, IsSizeFor}
use Rattle.explain_program.specs.declared.search_size.SearchSize.{SearchSize}

unknown_stays : (b : Bool) (why : Why) → as_written b (Unknown why) ≡ Unknown why
unknown_stays true why = refl
unknown_stays false why = refl

module _ (script : Script) (a : Assertion) (bounds : Bounds) where
  -- the size of what a search tells that is for the assertion is that of the search
  pub told_size : (s : ScriptSearch) (o : Outcome) (size : Option SearchSize) → IsFor script a bounds s → IsLawful s.script s.search → s.search.verdict ≢ Open → IsToldOrNoMemory s.search o →
      IsSomeAnd size (HasSize s.search) → IsSizeFor script a bounds (as_written a.negated o) size
  told_size s o (Some size) asked lawful ended told is = record { found = s; asked = asked; lawful = lawful; ended = ended; told = (o, told, refl); has_size = is }
  told_size s o None asked lawful ended told is = absurd is

  -- where no search was begun there is no size
  pub no_size : (why : Why) → IsNotBegun script a bounds why → IsSizeFor script a bounds (as_written a.negated (Unknown why)) None
  no_size why none = (why, unknown_stays a.negated why, none)
