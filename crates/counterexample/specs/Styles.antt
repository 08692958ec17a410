-- The style that one of the code stands for, and a text in it.
use Rattle.std.specs.Prelude.{ℕ, List}
use Rattle.theory_semantics.specs.Meaning.Violations.{Violation}
use Rattle.theory_explanation.specs.Comparing.{text_beside}
use Rattle.theory_explanation.specs.Counterexamples.{Counterexample}
use Rattle.theory_explanation.specs.Styles as pure
use Rattle.csp_print.specs.Names.{names_of}
use Rattle.counterexample.specs.Folding.{telling_of}
use Rattle.counterexample.specs.Widths.{width_of}
use Rattle.counterexample.specs.declared.style.Style.{Style}

abbrev pub style_of : {A : Type 0} → Style A → pure.Style
style_of style = record { names = names_of style.names.now; width = width_of style.width; few = style.few; most = style.most; taus = width_of style.taus; reach = style.reach; telling = telling_of style.telling }

-- what is told of the run, and of a specification along it
abbrev pub sides_text : pure.Style → Violation → Counterexample → List ℕ
sides_text style v c = text_beside style v c.states c.origins c.counterpart
