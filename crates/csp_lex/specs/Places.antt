-- Places, as the definitions have them.
use Rattle.theory_text.specs.Place as text
use Rattle.csp_lex.specs.declared.places.Place.{Place}

abbrev pub place_of : Place → text.Place
place_of p = record { line = p.line; column = p.column }
