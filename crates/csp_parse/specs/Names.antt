-- Names, as the definitions have them.
use Rattle.std.specs.Str.{chars}
use Rattle.theory_text.specs.Raw.{RawName}
use Rattle.csp_lex.specs.Places.{place_of}
use Rattle.csp_parse.specs.declared.names.Name.{Name}

abbrev pub name_of : Name → RawName
name_of n = record { spelling = chars n.text.now; place = place_of n.place }
