-- Meanings of names, as the definitions have them.
use Rattle.theory_checking.specs.Names as checking
use Rattle.theory_checking.specs.Names.{DatatypeName, ConstructorName, NametypeName, ChannelName, EquationName}
use Rattle.csp_names.specs.declared.meanings.Declared.{Declared}
use Rattle.csp_names.specs.declared.meanings.Declared.TheVariants as declared
use Rattle.csp_names.specs.declared.meanings.Meaning.{Meaning}
use Rattle.csp_names.specs.declared.meanings.Meaning.TheVariants as meaning

abbrev pub declared_of : Declared → checking.Meaning
declared_of (declared.Datatype d) = checking.Declared DatatypeName d.0
declared_of (declared.Constructor k) = checking.Declared ConstructorName k.0
declared_of (declared.Nametype n) = checking.Declared NametypeName n.0
declared_of (declared.Channel c) = checking.Declared ChannelName c.0
declared_of (declared.Equation q) = checking.Declared EquationName q.0

abbrev pub meaning_of : Meaning → checking.Meaning
meaning_of (meaning.Declared d) = declared_of d
meaning_of (meaning.Bound n) = checking.Bound n.0
