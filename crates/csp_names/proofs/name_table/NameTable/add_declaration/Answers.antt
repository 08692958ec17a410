use Rattle.std.proofs.Common.{refl}
use Rattle.csp_names.proofs.DeclarationsAdded.{assertion_declared, channels_declared, datatype_declared, datatype_refused, equation_declared, nametype_declared}
use Rattle.csp_names.proofs.name_table.NameTable.add_declaration.Goals as goal

pub returns-in_err-add-in-Datatype : goal.returns-in_err-add-in-Datatype
returns-in_err-add-in-Datatype g c =
    datatype_refused c.args.self.now (record { names = c.add.new.self; datatypes = c.next_number.new.next; nametypes = c.args.self.now.nametypes }) c.args.declaration.now
    c.in-Datatype.name c.in-Datatype.clauses c.from_residual-in_err-add-in-Datatype.result c.in_err-add-in-Datatype.field-0.0 c.in-Datatype.is c.from_residual-in_err-add-in-Datatype.ensures c.in_err-add-in-Datatype.ensures

pub returns-in_ok-add-in-Datatype : goal.returns-in_ok-add-in-Datatype
returns-in_ok-add-in-Datatype g c =
    datatype_declared c.args.self.now (record { names = c.add_constructors.new.self; datatypes = c.next_number.new.next; nametypes = c.args.self.now.nametypes }) c.args.declaration.now
    c.add.new.self c.in-Datatype.name c.in-Datatype.clauses c.deref.result.now c.in_ok-number-in-Datatype.number c.add_constructors.result c.in-Datatype.is c.deref.ensures.value
    c.in_ok-number-in-Datatype.ensures.number c.in_ok-number-in-Datatype.ensures.more refl c.in_ok-add-in-Datatype.ensures c.add_constructors.ensures

pub returns-in_ok-number-in-Nametype : goal.returns-in_ok-number-in-Nametype
returns-in_ok-number-in-Nametype g c =
    nametype_declared c.args.self.now (record { names = c.add-in-Nametype.new.self; datatypes = c.args.self.now.datatypes; nametypes = c.next_number-in-Nametype.new.next }) c.args.declaration.now
    c.in-Nametype.name c.in-Nametype.domain c.in_ok-number-in-Nametype.number c.add-in-Nametype.result c.in-Nametype.is c.in_ok-number-in-Nametype.ensures.number refl c.in_ok-number-in-Nametype.ensures.more c.add-in-Nametype.ensures

pub returns-in-Channels : goal.returns-in-Channels
returns-in-Channels g c =
    channels_declared c.args.self.now (record { names = c.add_channels.new.self; datatypes = c.args.self.now.datatypes; nametypes = c.args.self.now.nametypes }) c.args.declaration.now
    c.in-Channels.names c.in-Channels.domains c.deref-in-Channels.result.now c.len.result c.add_channels.result c.in-Channels.is c.deref-in-Channels.ensures.value c.len.ensures
    (record { datatypes = refl; nametypes = refl }) c.add_channels.ensures

pub returns-in-Equation : goal.returns-in-Equation
returns-in-Equation g c =
    equation_declared c.args.self.now (record { names = c.add_equation.new.self; datatypes = c.args.self.now.datatypes; nametypes = c.args.self.now.nametypes }) c.args.declaration.now
    c.in-Equation.name c.in-Equation.parameters c.in-Equation.body c.len-in-Equation.result c.add_equation.result c.in-Equation.is c.len-in-Equation.ensures (record { datatypes = refl; nametypes = refl }) c.add_equation.ensures

pub returns-in-Assertion : goal.returns-in-Assertion
returns-in-Assertion g c above table = assertion_declared c.args.self.now c.args.declaration.now c.in-Assertion.place c.in-Assertion.negated c.in-Assertion.property c.in-Assertion.implementation c.in-Assertion.is above table
