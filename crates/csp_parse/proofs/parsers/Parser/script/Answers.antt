use Rattle.std.proofs.Common.{map}
use Rattle.csp_parse.specs.Declarations.{declaration_of}
use Rattle.csp_parse.specs.Reading.{standing_of}
use Rattle.csp_parse.proofs.Scripts.{script_begins, script_goes, script_ends, begin_stops, declaration_stops}
use Rattle.csp_parse.proofs.parsers.Parser.script.Goals as goal

pub script-init : goal.script-init
script-init g c = script_begins declaration_of _ (standing_of c.args.self.now) c.new-declarations.ensures.items

pub script-preserved : goal.script-preserved
script-preserved g c =
    script_goes declaration_of _ _ _ _ _ _ _ _ c.script.invariant c.in-Some.ensures c.in_ok-begin_declaration.ensures.reads c.in_ok-declaration.ensures.reads c.in_ok-push.ensures.items

pub returns-in_default : goal.returns-in_default
returns-in_default g c = record { reads = script_ends (map declaration_of c.script.declarations.items) _ (standing_of c.script.self) c.script.invariant c.in_default.ensures }

pub returns-in_err-begin_declaration : goal.returns-in_err-begin_declaration
returns-in_err-begin_declaration g c = record {
  reads = begin_stops c.args.self.now c.begin_declaration.new.self (map declaration_of c.script.declarations.items) (standing_of c.script.self) _ _ c.script.invariant c.from_residual.ensures c.in_err-begin_declaration.ensures.reads;
}

pub returns-in_err-declaration : goal.returns-in_err-declaration
returns-in_err-declaration g c = record {
  reads = declaration_stops c.args.self.now c.declaration.new.self (map declaration_of c.script.declarations.items) _ (standing_of c.script.self) _ _ _ c.script.invariant c.in-Some.ensures c.in_ok-begin_declaration.ensures.reads
      c.from_residual-in_err-declaration.ensures c.in_err-declaration.ensures.reads;
}
