use Rattle.std.proofs.Common.{sym, subst}
use Rattle.std.specs.List.{AllByRecursion}
use Rattle.csp_term.specs.Script.{script_of}
use Rattle.kept_parts.specs.declared.kept_shapes.EarlierShape.{EarlierShape}
use Rattle.kept_parts.specs.Known.{IsLastKept}
use Rattle.kept_parts.proofs.known_parts.KnownParts.let_go.Goals as goal

pub returns-in_ok-self : goal.returns-in_ok-self
returns-in_ok-self g c = record {
  alphabet = c.requires.alphabet;
  of_script = c.in_ok-self.ensures.script;
  parts = c.in_ok-self.ensures.known;
  last = tt;
  earlier = subst (AllByRecursion (λ (e : EarlierShape g.row.A.Denot). IsLastKept (script_of c.args.script.now) e.shape)) (sym c.new-then-all-gt-MOST_PARTS-2.ensures.items) tt;
}
