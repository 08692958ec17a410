use Rattle.std.proofs.Common.{List, Option, sym, subst, inl, inr, lit<}
use Rattle.std.specs.List.{AllByRecursion}
use Rattle.theory_syntax.specs.Value.{Event}
use Rattle.theory_shapes.specs.Alphabet.{alphabet}
use Rattle.csp_term.specs.Script.{script_of}
use Rattle.csp_numbers.specs.Numbers.{AreWithin}
use Rattle.kept_parts.specs.declared.kept_shapes.EarlierShape.{EarlierShape}
use Rattle.kept_parts.specs.Known.{IsLastKept}
use Rattle.kept_parts.proofs.known_parts.KnownParts.of_script.Goals as goal

pub drop-alphabet-inside-requires-room-T-Destruct : goal.drop-alphabet-inside-requires-room-T-Destruct
drop-alphabet-inside-requires-room-T-Destruct g c κs within =
    elim g.met.A.AllocHandle.small [
      | inl e ↦ rw (e.0, e.1) (lit< tt)
      | inr e ↦ rw (e.0, e.1) (lit< tt)
    ]

pub returns-in_ok-parts-in-Some : goal.returns-in_ok-parts-in-Some
returns-in_ok-parts-in-Some g c =
    let W : Option (List Event) → Type 0 = AreWithin 65536 (alphabet (script_of c.args.script.now)) in
    record {
      alphabet = (subst W c.in-Some.is c.in_ok-alphabet.ensures).0;
      of_script = c.in_ok-parts-in-Some.ensures.script;
      parts = c.in_ok-parts-in-Some.ensures.known;
      last = tt;
      earlier = subst (AllByRecursion (λ (e : EarlierShape g.row.A.Denot). IsLastKept (script_of c.args.script.now) e.shape)) (sym c.new-earlier.ensures.items) tt;
    }
