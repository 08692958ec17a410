use Rattle.std.specs.Prelude.{◌&&◌}
use Rattle.std.proofs.Common.{◌≡◌, false, ap, ap₂, sym}
use Rattle.theory_checking.specs.Sites.{has_no_fields}
use Rattle.csp_parse.specs.Events.{event_of, pair_of}
use Rattle.csp_parse.specs.Expressions.{expressions_of}
use Rattle.csp_parse.specs.Names.{name_of}
use Rattle.csp_names.specs.Walks.{ResolvesPair}
use Rattle.csp_names.proofs.Pairs.{bare_resolved, from_stops, pair_made, to_stops}
use Rattle.csp_names.proofs.Walking.{handed_on}
use Rattle.csp_names.proofs.scope.Scope.resolve_pair.Goals as goal
use Rattle.csp_names.proofs.scope.Scope.resolve_pair.Goals.{else-is_bare-via-then-is_bare+else-is_bare-2, else-is_bare-via-else-is_bare}

pub returns-in_err-from : goal.returns-in_err-from
returns-in_err-from g c =
    let p = c.args.pair.now in
    let fields : (has_no_fields (event_of p.from) && has_no_fields (event_of p.to)) ≡ false = elim c.else-is_bare.branch [
      | else-is_bare-via-then-is_bare+else-is_bare-2 w ↦ ap₂ ◌&&◌ (sym w.if-is_bare.ensures) (sym w.if-is_bare-2.ensures)
      | else-is_bare-via-else-is_bare w ↦ ap (λ b. b && has_no_fields (event_of p.to)) (sym w.if-is_bare.ensures)
    ] in
    handed_on (ResolvesPair c.args.self.now c.args.bound.now (pair_of p)) c.from_residual.result c.in_err-from.field-0.0 c.from_residual.ensures
    (from_stops c.args.self.now c.args.bound.now (name_of p.from.channel) (name_of p.to.channel) (expressions_of p.from.fields.items) (expressions_of p.to.fields.items) fields c.in_err-from.field-0.0 c.in_err-from.ensures)

pub returns-in_err-to : goal.returns-in_err-to
returns-in_err-to g c =
    let p = c.args.pair.now in
    let fields : (has_no_fields (event_of p.from) && has_no_fields (event_of p.to)) ≡ false = elim c.else-is_bare.branch [
      | else-is_bare-via-then-is_bare+else-is_bare-2 w ↦ ap₂ ◌&&◌ (sym w.if-is_bare.ensures) (sym w.if-is_bare-2.ensures)
      | else-is_bare-via-else-is_bare w ↦ ap (λ b. b && has_no_fields (event_of p.to)) (sym w.if-is_bare.ensures)
    ] in
    handed_on (ResolvesPair c.args.self.now c.args.bound.now (pair_of p)) c.from_residual-in_err-to.result c.in_err-to.field-0.0 c.from_residual-in_err-to.ensures
    (to_stops c.args.self.now c.args.bound.now (name_of p.from.channel) (name_of p.to.channel) (expressions_of p.from.fields.items) (expressions_of p.to.fields.items) fields c.in_ok-from.from c.in_err-to.field-0.0 c.in_ok-from.ensures c.in_err-to.ensures)

pub returns-then-is_bare-2 : goal.returns-then-is_bare-2
returns-then-is_bare-2 g c =
    let p = c.args.pair.now in
    bare_resolved c.args.self.now c.args.bound.now (name_of p.from.channel) (name_of p.to.channel) (expressions_of p.from.fields.items) (expressions_of p.to.fields.items) c.resolve_bare_pair.result (sym c.if-is_bare.ensures) (sym c.if-is_bare-2.ensures) c.resolve_bare_pair.ensures

pub returns-in_ok-to : goal.returns-in_ok-to
returns-in_ok-to g c =
    let p = c.args.pair.now in
    let fields : (has_no_fields (event_of p.from) && has_no_fields (event_of p.to)) ≡ false = elim c.else-is_bare.branch [
      | else-is_bare-via-then-is_bare+else-is_bare-2 w ↦ ap₂ ◌&&◌ (sym w.if-is_bare.ensures) (sym w.if-is_bare-2.ensures)
      | else-is_bare-via-else-is_bare w ↦ ap (λ b. b && has_no_fields (event_of p.to)) (sym w.if-is_bare.ensures)
    ] in
    pair_made c.args.self.now c.args.bound.now (name_of p.from.channel) (name_of p.to.channel) (expressions_of p.from.fields.items) (expressions_of p.to.fields.items) fields c.in_ok-from.from c.in_ok-to.to c.in_ok-from.ensures c.in_ok-to.ensures
