-- The layers of the path, a term of the last one, and the way back.
use Rattle.std.proofs.Common.{List, Contains, map, sym, subst, inl, inr, lit≤}
use Rattle.theory_semantics.specs.Kinds.Scripts.{IsTermOf}
use Rattle.theory_semantics.specs.Meaning.Runs.{Run}
use Rattle.theory_runs.specs.Layers.{AreTermsOf}
use Rattle.theory_runs.specs.States.{Visits}
use Rattle.theory_runs.proofs.Layering.{all_there, layer_closed, reached}
use Rattle.csp_value.specs.Action.{action_of}
use Rattle.csp_value.specs.declared.action.Action.{Action}
use Rattle.csp_term.specs.Script.{script_of}
use Rattle.csp_term.specs.Term.{process_of}
use Rattle.verdict.specs.Outcome.{evidence_of}
use Rattle.csp_replay.specs.Endings.{TellsEnding}
use Rattle.csp_replay.specs.Layer.{layer_of, terms_of}
use Rattle.csp_replay.specs.declared.ending.Ending.{Ending}
use Rattle.csp_replay.specs.declared.ending.Ending.TheVariants as variant
use Rattle.csp_replay.proofs.DivergingTerms.{many_from}
use Rattle.csp_replay.proofs.replaying.replay_of.Goals as goal

pub layers_of-requires : goal.layers_of-requires
layers_of-requires g c =
    let closed : IsTermOf (script_of c.args.script.now) (process_of c.args.start.now) = c.requires.closed in
    elim g.met.A.AllocHandle.small [ inl e ↦ rw (e.0, e.1) (search (lit≤, closed)) | inr e ↦ rw (e.0, e.1) (search (lit≤, closed)) ]

pub ending_of-requires : goal.ending_of-requires
ending_of-requires g c =
    let layers = c.in_ok-layers.layers in
    let script = script_of c.args.script.now in
    let closed : AreTermsOf script (terms_of layers.last) = layer_closed script (process_of c.args.start.now) (map action_of c.deref.result.now) (map layer_of layers.behind.items) (layer_of layers.last) c.in_ok-layers.ensures c.requires.closed in
    elim g.met.A.AllocHandle.small [ inl e ↦ rw (e.0, e.1) (search (lit≤, closed)) | inr e ↦ rw (e.0, e.1) (search (lit≤, closed)) ]

pub way_to-requires : goal.way_to-requires
way_to-requires g c =
    let script = script_of c.args.script.now in
    let E : Ending g.row.A.Denot → Type 0 = TellsEnding script (terms_of c.in_ok-layers.layers.last) (evidence_of c.args.shown.now.evidence) c.args.reach in
    let ended : TellsEnding script (terms_of c.in_ok-layers.layers.last) (evidence_of c.args.shown.now.evidence) c.args.reach (variant.At c.in-At.end c.in-At.lasso) = subst E c.in-At.is c.in_ok-end.ensures in
    (script, process_of c.args.start.now, map action_of c.deref.result.now, ended.0, record { layers_of = c.in_ok-layers.ensures; stands = ended.1 })

pub returns-in_ok-states-in-At : goal.returns-in_ok-states-in-At
returns-in_ok-states-in-At g c =
    let script = script_of c.args.script.now in
    let t = process_of c.args.start.now in
    let E : Ending g.row.A.Denot → Type 0 = TellsEnding script (terms_of c.in_ok-layers.layers.last) (evidence_of c.args.shown.now.evidence) c.args.reach in
    let ended : TellsEnding script (terms_of c.in_ok-layers.layers.last) (evidence_of c.args.shown.now.evidence) c.args.reach (variant.At c.in-At.end c.in-At.lasso) = subst E c.in-At.is c.in_ok-end.ensures in
    let path = map action_of c.deref.result.now in
    let V : List (Action g.row.A.Denot) → Type 0 = λ xs. Visits script t (map action_of xs) (map process_of c.in_ok-states-in-At.states.items) ended.0 in (
      record {
        end = ended.0;
        visits = subst V c.deref.ensures.value (c.in_ok-states-in-At.ensures script t path ended.0 (record { layers_of = c.in_ok-layers.ensures; stands = ended.1 }));
        shows = ended.2;
      },
      ended.3,
    )

pub returns-in-Nowhere : goal.returns-in-Nowhere
returns-in-Nowhere g c = λ u run shows.
    let script = script_of c.args.script.now in
    let t = process_of c.args.start.now in
    let layers = c.in_ok-layers.layers in
    let E : Ending g.row.A.Denot → Type 0 = TellsEnding script (terms_of layers.last) (evidence_of c.args.shown.now.evidence) c.args.reach in
    let nowhere : TellsEnding {A = g.row.A.Denot} script (terms_of layers.last) (evidence_of c.args.shown.now.evidence) c.args.reach variant.Nowhere = subst E c.in-Nowhere.is c.in_ok-end.ensures in
    let R : List (Action g.row.A.Denot) → Type 0 = λ xs. Run script t (map action_of xs) u in
    nowhere u (all_there script t (map action_of c.deref.result.now) (map layer_of layers.behind.items) (layer_of layers.last) c.in_ok-layers.ensures u (subst R (sym c.deref.ensures.value) run)) shows

pub returns-in-TooMany : goal.returns-in-TooMany
returns-in-TooMany g c =
    let script = script_of c.args.script.now in
    let t = process_of c.args.start.now in
    let layers = c.in_ok-layers.layers in
    let last = terms_of layers.last in
    let E : Ending g.row.A.Denot → Type 0 = TellsEnding script last (evidence_of c.args.shown.now.evidence) c.args.reach in
    let many : TellsEnding {A = g.row.A.Denot} script last (evidence_of c.args.shown.now.evidence) c.args.reach variant.TooMany = subst E c.in-TooMany.is c.in_ok-end.ensures in
    record {
      diverges = many.0;
      many = many_from script c.args.reach (λ u. Contains last u) (λ u. Run script t (map action_of c.args.shown.now.path.items) u)
          (λ u there. let R : List (Action g.row.A.Denot) → Type 0 = λ xs. Run script t (map action_of xs) u in
          subst R c.deref.ensures.value (reached script t (map action_of c.deref.result.now) (map layer_of layers.behind.items) (layer_of layers.last) c.in_ok-layers.ensures u there)) many.1;
    }
