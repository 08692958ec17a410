use Rattle.std.proofs.Common.{◌≡◌, [], ◌∙◌, arith, length, map, refl, replicate, ℕ, subst, sym}
use Rattle.theory_checking.specs.DeclaredRows.{numbered_rows}
use Rattle.theory_checking.specs.Names.{ChannelName}
use Rattle.csp_parse.specs.Names.{name_of}
use Rattle.csp_names.specs.FirstPass.{Adds, AddsNames}
use Rattle.csp_names.proofs.NamesAdded.{all_added, nothing_added, one_more_channel, one_redeclares}
use Rattle.csp_names.proofs.Walking.{handed_on}
use Rattle.csp_names.proofs.names.Names.add_channels.Goals as goal

pub loop-name-init : goal.loop-name-init
loop-name-init g c = nothing_added c.args.self.now

pub returns-in_err-add : goal.returns-in_err-add
returns-in_err-add g c =
    let items = c.args.channels.now in
    let first = length c.args.self.now.fields.items in
    handed_on (AddsNames c.args.self.now c.add.new.self (numbered_rows ChannelName first (map name_of items)) (map name_of items) [] [] (replicate (length items) c.args.fields)) c.from_residual-in_err-add.result c.in_err-add.field-0.0 c.from_residual-in_err-add.ensures
    (one_redeclares name_of ChannelName first items c.loop-name.name-index _ c.loop-name-test.true c.args.self.now c.loop-name.self [] (replicate c.loop-name.name-index c.args.fields) c.in_err-add.field-0.0 c.loop-name.invariant c.in_err-add.ensures)

pub loop-name-preserved : goal.loop-name-preserved
loop-name-preserved g c =
    one_more_channel c.args.channels.now c.loop-name.name-index _ c.loop-name-test.true c.args.self.now c.loop-name.self c.add.new.self _ c.in_ok-number.number c.args.fields c.loop-name.invariant (c.in_ok-number.ensures.number ∙ c.len.ensures)
    c.in_ok-add.ensures refl refl refl c.in_ok-push.ensures.items

pub returns : goal.returns
returns g c =
    let all : length c.args.channels.now ≡ c.loop-name.name-index = omega (arith, c.loop-name-test.false, c.loop-name.auto.name-index-end) in
    let P : ℕ → Type 0 = λ k. Adds c.args.self.now c.loop-name.self (numbered_rows ChannelName (length c.args.self.now.fields.items) (map name_of c.args.channels.now)) (map name_of c.args.channels.now) [] [] (replicate k c.args.fields) in
    subst P (sym all) (all_added name_of ChannelName (length c.args.self.now.fields.items) c.args.channels.now c.loop-name.name-index c.args.self.now c.loop-name.self [] (replicate c.loop-name.name-index c.args.fields) c.loop-name-test.false c.loop-name.invariant)
