-- The fields are looked at, and the channels are added with their sets.
use Rattle.std.specs.Prelude.{cond, replicate, None, map}
use Rattle.std.proofs.lemmas.List.{length-map}
use Rattle.std.proofs.Common.{◌∙◌, ◌++◌, ◌∷◌, [], sym, ap, subst}
use Rattle.theory_text.specs.Raw.{RawChannels}
use Rattle.csp_parse.specs.Declarations.{domain_of}
use Rattle.csp_parse.specs.Names.{name_of}
use Rattle.csp_names.specs.Scopes.{known_sets}
use Rattle.csp_kinds.specs.Channels.{sets_in}
use Rattle.csp_kinds.specs.Fields.{known_fields}
use Rattle.csp_kinds.specs.Pass.{AreSetsSoFar}
use Rattle.csp_kinds.proofs.Passed.{channels_numbered, channels_taken}
use Rattle.csp_kinds.proofs.pass.SetsSoFar.add_channels.Goals as goal

pub look_at_fields-requires : goal.look_at_fields-requires
look_at_fields-requires g c = record {
  raw = c.requires.raw;
  above = c.requires.above;
  below = c.requires.below;
  names = map name_of c.args.names.now;
  stands = c.requires.stands;
  over = record { names = c.requires.position.names; visible = c.requires.position.visible; table = c.requires.so_far.table };
  known = c.requires.so_far.fit;
  number = c.len-first.ensures ∙ c.args.self.now.channels.field_sets.ok.0 ∙ sym (length-map c.args.self.now.channels.field_sets.items known_sets) ∙ channels_numbered c.requires.raw c.requires.above c.args.self.now c.requires.so_far;
  counted = sym (length-map c.args.names.now name_of);
}

pub returns : goal.returns
returns g c raw above below stands position so_far =
    let next = c.in_ok-fields.ensures (record {
      raw = raw;
      above = above;
      below = below;
      names = map name_of c.args.names.now;
      stands = stands;
      over = record { names = position.names; visible = position.visible; table = so_far.table };
      known = so_far.fit;
      number = c.len-first.ensures ∙ c.args.self.now.channels.field_sets.ok.0 ∙ sym (length-map c.args.self.now.channels.field_sets.items known_sets) ∙ channels_numbered raw above c.args.self.now so_far;
      counted = sym (length-map c.args.names.now name_of);
    }) in
    subst (λ r. AreSetsSoFar raw (above ++ RawChannels (map name_of c.args.names.now) (map domain_of c.args.domains.now) ∷ []) (record { table = c.args.self.now.table; fit = c.look_at_fields.new.fit; channels = c.add.new.self; refused = r }))
    (sym c.first_refusal-self.ensures)
    (channels_taken raw above below (map name_of c.args.names.now) (map domain_of c.args.domains.now) stands c.args.at.now position c.args.self.now so_far c.in_ok-fields.fields c.look_at_fields.new.fit next c.add.new.self
    (known_sets c.into_sets-sets.result) c.into_sets-sets.ensures
    (c.in_ok-head.ensures.added ∙ ap (λ k. sets_in c.args.self.now.channels ++ replicate k (known_sets c.into_sets-sets.result)) (sym (length-map c.args.names.now name_of)))
    c.in_ok-head.head c.first_of.result c.in_ok-head.ensures.heads c.first_of.ensures
    (λ e. c.in_ok-head.ensures.quiet (c.into_sets-sets.ensures ∙ ap (λ b. cond b (known_fields c.in_ok-fields.fields) None) e)))
