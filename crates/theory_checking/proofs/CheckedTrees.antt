-- A small tree that is checked, and refusals of trees with several channels.
use Rattle.std.specs.Prelude.{codes, take, drop}
use Rattle.std.proofs.lemmas.Bool.{ltb-true}
use Rattle.std.proofs.Common.{◌≡◌, ℕ, ◌≤◌, true, false, List, [], ◌∷◌, ◌++◌, pos, Some, None, refl, ap, ◌∙◌, arith}
use Rattle.theory_syntax.specs.Value.{Value, Integer, Truth}
use Rattle.theory_syntax.specs.Expression.{Expression, Literal, Range, SetOf, no_expressions, expression_and}
use Rattle.theory_semantics.specs.Meaning.Evaluation.{numbers_from}
use Rattle.theory_semantics.specs.Kinds.Kind.{Kind, IntKind, BoolKind, DatatypeKind, SequenceKind, SetKind, Kinds, InTurn}
use Rattle.theory_text.specs.Raw.{RawChannels}
use Rattle.theory_checking.specs.Names.{ChannelName, EquationName, Meaning, Declared, Bound, Environment, environment_of, environment_above, binding}
use Rattle.theory_checking.specs.Sets.{types_of, nametype_sets, IsSetOf}
use Rattle.theory_checking.specs.Sites.{Site, Used, Parameter, NametypeSet, FieldSet, ChannelHead, AsExpression, AsBareLeft, AsBareRight, sites}
use Rattle.theory_checking.specs.Faults.{KindFault, UnknownName, DeclaredTwice, WrongKind, WrongCount, TooManyEvents, fault_number}
use Rattle.theory_checking.specs.Rules.{IsRedeclared, IsRefusedSite, unknown, parameter_declared, parameter_again, wrong_class, left_fields, right_fields, other_sets, HasFieldSets, nametype_kind, too_many_events, SomeFit, suits, all_declared, bare_constructor}
use Rattle.theory_checking.specs.Refusals.{IsRefusedAt, PassesNames, IsKindRefusal, in_second_pass}
use Rattle.theory_checking.specs.Checked.{IsCheckedTree}
use Rattle.theory_checking.specs.Laws.Trees.{at, named, domain, up_to, channel_of_itself, parameter_twice, unlike_channels, bare_and_unknown, mixed_nametype, one_event_too_many, outputs, outputs_script}
use Rattle.theory_checking.proofs.FirstRefused.{none_refused}
use Rattle.theory_checking.proofs.CheckedRows.{new, at_once, behind_one, some_kinds}
use Rattle.theory_checking.proofs.FineSites.{IsFine, expression_fine, equation_fine, event_fine, left_fine, parameter_fine, bound_fine, field_fine, head_fine, unmembered_fine}

-- ---- `channel c : {0..1}`, `P(n) = c!n -> P(n)`, `assert P(0) [T= c?x -> STOP`

abbrev zero_one : List Value
zero_one = numbers_from (pos 0) 2

outputs_kinds : Kinds
outputs_kinds = record { nametypes = []; constructors = []; channels = (IntKind ∷ []) ∷ []; parameters = (IntKind ∷ []) ∷ [] }

outputs_env : Environment
outputs_env = environment_of outputs

outputs_within : Environment
outputs_within = binding (environment_of outputs) (named (codes "n") 2 3 ∷ [])

outputs_fit : SomeFit (types_of outputs) (take 1 outputs)
outputs_fit = (some_kinds ((IntKind ∷ []) ∷ []), record { nametypes = tt; constructors = tt; channels = (((tt, tt), tt), tt) })

outputs_pass : PassesNames outputs
unfolding outputs_env outputs_within
outputs_pass = record {
  once = none_refused IsRedeclared (all_declared outputs) (new [] (named (codes "c") 1 9) refl, (new (named (codes "c") 1 9 ∷ []) (named (codes "P") 2 1) refl, tt));
  fine = none_refused IsRefusedAt (sites outputs) (
    head_fine (named (codes "c") 1 9) (types_of outputs) (take 1 outputs) [] (zero_one ∷ []) refl,
    (
      field_fine (at 1 13) (types_of outputs) (take 1 outputs) (Some (Range (Literal (Integer (pos 0))) (Literal (Integer (pos 1))))) zero_one outputs_fit,
      (
        parameter_fine outputs_env (named (codes "n") 2 3) refl refl,
        (
          event_fine outputs_within 1 (named (codes "c") 2 8) (Declared ChannelName 0) refl refl refl,
          (
            expression_fine outputs_within (named (codes "n") 2 10) (Bound 0) refl refl (λ p e. let f = e in cc f),
            (
              equation_fine outputs_within 1 (named (codes "P") 2 15) (Declared EquationName 0) refl refl refl,
              (
                expression_fine outputs_within (named (codes "n") 2 17) (Bound 0) refl refl (λ p e. let f = e in cc f),
                (
                  equation_fine outputs_env 1 (named (codes "P") 3 8) (Declared EquationName 0) refl refl refl,
                  (
                    event_fine outputs_env 1 (named (codes "c") 3 17) (Declared ChannelName 0) refl refl refl,
                    (
                      bound_fine outputs_env (named (codes "x") 3 19) refl,
                      tt,
                    ),
                  ),
                ),
              ),
            ),
          ),
        ),
      ),
    ),
  );
}

pub outputs_checked : IsCheckedTree outputs outputs_script
unfolding outputs_kinds lib.Utf8.encode
outputs_checked = record {
  names = outputs_pass;
  script_of = record { datatypes = refl; nametypes = refl; constructors = refl; channels = refl; equations = refl; assertions = refl; channel_names = refl; constructor_names = refl; unfolds = refl };
  kinds = outputs_kinds;
  fit = record {
    sets = record { nametypes = tt; constructors = tt; channels = (((tt, tt), tt), tt) };
    parameters = refl;
    each = (
      (_, IntKind ∷ [], refl, refl, record { parameters = refl; body = (IntKind ∷ [], refl, (refl, tt), (IntKind ∷ [], refl, (refl, tt))) }),
      ((_, refl, record { specification = (IntKind ∷ [], refl, (tt, tt)); implementation = (IntKind ∷ [], refl, tt, tt) }), tt),
    );
  };
}

-- ---- a channel's own name in its field set, and a parameter twice

itself_row' : (g : KindFault) → IsRefusedSite (Used (environment_above []) AsExpression (named (codes "c") 1 13)) g → 1 ≤ fault_number g
itself_row' g (unknown h) = omega arith
itself_row' g (wrong_class h s) = omega arith
itself_row' g (bare_constructor h s) = omega arith

pub itself_row : IsKindRefusal channel_of_itself UnknownName (at 1 13)
itself_row = in_second_pass (none_refused IsRedeclared (all_declared channel_of_itself) (new [] (named (codes "c") 1 9) refl, tt)) (record {
  before = ChannelHead (named (codes "c") 1 9) (types_of channel_of_itself) channel_of_itself [] None ∷ FieldSet (at 1 13) (types_of channel_of_itself) channel_of_itself None None ∷ [];
  after = [];
  stands = refl;
  refused = unknown refl;
  lowest = itself_row';
  none_before = none_refused IsRefusedAt
      (ChannelHead (named (codes "c") 1 9) (types_of channel_of_itself) channel_of_itself [] None ∷ FieldSet (at 1 13)
      (types_of channel_of_itself) channel_of_itself None None ∷ [])
      (unmembered_fine (named (codes "c") 1 9) (types_of channel_of_itself) channel_of_itself [], (no_set, tt));
})
  where
    no_set : IsFine (FieldSet (at 1 13) (types_of channel_of_itself) channel_of_itself None None)
    no_set f h = elim h [ ]

pub again_row : IsKindRefusal parameter_twice DeclaredTwice (at 1 5)
again_row = in_second_pass (none_refused IsRedeclared (all_declared parameter_twice) (new [] (named (codes "P") 1 1) refl, tt))
    (behind_one IsRefusedAt (Parameter (environment_of parameter_twice) (named (codes "n") 1 3))
    (Parameter (binding (environment_of parameter_twice) (named (codes "n") 1 3 ∷ [])) (named (codes "n") 1 5)) [] DeclaredTwice
    (parameter_fine (environment_of parameter_twice) (named (codes "n") 1 3) refl refl) (parameter_again refl) lowest)
  where
    lowest : (g : KindFault) → IsRefusedSite (Parameter (binding (environment_of parameter_twice) (named (codes "n") 1 3 ∷ [])) (named (codes "n") 1 5)) g → 2 ≤ fault_number g
    lowest g (parameter_declared h) = omega arith
    lowest g (parameter_again h) = omega arith

-- ---- a set of numbers and truth values

abbrev mixed : Expression
mixed = SetOf (expression_and (Literal (Integer (pos 1))) (expression_and (Literal (Truth true)) no_expressions))

mixed_unfit : ¬ (SomeFit (types_of mixed_nametype) mixed_nametype)
mixed_unfit some = go some.0.nametypes some.1.nametypes
  where
    go : (ks : List Kind) → InTurn (IsSetOf (types_of mixed_nametype) some.0) (nametype_sets mixed_nametype) ks → ⊥
    go [] h = h
    go (IntKind ∷ ks) h = h.0.1.0
    go (BoolKind ∷ ks) h = h.0.0
    go (DatatypeKind d ∷ ks) h = h.0.0
    go (SequenceKind k ∷ ks) h = h.0.0
    go (SetKind k ∷ ks) h = h.0.0

pub mixed_row : IsKindRefusal mixed_nametype WrongKind (at 1 14)
mixed_row = in_second_pass (none_refused IsRedeclared (all_declared mixed_nametype) (new [] (named (codes "N") 1 10) refl, tt))
    (at_once IsRefusedAt (NametypeSet (at 1 14) (types_of mixed_nametype) mixed_nametype (Some mixed) (Some (Integer (pos 1) ∷ Truth true ∷ []))) [] WrongKind (nametype_kind mixed_unfit) lowest)
  where
    lowest : (g : KindFault) → IsRefusedSite (NametypeSet (at 1 14) (types_of mixed_nametype) mixed_nametype (Some mixed) (Some (Integer (pos 1) ∷ Truth true ∷ []))) g → 3 ≤ fault_number g
    lowest g (nametype_kind h) = omega arith

-- ---- renamings of bare channels

abbrev just : ℕ → Expression
just n = SetOf (expression_and (Literal (Integer (pos n))) no_expressions)

abbrev only : ℕ → List Value
only n = Integer (pos n) ∷ []

unlike_one : SomeFit (types_of unlike_channels) (take 1 unlike_channels)
unlike_one = (some_kinds ((IntKind ∷ []) ∷ []), record { nametypes = tt; constructors = tt; channels = (((tt, tt), tt), tt) })

unlike_two : SomeFit (types_of unlike_channels) (take 2 unlike_channels)
unlike_two = (some_kinds ((IntKind ∷ []) ∷ (IntKind ∷ []) ∷ []), record { nametypes = tt; constructors = tt; channels = (((tt, tt), tt), (((tt, tt), tt), tt)) })

unlike_left : HasFieldSets unlike_channels 0 (only 0 ∷ [])
unlike_left = record { members = refl; so_far = take 1 unlike_channels; below = drop 1 unlike_channels; stands = refl; declared = ltb-true 0 1 refl; fit = unlike_one }

unlike_right : HasFieldSets unlike_channels 1 (only 1 ∷ [])
unlike_right = record { members = refl; so_far = take 2 unlike_channels; below = drop 2 unlike_channels; stands = refl; declared = ltb-true 1 2 refl; fit = unlike_two }

abbrev before_unlike : List Site
before_unlike = ChannelHead (named (codes "c") 1 9) (types_of unlike_channels) (take 1 unlike_channels) [] (Some (only 0 ∷ [])) ∷ FieldSet (at 1 13)
    (types_of unlike_channels) (take 1 unlike_channels) (Some (just 0)) (Some (only 0))
    ∷ ChannelHead (named (codes "d") 2 9) (types_of unlike_channels) (take 2 unlike_channels) (Some (only 0 ∷ []) ∷ []) (Some (only 1 ∷ [])) ∷ FieldSet
    (at 2 13) (types_of unlike_channels) (take 2 unlike_channels) (Some (just 1)) (Some (only 1))
    ∷ Used (environment_of unlike_channels) (AsBareLeft (named (codes "d") 3 16)) (named (codes "c") 3 11) ∷ []

pub unlike_row : IsKindRefusal unlike_channels WrongKind (at 3 16)
unlike_row = in_second_pass
    (none_refused IsRedeclared (all_declared unlike_channels) (
      new [] (named (codes "c") 1 9) refl,
      (
        new (named (codes "c") 1 9 ∷ []) (named (codes "d") 2 9) refl,
        (new (named (codes "c") 1 9 ∷ named (codes "d") 2 9 ∷ []) (named (codes "P") 3 1) refl, tt),
      ),
    ))
    (record {
      before = before_unlike;
      after = [];
      stands = refl;
      refused = other_sets refl refl unlike_left unlike_right refl (λ e. cc e);
      lowest = lowest;
      none_before = none_refused IsRefusedAt before_unlike (
        head_fine (named (codes "c") 1 9) (types_of unlike_channels) (take 1 unlike_channels) [] (only 0 ∷ []) refl,
        (
          field_fine (at 1 13) (types_of unlike_channels) (take 1 unlike_channels) (Some (just 0)) (only 0) unlike_one,
          (
            head_fine (named (codes "d") 2 9) (types_of unlike_channels) (take 2 unlike_channels) (Some (only 0 ∷ []) ∷ []) (only 1 ∷ []) refl,
            (
              field_fine (at 2 13) (types_of unlike_channels) (take 2 unlike_channels) (Some (just 1)) (only 1) unlike_two,
              (left_fine (environment_of unlike_channels) (named (codes "c") 3 11) (named (codes "d") 3 16) (Declared ChannelName 0) 1 refl refl refl refl, tt),
            ),
          ),
        ),
      );
    })
  where
    lowest : (g : KindFault) → IsRefusedSite (Used (environment_of unlike_channels) (AsBareRight (named (codes "c") 3 11)) (named (codes "d") 3 16)) g → 3 ≤ fault_number g
    lowest g (unknown h) = absurd (cc h)
    lowest g (wrong_class h s) = omega arith
    lowest g (right_fields h s q) = omega arith
    lowest g (other_sets a b c d e f) = omega arith

abbrev before_bare : List Site
before_bare = ChannelHead (named (codes "c") 1 9) (types_of bare_and_unknown) (take 1 bare_and_unknown) [] (Some (only 0 ∷ [])) ∷ FieldSet (at 1 13)
    (types_of bare_and_unknown) (take 1 bare_and_unknown) (Some (just 0)) (Some (only 0)) ∷ []

pub bare_row : IsKindRefusal bare_and_unknown WrongCount (at 2 11)
bare_row = in_second_pass
    (none_refused IsRedeclared (all_declared bare_and_unknown) (new [] (named (codes "c") 1 9) refl, (new (named (codes "c") 1 9 ∷ []) (named (codes "P") 2 1) refl, tt)))
    (record {
      before = before_bare;
      after = Used (environment_of bare_and_unknown) (AsBareRight (named (codes "c") 2 11)) (named (codes "x") 2 16) ∷ [];
      stands = refl;
      refused = left_fields {p = 1} refl (λ e. cc e) (λ e. cc e);
      lowest = lowest;
      none_before = none_refused IsRefusedAt before_bare (
        head_fine (named (codes "c") 1 9) (types_of bare_and_unknown) (take 1 bare_and_unknown) [] (only 0 ∷ []) refl,
        (
          field_fine (at 1 13) (types_of bare_and_unknown) (take 1 bare_and_unknown) (Some (just 0)) (only 0)
              (some_kinds ((IntKind ∷ []) ∷ []), record { nametypes = tt; constructors = tt; channels = (((tt, tt), tt), tt) }),
          tt,
        ),
      );
    })
  where
    unsuited : (m : Meaning) → Some (Declared ChannelName 0) ≡ Some m → suits (AsBareLeft (named (codes "x") 2 16)) m ≡ false → ⊥
    unsuited m e no_suit = let same : Declared ChannelName 0 ≡ m = cc e in let both : true ≡ false = ap (suits (AsBareLeft (named (codes "x") 2 16))) same ∙ no_suit in cc both

    lowest : (g : KindFault) → IsRefusedSite (Used (environment_of bare_and_unknown) (AsBareLeft (named (codes "x") 2 16)) (named (codes "c") 2 11)) g → 4 ≤ fault_number g
    lowest g (unknown h) = absurd (cc h)
    lowest g (wrong_class {m = m} h s) = absurd (unsuited m h s)
    lowest g (left_fields h s q) = omega arith

-- ---- the event with which all are too many

abbrev numbers_to : ℕ → Expression
numbers_to n = Range (Literal (Integer (pos 0))) (Literal (Integer (pos n)))

abbrev numbers : ℕ → List Value
numbers n = numbers_from (pos 0) n

many_one : SomeFit (types_of one_event_too_many) (take 1 one_event_too_many)
many_one = (some_kinds ((IntKind ∷ []) ∷ []), record { nametypes = tt; constructors = tt; channels = (((tt, tt), tt), tt) })

many_part : SomeFit (types_of one_event_too_many) (take 1 one_event_too_many ++ RawChannels (named (codes "d") 2 9 ∷ []) (domain 2 13 (up_to 1023) ∷ []) ∷ [])
many_part = (some_kinds ((IntKind ∷ []) ∷ (IntKind ∷ []) ∷ []), record { nametypes = tt; constructors = tt; channels = (((tt, tt), tt), (((tt, tt), tt), tt)) })

many_two : SomeFit (types_of one_event_too_many) (take 2 one_event_too_many)
many_two = (some_kinds ((IntKind ∷ []) ∷ (IntKind ∷ IntKind ∷ []) ∷ []), record { nametypes = tt; constructors = tt; channels = (((tt, tt), tt), (((tt, tt), ((tt, tt), tt)), tt)) })

many_all : SomeFit (types_of one_event_too_many) one_event_too_many
many_all = (some_kinds ((IntKind ∷ []) ∷ (IntKind ∷ IntKind ∷ []) ∷ [] ∷ []), record { nametypes = tt; constructors = tt; channels = (((tt, tt), tt), (((tt, tt), ((tt, tt), tt)), (tt, tt))) })

abbrev before_many : List Site
before_many = ChannelHead (named (codes "c") 1 9) (types_of one_event_too_many) (take 1 one_event_too_many) [] (Some (numbers 1024 ∷ [])) ∷ FieldSet (at 1 13)
    (types_of one_event_too_many) (take 1 one_event_too_many) (Some (numbers_to 1023)) (Some (numbers 1024))
    ∷ ChannelHead (named (codes "d") 2 9) (types_of one_event_too_many) (take 2 one_event_too_many) (Some (numbers 1024 ∷ []) ∷ []) (Some (numbers 1024 ∷ numbers 3 ∷ []))
    ∷ FieldSet (at 2 13) (types_of one_event_too_many)
    (take 1 one_event_too_many ++ RawChannels (named (codes "d") 2 9 ∷ []) (domain 2 13 (up_to 1023) ∷ []) ∷ []) (Some (numbers_to 1023))
    (Some (numbers 1024))
    ∷ FieldSet (at 2 23) (types_of one_event_too_many) (take 2 one_event_too_many) (Some (numbers_to 2)) (Some (numbers 3)) ∷ []

pub many_row : IsKindRefusal one_event_too_many TooManyEvents (at 3 9)
many_row = in_second_pass
    (none_refused IsRedeclared (all_declared one_event_too_many) (
      new [] (named (codes "c") 1 9) refl,
      (
        new (named (codes "c") 1 9 ∷ []) (named (codes "d") 2 9) refl,
        (new (named (codes "c") 1 9 ∷ named (codes "d") 2 9 ∷ []) (named (codes "e") 3 9) refl, tt),
      ),
    ))
    (record {
      before = before_many;
      after = [];
      stands = refl;
      refused = too_many_events {before = Some (numbers 1024 ∷ []) ∷ Some (numbers 1024 ∷ numbers 3 ∷ []) ∷ []} {sets = []} many_all (ltb-true 4096 4097 refl);
      lowest = lowest;
      none_before = none_refused IsRefusedAt before_many (
        head_fine (named (codes "c") 1 9) (types_of one_event_too_many) (take 1 one_event_too_many) [] (numbers 1024 ∷ []) refl,
        (
          field_fine (at 1 13) (types_of one_event_too_many) (take 1 one_event_too_many) (Some (numbers_to 1023)) (numbers 1024) many_one,
          (
            head_fine (named (codes "d") 2 9) (types_of one_event_too_many) (take 2 one_event_too_many) (Some (numbers 1024 ∷ []) ∷ []) (numbers 1024 ∷ numbers 3 ∷ []) refl,
            (
              field_fine (at 2 13) (types_of one_event_too_many)
                  (take 1 one_event_too_many ++ RawChannels (named (codes "d") 2 9 ∷ []) (domain 2 13 (up_to 1023) ∷ []) ∷ []) (Some (numbers_to 1023))
                  (numbers 1024) many_part,
              (field_fine (at 2 23) (types_of one_event_too_many) (take 2 one_event_too_many) (Some (numbers_to 2)) (numbers 3) many_two, tt),
            ),
          ),
        ),
      );
    })
  where
    lowest : (g : KindFault) →
        IsRefusedSite (ChannelHead (named (codes "e") 3 9) (types_of one_event_too_many) one_event_too_many
        (Some (numbers 1024 ∷ []) ∷ Some (numbers 1024 ∷ numbers 3 ∷ []) ∷ []) (Some [])) g → 6 ≤ fault_number g
    lowest g (too_many_events h m) = omega arith
