-- The tokens at which names and sets are looked at, in the order of the text.
use Rattle.std.specs.Prelude.{ℕ, suc, Bool, true, false, ◌&&◌, cond, List, [], ◌∷◌, ◌++◌, length, take, flat_map, slice_get, Option, None, unwrap_or, option_and_then}
use Rattle.theory_syntax.specs.Value.{Value}
use Rattle.theory_syntax.specs.Expression.{Expression}
use Rattle.theory_syntax.specs.Types.{Types}
use Rattle.theory_text.specs.Place.{Place}
use Rattle.theory_text.specs.Raw.{RawName, RawExpression, RawNumber, RawTruth, RawBooleans, RawUse, RawApply, RawCombine, RawSequence, RawSet, RawRange, RawConstructor, RawExpressions, no_raw_expressions, raw_expression_and, RawField, RawGiven, RawInput, RawInputFrom, RawEvent, RawEventSet, RawEnumeration, RawProductions, RawEventUnion, RawEventIntersection, RawEventDifference, RawPair, RawProcess, RawStop, RawSkip, RawCall, RawPrefix, RawGuard, RawIf, RawInfix, RawGeneralisedParallel, RawAlphabetisedParallel, RawHiding, RawRenaming, RawReplicated, RawDomain, RawProperty, RawRefinementOf, RawClause, RawDeclaration, RawDatatype, RawNametype, RawChannels, RawEquation, RawAssertion, RawScript}
use Rattle.theory_checking.specs.Names.{Environment, environment_of, environment_above, binding, bound_by_fields}
use Rattle.theory_checking.specs.Resolving.{number_of}
use Rattle.theory_checking.specs.Sets.{in_order, datatypes_of, types_of, set_expression, channel_sets, members_above, members_with, field_members_with, field_members, channel_members}

-- What a name is used as: a value or set in an expression; a constructor that is written with so many fields; the equation of a call with so many arguments; the channel of
-- a prefix, of an event in `{..}` or of a side of a renaming, with so many fields; the channel of an event in `{|..|}`;
-- the left and the right channel of a renaming of two bare ones, each with the other one.
pub data Use : Type 0 where
  AsExpression : Use
  AsConstructor : (fields : ℕ) → Use
  AsEquation : (arguments : ℕ) → Use
  AsEvent : (fields : ℕ) → Use
  AsProductions : (fields : ℕ) → Use
  AsBareLeft : (right : RawName) → Use
  AsBareRight : (left : RawName) → Use

-- A token that is looked at.
pub data Site : Type 0 where
  -- a name that is used, in its environment
  Used : (environment : Environment) (used : Use) (name : RawName) → Site
  -- a name that is bound by an input or a replicated form, or as a parameter behind those of its head that are bound already
  BoundThere : (environment : Environment) (name : RawName) → Site
  Parameter : (environment : Environment) (name : RawName) → Site
  -- The first token of the set of a nametype or of a field of a constructor or channel, with the script's types, the sets so far (those of the declarations above, and of its own
  -- one up to this set), its expression, unless a name in it is refused, and its members, if it has some that count.
  NametypeSet : (place : Place) (types : Types) (so_far : RawScript) (set : Option Expression) (members : Option (List Value)) → Site
  FieldSet : (place : Place) (types : Types) (so_far : RawScript) (set : Option Expression) (members : Option (List Value)) → Site
  -- the name of a channel, with the script's types, the declarations up to its own one, and the members of the field
  -- sets of the channels before it and of its own
  ChannelHead : (name : RawName) (types : Types) (so_far : RawScript) (before : List (Option (List (List Value)))) (own : Option (List (List Value))) → Site

abbrev pub site_place : Site → Place
site_place (Used env u n) = n.place
site_place (BoundThere env n) = n.place
site_place (Parameter env n) = n.place
site_place (NametypeSet p types so_far e ms) = p
site_place (FieldSet p types so_far e ms) = p
site_place (ChannelHead n types so_far before own) = n.place

abbrev mutual
  pub in_expression : Environment → RawExpression → List Site
  in_expression env (RawNumber n) = []
  in_expression env (RawTruth b) = []
  in_expression env RawBooleans = []
  in_expression env (RawUse n) = Used env AsExpression n ∷ []
  in_expression env (RawApply op e) = in_expression env e
  in_expression env (RawCombine op e f) = in_expression env e ++ in_expression env f
  in_expression env (RawSequence es) = in_expressions env es
  in_expression env (RawSet es) = in_expressions env es
  in_expression env (RawRange e f) = in_expression env e ++ in_expression env f
  in_expression env (RawConstructor n es) = Used env (AsConstructor (number_of es)) n ∷ in_expressions env es

  pub in_expressions : Environment → RawExpressions → List Site
  in_expressions env no_raw_expressions = []
  in_expressions env (raw_expression_and e es) = in_expression env e ++ in_expressions env es

-- An input's set stands outside the scope of its name.
abbrev pub in_fields : Environment → List RawField → List Site
in_fields env [] = []
in_fields env (RawGiven e ∷ fs) = in_expression env e ++ in_fields env fs
in_fields env (RawInput n ∷ fs) = BoundThere env n ∷ in_fields (binding env (n ∷ [])) fs
in_fields env (RawInputFrom n e ∷ fs) = BoundThere env n ∷ in_expression env e ++ in_fields (binding env (n ∷ [])) fs

abbrev pub in_event : Environment → RawEvent → List Site
in_event env e = Used env (AsEvent (number_of e.fields)) e.channel ∷ in_expressions env e.fields

abbrev pub in_production : Environment → RawEvent → List Site
in_production env e = Used env (AsProductions (number_of e.fields)) e.channel ∷ in_expressions env e.fields

abbrev pub in_event_set : Environment → RawEventSet → List Site
in_event_set env (RawEnumeration es) = flat_map (in_event env) es
in_event_set env (RawProductions es) = flat_map (in_production env) es
in_event_set env (RawEventUnion a b) = in_event_set env a ++ in_event_set env b
in_event_set env (RawEventIntersection a b) = in_event_set env a ++ in_event_set env b
in_event_set env (RawEventDifference a b) = in_event_set env a ++ in_event_set env b

abbrev pub has_no_fields : RawEvent → Bool
has_no_fields e = elim e.fields [ no_raw_expressions ↦ true | raw_expression_and f fs ↦ false ]

abbrev pub in_pair : Environment → RawPair → List Site
in_pair env r =
    cond (has_no_fields r.from && has_no_fields r.to)
    (Used env (AsBareLeft r.to.channel) r.from.channel ∷ Used env (AsBareRight r.from.channel) r.to.channel ∷ [])
    (in_event env r.from ++ in_event env r.to)

abbrev pub in_process : Environment → RawProcess → List Site
in_process env RawStop = []
in_process env RawSkip = []
in_process env (RawCall n es) = Used env (AsEquation (number_of es)) n ∷ in_expressions env es
in_process env (RawPrefix c fs p) = Used env (AsEvent (length fs)) c ∷ in_fields env fs ++ in_process (binding env (bound_by_fields fs)) p
in_process env (RawGuard e p) = in_expression env e ++ in_process env p
in_process env (RawIf e p q) = in_expression env e ++ in_process env p ++ in_process env q
in_process env (RawInfix op p q) = in_process env p ++ in_process env q
in_process env (RawGeneralisedParallel p a q) = in_process env p ++ in_event_set env a ++ in_process env q
in_process env (RawAlphabetisedParallel p a b q) = in_process env p ++ in_event_set env a ++ in_event_set env b ++ in_process env q
in_process env (RawHiding p a) = in_process env p ++ in_event_set env a
in_process env (RawRenaming p rs) = in_process env p ++ flat_map (in_pair env) rs
in_process env (RawReplicated op n e p) = BoundThere env n ∷ in_expression env e ++ in_process (binding env (n ∷ [])) p

abbrev pub in_parameters : Environment → List RawName → List Site
in_parameters env [] = []
in_parameters env (n ∷ ns) = Parameter env n ∷ in_parameters (binding env (n ∷ [])) ns

-- The names of channels, of which the first has this number, with the declarations up to their own one.
abbrev pub in_heads : RawScript → RawScript → ℕ → List RawName → List Site
in_heads raw so_far c [] = []
in_heads raw so_far c (n ∷ ns) =
    ChannelHead n (types_of raw) so_far (take c (channel_members raw)) (unwrap_or (slice_get (channel_members raw) c) None)
    ∷ in_heads raw so_far (suc c) ns

-- the field sets of channels with these names, where some stand before them in the declaration
abbrev pub in_field_sets : RawScript → RawScript → List RawName → List RawDomain → List RawDomain → List Site
in_field_sets raw above names before [] = []
in_field_sets raw above names before (d ∷ ds) =
    FieldSet d.place (types_of raw) (above ++ RawChannels names (before ++ d ∷ []) ∷ []) (set_expression above d)
    (field_members raw (set_expression above d))
    ∷ in_expression (environment_above above) d.set
    ++ in_field_sets raw above names (before ++ d ∷ []) ds

-- a clause with these fields, behind others of its datatype
abbrev pub with_clause : RawScript → RawName → List RawClause → RawName → List RawDomain → RawScript
with_clause above name before constructor fields = above ++ RawDatatype name (before ++ record { name = constructor; fields = fields } ∷ []) ∷ []

-- the sets of the fields of a constructor, where some stand before them in its clause
abbrev pub in_clause_sets : RawScript → RawScript → RawName → List RawClause → RawName → List RawDomain → List RawDomain → List Site
in_clause_sets raw above name clauses constructor before [] = []
in_clause_sets raw above name clauses constructor before (d ∷ ds) =
    FieldSet d.place (types_of raw) (with_clause above name clauses constructor (before ++ d ∷ [])) (set_expression above d)
    (field_members_with (datatypes_of raw) (members_above raw above) (set_expression above d))
    ∷ in_expression (environment_above above) d.set
    ++ in_clause_sets raw above name clauses constructor (before ++ d ∷ []) ds

-- those of the clauses of a datatype, where some stand before them
abbrev pub in_clauses : RawScript → RawScript → RawName → List RawClause → List RawClause → List Site
in_clauses raw above name before [] = []
in_clauses raw above name before (c ∷ cs) = in_clause_sets raw above name before c.name [] c.fields ++ in_clauses raw above name (before ++ c ∷ []) cs

-- in the specification that an assertion compares with, if there is one
abbrev pub in_property : Environment → RawProperty → List Site
in_property env (RawRefinementOf model spec) = in_process env spec
in_property env _ = []

-- in a declaration of the script, below others
abbrev pub in_declaration : RawScript → RawScript → RawDeclaration → List Site
in_declaration raw above (RawDatatype name clauses) = in_clauses raw above name [] clauses
in_declaration raw above (RawNametype name domain) =
    NametypeSet domain.place (types_of raw) (above ++ RawNametype name domain ∷ []) (set_expression above domain)
    (option_and_then (members_with (datatypes_of raw) (members_above raw above)) (set_expression above domain))
    ∷ in_expression (environment_above above) domain.set
in_declaration raw above (RawChannels names domains) =
    in_heads raw (above ++ RawChannels names domains ∷ []) (length (channel_sets above)) names ++ in_field_sets raw above names [] domains
in_declaration raw above (RawEquation name parameters body) =
    in_parameters (environment_of raw) parameters ++ in_process (binding (environment_of raw) parameters) body
in_declaration raw above (RawAssertion place n a p) = in_property (environment_of raw) a ++ in_process (environment_of raw) p

abbrev pub sites : RawScript → List Site
sites raw = in_order (in_declaration raw) raw
