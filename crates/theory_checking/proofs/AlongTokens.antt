-- The sites of a tree stand at its tokens, in their order.
use Rattle.std.specs.Prelude.{suc, take, slice_get, None, unwrap_or, flat_map, cond}
use Rattle.std.proofs.Common.{ℕ, ◌&&◌, Bool, true, false, List, [], ◌∷◌, ◌++◌, append-nil, length, map, sym, subst}
use Rattle.std.proofs.lemmas.List.{map-append}
use Rattle.theory_text.specs.Place.{Place}
use Rattle.theory_text.specs.Token.{PlacedToken}
use Rattle.theory_text.specs.Raw.{RawProperty, RawName, RawExpression, RawExpressions, RawField, RawEvent, RawEventSet, RawPair, Infix, RawProcess, RawDomain, RawClause, RawDeclaration, RawChannels, RawScript, raw_expression_and}
use Rattle.theory_text.specs.Grammar.{IsFirstSide, plain_side, negated_side, IsFreedom, deadlock_free, divergence_free, freedom, IsName, name, AreNames, one_name, more_names, IsExpression, conjunction, or, IsConjunction, negation, and, IsNegation, comparison, not, IsComparison, sum, compare, IsSum, product, add, IsProduct, atom, multiply, IsAtom, true_word, false_word, bool_word, negate, length_of, bracketed, no_items, items, no_members, members, range, of_one, of_two, AreSums, one_sum, more_sums, AreExpressions, one_expression, more_expressions, AreDotted, no_dotted, dotted, IsEvent, event, AreEvents, one_event, more_events, AreLaterFields, no_fields, output, input, input_from, AreFields, later_fields, dotted_field, IsSetWord, union_of_sets, inter_of_sets, diff_of_sets, IsEventSet, no_events, events, productions, of_sets, ArePairs, one_pair, more_pairs, IsRenamingPart, renaming_part, IsHidingPart, hiding_part, IsProcess, conditional, replicated, renamed, hidden, operand, chain, generalised, alphabetised, IsRenamed, renamed_base, renamed_again, IsHidden, hidden_base, hidden_renamed, hidden_again, IsChain, two, longer, IsOperand, prefix, guard, base, IsBase, stop, skip, call, call_with, bracketed_process, IsClause, bare_clause, clause, AreClauses, one_clause, more_clauses, AreDomains, one_domain, more_domains, IsDeclaration, datatype, nametype, bare_channels, channels, equation, equation_with, assertion, IsScript, no_declarations, declarations}
use Rattle.theory_checking.specs.Names.{Environment, environment_of, environment_above, binding, bound_by_fields, clause_names, declared}
use Rattle.theory_checking.specs.Resolving.{number_of}
use Rattle.theory_checking.specs.Sets.{behind_each, datatypes_of, types_of, set_expression, channel_sets, members_above, field_members_with, field_members, channel_members}
use Rattle.theory_checking.specs.Sites.{in_property, AsConstructor, AsEquation, AsEvent, AsProductions, AsBareLeft, AsBareRight, Site, Used, BoundThere, Parameter, FieldSet, ChannelHead, site_place, sites, in_parameters, in_heads, in_field_sets, with_clause, in_clause_sets, in_clauses, in_declaration, in_expression, in_expressions, in_fields, in_event, in_production, in_event_set, has_no_fields, in_pair, in_process}
use Rattle.theory_checking.specs.Rules.{all_declared}
use Rattle.theory_checking.specs.Fitting as Fitting
use Rattle.theory_checking.specs.Fitting.{item_declared, item_place}
use Rattle.theory_checking.specs.Order.{StandAlong, no_places, further, here}

-- ---- places along tokens

pub behind : (a : List PlacedToken) {b : List PlacedToken} {ps : List Place} → StandAlong b ps → StandAlong (a ++ b) ps
behind [] h = h
behind (t ∷ a) h = further (behind a h)

pub before : {a : List PlacedToken} {ps : List Place} (b : List PlacedToken) → StandAlong a ps → StandAlong (a ++ b) ps
before b no_places = no_places
before b (further h) = further (before b h)
before b (here h) = here (before b h)

pub join : {a b : List PlacedToken} {ps qs : List Place} → StandAlong a ps → StandAlong b qs → StandAlong (a ++ b) (ps ++ qs)
join (no_places {ts = ts}) k = behind ts k
join (further h) k = further (join h k)
join (here h) k = here (join h k)

abbrev pub places : List Site → List Place
places xs = map site_place xs

abbrev pub SitesAlong : List PlacedToken → List Site → Type 0
SitesAlong ts xs = StandAlong ts (places xs)

pub both : {a b : List PlacedToken} (xs ys : List Site) → SitesAlong a xs → SitesAlong b ys → SitesAlong (a ++ b) (xs ++ ys)
both {a} {b} xs ys h k = let P : List Place → Type 0 = StandAlong (a ++ b) in subst P (sym (map-append site_place xs ys)) (join h k)

pub name_along : {a : List PlacedToken} {n : RawName} → IsName a n → StandAlong a (n.place ∷ [])
name_along (name t cs e) = here no_places

-- ---- expressions

-- a name that is looked at, and sites behind it
named_along : (x : Site) (xs : List Site) {a b : List PlacedToken} → StandAlong a (site_place x ∷ []) → SitesAlong b xs → SitesAlong (a ++ b) (x ∷ xs)
named_along x xs h k = join h k

-- a list of one
one_more : (env : Environment) (e : RawExpression) {a : List PlacedToken} → SitesAlong a (in_expression env e) → SitesAlong a (in_expression env e ++ [])
one_more env e {a} h = let P : List Site → Type 0 = SitesAlong a in subst P (sym (append-nil (in_expression env e))) h

mutual
  pub expression_along : (env : Environment) {a : List PlacedToken} {e : RawExpression} → IsExpression a e → SitesAlong a (in_expression env e)
  expression_along env (conjunction h) = conjunction_along env h
  expression_along env (or {a} {b} {c} {e} {f} h w k) = both (in_expression env e) (in_expression env f) (before b (expression_along env h)) (conjunction_along env k)

  pub conjunction_along : (env : Environment) {a : List PlacedToken} {e : RawExpression} → IsConjunction a e → SitesAlong a (in_expression env e)
  conjunction_along env (negation h) = negation_along env h
  conjunction_along env (and {a} {b} {c} {e} {f} h w k) = both (in_expression env e) (in_expression env f) (before b (conjunction_along env h)) (negation_along env k)

  pub negation_along : (env : Environment) {a : List PlacedToken} {e : RawExpression} → IsNegation a e → SitesAlong a (in_expression env e)
  negation_along env (comparison h) = comparison_along env h
  negation_along env (not {a} w h) = behind a (negation_along env h)

  pub comparison_along : (env : Environment) {a : List PlacedToken} {e : RawExpression} → IsComparison a e → SitesAlong a (in_expression env e)
  comparison_along env (sum h) = sum_along env h
  comparison_along env (compare {a} {b} {c} {o} {e} {f} h w k) = both (in_expression env e) (in_expression env f) (before b (sum_along env h)) (sum_along env k)

  pub sum_along : (env : Environment) {a : List PlacedToken} {e : RawExpression} → IsSum a e → SitesAlong a (in_expression env e)
  sum_along env (product h) = product_along env h
  sum_along env (add {a} {b} {c} {o} {e} {f} h w k) = both (in_expression env e) (in_expression env f) (before b (sum_along env h)) (product_along env k)

  pub product_along : (env : Environment) {a : List PlacedToken} {e : RawExpression} → IsProduct a e → SitesAlong a (in_expression env e)
  product_along env (atom h) = atom_along env h
  product_along env (multiply {a} {b} {c} {o} {e} {f} h w k) = both (in_expression env e) (in_expression env f) (before b (product_along env h)) (atom_along env k)

  pub atom_along : (env : Environment) {a : List PlacedToken} {e : RawExpression} → IsAtom a e → SitesAlong a (in_expression env e)
  atom_along env (IsAtom.number h) = no_places
  atom_along env (IsAtom.name h) = name_along h
  atom_along env (true_word w) = no_places
  atom_along env (false_word w) = no_places
  atom_along env (bool_word w) = no_places
  atom_along env (negate {a} w h) = behind a (atom_along env h)
  atom_along env (length_of {a} w h) = behind a (atom_along env h)
  atom_along env (bracketed {a} {b} {c} w h k) = before c (behind a (expression_along env h))
  atom_along env (no_items v w) = no_places
  atom_along env (items {a} {b} {c} v h w) = before c (behind a (sums_along env h))
  atom_along env (no_members v w) = no_places
  atom_along env (members {a} {b} {c} v h w) = before c (behind a (expressions_along env h))
  atom_along env (range {a} {b} {c} {d} {x} {e} {f} u h v k w) = before x (both (in_expression env e) (in_expression env f) (before c (behind a (expression_along env h))) (expression_along env k))
  atom_along env (of_one {a} {b} {c} {d} u v h w) = before d (behind (a ++ b) (expression_along env h))
  atom_along env (of_two {a} {b} {c} {d} {x} {y} {o} {e} {f} u v h w k z) =
      before y (both (in_expression env e) (in_expression env f) (before d (behind (a ++ b) (expression_along env h))) (expression_along env k))
  atom_along env (IsAtom.constructed {a} {b} {c} {d} {x} {y} {n} {e} {es} u h v k l w) =
      let site = Used env (AsConstructor (number_of (raw_expression_and e es))) n in
      before y (both (site ∷ in_expression env e) (in_expressions env es) (named_along site (in_expression env e) (before c (behind a (name_along h))) (atom_along env k)) (dotted_along env l))

  pub sums_along : (env : Environment) {a : List PlacedToken} {es : RawExpressions} → AreSums a es → SitesAlong a (in_expressions env es)
  sums_along env (one_sum {a} {e} h) = one_more env e (sum_along env h)
  sums_along env (more_sums {a} {b} {c} {e} {es} h w k) = both (in_expression env e) (in_expressions env es) (before b (sum_along env h)) (sums_along env k)

  pub expressions_along : (env : Environment) {a : List PlacedToken} {es : RawExpressions} → AreExpressions a es → SitesAlong a (in_expressions env es)
  expressions_along env (one_expression {a} {e} h) = one_more env e (expression_along env h)
  expressions_along env (more_expressions {a} {b} {c} {e} {es} h w k) = both (in_expression env e) (in_expressions env es) (before b (expression_along env h)) (expressions_along env k)

  pub dotted_along : (env : Environment) {a : List PlacedToken} {es : RawExpressions} → AreDotted a es → SitesAlong a (in_expressions env es)
  dotted_along env no_dotted = no_places
  dotted_along env (dotted {a} {b} {c} {e} {es} w h k) = both (in_expression env e) (in_expressions env es) (behind a (atom_along env h)) (dotted_along env k)

-- ---- events

pub event_along : (env : Environment) {a : List PlacedToken} {e : RawEvent} → IsEvent a e → SitesAlong a (in_event env e)
event_along env (event {a} {b} {n} {es} h k) = named_along (Used env (AsEvent (number_of es)) n) (in_expressions env es) (name_along h) (dotted_along env k)

pub production_along : (env : Environment) {a : List PlacedToken} {e : RawEvent} → IsEvent a e → SitesAlong a (in_production env e)
production_along env (event {a} {b} {n} {es} h k) = named_along (Used env (AsProductions (number_of es)) n) (in_expressions env es) (name_along h) (dotted_along env k)

lone : {a : List PlacedToken} (xs : List Site) → SitesAlong a xs → SitesAlong a (xs ++ [])
lone {a} xs h = let P : List Site → Type 0 = SitesAlong a in subst P (sym (append-nil xs)) h

pub events_along : (g : RawEvent → List Site) → ((a : List PlacedToken) (e : RawEvent) → IsEvent a e → SitesAlong a (g e)) →
    {a : List PlacedToken} {es : List RawEvent} → AreEvents a es → SitesAlong a (flat_map g es)
events_along g each (one_event {a} {e} h) = lone (g e) (each a e h)
events_along g each (more_events {a} {b} {c} {e} {es} h w k) = both (g e) (flat_map g es) (before b (each a e h)) (events_along g each k)

pub event_set_along : (env : Environment) {a : List PlacedToken} {s : RawEventSet} → IsEventSet a s → SitesAlong a (in_event_set env s)
event_set_along env (no_events v w) = no_places
event_set_along env (events {a} {b} {c} v h w) = before c (behind a (events_along (in_event env) (λ x e k. event_along env k) h))
event_set_along env (productions {a} {b} {c} v h w) = before c (behind a (events_along (in_production env) (λ x e k. production_along env k) h))
event_set_along env (of_sets {a} {b} {c} {d} {x} {y} {o} {s} {t} word u h v k w) =
    by word (before y (both (in_event_set env s) (in_event_set env t) (before d (behind (a ++ b) (event_set_along env h))) (event_set_along env k)))
  where
    by : {p : RawEventSet → RawEventSet → RawEventSet} → IsSetWord a p → SitesAlong (a ++ b ++ c ++ d ++ x ++ y) (in_event_set env s ++ in_event_set env t) →
        SitesAlong (a ++ b ++ c ++ d ++ x ++ y) (in_event_set env (p s t))
    by (union_of_sets z) h = h
    by (inter_of_sets z) h = h
    by (diff_of_sets z) h = h

-- the channels of a pair, with or without fields
pair_along : (env : Environment) {a : List PlacedToken} (b : List PlacedToken) {c : List PlacedToken} {e f : RawEvent} → IsEvent a e → IsEvent c f →
    SitesAlong (a ++ b ++ c) (in_pair env (record { from = e; to = f }))
pair_along env {a} b {c} {e} {f} h k = go (has_no_fields e && has_no_fields f)
  where
    channel_along : {x : List PlacedToken} {g : RawEvent} → IsEvent x g → StandAlong x (g.channel.place ∷ [])
    channel_along (event {b = z} i j) = before z (name_along i)

    go : (t : Bool) → SitesAlong (a ++ b ++ c) (cond t (Used env (AsBareLeft f.channel) e.channel ∷ Used env (AsBareRight e.channel) f.channel ∷ []) (in_event env e ++ in_event env f))
    go true = join (before b (channel_along h)) (channel_along k)
    go false = both (in_event env e) (in_event env f) (before b (event_along env h)) (event_along env k)

pub pairs_along : (env : Environment) {a : List PlacedToken} {ps : List RawPair} → ArePairs a ps → SitesAlong a (flat_map (in_pair env) ps)
pairs_along env (one_pair {a} {b} {c} {e} {f} h w k) = lone (in_pair env (record { from = e; to = f })) (pair_along env b h k)
pairs_along env (more_pairs {a} {b} {c} {d} {x} {e} {f} {ps} h w k v rest) =
    both (in_pair env (record { from = e; to = f })) (flat_map (in_pair env) ps) (before d (pair_along env b h k)) (pairs_along env rest)

-- ---- fields

pub later_fields_along : (env : Environment) {a : List PlacedToken} {fs : List RawField} → AreLaterFields a fs → SitesAlong a (in_fields env fs)
later_fields_along env no_fields = no_places
later_fields_along env (output {a} {b} {c} {e} {fs} w h k) = both (in_expression env e) (in_fields env fs) (behind a (atom_along env h)) (later_fields_along env k)
later_fields_along env (input {a} {b} {c} {n} {fs} w h k) = named_along (BoundThere env n) (in_fields (binding env (n ∷ [])) fs) (behind a (name_along h)) (later_fields_along (binding env (n ∷ [])) k)
later_fields_along env (input_from {a} {b} {c} {d} {x} {n} {e} {fs} w h v i k) =
    both (BoundThere env n ∷ in_expression env e) (in_fields (binding env (n ∷ [])) fs)
    (named_along (BoundThere env n) (in_expression env e) (before c (behind a (name_along h))) (atom_along env i))
    (later_fields_along (binding env (n ∷ [])) k)

pub fields_along : (env : Environment) {a : List PlacedToken} {fs : List RawField} → AreFields a fs → SitesAlong a (in_fields env fs)
fields_along env (later_fields h) = later_fields_along env h
fields_along env (dotted_field {a} {b} {c} {e} {fs} w h k) = both (in_expression env e) (in_fields env fs) (behind a (atom_along env h)) (fields_along env k)

-- ---- processes

renaming_along : (env : Environment) {a : List PlacedToken} {ps : List RawPair} → IsRenamingPart a ps → SitesAlong a (flat_map (in_pair env) ps)
renaming_along env (renaming_part {a} {b} {c} u h w) = before c (behind a (pairs_along env h))

hiding_along : (env : Environment) {a : List PlacedToken} {s : RawEventSet} → IsHidingPart a s → SitesAlong a (in_event_set env s)
hiding_along env (hiding_part {a} {b} u h) = behind a (event_set_along env h)

mutual
  pub process_along : (env : Environment) {a : List PlacedToken} {p : RawProcess} → IsProcess a p → SitesAlong a (in_process env p)
  process_along env (conditional {a} {b} {c} {d} {x} {y} {e} {p} {q} u h v i w k) =
      both (in_expression env e ++ in_process env p) (in_process env q)
      (before x (both (in_expression env e) (in_process env p) (before c (behind a (expression_along env h))) (process_along env i))) (process_along env k)
  process_along env (replicated {a} {b} {c} {d} {x} {y} {o} {n} {e} {p} u h v i w k) =
      both (BoundThere env n ∷ in_expression env e) (in_process (binding env (n ∷ [])) p)
      (before x (named_along (BoundThere env n) (in_expression env e) (before c (behind a (name_along h))) (atom_along env i))) (process_along (binding env (n ∷ [])) k)
  process_along env (renamed h) = renamed_along env h
  process_along env (hidden h) = hidden_along env h
  process_along env (operand h) = operand_along env h
  process_along env (chain h) = chain_along env h
  process_along env (generalised {a} {b} {c} {d} {x} {p} {q} {s} h u i v k) =
      both (in_process env p ++ in_event_set env s) (in_process env q)
      (before d (both (in_process env p) (in_event_set env s) (before b (operand_along env h)) (event_set_along env i))) (operand_along env k)
  process_along env (alphabetised {a} {b} {c} {d} {x} {y} {z} {p} {q} {s} {t} h u i v j w k) =
      both (in_process env p ++ in_event_set env s ++ in_event_set env t) (in_process env q)
      (before y (both (in_process env p ++ in_event_set env s) (in_event_set env t)
      (before d (both (in_process env p) (in_event_set env s) (before b (operand_along env h)) (event_set_along env i))) (event_set_along env j)))
      (operand_along env k)

  pub renamed_along : (env : Environment) {a : List PlacedToken} {p : RawProcess} → IsRenamed a p → SitesAlong a (in_process env p)
  renamed_along env (renamed_base {a} {b} {p} {ps} h k) = both (in_process env p) (flat_map (in_pair env) ps) (base_along env h) (renaming_along env k)
  renamed_along env (renamed_again {a} {b} {p} {ps} h k) = both (in_process env p) (flat_map (in_pair env) ps) (renamed_along env h) (renaming_along env k)

  pub hidden_along : (env : Environment) {a : List PlacedToken} {p : RawProcess} → IsHidden a p → SitesAlong a (in_process env p)
  hidden_along env (hidden_base {a} {b} {p} {s} h k) = both (in_process env p) (in_event_set env s) (base_along env h) (hiding_along env k)
  hidden_along env (hidden_renamed {a} {b} {p} {s} h k) = both (in_process env p) (in_event_set env s) (renamed_along env h) (hiding_along env k)
  hidden_along env (hidden_again {a} {b} {p} {s} h k) = both (in_process env p) (in_event_set env s) (hidden_along env h) (hiding_along env k)

  pub chain_along : (env : Environment) {o : Infix} {a : List PlacedToken} {p : RawProcess} → IsChain o a p → SitesAlong a (in_process env p)
  chain_along env (two {o} {a} {b} {c} {p} {q} h w k) = both (in_process env p) (in_process env q) (before b (operand_along env h)) (operand_along env k)
  chain_along env (longer {o} {a} {b} {c} {p} {q} h w k) = both (in_process env p) (in_process env q) (before b (chain_along env h)) (operand_along env k)

  pub operand_along : (env : Environment) {a : List PlacedToken} {p : RawProcess} → IsOperand a p → SitesAlong a (in_process env p)
  operand_along env (prefix {a} {b} {c} {d} {n} {fs} {p} h i w k) =
      both (Used env (AsEvent (length fs)) n ∷ in_fields env fs) (in_process (binding env (bound_by_fields fs)) p)
      (before c (named_along (Used env (AsEvent (length fs)) n) (in_fields env fs) (name_along h) (fields_along env i))) (operand_along (binding env (bound_by_fields fs)) k)
  operand_along env (guard {a} {b} {c} {e} {p} h w k) = both (in_expression env e) (in_process env p) (before b (expression_along env h)) (operand_along env k)
  operand_along env (base h) = base_along env h

  pub base_along : (env : Environment) {a : List PlacedToken} {p : RawProcess} → IsBase a p → SitesAlong a (in_process env p)
  base_along env (stop w) = no_places
  base_along env (skip w) = no_places
  base_along env (call {a} {n} h) = name_along h
  base_along env (call_with {a} {b} {c} {d} {n} {es} h u k w) =
      before d (named_along (Used env (AsEquation (number_of es)) n) (in_expressions env es) (before b (name_along h)) (expressions_along env k))
  base_along env (bracketed_process {a} {b} {c} u h w) = before c (behind a (process_along env h))

-- ---- declarations

pub parameters_along : (env : Environment) {a : List PlacedToken} {ns : List RawName} → AreNames a ns → SitesAlong a (in_parameters env ns)
parameters_along env (one_name h) = name_along h
parameters_along env (more_names {a} {b} {c} {n} {ns} h w k) =
    named_along (Parameter env n) (in_parameters (binding env (n ∷ [])) ns) (before b (name_along h)) (parameters_along (binding env (n ∷ [])) k)

pub heads_along : (raw so_far : RawScript) (i : ℕ) {a : List PlacedToken} {ns : List RawName} → AreNames a ns → SitesAlong a (in_heads raw so_far i ns)
heads_along raw so_far i (one_name h) = name_along h
heads_along raw so_far i (more_names {a} {b} {c} {n} {ns} h w k) =
    named_along (ChannelHead n (types_of raw) so_far (take i (channel_members raw)) (unwrap_or (slice_get (channel_members raw) i) None))
    (in_heads raw so_far (suc i) ns) (before b (name_along h)) (heads_along raw so_far (suc i) k)

pub domains_along : (raw above : RawScript) (names : List RawName) (done : List RawDomain) {a : List PlacedToken} {ds : List RawDomain} → AreDomains a ds →
    SitesAlong a (in_field_sets raw above names done ds)
domains_along raw above names done (one_domain t ts {e} h) = here (lone (in_expression (environment_above above) e) (atom_along (environment_above above) h))
domains_along raw above names done (more_domains t ts {b} {c} {e} {ds} h w k) =
    both (FieldSet t.place (types_of raw) (above ++ RawChannels names (done ++ record { place = t.place; set = e } ∷ []) ∷ [])
    (set_expression above (record { place = t.place; set = e }))
    (field_members raw (set_expression above (record { place = t.place; set = e }))) ∷ in_expression (environment_above above) e)
    (in_field_sets raw above names (done ++ record { place = t.place; set = e } ∷ []) ds) (before b (here (atom_along (environment_above above) h)))
    (domains_along raw above names (done ++ record { place = t.place; set = e } ∷ []) k)

pub clause_sets_along : (raw above : RawScript) (datatype_name : RawName) (clauses : List RawClause) (constructor : RawName) (done : List RawDomain) {a : List PlacedToken} {ds : List RawDomain} → AreDomains a ds →
    SitesAlong a (in_clause_sets raw above datatype_name clauses constructor done ds)
clause_sets_along raw above datatype_name clauses constructor done (one_domain t ts {e} h) = here (lone (in_expression (environment_above above) e) (atom_along (environment_above above) h))
clause_sets_along raw above datatype_name clauses constructor done (more_domains t ts {b} {c} {e} {ds} h w k) =
    both (FieldSet t.place (types_of raw) (with_clause above datatype_name clauses constructor (done ++ record { place = t.place; set = e } ∷ []))
    (set_expression above (record { place = t.place; set = e }))
    (field_members_with (datatypes_of raw) (members_above raw above) (set_expression above (record { place = t.place; set = e }))) ∷ in_expression (environment_above above) e)
    (in_clause_sets raw above datatype_name clauses constructor (done ++ record { place = t.place; set = e } ∷ []) ds) (before b (here (atom_along (environment_above above) h)))
    (clause_sets_along raw above datatype_name clauses constructor (done ++ record { place = t.place; set = e } ∷ []) k)

pub clause_along : (raw above : RawScript) (datatype_name : RawName) (clauses : List RawClause) {a : List PlacedToken} {c : RawClause} → IsClause a c →
    SitesAlong a (in_clause_sets raw above datatype_name clauses c.name [] c.fields)
clause_along raw above datatype_name clauses (bare_clause h) = no_places
clause_along raw above datatype_name clauses (clause {a} {b} {c} {n} {ds} h w k) = behind (a ++ b) (clause_sets_along raw above datatype_name clauses n [] k)

pub clauses_along : (raw above : RawScript) (datatype_name : RawName) (done : List RawClause) {a : List PlacedToken} {cs : List RawClause} → AreClauses a cs → SitesAlong a (in_clauses raw above datatype_name done cs)
clauses_along raw above datatype_name done (one_clause {a} {c} h) = lone (in_clause_sets raw above datatype_name done c.name [] c.fields) (clause_along raw above datatype_name done h)
clauses_along raw above datatype_name done (more_clauses {a} {b} {d} {c} {cs} h w k) =
    both (in_clause_sets raw above datatype_name done c.name [] c.fields) (in_clauses raw above datatype_name (done ++ c ∷ []) cs) (before b (clause_along raw above datatype_name done h))
    (clauses_along raw above datatype_name (done ++ c ∷ []) k)

first_side_along : (env : Environment) {a : List PlacedToken} {n : Bool} {p : RawProcess} → IsFirstSide a n p → SitesAlong a (in_process env p)
first_side_along env (plain_side t ts other h) = process_along env h
first_side_along env (negated_side {a} {b} w h) = behind a (process_along env h)

-- an assertion of freedom has the sites of its one side
free_along : (env : Environment) (p : RawProcess) (b c d : List PlacedToken) {a : RawProperty} → IsFreedom d a → SitesAlong b (in_process env p) → SitesAlong (b ++ c ++ d) (in_property env a ++ in_process env p)
free_along env p b c d (deadlock_free o h k e) along = before d (before c along)
free_along env p b c d (divergence_free o h k e) along = before d (before c along)

pub declaration_along : (raw above : RawScript) {a : List PlacedToken} {d : RawDeclaration} → IsDeclaration a d → SitesAlong a (in_declaration raw above d)
declaration_along raw above (datatype {a} {b} {c} {d} {n} {cs} u h v k) = behind (a ++ b ++ c) (clauses_along raw above n [] k)
declaration_along raw above (nametype t ts {a} {b} {c} {n} {e} u h v k) = behind (a ++ b ++ c) (here (expression_along (environment_above above) k))
declaration_along raw above (bare_channels {a} {b} {ns} u h) =
    lone (in_heads raw (above ++ RawChannels ns [] ∷ []) (length (channel_sets above)) ns)
    (behind a (heads_along raw (above ++ RawChannels ns [] ∷ []) (length (channel_sets above)) h))
declaration_along raw above (channels {a} {b} {c} {d} {ns} {ds} u h v k) =
    both (in_heads raw (above ++ RawChannels ns ds ∷ []) (length (channel_sets above)) ns) (in_field_sets raw above ns [] ds)
    (before c (behind a (heads_along raw (above ++ RawChannels ns ds ∷ []) (length (channel_sets above)) h))) (domains_along raw above ns [] k)
declaration_along raw above (equation {a} {b} {c} {n} {p} h u k) = behind (a ++ b) (process_along (environment_of raw) k)
declaration_along raw above (equation_with {a} {b} {c} {d} {x} {y} {n} {ns} {p} h u k v w i) =
    both (in_parameters (environment_of raw) ns) (in_process (binding (environment_of raw) ns) p)
    (before x (before d (behind (a ++ b) (parameters_along (environment_of raw) k)))) (process_along (binding (environment_of raw) ns) i)
declaration_along raw above (assertion t {b} {c} {d} {n} {m} {p} {q} u h v k) =
    further (both (in_process (environment_of raw) p) (in_process (environment_of raw) q) (before c (first_side_along (environment_of raw) h)) (process_along (environment_of raw) k))
declaration_along raw above (freedom t {b} {c} {d} {n} {a} {p} u h v k) = further (free_along (environment_of raw) p b c d k (first_side_along (environment_of raw) h))

pub declarations_along : (raw above : RawScript) {a : List PlacedToken} {ds : RawScript} → IsScript a ds → SitesAlong a (behind_each (in_declaration raw) above ds)
declarations_along raw above no_declarations = no_places
declarations_along raw above (declarations {a} {b} {d} {ds} h k) =
    both (in_declaration raw above d) (behind_each (in_declaration raw) (above ++ d ∷ []) ds) (declaration_along raw above h) (declarations_along raw (above ++ d ∷ []) k)

pub sites_along : (ts : List PlacedToken) (raw : RawScript) → IsScript ts raw → StandAlong ts (map site_place (sites raw))
sites_along ts raw h = declarations_along raw [] h

-- ---- declared names

abbrev name_places : List RawName → List Place
name_places ns = map (λ n. n.place) ns

names_along : {a : List PlacedToken} {ns : List RawName} → AreNames a ns → StandAlong a (name_places ns)
names_along (one_name h) = name_along h
names_along (more_names {a} {b} {c} {n} {ns} h w k) = join (before b (name_along h)) (names_along k)

clause_name_along : {a : List PlacedToken} {c : RawClause} → IsClause a c → StandAlong a (c.name.place ∷ [])
clause_name_along (bare_clause h) = name_along h
clause_name_along (clause {a} {b} {c} {n} {ds} h w k) = before c (before b (name_along h))

clause_names_along : {a : List PlacedToken} {cs : List RawClause} → AreClauses a cs → StandAlong a (name_places (clause_names cs))
clause_names_along (one_clause h) = clause_name_along h
clause_names_along (more_clauses {a} {b} {d} {c} {cs} h w k) = join (before b (clause_name_along h)) (clause_names_along k)

declared_along : {a : List PlacedToken} {d : RawDeclaration} → IsDeclaration a d → StandAlong a (name_places (declared d))
declared_along (datatype {a} {b} {c} {d} {n} {cs} u h v k) = join (before c (behind a (name_along h))) (clause_names_along k)
declared_along (nametype t ts {a} {b} {c} {n} {e} u h v k) = before (t ∷ ts) (before c (behind a (name_along h)))
declared_along (bare_channels {a} {b} {ns} u h) = behind a (names_along h)
declared_along (channels {a} {b} {c} {d} {ns} {ds} u h v k) = before d (before c (behind a (names_along h)))
declared_along (equation {a} {b} {c} {n} {p} h u k) = before c (before b (name_along h))
declared_along (equation_with {a} {b} {c} {d} {x} {y} {n} {ns} {p} h u k v w i) = before y (before x (before d (before c (before b (name_along h)))))
declared_along (assertion t u h v k) = no_places
declared_along (freedom t u h v k) = no_places

pub all_declared_along : (ts : List PlacedToken) (raw : RawScript) → IsScript ts raw → StandAlong ts (name_places (all_declared raw))
all_declared_along ts raw no_declarations = no_places
all_declared_along ts raw (declarations {a} {b} {d} {ds} h k) =
    let P : List Place → Type 0 = StandAlong (a ++ b) in subst P (sym (map-append (λ n. n.place) (declared d) (flat_map declared ds))) (join (declared_along h) (all_declared_along b ds k))

-- ---- equations and assertions

item_along : (above : RawScript) {a : List PlacedToken} {d : RawDeclaration} → IsDeclaration a d → StandAlong a (map item_place (item_declared above d))
item_along above (datatype u h v k) = no_places
item_along above (nametype t ts u h v k) = no_places
item_along above (bare_channels u h) = no_places
item_along above (channels u h v k) = no_places
item_along above (equation {a} {b} {c} {n} {p} h u k) = before c (before b (name_along h))
item_along above (equation_with {a} {b} {c} {d} {x} {y} {n} {ns} {p} h u k v w i) = before y (before x (before d (before c (before b (name_along h)))))
item_along above (assertion t u h v k) = here no_places
item_along above (freedom t u h v k) = here no_places

items_behind : (above : RawScript) {a : List PlacedToken} {ds : RawScript} → IsScript a ds → StandAlong a (map item_place (behind_each item_declared above ds))
items_behind above no_declarations = no_places
items_behind above (declarations {a} {b} {d} {ds} h k) =
    let P : List Place → Type 0 = StandAlong (a ++ b) in
    subst P (sym (map-append item_place (item_declared above d) (behind_each item_declared (above ++ d ∷ []) ds)))
    (join (item_along above h) (items_behind (above ++ d ∷ []) k))

pub items_along : (ts : List PlacedToken) (raw : RawScript) → IsScript ts raw → StandAlong ts (map item_place (Fitting.items raw))
items_along ts raw h = items_behind [] h
