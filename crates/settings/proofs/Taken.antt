-- What a parse of the command line gives.
use Rattle.std.proofs.Common.{◌≡◌, ◌∙◌, ◌++◌, ◌<◌, ◌≤◌, ℕ, List, [], ◌∷◌, Some, is_some, length, map, take, drop, codes, true, false, refl, sym, ap, subst, inl, inr, arith}
use Rattle.std.specs.List.{All, fold, list_all, slice_index_or}
use Rattle.std.specs.Str.{bytes_eq}
use Rattle.std.proofs.Math.ListN.{get_or-map}
use Rattle.std.proofs.lemmas.List.{length-map}
use Rattle.clap.specs.Facts.{WantsDefault, args_of, least_values, unwrap_or_range}
use Rattle.clap.specs.Texts.{items_of}
use Rattle.clap.specs.Built.{IsAuto, IsParsedFrom, IsPlain, IsPlainArg}
use Rattle.clap.specs.Matches.{first_value, found_of, one_text}
use Rattle.clap.specs.Values.{IsUnsignedIn}
use Rattle.clap.specs.Walk.{Rule, Text, first_of, rows_of, rule_of, with_default}
use Rattle.clap.specs.Simple.{App, HasMatchesOf, IsSimple, app_of, help_rule, is_ready, is_ready_leaf, is_simple, matches_of}
use Rattle.clap.specs.declared.builder.arg.Arg.{Arg}
use Rattle.clap.specs.declared.builder.command.Command.{Command}
use Rattle.clap.specs.declared.builder.value_parser.ValueParser.TheVariants as vp
use Rattle.clap.specs.declared.parser.matches.ArgMatches.{ArgMatches}
use Rattle.clap.proofs.CallerLemmas.{default_present, required_has_value}
use Rattle.clap.proofs.SimpleLemmas.{all_simple, ready_simple, simple_groups}
use Rattle.clap.proofs.TakesLemmas.{each_rule, free_arg}
use Rattle.clap.proofs.WalkLemmas.{first_value-rows}
use Rattle.settings.specs.CommandLine.{built_rules, chosen, command_line, command_rules, file_rule, given, given_rows, number_of, number_rule}
use Rattle.settings.proofs.Defaults.{AllLeave, found, given_alone, given_or, number_or}
use Rattle.settings.proofs.Found.{has_entry, reads}
use Rattle.settings.proofs.Places.{differ, head_of, is_only_at, is_own, neither, only_at, text_of}

module _ (c : Command) (m : ArgMatches) (words : List Text) (is : app_of c ≡ command_line) (p : IsParsedFrom c m)
    (has : HasMatchesOf (app_of c) words m) where
  rows : rows_of (found_of m) ≡ matches_of command_line words
  rows = (has (ap is_simple is)).0 ∙ ap (λ (a : App). matches_of a words) is

  rules_are : map rule_of (args_of c) ≡ command_rules
  rules_are = ap (λ (a : App). a.top.rules) is

  simple : IsSimple c
  simple = ready_simple c (ap (λ (a : App). is_ready a.top) is) (ap (λ (a : App). list_all is_ready_leaf a.subs) is)

  rule_at : (j : ℕ) (d : Arg) → rule_of (slice_index_or (args_of c) j d) ≡ slice_index_or command_rules j (rule_of d)
  rule_at j d = sym (get_or-map rule_of (args_of c) j d) ∙ ap (λ rs. slice_index_or rs j (rule_of d)) rules_are

  count : length (args_of c) ≡ 5
  count = sym (length-map (args_of c) rule_of) ∙ ap length rules_are

  -- some argument of the command
  first_arg : Arg
  first_arg = head_of (args_of c) (subst (λ n. 0 < n) (sym count) (omega arith))

  plain_arg : All IsPlainArg (args_of c)
  plain_arg k d lt =
      let a = slice_index_or (args_of c) k d in
      let free = free_arg a (simple.args k d lt) (each_rule (λ r. r.is_free) (args_of c) (ap (λ (b : App). list_all (λ (r : Rule). r.is_free) b.top.rules) is) k d lt) in
      (free.exclusive, free.conflicts, free.overrides, simple_groups c (ap (λ (b : App). all_simple b.top.rules) is) k d lt)

  plain : IsPlain c
  plain = (plain_arg, simple.groups)

  -- the argument at a place is the only one with its id
  unique_at : (k : ℕ) (d : Arg) (name : Text) → (slice_index_or (args_of c) k d).id.now ≡ name → is_only_at name k command_rules ≡ true → (j : ℕ) (e : Arg) → j < length (args_of c)
      → bytes_eq (slice_index_or (args_of c) j e).id.now (slice_index_or (args_of c) k d).id.now ≡ true → j ≡ k
  unique_at k d name id only j e lt same =
      let there : bytes_eq (slice_index_or (args_of c) j e).id.now name ≡ true = subst (λ t. bytes_eq (slice_index_or (args_of c) j e).id.now t ≡ true) id same in
      only_at name k command_rules only j (rule_of e) (subst (λ n. j < n) count lt) (subst (λ t. bytes_eq t name ≡ true) (ap (λ (r : Rule). r.id) (rule_at j e)) there)

  -- the value that the parse found is the one on the words
  pub same_value : (id : Text) → first_value (found_of m) id ≡ first_of id (matches_of command_line words)
  same_value id = first_value-rows (found_of m) id ∙ ap (first_of id) rows

  first_is : (id t : Text) → first_value (found_of m) id ≡ Some t → first_of id (matches_of command_line words) ≡ Some t
  first_is id t e = ap (first_of id) (sym rows) ∙ sym (first_value-rows (found_of m) id) ∙ e

  -- what is known of the text of an option
  abbrev pub IsNumberText : Text → ℕ → ℕ → Text → Type 0
  IsNumberText name default most t = (one_text (found_of m) name ≡ Some t) × (chosen name default words ≡ number_of t) × IsUnsignedIn 1 most t

  number_text : (k : ℕ) (d : Arg) (name v : Text) (most : ℕ) → k < 5 → is_only_at name k command_rules ≡ true → is_own name ≡ false
      → slice_index_or command_rules k (rule_of d) ≡ number_rule name v most
      → (t : Text) × (one_text (found_of m) name ≡ Some t) × (first_value (found_of m) name ≡ Some t) × IsUnsignedIn 1 most t
  number_text k d name v most below only own_name rule =
      let lt : k < length (args_of c) = subst (λ n. k < n) (sym count) below in
      let r : rule_of (slice_index_or (args_of c) k d) ≡ number_rule name v most = rule_at k d ∙ rule in
      let id : (slice_index_or (args_of c) k d).id.now ≡ name = ap (λ (x : Rule). x.id) r in
      let least : 1 ≤ least_values (slice_index_or (args_of c) k d) =
      subst (λ o. 1 ≤ (unwrap_or_range o).start_inclusive) (sym (ap (λ (x : Rule). x.range) r)) (omega arith) in
      let one : length (items_of (slice_index_or (args_of c) k d).default_vals) ≡ 1 =
      sym (length-map (items_of (slice_index_or (args_of c) k d).default_vals) (λ s. s.now)) ∙ ap length (ap (λ (x : Rule). x.defaults) r) in
      let wants : WantsDefault (slice_index_or (args_of c) k d) = ((simple.args k d lt).default_ifs, omega arith) in
      let unique = unique_at k d name id only in
      let apart = neither (bytes_eq name []) _ own_name in
      let flags = neither (bytes_eq name (codes "help")) _ apart.1 in
      let filled : (slice_index_or (args_of c) k d).id.now ≡ [] → ⊥ = λ e. differ name [] apart.0 (sym id ∙ e) in
      let own : IsAuto (slice_index_or (args_of c) k d) → ⊥ = λ auto. elim auto [ inl h ↦ differ name (codes "help") flags.0 (sym id ∙ h) | inr h ↦ differ name (codes "version") flags.1 (sym id ∙ h) ] in
      let has = has_entry c m p plain simple.globals k d lt unique filled own (default_present c m p simple.globals k d lt wants) in
      let got = reads c m p plain simple.globals k d lt unique filled own (vp.Unsigned 1 most) (ap (λ (x : Rule). x.parser) r) (ap (λ (x : Rule). x.action) r)
      (simple.args k d lt).delimiter least has in (
        got.0,
        subst (λ t. one_text (found_of m) t ≡ Some got.0) id got.1.0,
        subst (λ t. first_value (found_of m) t ≡ Some got.0) id got.1.1,
        got.1.2,
      )

  -- the number that the text of an option says is the one that the words choose
  number_chosen : (before after : List Rule) (a : Rule) (name v t : Text) → fold with_default (given_rows words) (before ++ a ∷ after) ≡ matches_of command_line words
      → AllLeave name before → AllLeave name after → a.id ≡ name → a.defaults ≡ v ∷ [] → first_value (found_of m) name ≡ Some t
      → chosen name (number_of v) words ≡ number_of t
  number_chosen before after a name v t all first others same default e =
      number_or number_of v t (found name (given_rows words))
      (sym (given_or name before after a v (given_rows words) first others same default) ∙ ap (first_of name) all ∙ first_is name t e)

  abbrev rule_of_place : ℕ → Rule
  rule_of_place k = slice_index_or built_rules k help_rule

  pub workers : (t : Text) × IsNumberText (codes "workers") 1 64 t
  workers =
      let g = number_text 0 first_arg (codes "workers") (codes "1") 64 (omega arith) refl refl refl in
      let n = number_chosen [] (drop 1 built_rules) (rule_of_place 0) (codes "workers") (codes "1") g.0 refl tt
      (inr (codes "100000", refl, refl), (inr (codes "10000", refl, refl), (inr (codes "false", refl, refl), (inl refl, (inl refl, (inl refl, tt)))))) refl refl g.2 in
      (g.0, (g.1, n, g.3))

  pub pairs : (t : Text) × IsNumberText (codes "max-pairs") 100000 1000000 t
  pairs =
      let g = number_text 1 first_arg (codes "max-pairs") (codes "100000") 1000000 (omega arith) refl refl refl in
      let n = number_chosen (take 1 built_rules) (drop 2 built_rules) (rule_of_place 1) (codes "max-pairs") (codes "100000") g.0 refl
      (inr (codes "1", refl, refl), tt) (inr (codes "10000", refl, refl), (inr (codes "false", refl, refl), (inl refl, (inl refl, (inl refl, tt))))) refl refl g.2 in
      (g.0, (g.1, n, g.3))

  pub nodes : (t : Text) × IsNumberText (codes "max-nodes") 10000 100000 t
  nodes =
      let g = number_text 2 first_arg (codes "max-nodes") (codes "10000") 100000 (omega arith) refl refl refl in
      let n = number_chosen (take 2 built_rules) (drop 3 built_rules) (rule_of_place 2) (codes "max-nodes") (codes "10000") g.0 refl
      (inr (codes "1", refl, refl), (inr (codes "100000", refl, refl), tt)) (inr (codes "false", refl, refl), (inl refl, (inl refl, (inl refl, tt)))) refl refl g.2 in
      (g.0, (g.1, n, g.3))

  file_has_value : is_some (first_value (found_of m) (codes "file")) ≡ true
  file_has_value =
      let lt : 4 < length (args_of c) = subst (λ n. 4 < n) (sym count) (omega arith) in
      let r : rule_of (slice_index_or (args_of c) 4 first_arg) ≡ file_rule = rule_at 4 first_arg in
      let id : (slice_index_or (args_of c) 4 first_arg).id.now ≡ codes "file" = ap (λ (x : Rule). x.id) r in
      let least : 1 ≤ least_values (slice_index_or (args_of c) 4 first_arg) =
      subst (λ o. 1 ≤ (unwrap_or_range o).start_inclusive) (sym (ap (λ (x : Rule). x.range) r)) (omega arith) in
      subst (λ t. is_some (first_value (found_of m) t) ≡ true) id
      (required_has_value c m p plain simple.globals (ap (λ (a : App). a.top.subcommand_negates_reqs) is) 4 first_arg lt
      (ap (λ (x : Rule). x.required) r) (ap (λ (x : Rule). x.action) r) (simple.args 4 first_arg lt).delimiter least
      (unique_at 4 first_arg (codes "file") id refl)
      (λ e. differ (codes "file") [] refl (sym id ∙ e))
      (λ auto. elim auto [
        | inl h ↦ differ (codes "file") (codes "help") refl (sym id ∙ h)
        | inr h ↦ differ (codes "file") (codes "version") refl (sym id ∙ h)
      ]))

  -- the text of the file is the one that the words give
  pub file : (t : Text) × (first_value (found_of m) (codes "file") ≡ Some t) × (given (codes "file") words ≡ Some t)
  file =
      let t = text_of _ file_has_value in
      let leaves : AllLeave (codes "file") built_rules = (inr (codes "1", refl, refl), (inr (codes "100000", refl, refl), (inr (codes "10000", refl, refl), (inr (codes "false", refl, refl), (inl refl, (inl refl, (inl refl, tt))))))) in
      (t.0, t.1, sym (given_alone (codes "file") built_rules (given_rows words) leaves) ∙ first_is (codes "file") t.0 t.1)
