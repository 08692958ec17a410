-- What a parse of the command line gives.
use Rattle.std.proofs.Common.{◌≡◌, ◌∙◌, ◌<◌, ◌≤◌, ℕ, List, [], ◌∷◌, Some, None, is_some, length, map, codes, true, false, refl, sym, ap, subst, inl, inr, arith}
use Rattle.std.specs.List.{All, list_all, slice_index_or}
use Rattle.std.specs.Str.{bytes_eq}
use Rattle.std.proofs.Math.ListN.{get_or-map}
use Rattle.std.proofs.lemmas.List.{length-map}
use Rattle.clap.specs.Facts.{WantsDefault, args_of, least_values, unwrap_or_range}
use Rattle.clap.specs.Texts.{items_of}
use Rattle.clap.specs.Built.{IsAuto, IsParsedFrom, IsPlain, IsPlainArg}
use Rattle.clap.specs.Matches.{first_value, found_of, one_text}
use Rattle.clap.specs.Values.{Accepts, IsUnsignedIn, read_as, reading_of}
use Rattle.clap.specs.Walk.{Rule, Text, first_of, rows_of, rule_of}
use Rattle.clap.specs.Simple.{App, HasMatchesOf, IsSimple, app_of, is_ready, is_ready_leaf, is_simple, matches_of}
use Rattle.clap.specs.declared.builder.action.ArgAction.TheVariants.{Set}
use Rattle.clap.specs.declared.builder.arg.Arg.{Arg}
use Rattle.clap.specs.declared.builder.command.Command.{Command}
use Rattle.clap.specs.declared.builder.value_parser.ValueParser.{ValueParser}
use Rattle.clap.specs.declared.builder.value_parser.ValueParser.TheVariants as vp
use Rattle.clap.specs.declared.parser.matches.ArgMatches.{ArgMatches}
use Rattle.clap.proofs.CallerLemmas.{default_present, required_has_value}
use Rattle.clap.proofs.SimpleLemmas.{all_simple, ready_simple, simple_groups}
use Rattle.clap.proofs.TakesLemmas.{each_rule, free_arg}
use Rattle.clap.proofs.WalkLemmas.{first_value-rows}
use Rattle.settings.specs.CommandLine.{HasNumber, IsNumeric, file_rule}
use Rattle.settings.proofs.Found.{has_entry, reads}
use Rattle.settings.proofs.Numbers.{number_is}
use Rattle.settings.proofs.Places.{differ, head_of, is_only_at, is_own, neither, only_at, text_of}
use Rattle.explain_settings.specs.CommandLine.{command_line, command_rules, value}

module _ (c : Command) (m : ArgMatches) (words : List Text) (is : app_of c ≡ command_line) (p : IsParsedFrom c m)
    (has : HasMatchesOf (app_of c) words m) where
  rows : rows_of (found_of m) ≡ matches_of command_line words
  rows = (has (ap is_simple is)).0 ∙ ap (λ (a : App). matches_of a words) is

  rules_are : map rule_of (args_of c) ≡ command_rules
  rules_are = ap (λ (a : App). a.top.rules) is

  simple : IsSimple c
  simple = ready_simple c (ap (λ (a : App). is_ready a.top) is) (ap (λ (a : App). list_all is_ready_leaf a.subs) is)

  rule_at : (j : ℕ) (d : Arg) → rule_of (slice_index_or (args_of c) j d) ≡ slice_index_or command_rules j (rule_of d)
  rule_at j d = sym (get_or-map rule_of (args_of c) j d) ∙ ap (λ rs. slice_index_or rs j (rule_of d)) rules_are

  count : length (args_of c) ≡ 12
  count = sym (length-map (args_of c) rule_of) ∙ ap length rules_are

  -- some argument of the command
  first_arg : Arg
  first_arg = head_of (args_of c) (subst (λ n. 0 < n) (sym count) (omega arith))

  plain_arg : All IsPlainArg (args_of c)
  plain_arg k d lt =
      let a = slice_index_or (args_of c) k d in
      let free = free_arg a (simple.args k d lt) (each_rule (λ r. r.is_free) (args_of c) (ap (λ (b : App). list_all (λ (r : Rule). r.is_free) b.top.rules) is) k d lt) in
      (free.exclusive, free.conflicts, free.overrides, simple_groups c (ap (λ (b : App). all_simple b.top.rules) is) k d lt)

  plain : IsPlain c
  plain = (plain_arg, simple.groups)

  -- the argument at a place is the only one with its id
  unique_at : (k : ℕ) (d : Arg) (name : Text) → (slice_index_or (args_of c) k d).id.now ≡ name → is_only_at name k command_rules ≡ true → (j : ℕ) (e : Arg) → j < length (args_of c)
      → bytes_eq (slice_index_or (args_of c) j e).id.now (slice_index_or (args_of c) k d).id.now ≡ true → j ≡ k
  unique_at k d name id only j e lt same =
      let there : bytes_eq (slice_index_or (args_of c) j e).id.now name ≡ true = subst (λ t. bytes_eq (slice_index_or (args_of c) j e).id.now t ≡ true) id same in
      only_at name k command_rules only j (rule_of e) (subst (λ n. j < n) count lt) (subst (λ t. bytes_eq t name ≡ true) (ap (λ (r : Rule). r.id) (rule_at j e)) there)

  value_is : (id t : Text) → first_value (found_of m) id ≡ Some t → value id words ≡ Some t
  value_is id t e = ap (first_of id) (sym rows) ∙ sym (first_value-rows (found_of m) id) ∙ e

  -- the value that the parse found is the one on the words
  pub same_value : (id : Text) → first_value (found_of m) id ≡ value id words
  same_value id = first_value-rows (found_of m) id ∙ ap (first_of id) rows

  -- what is known of the text of a number
  abbrev pub IsNumberText : Text → ℕ → ℕ → Text → Type 0
  IsNumberText name least most t = (one_text (found_of m) name ≡ Some t) × (value name words ≡ Some t) × IsUnsignedIn least most t

  -- what is known of the text of an argument with this parser
  abbrev IsRead : Text → ValueParser → (place : ℕ) → Text → Type 0
  IsRead name q k t = (one_text (found_of m) name ≡ Some (read_as (reading_of q) t)) × (value name words ≡ Some t) × Accepts (slice_index_or (args_of c) k first_arg).ignore_case q t

  -- the rule is one of a value with this parser, and with a default
  abbrev HasDefault : Text → ValueParser → Rule → Type 0
  HasDefault name q r = (default : Text) × (r.id ≡ name) × (r.defaults ≡ default ∷ []) × (r.parser ≡ Some q) × (r.action ≡ Some Set) × (r.range ≡ None)

  text_read : (k : ℕ) (name : Text) (q : ValueParser) → k < 12 → is_only_at name k command_rules ≡ true → is_own name ≡ false
      → HasDefault name q (slice_index_or command_rules k (rule_of first_arg)) → (t : Text) × IsRead name q k t
  text_read k name q below only own_name r =
      let d = first_arg in
      let lt : k < length (args_of c) = subst (λ n. k < n) (sym count) below in
      let at = rule_at k d in
      let id : (slice_index_or (args_of c) k d).id.now ≡ name = ap (λ (x : Rule). x.id) at ∙ r.1 in
      let enough : 1 ≤ least_values (slice_index_or (args_of c) k d) =
      subst (λ o. 1 ≤ (unwrap_or_range o).start_inclusive) (sym (ap (λ (x : Rule). x.range) at ∙ r.5)) (omega arith) in
      let one : length (items_of (slice_index_or (args_of c) k d).default_vals) ≡ 1 =
      sym (length-map (items_of (slice_index_or (args_of c) k d).default_vals) (λ s. s.now)) ∙ ap length (ap (λ (x : Rule). x.defaults) at ∙ r.2) in
      let wants : WantsDefault (slice_index_or (args_of c) k d) = ((simple.args k d lt).default_ifs, omega arith) in
      let unique = unique_at k d name id only in
      let apart = neither (bytes_eq name []) _ own_name in
      let flags = neither (bytes_eq name (codes "help")) _ apart.1 in
      let filled : (slice_index_or (args_of c) k d).id.now ≡ [] → ⊥ = λ e. differ name [] apart.0 (sym id ∙ e) in
      let own : IsAuto (slice_index_or (args_of c) k d) → ⊥ = λ auto. elim auto [ inl h ↦ differ name (codes "help") flags.0 (sym id ∙ h) | inr h ↦ differ name (codes "version") flags.1 (sym id ∙ h) ] in
      let has = has_entry c m p plain simple.globals k d lt unique filled own (default_present c m p simple.globals k d lt wants) in
      let got = reads c m p plain simple.globals k d lt unique filled own q (ap (λ (x : Rule). x.parser) at ∙ r.3) (ap (λ (x : Rule). x.action) at ∙ r.4)
      (simple.args k d lt).delimiter enough has in (
        got.0,
        (
          subst (λ t. one_text (found_of m) t ≡ Some (read_as (reading_of q) got.0)) id got.1.0,
          value_is name got.0 (subst (λ t. first_value (found_of m) t ≡ Some got.0) id got.1.1),
          got.1.2,
        ),
      )

  number_text : (k : ℕ) (name : Text) (least most : ℕ) → k < 12 → is_only_at name k command_rules ≡ true → is_own name ≡ false
      → HasDefault name (vp.Unsigned least most) (slice_index_or command_rules k (rule_of first_arg)) → (t : Text) × IsNumberText name least most t
  number_text k name least most below only own_name r = text_read k name (vp.Unsigned least most) below only own_name r

  pub workers : (t : Text) × IsNumberText (codes "workers") 1 64 t
  workers = number_text 0 (codes "workers") 1 64 (omega arith) refl refl (codes "1", refl, refl, refl, refl, refl)

  pub pairs : (t : Text) × IsNumberText (codes "max-pairs") 1 1000000 t
  pairs = number_text 1 (codes "max-pairs") 1 1000000 (omega arith) refl refl (codes "100000", refl, refl, refl, refl, refl)

  pub nodes : (t : Text) × IsNumberText (codes "max-nodes") 1 100000 t
  nodes = number_text 2 (codes "max-nodes") 1 100000 (omega arith) refl refl (codes "10000", refl, refl, refl, refl, refl)

  pub width : (t : Text) × IsNumberText (codes "width") 0 1000000 t
  width = number_text 4 (codes "width") 0 1000000 (omega arith) refl refl (codes "200", refl, refl, refl, refl, refl)

  pub assertion : (t : Text) × IsNumberText (codes "assertion") 0 1000000 t
  assertion = number_text 11 (codes "assertion") 0 1000000 (omega arith) refl refl (codes "0", refl, refl, refl, refl, refl)

  -- the text of the format is the one that the words give
  pub format : (t : Text) × (first_value (found_of m) (codes "format") ≡ Some t) × (value (codes "format") words ≡ Some t)
  format =
      let got = text_read 8 (codes "format") vp.String (omega arith) refl refl (codes "text", refl, refl, refl, refl, refl) in
      (got.0, same_value (codes "format") ∙ got.1.1, got.1.1)

  file_has_value : is_some (first_value (found_of m) (codes "file")) ≡ true
  file_has_value =
      let lt : 10 < length (args_of c) = subst (λ n. 10 < n) (sym count) (omega arith) in
      let at : rule_of (slice_index_or (args_of c) 10 first_arg) ≡ file_rule = rule_at 10 first_arg in
      let id : (slice_index_or (args_of c) 10 first_arg).id.now ≡ codes "file" = ap (λ (x : Rule). x.id) at in
      let enough : 1 ≤ least_values (slice_index_or (args_of c) 10 first_arg) =
      subst (λ o. 1 ≤ (unwrap_or_range o).start_inclusive) (sym (ap (λ (x : Rule). x.range) at)) (omega arith) in
      subst (λ t. is_some (first_value (found_of m) t) ≡ true) id
      (required_has_value c m p plain simple.globals (ap (λ (a : App). a.top.subcommand_negates_reqs) is) 10 first_arg lt
      (ap (λ (x : Rule). x.required) at) (ap (λ (x : Rule). x.action) at) (simple.args 10 first_arg lt).delimiter enough
      (unique_at 10 first_arg (codes "file") id refl)
      (λ e. differ (codes "file") [] refl (sym id ∙ e))
      (λ auto. elim auto [
        | inl h ↦ differ (codes "file") (codes "help") refl (sym id ∙ h)
        | inr h ↦ differ (codes "file") (codes "version") refl (sym id ∙ h)
      ]))

  -- the text of the file is the one that the words give
  pub file : (t : Text) × (first_value (found_of m) (codes "file") ≡ Some t) × (value (codes "file") words ≡ Some t)
  file = let t = text_of _ file_has_value in (t.0, t.1, value_is (codes "file") t.0 t.1)

  -- a number that is read of its text is the one of its value
  pub is_numeric : (name : Text) (least most : ℕ) → ((t : Text) × IsNumberText name least most t) → IsNumeric (one_text (found_of m) name)
  is_numeric name least most known = subst IsNumeric (sym known.1.0) (known.1.2.0, known.1.2.1)

  pub is_value : (name : Text) (least most n : ℕ) → ((t : Text) × IsNumberText name least most t) → HasNumber (one_text (found_of m) name) n → HasNumber (value name words) n
  is_value name least most n known read = subst (λ o. HasNumber o n) (known.1.0 ∙ sym known.1.1) read

  pub in_range : (name : Text) (least most n : ℕ) → ((t : Text) × IsNumberText name least most t) → HasNumber (one_text (found_of m) name) n → (least ≤ n) × (n ≤ most)
  in_range name least most n known read = let is = number_is (one_text (found_of m) name) known.0 n known.1.0 read in (rw is known.1.2.2, rw is known.1.2.3)
