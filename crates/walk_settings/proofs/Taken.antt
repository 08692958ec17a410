-- What a parse of the command line gives.
use Rattle.std.proofs.Common.{◌≡◌, ◌∙◌, ◌<◌, ◌≤◌, ℕ, List, [], ◌∷◌, Some, None, is_some, length, map, codes, true, false, refl, sym, ap, subst, inl, inr, arith}
use Rattle.std.specs.List.{All, list_all, slice_index_or}
use Rattle.std.specs.Str.{bytes_eq}
use Rattle.std.proofs.Math.ListN.{get_or-map}
use Rattle.std.proofs.lemmas.List.{length-map}
use Rattle.clap.specs.Facts.{WantsDefault, args_of, least_values, unwrap_or_range}
use Rattle.clap.specs.Texts.{items_of}
use Rattle.clap.specs.Built.{IsAuto, IsParsedFrom, IsPlain, IsPlainArg}
use Rattle.clap.specs.Matches.{first_value, found_of, matched_of, one_text}
use Rattle.clap.specs.Values.{Accepts, IsUnsignedIn, read_as, reading_of}
use Rattle.clap.specs.Walk.{Rule, Text, first_of, rows_of, rule_of}
use Rattle.clap.specs.Simple.{App, HasMatchesOf, IsSimple, app_of, is_ready, is_ready_leaf, is_simple, matches_of}
use Rattle.clap.specs.declared.builder.action.ArgAction.TheVariants.{Set}
use Rattle.clap.specs.declared.builder.arg.Arg.{Arg}
use Rattle.clap.specs.declared.builder.command.Command.{Command}
use Rattle.clap.specs.declared.builder.value_parser.ValueParser.{ValueParser}
use Rattle.clap.specs.declared.builder.value_parser.ValueParser.TheVariants as vp
use Rattle.clap.specs.declared.parser.matches.ArgMatches.{ArgMatches}
use Rattle.clap.proofs.CallerLemmas.{default_present, present_has_entry, required_has_value, required_present}
use Rattle.clap.proofs.SimpleLemmas.{all_simple, ready_simple, simple_groups}
use Rattle.clap.proofs.TakesLemmas.{each_rule, free_arg}
use Rattle.clap.proofs.WalkLemmas.{first_value-rows}
use Rattle.settings.specs.CommandLine.{HasNumber, IsNumeric, file_rule}
use Rattle.settings.proofs.Found.{has_entry, reads}
use Rattle.settings.proofs.Numbers.{number_is}
use Rattle.settings.proofs.Places.{differ, head_of, is_only_at, is_own, neither, only_at, text_of}
use Rattle.walk_settings.specs.CommandLine.{command_line, command_rules, value}

module _ (c : Command) (m : ArgMatches) (words : List Text) (is : app_of c ≡ command_line) (p : IsParsedFrom c m)
    (has : HasMatchesOf (app_of c) words m) where
  rows : rows_of (found_of m) ≡ matches_of command_line words
  rows = (has (ap is_simple is)).0 ∙ ap (λ (a : App). matches_of a words) is

  rules_are : map rule_of (args_of c) ≡ command_rules
  rules_are = ap (λ (a : App). a.top.rules) is

  simple : IsSimple c
  simple = ready_simple c (ap (λ (a : App). is_ready a.top) is) (ap (λ (a : App). list_all is_ready_leaf a.subs) is)

  rule_at : (j : ℕ) (d : Arg) → rule_of (slice_index_or (args_of c) j d) ≡ slice_index_or command_rules j (rule_of d)
  rule_at j d = sym (get_or-map rule_of (args_of c) j d) ∙ ap (λ rs. slice_index_or rs j (rule_of d)) rules_are

  count : length (args_of c) ≡ 5
  count = sym (length-map (args_of c) rule_of) ∙ ap length rules_are

  -- some argument of the command
  first_arg : Arg
  first_arg = head_of (args_of c) (subst (λ n. 0 < n) (sym count) (omega arith))

  abbrev arg_at : ℕ → Arg
  arg_at k = slice_index_or (args_of c) k first_arg

  inside : (k : ℕ) → k < 5 → k < length (args_of c)
  inside k below = subst (λ n. k < n) (sym count) below

  plain_arg : All IsPlainArg (args_of c)
  plain_arg k d lt =
      let a = slice_index_or (args_of c) k d in
      let free = free_arg a (simple.args k d lt) (each_rule (λ r. r.is_free) (args_of c) (ap (λ (b : App). list_all (λ (r : Rule). r.is_free) b.top.rules) is) k d lt) in
      (free.exclusive, free.conflicts, free.overrides, simple_groups c (ap (λ (b : App). all_simple b.top.rules) is) k d lt)

  plain : IsPlain c
  plain = (plain_arg, simple.groups)

  -- the argument at a place is the only one with its id
  unique_at : (k : ℕ) (d : Arg) (name : Text) → (slice_index_or (args_of c) k d).id.now ≡ name → is_only_at name k command_rules ≡ true → (j : ℕ) (e : Arg) → j < length (args_of c)
      → bytes_eq (slice_index_or (args_of c) j e).id.now (slice_index_or (args_of c) k d).id.now ≡ true → j ≡ k
  unique_at k d name id only j e lt same =
      let there : bytes_eq (slice_index_or (args_of c) j e).id.now name ≡ true = subst (λ t. bytes_eq (slice_index_or (args_of c) j e).id.now t ≡ true) id same in
      only_at name k command_rules only j (rule_of e) (subst (λ n. j < n) count lt) (subst (λ t. bytes_eq t name ≡ true) (ap (λ (r : Rule). r.id) (rule_at j e)) there)

  value_is : (id t : Text) → first_value (found_of m) id ≡ Some t → value id words ≡ Some t
  value_is id t e = ap (first_of id) (sym rows) ∙ sym (first_value-rows (found_of m) id) ∙ e

  -- the value that the parse found is the one on the words
  pub same_value : (id : Text) → first_value (found_of m) id ≡ value id words
  same_value id = first_value-rows (found_of m) id ∙ ap (first_of id) rows

  -- ---- arguments with one value and a parser

  -- the place of an argument that is not one of `clap` itself
  abbrev IsPlaceOf : ℕ → Text → Type 0
  IsPlaceOf k name = (k < 5) × ((arg_at k).id.now ≡ name) × (is_only_at name k command_rules ≡ true) × (is_own name ≡ false)

  filled : (k : ℕ) (name : Text) → IsPlaceOf k name → (arg_at k).id.now ≡ [] → ⊥
  filled k name at e = differ name [] (neither (bytes_eq name []) _ at.3).0 (sym at.1 ∙ e)

  own : (k : ℕ) (name : Text) → IsPlaceOf k name → IsAuto (arg_at k) → ⊥
  own k name at auto =
      let flags = neither (bytes_eq name (codes "help")) _ (neither (bytes_eq name []) _ at.3).1 in
      elim auto [ inl h ↦ differ name (codes "help") flags.0 (sym at.1 ∙ h) | inr h ↦ differ name (codes "version") flags.1 (sym at.1 ∙ h) ]

  -- an argument with a default has an entry
  by_default : (k : ℕ) (name default : Text) → IsPlaceOf k name → (rule_of (arg_at k)).defaults ≡ default ∷ [] → is_some (matched_of (found_of m) (arg_at k).id.now) ≡ true
  by_default k name default at defaults =
      let lt = inside k at.0 in
      let one : length (items_of (arg_at k).default_vals) ≡ 1 = sym (length-map (items_of (arg_at k).default_vals) (λ s. s.now)) ∙ ap length defaults in
      let wants : WantsDefault (arg_at k) = ((simple.args k first_arg lt).default_ifs, omega (arith, one)) in
      has_entry c m p plain simple.globals k first_arg lt (unique_at k first_arg name at.1 at.2) (filled k name at) (own k name at) (default_present c m p simple.globals k first_arg lt wants)

  -- and so has one that is required
  by_need : (k : ℕ) (name : Text) → IsPlaceOf k name → (rule_of (arg_at k)).required ≡ true → is_some (matched_of (found_of m) (arg_at k).id.now) ≡ true
  by_need k name at required =
      present_has_entry (found_of m) (arg_at k).id.now
      (required_present c m p plain simple.globals (ap (λ (a : App). a.top.subcommand_negates_reqs) is) k first_arg (inside k at.0) required)

  -- what is known of the text of an argument with this parser
  abbrev IsRead : Text → ValueParser → (ignores : ℕ) → Text → Type 0
  IsRead name q k t = (one_text (found_of m) name ≡ Some (read_as (reading_of q) t)) × (value name words ≡ Some t) × Accepts (arg_at k).ignore_case q t

  text_read : (k : ℕ) (name : Text) (q : ValueParser) → IsPlaceOf k name → (rule_of (arg_at k)).parser ≡ Some q → (rule_of (arg_at k)).action ≡ Some Set → (rule_of (arg_at k)).range ≡ None →
      is_some (matched_of (found_of m) (arg_at k).id.now) ≡ true → (t : Text) × IsRead name q k t
  text_read k name q at parser set range entry =
      let lt = inside k at.0 in
      let enough : 1 ≤ least_values (arg_at k) = subst (λ o. 1 ≤ (unwrap_or_range o).start_inclusive) (sym range) (omega arith) in
      let got = reads c m p plain simple.globals k first_arg lt (unique_at k first_arg name at.1 at.2) (filled k name at) (own k name at) q parser set (simple.args k first_arg lt).delimiter enough entry in (
        got.0,
        (
          subst (λ t. one_text (found_of m) t ≡ Some (read_as (reading_of q) got.0)) at.1 got.1.0,
          value_is name got.0 (subst (λ t. first_value (found_of m) t ≡ Some got.0) at.1 got.1.1),
          got.1.2,
        ),
      )

  abbrev rule_there : ℕ → Rule
  rule_there k = slice_index_or command_rules k (rule_of first_arg)

  same_rule : (k : ℕ) → rule_of (arg_at k) ≡ rule_there k
  same_rule k = rule_at k first_arg

  place : (k : ℕ) (name : Text) → k < 5 → (rule_there k).id ≡ name → is_only_at name k command_rules ≡ true → is_own name ≡ false → IsPlaceOf k name
  place k name below id only free = (below, ap (λ (r : Rule). r.id) (same_rule k) ∙ id, only, free)

  -- ---- numbers

  -- what is known of the text of a number
  abbrev pub IsNumberText : Text → ℕ → ℕ → Text → Type 0
  IsNumberText name least most t = (one_text (found_of m) name ≡ Some t) × (value name words ≡ Some t) × IsUnsignedIn least most t

  pub width : (t : Text) × IsNumberText (codes "width") 0 1000000 t
  width =
      let at = place 0 (codes "width") (omega arith) refl refl refl in
      let same = same_rule 0 in
      text_read 0 (codes "width") (vp.Unsigned 0 1000000) at (ap (λ (r : Rule). r.parser) same) (ap (λ (r : Rule). r.action) same) (ap (λ (r : Rule). r.range) same)
      (by_default 0 (codes "width") (codes "200") at (ap (λ (r : Rule). r.defaults) same))

  pub assertion : (t : Text) × IsNumberText (codes "assertion") 1 1000000 t
  assertion =
      let at = place 4 (codes "assertion") (omega arith) refl refl refl in
      let same = same_rule 4 in
      text_read 4 (codes "assertion") (vp.Unsigned 1 1000000) at (ap (λ (r : Rule). r.parser) same) (ap (λ (r : Rule). r.action) same) (ap (λ (r : Rule). r.range) same)
      (by_need 4 (codes "assertion") at (ap (λ (r : Rule). r.required) same))

  -- a number that is read of its text is the one of its value
  pub is_numeric : (name : Text) (least most : ℕ) → ((t : Text) × IsNumberText name least most t) → IsNumeric (one_text (found_of m) name)
  is_numeric name least most known = subst IsNumeric (sym known.1.0) (known.1.2.0, known.1.2.1)

  pub is_value : (name : Text) (least most n : ℕ) → ((t : Text) × IsNumberText name least most t) → HasNumber (one_text (found_of m) name) n → HasNumber (value name words) n
  is_value name least most n known read = subst (λ o. HasNumber o n) (known.1.0 ∙ sym known.1.1) read

  pub in_range : (name : Text) (least most n : ℕ) → ((t : Text) × IsNumberText name least most t) → HasNumber (one_text (found_of m) name) n → (least ≤ n) × (n ≤ most)
  in_range name least most n known read = let is = number_is (one_text (found_of m) name) known.0 n known.1.0 read in (rw is known.1.2.2, rw is known.1.2.3)

  -- ---- texts

  -- the text is the one that the words give
  abbrev pub IsTextOf : Text → Text → Type 0
  IsTextOf name t = (first_value (found_of m) name ≡ Some t) × (value name words ≡ Some t)

  file_has_value : is_some (first_value (found_of m) (codes "file")) ≡ true
  file_has_value =
      let at = place 3 (codes "file") (omega arith) refl refl refl in
      let lt = inside 3 at.0 in
      let same : rule_of (arg_at 3) ≡ file_rule = same_rule 3 in
      let enough : 1 ≤ least_values (arg_at 3) = subst (λ o. 1 ≤ (unwrap_or_range o).start_inclusive) (sym (ap (λ (r : Rule). r.range) same)) (omega arith) in
      subst (λ t. is_some (first_value (found_of m) t) ≡ true) at.1
      (required_has_value c m p plain simple.globals (ap (λ (a : App). a.top.subcommand_negates_reqs) is) 3 first_arg lt
      (ap (λ (r : Rule). r.required) same) (ap (λ (r : Rule). r.action) same) (simple.args 3 first_arg lt).delimiter enough
      (unique_at 3 first_arg (codes "file") at.1 at.2) (filled 3 (codes "file") at) (own 3 (codes "file") at))

  pub file : (t : Text) × IsTextOf (codes "file") t
  file = let t = text_of _ file_has_value in (t.0, (t.1, value_is (codes "file") t.0 t.1))
