-- The command line: its arguments, and what the words give them.
use Rattle.std.specs.Prelude.{◌≡◌, List, [], ◌∷◌, Option, Some, codes, true}
use Rattle.clap.specs.Walk.{Rule, Text, first_of}
use Rattle.clap.specs.Simple.{App, matches_of, new_rule, new_shape}
use Rattle.clap.specs.declared.builder.action.ArgAction.TheVariants.{Set}
use Rattle.clap.specs.declared.builder.value_parser.ValueParser.TheVariants as vp
use Rattle.settings.specs.CommandLine.{file_rule, flag_rule}

-- how many characters of a state are shown, an option with a number up to 1,000,000, and 200 where no word gives it
abbrev pub width_rule : Rule
width_rule = record (new_rule (codes "width")) {
  long = Some (codes "width");
  action = Some Set;
  value_names = 1;
  defaults = codes "200" ∷ [];
  parser = Some (vp.Unsigned 0 1000000);
}

-- the number of the assertion, which stands for itself
abbrev pub assertion_rule : Rule
assertion_rule = record (new_rule (codes "assertion")) {
  action = Some Set;
  value_names = 1;
  required = true;
  parser = Some (vp.Unsigned 1 1000000);
}

abbrev pub command_rules : List Rule
command_rules = width_rule ∷ flag_rule (codes "unfold") ∷ flag_rule (codes "specification") ∷ file_rule ∷ assertion_rule ∷ []

-- the command, whose words do not begin with the program's name
abbrev pub command_line : App
command_line = record {
  top = record (new_shape (codes "walk")) { rules = command_rules; no_binary_name = true; has_version = true };
  subs = [];
}

-- the value of an argument on these words, given by them or by default
abbrev pub value : Text → List Text → Option Text
value id words = first_of id (matches_of command_line words)

-- the words use the flag
abbrev pub IsUsed : Text → List Text → Type 0
IsUsed flag words = value flag words ≡ Some (codes "true")
