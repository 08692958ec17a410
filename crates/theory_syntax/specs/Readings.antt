-- The two readings of a script.
use Rattle.theory_syntax.specs.Process.{Unfolding, ByTau, AtOnce, Script}

-- the script with its names read one way or the other
abbrev pub reading : Unfolding → Script → Script
reading u script = record {
  types = script.types;
  channels = script.channels;
  equations = script.equations;
  assertions = script.assertions;
  channel_names = script.channel_names;
  constructor_names = script.constructor_names;
  unfolds = u;
}

-- a called name does a tau to its body
abbrev pub by_tau : Script → Script
by_tau script = reading ByTau script

-- names are unfolded at once
abbrev pub at_once : Script → Script
at_once script = reading AtOnce script
