-- The spelling of one more of them.
use Rattle.theory_spelling.specs.Spelling.{pair_spelling}
use Rattle.theory_spelling.specs.Packable.{IsPackablePair}
use Rattle.csp_events.specs.Events.{renaming_pair_of}
use Rattle.theory_spelling.specs.Ranges.{IsInRangePair}
use Rattle.csp_spell.proofs.Pushing.{put_none, put_one, put_all, item_of, gone_one, gone_all}
use Rattle.csp_spell.proofs.events.push_pairs.Goals as goal

pub push_pair-requires : goal.push_pair-requires
push_pair-requires g c =
    item_of IsPackablePair renaming_pair_of c.args.pairs.now c.loop-pair.pair-index c.pair-item.result c.loop-pair-test.true c.pair-item.is c.requires.1

pub loop-pair-preserved : goal.loop-pair-preserved
loop-pair-preserved g c = (
  put_one pair_spelling renaming_pair_of c.args.pairs.now c.args.bytes.now.items c.loop-pair.bytes.items c.push_pair.new.bytes.items c.loop-pair.pair-index c.pair-item.result c.loop-pair-test.true c.pair-item.is c.in_ok-push_pair.ensures.spelled c.loop-pair.invariant.0,
  gone_one IsInRangePair renaming_pair_of c.args.pairs.now c.loop-pair.pair-index c.pair-item.result c.loop-pair-test.true c.pair-item.is c.in_ok-push_pair.ensures.range c.loop-pair.invariant.1,
)

pub loop-pair-init : goal.loop-pair-init
loop-pair-init g c = (put_none pair_spelling renaming_pair_of c.args.pairs.now c.args.bytes.now.items c.push_length.new.bytes.items c.in_ok-push_length.ensures, tt)

pub returns : goal.returns
returns g c = record {
  spelled = put_all pair_spelling renaming_pair_of c.args.pairs.now c.args.bytes.now.items c.loop-pair.bytes.items c.loop-pair.pair-index c.loop-pair-test.false c.loop-pair.invariant.0;
  range = gone_all IsInRangePair renaming_pair_of c.args.pairs.now c.loop-pair.pair-index c.loop-pair-test.false c.loop-pair.invariant.1;
}
