use Rattle.std.proofs.Common.{refl, inl, inr}
use Rattle.theory_semantics.proofs.Offering.{stable, ticks, offers_none}
use Rattle.theory_semantics.proofs.offers_of_small_terms.Goals as goal

pub returns-clause-choice : goal.returns-clause-choice
returns-clause-choice c = stable _ _ _ refl refl (refl, tt)

pub returns-clause-interrupt : goal.returns-clause-interrupt
returns-clause-interrupt c = stable _ _ _ refl refl (refl, tt)

pub returns-clause-input : goal.returns-clause-input
returns-clause-input c = stable _ _ _ refl refl (refl, tt)

pub returns-clause-alphabetised : goal.returns-clause-alphabetised
returns-clause-alphabetised c = stable _ _ _ refl refl tt

pub returns-clause-renamed : goal.returns-clause-renamed
returns-clause-renamed c = stable _ _ _ refl refl tt

pub returns-clause-stop : goal.returns-clause-stop
returns-clause-stop c = stable _ _ _ refl refl tt

pub returns-clause-choice_tick : goal.returns-clause-choice_tick
returns-clause-choice_tick c = ticks _ _ _ refl (inr (inl (refl, refl)))

pub returns-clause-ended : goal.returns-clause-ended
returns-clause-ended c = ticks _ _ _ refl (inl (refl, refl))

pub returns-clause-internal : goal.returns-clause-internal
returns-clause-internal c = offers_none _ _ _ (inl (refl, refl)) refl

pub returns-clause-resolve : goal.returns-clause-resolve
returns-clause-resolve c = offers_none _ _ _ (inl (refl, refl)) refl

pub returns-clause-interleaving : goal.returns-clause-interleaving
returns-clause-interleaving c = offers_none _ _ _ (inl (refl, refl)) refl

pub returns-clause-sequential : goal.returns-clause-sequential
returns-clause-sequential c = offers_none _ _ _ (inl (refl, refl)) refl

pub returns-clause-sliding : goal.returns-clause-sliding
returns-clause-sliding c = offers_none _ _ _ (inr (inl (refl, refl))) refl

pub returns-clause-sliding_tick : goal.returns-clause-sliding_tick
returns-clause-sliding_tick c = ticks _ _ _ refl (inl (refl, refl))
