use Rattle.theory_checking.proofs.Walking.{fine_both, stopped_in_first, stopped_behind, fine_next, stopped_in_declaration, stopped_is_refusal, fine_passes, fine_is_none_refused, stopped_is_not_fine}
use Rattle.theory_checking.proofs.names.walks_stop_at_the_first_refused_site.Goals as goal

pub returns-clause-both : goal.returns-clause-both
returns-clause-both c = fine_both

pub returns-clause-first : goal.returns-clause-first
returns-clause-first c = λ xs ys f p h. stopped_in_first xs ys h

pub returns-clause-behind : goal.returns-clause-behind
returns-clause-behind c = λ xs ys f p fine h. stopped_behind xs ys fine h

pub returns-clause-next : goal.returns-clause-next
returns-clause-next c = fine_next

pub returns-clause-stopped : goal.returns-clause-stopped
returns-clause-stopped c = λ raw f p h. stopped_in_declaration raw h.0 h.2 h.1 h.3 h.4 h.5

pub returns-clause-refusal : goal.returns-clause-refusal
returns-clause-refusal c = λ raw f p once h. stopped_is_refusal raw once h

pub returns-clause-pass : goal.returns-clause-pass
returns-clause-pass c = fine_passes

pub returns-clause-fine : goal.returns-clause-fine
returns-clause-fine c = fine_is_none_refused

pub returns-clause-not_both : goal.returns-clause-not_both
returns-clause-not_both c = λ xs f p h. stopped_is_not_fine xs h
