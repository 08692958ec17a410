use Rattle.theory_checking.proofs.AskingItems.{set_asked}
use Rattle.theory_checking.proofs.AskingSets.{none_asked, nametype_asked, clause_asked, clause_field_asked, field_asked, heads_asked, other_asked, one_declaration_more}
use Rattle.theory_checking.proofs.inference.equations_of_first_sets.Goals as goal

pub returns-clause-nothing : goal.returns-clause-nothing
returns-clause-nothing c = λ types o n. none_asked types o n

pub returns-clause-nametype : goal.returns-clause-nametype
returns-clause-nametype c = λ types o owners above n m x es name domain below found h. nametype_asked types above o n m x es name domain owners below found h

pub returns-clause-declaration : goal.returns-clause-declaration
returns-clause-declaration c = λ types above d kinds.
    let both = one_declaration_more types above d kinds in
    (λ h. let x = both.0 h in (x.0, (x.1, x.2, x.3)), λ h. both.1 (h.0, h.1.0, h.1.1, h.1.2))

pub returns-clause-set : goal.returns-clause-set
returns-clause-set c = λ types o owners n x e below small. set_asked types o owners n e x below small

pub returns-clause-clause : goal.returns-clause-clause
returns-clause-clause c = λ types o above n m es name before constructor small h. clause_asked types o above name before constructor n m es small h

pub returns-clause-clause_field : goal.returns-clause-clause_field
returns-clause-clause_field c = λ types o owners above n m x es name before constructor fields d row below found got h.
    clause_field_asked types o above name before constructor row found n m x es fields d owners below got h

pub returns-clause-field : goal.returns-clause-field
returns-clause-field c = λ types o owners above n m es names before d ms below same column h. field_asked types o owners above names before d ms same column n m es below h

pub returns-clause-heads : goal.returns-clause-heads
returns-clause-heads c = λ types o above n m es names le h. heads_asked types above o n m es h names le

pub returns-clause-other : goal.returns-clause-other
returns-clause-other c = λ types o above n m es d e g f h. other_asked types above o n m es h d e g f
