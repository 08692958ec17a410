-- What is held has a known size, and the term is one of the script that has the parts.
use Rattle.std.proofs.Common.{inl, inr, lit<, subst, sym}
use Rattle.theory_syntax.specs.Process.{Script}
use Rattle.theory_semantics.specs.Kinds.Scripts.{IsTermOf}
use Rattle.theory_semantics.specs.Meaning.Expansions.{IsFormOf}
use Rattle.csp_term.specs.Term.{process_of}
use Rattle.csp_fire.specs.Form.{form_of}
use Rattle.csp_fire.proofs.Leading.{leads}
use Rattle.csp_fire.proofs.firing.fire.Goals as goal

pub drop-form-requires-room-T-Destruct : goal.drop-form-requires-room-T-Destruct
drop-form-requires-room-T-Destruct g c κs within =
    elim g.met.A.AllocHandle.small [
      | inl e ↦ rw (e.0, e.1) (lit< tt)
      | inr e ↦ rw (e.0, e.1) (lit< tt)
    ]

pub drop-form-requires-in_err-term-room-T-Destruct : goal.drop-form-requires-in_err-term-room-T-Destruct
drop-form-requires-in_err-term-room-T-Destruct g c κs within =
    elim g.met.A.AllocHandle.small [
      | inl e ↦ rw (e.0, e.1) (lit< tt)
      | inr e ↦ rw (e.0, e.1) (lit< tt)
    ]

pub form_of_term-requires : goal.form_of_term-requires
form_of_term-requires g c =
    let P : Script → Type 0 = λ s. IsTermOf s (process_of c.args.term.now) in
    record { closed = subst P (sym c.parts.ensures.value) c.requires.closed }

pub returns-clause-targets : goal.returns-clause-targets
returns-clause-targets g c =
    let P : Script → Type 0 = λ s. IsFormOf s (process_of c.args.term.now) (form_of c.in_ok-form.form) in
    leads c.args.script.now (process_of c.args.term.now) (form_of c.in_ok-form.form) c.requires.closed (subst P c.parts.ensures.value c.in_ok-form.ensures)
