-- What the readers of expressions, processes and declarations say, read and refused.
use Rattle.std.proofs.Common.{◌∙◌, true, false, List, [], sym, ap, subst, Err, append-nil, arith}
use Rattle.std.proofs.lemmas.List.{append_cancel_right}
use Rattle.theory_text.specs.Token.{PlacedToken}
use Rattle.theory_text.specs.Grammar.{IsExpression, IsProcess, IsDeclaration}
use Rattle.theory_reader.specs.Forms.{Form, Tree, AtLevel, Disjunction, OfProcess, OfDeclaration}
use Rattle.theory_reader.specs.Programs.{Standing, Here}
use Rattle.theory_reader.specs.Reader.{reads, reads_to}
use Rattle.theory_reader.specs.Refused.{GoesOn, ReadsWhole, ReadsSome, RefusesNext}
use Rattle.theory_reader.proofs.CompleteDeclarations.{declaration_read}
use Rattle.theory_reader.proofs.CompleteExpressions.{expressions_whole}
use Rattle.theory_reader.proofs.CompleteProcesses.{process_read}
use Rattle.theory_reader.proofs.Local.{at}
use Rattle.theory_reader.proofs.Refusals.{refused_here}
use Rattle.theory_reader.proofs.SoundExpressions.{Says}
use Rattle.theory_reader.proofs.Sound.{reads_say}

pub processes_whole : ReadsWhole OfProcess IsProcess
processes_whole ts p h n = let (m, e) = process_read h [] (omega arith) n in (m, ap (λ z. reads_to false OfProcess (at z n)) (sym (append-nil ts)) ∙ e)

pub declarations_whole : ReadsWhole OfDeclaration IsDeclaration
declarations_whole ts d h n = let (m, e) = declaration_read h [] (omega arith) n in (m, ap (λ z. reads_to false OfDeclaration (at z n)) (sym (append-nil ts)) ∙ e)

some : (f : Form) (Is : List PlacedToken → Tree f → Type 0) → ((s : Standing) → Says Is s.left (reads f s)) → ReadsSome f Is
some f Is says = (λ s q x e. subst (Says Is s.left) e (says s), λ s h left e. subst (Says Is s.left) e (says s))

refuses : (f : Form) (Is : List PlacedToken → Tree f → Type 0) → ((s : Standing) → Says Is s.left (reads f s)) → ReadsWhole f Is → RefusesNext f Is
refuses f Is says whole s left e =
    let (front, split, none) = refused_here f Is whole s left e in
    let (begun, same, go) : Says Is s.left (Err (Here, left)) = subst (Says Is s.left) e (says s) in
    (front, split, subst (GoesOn Is) (append_cancel_right begun front left (sym same ∙ split)) go, none)

pub expressions_some : ReadsSome (AtLevel Disjunction) IsExpression
expressions_some = some (AtLevel Disjunction) IsExpression (reads_say true (AtLevel Disjunction))

pub processes_some : ReadsSome OfProcess IsProcess
processes_some = some OfProcess IsProcess (reads_say true OfProcess)

pub declarations_some : ReadsSome OfDeclaration IsDeclaration
declarations_some = some OfDeclaration IsDeclaration (reads_say true OfDeclaration)

pub expressions_refuse : RefusesNext (AtLevel Disjunction) IsExpression
expressions_refuse = refuses (AtLevel Disjunction) IsExpression (reads_say true (AtLevel Disjunction)) expressions_whole

pub processes_refuse : RefusesNext OfProcess IsProcess
processes_refuse = refuses OfProcess IsProcess (reads_say true OfProcess) processes_whole

pub declarations_refuse : RefusesNext OfDeclaration IsDeclaration
declarations_refuse = refuses OfDeclaration IsDeclaration (reads_say true OfDeclaration) declarations_whole
