-- The first 65,537 bytes of a text decide whether it is a script.
use Rattle.std.proofs.Common.{◌≡◌, ℕ, ◌≤◌, List, length, min, ap, sym, ◌∙◌, subst, arith}
use Rattle.std.proofs.lemmas.List.{length-take, take_all}
use Rattle.theory_syntax.specs.Process.{Script}
use Rattle.theory_text.specs.Place.{Place}
use Rattle.theory_text.specs.Raw.{RawScript}
use Rattle.theory_text.specs.Reading.{ReadingFault, IsRead, read, IsReadingRefusal, of_text, of_grammar}
use Rattle.theory_text.specs.Token.{TextFault, IsTextRefusal, long_text, not_utf8, here}
use Rattle.theory_checking.specs.Checked.{IsCheckedText}
use Rattle.program.specs.Beginning.{IsBeginning}
use Rattle.program.specs.Given.{Given}
use Rattle.program.specs.Running.{IsScriptOfFile, IsTooLong, IsCause}
use Rattle.program.specs.Reading.{IsRefusalOf}
use Rattle.program.specs.Stack.{Takes}
use Rattle.program.specs.declared.refusal.Refusal.{Refusal}
use Rattle.program.specs.declared.refusal.Refusal.TheVariants as refusal
use Rattle.program.specs.declared.stack.Stack.{Stack}
use Rattle.program.specs.declared.stack.Stack.TheVariants as stack

-- a beginning that is short enough for a script is the whole text
pub whole : {held : List ℕ → Type 0} (bytes : List ℕ) → IsBeginning held bytes → length bytes ≤ 65536 → held bytes
whole {held} bytes begins short =
    let size : length bytes ≡ min 65537 (length begins.text) = ap length begins.is ∙ length-take 65537 begins.text in
    let few : length begins.text ≤ 65537 = omega (arith, size, short) in
    subst held (sym (begins.is ∙ take_all 65537 begins.text few)) begins.held

-- the tokens of a text are those of a short one
pub short_of_read : (bytes : List ℕ) (raw : RawScript) → IsRead bytes raw → length bytes ≤ 65536
short_of_read bytes raw (read are parsed) = are.short

-- a script that is read is that of the file
pub of_file : (may_hold : List ℕ → List ℕ → Type 0) (name bytes : List ℕ) (script : Script) → IsBeginning (may_hold name) bytes → IsCheckedText bytes script → IsScriptOfFile may_hold name script
of_file may_hold name bytes script begins checked = record {
  text = bytes;
  held = whole bytes begins (short_of_read bytes checked.0 checked.1);
  of_text = checked;
}

-- a refusal of the tokens of what is read is one of the whole text
text_refused : {held : List ℕ → Type 0} (bytes : List ℕ) (f : TextFault) (p : Place) → IsBeginning held bytes → IsTextRefusal bytes f p → (text : List ℕ) × held text × IsTextRefusal text f p
text_refused bytes f p begins (long_text long) =
    let size : length bytes ≡ min 65537 (length begins.text) = ap length begins.is ∙ length-take 65537 begins.text in
    (begins.text, begins.held, long_text (omega (arith, size, long)))
text_refused bytes f p begins (not_utf8 n short valid) = (bytes, whole bytes begins short, not_utf8 n short valid)
text_refused bytes f p begins (here before left tokens fault short are divided refused) = (bytes, whole bytes begins short, here before left tokens fault short are divided refused)

-- a refusal of the grammar, or of names and kinds, is one of a short text
grammar_refused : {held : List ℕ → Type 0} (bytes : List ℕ) (f : ReadingFault) (p : Place) → IsBeginning held bytes → IsReadingRefusal bytes f p → (text : List ℕ) × held text × IsReadingRefusal text f p
grammar_refused bytes f p begins (of_text refused) = let one = text_refused bytes _ p begins refused in (one.0, one.1, of_text one.2)
grammar_refused bytes f p begins (of_grammar are refused) = (bytes, whole bytes begins are.short, of_grammar are refused)

-- what is refused of what is read is refused of the file's text
pub cause_of_text : (given : Given) (name bytes : List ℕ) (why : Refusal) → IsBeginning (given.may_hold name) bytes → IsRefusalOf bytes why → IsCause given name why
cause_of_text given name bytes (refusal.File why) begins is = absurd is
cause_of_text given name bytes (refusal.Text f p) begins is = text_refused bytes _ _ begins is
cause_of_text given name bytes (refusal.Grammar f p) begins is = grammar_refused bytes _ _ begins is
cause_of_text given name bytes (refusal.Kinds f p) begins is = (bytes, whole bytes begins (short_of_read bytes is.0 is.1), is)
cause_of_text given name bytes refusal.Memory begins is = tt
cause_of_text given name bytes refusal.Thread begins is = absurd is
cause_of_text given name bytes refusal.Output begins is = absurd is

-- a beginning that a stack does not take is one of a text that it does not take
longer : {held : List ℕ → Type 0} (stack : Stack) (bytes : List ℕ) → IsBeginning held bytes → (Takes stack (length bytes) → ⊥) → (text : List ℕ) × held text × (Takes stack (length text) → ⊥)
longer stack.Large bytes begins long = absurd (long tt)
longer stack.Found bytes begins long =
    let size : length bytes ≡ min 65537 (length begins.text) = ap length begins.is ∙ length-take 65537 begins.text in
    (begins.text, begins.held, λ short. long (omega (arith, size, short)))

-- what is read is too long for the stack where the file's text is
pub too_long : (given : Given) (name bytes : List ℕ) → IsBeginning (given.may_hold name) bytes → (Takes given.stack (length bytes) → ⊥) → IsTooLong given name
too_long given name bytes begins long = longer given.stack bytes begins long
