-- Small trees whose datatypes have constructors with fields.
use Rattle.std.specs.Prelude.{IsFalse, codes, take}
use Rattle.std.proofs.Common.{◌≡◌, ◌≤◌, List, [], ◌∷◌, pos, Some, None, refl, sym, subst, arith}
use Rattle.theory_syntax.specs.Value.{Value, Integer}
use Rattle.theory_syntax.specs.Expression.{Literal, Range, Datatype}
use Rattle.theory_semantics.specs.Meaning.Evaluation.{numbers_from}
use Rattle.theory_semantics.specs.Kinds.Kind.{IntKind, DatatypeKind, Kinds}
use Rattle.theory_semantics.specs.Laws.Terms.{no_bit, bit}
use Rattle.theory_checking.specs.Names.{DatatypeName, ConstructorName, ChannelName, Meaning, Declared, Environment, environment_of, environment_above}
use Rattle.theory_checking.specs.Sets.{types_of}
use Rattle.theory_checking.specs.Sites.{Site, Used, FieldSet, ChannelHead, AsExpression, AsEvent, sites}
use Rattle.theory_checking.specs.Faults.{KindFault, UnknownName, WrongCount, fault_number}
use Rattle.theory_checking.specs.Rules.{IsRedeclared, IsRefusedSite, unknown, wrong_class, bare_constructor, SomeFit, suits, all_declared}
use Rattle.theory_checking.specs.Refusals.{IsRefusedAt, PassesNames, IsKindRefusal, in_second_pass}
use Rattle.theory_checking.specs.Checked.{IsCheckedTree}
use Rattle.theory_checking.specs.Laws.Trees.{at, named, datatype_of_itself, bare_constructor_sent, constructor_sent, constructor_sent_script}
use Rattle.theory_checking.proofs.FirstRefused.{none_refused}
use Rattle.theory_checking.proofs.CheckedRows.{new, behind_one}
use Rattle.theory_checking.proofs.FineSites.{IsFine, expression_fine, constructor_fine, event_fine, field_fine, head_fine}

-- ---- a datatype's own name in a clause

pub itself_row : IsKindRefusal datatype_of_itself UnknownName (at 1 20)
itself_row = in_second_pass
    (none_refused IsRedeclared (all_declared datatype_of_itself)
    (new [] (named (codes "D") 1 10) refl, (new (named (codes "D") 1 10 ∷ []) (named (codes "N") 1 14) refl, (new (named (codes "D") 1 10 ∷ named (codes "N") 1 14 ∷ []) (named (codes "B") 1 18) refl, tt))))
    (behind_one IsRefusedAt (FieldSet (at 1 20) (types_of datatype_of_itself) datatype_of_itself None None)
    (Used (environment_above []) AsExpression (named (codes "D") 1 20)) [] UnknownName no_set (unknown refl) lowest)
  where
    no_set : IsFine (FieldSet (at 1 20) (types_of datatype_of_itself) datatype_of_itself None None)
    no_set f h = elim h [ ]

    lowest : (g : KindFault) → IsRefusedSite (Used (environment_above []) AsExpression (named (codes "D") 1 20)) g → 1 ≤ fault_number g
    lowest g (unknown h) = omega arith
    lowest g (wrong_class h s) = omega arith
    lowest g (bare_constructor h s) = omega arith

-- ---- `datatype D = N | B.{0..1}` ;; `channel d : D`

abbrev zero_one : List Value
zero_one = numbers_from (pos 0) 2

abbrev all_bits : List Value
all_bits = no_bit ∷ bit 0 ∷ bit 1 ∷ []

abbrev clause_kinds : Kinds
clause_kinds = record { nametypes = []; constructors = [] ∷ (IntKind ∷ []) ∷ []; channels = []; parameters = [] }

abbrev both_kinds : Kinds
both_kinds = record { nametypes = []; constructors = [] ∷ (IntKind ∷ []) ∷ []; channels = (DatatypeKind 0 ∷ []) ∷ []; parameters = [] ∷ [] }

clause_fit : SomeFit (types_of constructor_sent) (take 1 constructor_sent)
clause_fit = (clause_kinds, record { nametypes = tt; constructors = (tt, (((tt, tt), tt), tt)); channels = tt })

channel_fit : SomeFit (types_of constructor_sent) (take 2 constructor_sent)
channel_fit = (both_kinds, record { nametypes = tt; constructors = (tt, (((tt, tt), tt), tt)); channels = (((refl, (_, refl)), tt), tt) })

sent_env : Environment
sent_env = environment_of constructor_sent

sent_pass : PassesNames constructor_sent
unfolding sent_env
sent_pass = record {
  once = none_refused IsRedeclared (all_declared constructor_sent) (
    new [] (named (codes "D") 1 10) refl,
    (
      new (named (codes "D") 1 10 ∷ []) (named (codes "N") 1 14) refl,
      (
        new (named (codes "D") 1 10 ∷ named (codes "N") 1 14 ∷ []) (named (codes "B") 1 18) refl,
        (
          new (named (codes "D") 1 10 ∷ named (codes "N") 1 14 ∷ named (codes "B") 1 18 ∷ []) (named (codes "d") 2 9) refl,
          (new (named (codes "D") 1 10 ∷ named (codes "N") 1 14 ∷ named (codes "B") 1 18 ∷ named (codes "d") 2 9 ∷ []) (named (codes "P") 3 1) refl, tt),
        ),
      ),
    ),
  );
  fine = none_refused IsRefusedAt (sites constructor_sent) (
    field_fine (at 1 20) (types_of constructor_sent) (take 1 constructor_sent) (Some (Range (Literal (Integer (pos 0))) (Literal (Integer (pos 1))))) zero_one clause_fit,
    (
      head_fine (named (codes "d") 2 9) (types_of constructor_sent) (take 2 constructor_sent) [] (all_bits ∷ []) refl,
      (
        field_fine (at 2 13) (types_of constructor_sent) (take 2 constructor_sent) (Some (Datatype 0)) all_bits channel_fit,
        (
          expression_fine (environment_above (take 1 constructor_sent)) (named (codes "D") 2 13) (Declared DatatypeName 0) refl refl (λ p e. let f = e in cc f),
          (
            event_fine sent_env 1 (named (codes "d") 3 5) (Declared ChannelName 0) refl refl refl,
            (
              constructor_fine sent_env 1 (named (codes "B") 3 8) (Declared ConstructorName 1) refl refl refl,
              tt,
            ),
          ),
        ),
      ),
    ),
  );
}

pub sent_checked : IsCheckedTree constructor_sent constructor_sent_script
unfolding lib.Utf8.encode
sent_checked = record {
  names = sent_pass;
  script_of = record { datatypes = refl; nametypes = refl; constructors = refl; channels = refl; equations = refl; assertions = refl; channel_names = refl; constructor_names = refl; unfolds = refl };
  kinds = both_kinds;
  fit = record {
    sets = record { nametypes = tt; constructors = (tt, (((tt, tt), tt), tt)); channels = (((refl, (_, refl)), tt), tt) };
    parameters = refl;
    each = ((_, [], refl, refl, record { parameters = refl; body = (DatatypeKind 0 ∷ [], refl, (((_, refl, (1, omega arith, refl)), (IntKind ∷ [], refl, (tt, tt))), tt), tt) }), tt);
  };
}

-- ---- a constructor with fields, without them

bare_clause_fit : SomeFit (types_of bare_constructor_sent) (take 1 bare_constructor_sent)
bare_clause_fit = (clause_kinds, record { nametypes = tt; constructors = (tt, (((tt, tt), tt), tt)); channels = tt })

bare_channel_fit : SomeFit (types_of bare_constructor_sent) (take 2 bare_constructor_sent)
bare_channel_fit = (both_kinds, record { nametypes = tt; constructors = (tt, (((tt, tt), tt), tt)); channels = (((refl, (_, refl)), tt), tt) })

bare_env : Environment
bare_env = environment_of bare_constructor_sent

bare_before : List Site
bare_before =
    FieldSet (at 1 20) (types_of bare_constructor_sent) (take 1 bare_constructor_sent) (Some (Range (Literal (Integer (pos 0))) (Literal (Integer (pos 1))))) (Some zero_one)
    ∷ ChannelHead (named (codes "d") 2 9) (types_of bare_constructor_sent) (take 2 bare_constructor_sent) [] (Some (all_bits ∷ []))
    ∷ FieldSet (at 2 13) (types_of bare_constructor_sent) (take 2 bare_constructor_sent) (Some (Datatype 0)) (Some all_bits)
    ∷ Used (environment_above (take 1 bare_constructor_sent)) AsExpression (named (codes "D") 2 13)
    ∷ Used bare_env (AsEvent 1) (named (codes "d") 3 17) ∷ []

bare_lowest : (g : KindFault) → IsRefusedSite (Used bare_env AsExpression (named (codes "B") 3 19)) g → fault_number WrongCount ≤ fault_number g
unfolding bare_env
bare_lowest g (unknown h) = absurd (cc h)
bare_lowest g (wrong_class {m = m} h s) = absurd (suited m h s)
  where
    suited : (m : Meaning) → Some (Declared ConstructorName 1) ≡ Some m → IsFalse (suits AsExpression m) → ⊥
    suited m e unsuited = let same : Declared ConstructorName 1 ≡ m = cc e in let P : Meaning → Type 0 = λ x. IsFalse (suits AsExpression x) in absurd (let f = subst P (sym same) unsuited in cc f)
bare_lowest g (bare_constructor h s) = omega arith

pub bare_row : IsKindRefusal bare_constructor_sent WrongCount (at 3 19)
unfolding bare_env bare_before
bare_row = in_second_pass
    (none_refused IsRedeclared (all_declared bare_constructor_sent) (
      new [] (named (codes "D") 1 10) refl,
      (
        new (named (codes "D") 1 10 ∷ []) (named (codes "N") 1 14) refl,
        (
          new (named (codes "D") 1 10 ∷ named (codes "N") 1 14 ∷ []) (named (codes "B") 1 18) refl,
          (new (named (codes "D") 1 10 ∷ named (codes "N") 1 14 ∷ named (codes "B") 1 18 ∷ []) (named (codes "d") 2 9) refl, tt),
        ),
      ),
    ))
    (record {
      before = bare_before;
      after = [];
      stands = refl;
      refused = bare_constructor {p = 1} refl (λ e. cc e);
      lowest = bare_lowest;
      none_before = none_refused IsRefusedAt bare_before (
        field_fine (at 1 20) (types_of bare_constructor_sent) (take 1 bare_constructor_sent) (Some (Range (Literal (Integer (pos 0))) (Literal (Integer (pos 1))))) zero_one bare_clause_fit,
        (
          head_fine (named (codes "d") 2 9) (types_of bare_constructor_sent) (take 2 bare_constructor_sent) [] (all_bits ∷ []) refl,
          (
            field_fine (at 2 13) (types_of bare_constructor_sent) (take 2 bare_constructor_sent) (Some (Datatype 0)) all_bits bare_channel_fit,
            (
              expression_fine (environment_above (take 1 bare_constructor_sent)) (named (codes "D") 2 13) (Declared DatatypeName 0) refl refl (λ p e. let f = e in cc f),
              (event_fine bare_env 1 (named (codes "d") 3 17) (Declared ChannelName 0) refl refl refl, tt),
            ),
          ),
        ),
      );
    })
