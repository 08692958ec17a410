-- Each field is gone through by the communications of it and those behind it, and what is held has a known size.
use Rattle.std.proofs.Common.{◌≡◌, ◌++◌, ◌∷◌, [], ◌+◌, Bool, true, false, List, filter, take, drop, length, Result, Ok, Err, refl, sym, ◌∙◌, ap, ap₂, subst, inl, inr, lit<, arith}
use Rattle.std.proofs.lemmas.List.{length-map, take_all}
use Rattle.std.proofs.lemmas.Result.{err_from_is_err_and}
use Rattle.theory_syntax.specs.Value as pure
use Rattle.theory_syntax.specs.Process.{Given, InputFrom}
use Rattle.theory_semantics.specs.Meaning.Evaluation.{Cause, IllKinded, value}
use Rattle.theory_semantics.specs.Meaning.Events.{Communication, communications, each_list, members_of}
use Rattle.theory_semantics.specs.Meaning.Substitution.{Bindings, bind, put_expression}
use Rattle.csp_value.specs.Value.{value_of, values_of}
use Rattle.csp_expression.specs.Bindings.{bindings_of}
use Rattle.csp_expression.specs.Evaluation.{Sees, members_listed, table_of}
use Rattle.csp_value.specs.Fields.{field_values, sets_of}
use Rattle.csp_expression.specs.Expression.{expression_of}
use Rattle.csp_term.specs.Field.{field_of, fields_of}
use Rattle.csp_term.specs.Script.{script_of_parts}
use Rattle.csp_term.specs.Term.{process_of}
use Rattle.csp_expression.proofs.Forming.{set_is}
use Rattle.csp_steps.specs.declared.rule_step.RuleStep.{RuleStep}
use Rattle.std.specs.declared.vec.Vec.{Vec}
use Rattle.csp_expression.specs.declared.no_value.NoValue.{NoValue}
use Rattle.csp_steps.specs.Communicating.{Finds, lent_values}
use Rattle.csp_steps.proofs.Further.{FoundSoFar, none_so_far, one_further, stopped_at, with_one}
use Rattle.csp_settling.proofs.Members.{no_members}
use Rattle.csp_steps.proofs.Walking.{behind_input, chosen_from, chosen_from_none, chosen_more, chosen_same, chosen_split, chosen_stuck, ended_fields, ended_sets, given_stuck, given_within, values_more, values_split}
use Rattle.csp_steps.proofs.rules.communications.+fields.Goals as goal
use Rattle.csp_steps.proofs.rules.communications.+fields.Goals.{inputs_from-then-contains+in_ok-front+in_ok-found, inputs_from-else-contains, look_for-in_default-via-in-None+in_default, look_for-in_default-via-in-Some+in_default}

nothing_in : {X : Type 0} (xs : List X) → length xs ≡ 0 → xs ≡ []
nothing_in [] none = refl
nothing_in (x ∷ xs) none = absurd (cc none)

pub given-drop-found-requires-room-T-Destruct : goal.given-drop-found-requires-room-T-Destruct
given-drop-found-requires-room-T-Destruct g t c κs within =
    elim g.met.A.AllocHandle.small [ inl e ↦ rw (e.0, e.1) (lit< tt) | inr e ↦ rw (e.0, e.1) (lit< tt) ]

pub given-drop-found-requires-then-not-contains-room-T-Destruct : goal.given-drop-found-requires-then-not-contains-room-T-Destruct
given-drop-found-requires-then-not-contains-room-T-Destruct g t c κs within =
    elim g.met.A.AllocHandle.small [ inl e ↦ rw (e.0, e.1) (lit< tt) | inr e ↦ rw (e.0, e.1) (lit< tt) ]

pub given-drop-found-requires-in_err-front-room-T-Destruct : goal.given-drop-found-requires-in_err-front-room-T-Destruct
given-drop-found-requires-in_err-front-room-T-Destruct g t c κs within =
    elim g.met.A.AllocHandle.small [ inl e ↦ rw (e.0, e.1) (lit< tt) | inr e ↦ rw (e.0, e.1) (lit< tt) ]

pub inputs-drop-found-requires-room-T-Destruct : goal.inputs-drop-found-requires-room-T-Destruct
inputs-drop-found-requires-room-T-Destruct g t c κs within =
    elim g.met.A.AllocHandle.small [ inl e ↦ rw (e.0, e.1) (lit< tt) | inr e ↦ rw (e.0, e.1) (lit< tt) ]

pub inputs_from-drop-found-requires-room-T-Destruct : goal.inputs_from-drop-found-requires-room-T-Destruct
inputs_from-drop-found-requires-room-T-Destruct g t c κs within =
    elim g.met.A.AllocHandle.small [ inl e ↦ rw (e.0, e.1) (lit< tt) | inr e ↦ rw (e.0, e.1) (lit< tt) ]

pub inputs_from-drop-found-requires-in_default-room-T-Destruct : goal.inputs_from-drop-found-requires-in_default-room-T-Destruct
inputs_from-drop-found-requires-in_default-room-T-Destruct g t c κs within =
    elim g.met.A.AllocHandle.small [ inl e ↦ rw (e.0, e.1) (lit< tt) | inr e ↦ rw (e.0, e.1) (lit< tt) ]

pub inputs_from-drop-found-requires-in_err-front-room-T-Destruct : goal.inputs_from-drop-found-requires-in_err-front-room-T-Destruct
inputs_from-drop-found-requires-in_err-front-room-T-Destruct g t c κs within =
    elim g.met.A.AllocHandle.small [ inl e ↦ rw (e.0, e.1) (lit< tt) | inr e ↦ rw (e.0, e.1) (lit< tt) ]

pub look_for-drop-found-requires-room-T-Destruct : goal.look_for-drop-found-requires-room-T-Destruct
look_for-drop-found-requires-room-T-Destruct g t c κs within =
    elim g.met.A.AllocHandle.small [ inl e ↦ rw (e.0, e.1) (lit< tt) | inr e ↦ rw (e.0, e.1) (lit< tt) ]

pub given-returns-in_err-seen : goal.given-returns-in_err-seen
given-returns-in_err-seen g t c =
    let script = script_of_parts c.args.walk.now.script.now in
    let types = table_of c.args.walk.now.script.now.types in
    let k = c.args.walk.now.channel.0 in
    let body = process_of c.args.walk.now.body.now in
    let front = c.args.front.now in
    let vs = lent_values front.values.items in
    let bs = bindings_of front.bindings.items in
    let fs = fields_of c.args.fields.now in
    let set = field_values c.args.set.now in
    let sets = sets_of c.args.sets.now in
    let e = expression_of c.args.value.now in
    let Q : Result pure.Value Cause → Type 0 = λ r. Sees {A = g.row.A.Denot} (Err c.in_err-seen.field-0.0) r in
    let none = subst Q (ap (λ ds. value types (put_expression (bindings_of ds) e)) c.deref.ensures.value) c.in_err-seen.ensures in
    let P : Result (Vec (RuleStep g.row.A.Denot) g.row.A.Denot) NoValue → Type 0 = λ r. Finds script k body vs c.args.found (communications types bs (Given e ∷ fs) (set ∷ sets)) r in
    let p = err_from_is_err_and c.from_residual.result c.from_residual.ensures.1 in
    subst P (sym (p.1 ∙ ap Err p.2)) (given_stuck types bs fs set sets g.row.A.Denot script k body vs c.args.found e c.in_err-seen.field-0.0 none)

pub given-returns : goal.given-returns
given-returns g t c =
    let script = script_of_parts c.args.walk.now.script.now in
    let types = table_of c.args.walk.now.script.now.types in
    let k = c.args.walk.now.channel.0 in
    let body = process_of c.args.walk.now.body.now in
    let front = c.args.front.now in
    let vs = lent_values front.values.items in
    let bs = bindings_of front.bindings.items in
    let fs = fields_of c.args.fields.now in
    let set = field_values c.args.set.now in
    let sets = sets_of c.args.sets.now in
    let e = expression_of c.args.value.now in
    let v = value_of c.value-2.result.now in
    let seen : value types (put_expression bs e) ≡ Ok v = ap (λ ds. value types (put_expression (bindings_of ds) e)) (sym c.deref.ensures.value) ∙ c.in_ok-seen.ensures ∙ ap Ok (sym c.value-2.ensures) in
    let within : pure.has_value set v ≡ true = ap (pure.has_value set) (c.value-2.ensures ∙ sym c.value.ensures) ∙ sym c.contains.ensures ∙ c.if-not-contains.false in
    let F : List pure.Value → Bindings → Type 0 = λ ws ds. Finds script k body ws c.args.found (communications types ds fs sets) c.look_for.result in
    let P : Result (List Communication) Cause → Type 0 = λ r. Finds script k body vs c.args.found r c.look_for.result in
    let found : F (vs ++ v ∷ []) bs = subst (F (vs ++ v ∷ [])) c.in_ok-front.ensures.bindings (subst (λ ws. F ws (bindings_of c.in_ok-front.front.bindings.items)) c.in_ok-front.ensures.values c.look_for.ensures) in
    subst P (sym (given_within types bs fs set sets e v seen within)) (with_one script k body vs v (communications types bs fs sets) c.args.found c.look_for.result found)

pub inputs-loop-value-init : goal.inputs-loop-value-init
inputs-loop-value-init g t c =
    let script = script_of_parts c.args.walk.now.script.now in
    let types = table_of c.args.walk.now.script.now.types in
    let k = c.args.walk.now.channel.0 in
    let body = process_of c.args.walk.now.body.now in
    let front = c.args.front.now in
    let vs = lent_values front.values.items in
    let bs = bindings_of front.bindings.items in
    let fs = fields_of c.args.fields.now in
    let set = field_values c.args.set.now in
    let sets = sets_of c.args.sets.now in
    none_so_far (behind_input types bs fs set sets c.args.name.0) script k body vs c.args.found

pub inputs-returns-in_err-found : goal.inputs-returns-in_err-found
inputs-returns-in_err-found g t c =
    let script = script_of_parts c.args.walk.now.script.now in
    let types = table_of c.args.walk.now.script.now.types in
    let k = c.args.walk.now.channel.0 in
    let body = process_of c.args.walk.now.body.now in
    let front = c.args.front.now in
    let vs = lent_values front.values.items in
    let bs = bindings_of front.bindings.items in
    let fs = fields_of c.args.fields.now in
    let set = field_values c.args.set.now in
    let sets = sets_of c.args.sets.now in
    let n = c.args.name.0 in
    let f = behind_input types bs fs set sets n in
    let items = c.members-value-items.result.now in
    let i = c.loop-value.value-index in
    let item = c.value-item.result in
    let v = value_of item in
    let mid = c.loop-value.found in
    let why = c.in_err-found.field-0.0 in
    let F : List pure.Value → Bindings → Type 0 = λ ws ds. Finds script k body ws mid (communications types ds fs sets) (Err why) in
    let found : F (vs ++ v ∷ []) (bind n v bs) =
    subst (F (vs ++ v ∷ [])) c.in_ok-front.ensures.bindings (subst (λ ws. F ws (bindings_of c.in_ok-front.front.bindings.items)) c.in_ok-front.ensures.values c.in_err-found.ensures) in
    let stop = stopped_at f script k body vs c.args.found (values_of (take i items)) mid c.loop-value.invariant v (values_of (drop (i + 1) items)) why
    (with_one script k body vs v (communications types (bind n v bs) fs sets) mid (Err why) found) in
    let p = err_from_is_err_and c.from_residual-in_err-found.result c.from_residual-in_err-found.ensures.1 in
    let P : Result (Vec (RuleStep g.row.A.Denot) g.row.A.Denot) NoValue → Type 0 = λ r. Finds script k body vs c.args.found (each_list f set) r in
    let Q : List pure.Value → Type 0 = λ ws. Finds script k body vs c.args.found (each_list f ws) (Err why) in
    subst P (sym (p.1 ∙ ap Err p.2)) (subst Q (sym (values_split items i item c.loop-value-test.true c.value-item.is) ∙ c.members-value-items.ensures) stop)

pub inputs-loop-value-preserved : goal.inputs-loop-value-preserved
inputs-loop-value-preserved g t c =
    let script = script_of_parts c.args.walk.now.script.now in
    let types = table_of c.args.walk.now.script.now.types in
    let k = c.args.walk.now.channel.0 in
    let body = process_of c.args.walk.now.body.now in
    let front = c.args.front.now in
    let vs = lent_values front.values.items in
    let bs = bindings_of front.bindings.items in
    let fs = fields_of c.args.fields.now in
    let set = field_values c.args.set.now in
    let sets = sets_of c.args.sets.now in
    let n = c.args.name.0 in
    let f = behind_input types bs fs set sets n in
    let items = c.members-value-items.result.now in
    let i = c.loop-value.value-index in
    let item = c.value-item.result in
    let v = value_of item in
    let mid = c.loop-value.found in
    let after = c.in_ok-found.found in
    let F : List pure.Value → Bindings → Type 0 = λ ws ds. Finds script k body ws mid (communications types ds fs sets) (Ok after) in
    let found : F (vs ++ v ∷ []) (bind n v bs) =
    subst (F (vs ++ v ∷ [])) c.in_ok-front.ensures.bindings (subst (λ ws. F ws (bindings_of c.in_ok-front.front.bindings.items)) c.in_ok-front.ensures.values c.in_ok-found.ensures) in
    let Q : List pure.Value → Type 0 = λ ws. FoundSoFar f script k body vs c.args.found ws after in
    subst Q (sym (values_more items i item c.loop-value-test.true c.value-item.is))
    (one_further f script k body vs c.args.found (values_of (take i items)) mid c.loop-value.invariant v after (with_one script k body vs v (communications types (bind n v bs) fs sets) mid (Ok after) found))

pub inputs-returns : goal.inputs-returns
inputs-returns g t c =
    let script = script_of_parts c.args.walk.now.script.now in
    let types = table_of c.args.walk.now.script.now.types in
    let k = c.args.walk.now.channel.0 in
    let body = process_of c.args.walk.now.body.now in
    let front = c.args.front.now in
    let vs = lent_values front.values.items in
    let bs = bindings_of front.bindings.items in
    let fs = fields_of c.args.fields.now in
    let set = field_values c.args.set.now in
    let sets = sets_of c.args.sets.now in
    let f = behind_input types bs fs set sets c.args.name.0 in
    let items = c.members-value-items.result.now in
    let all = ap values_of (take_all c.loop-value.value-index items (omega arith)) ∙ c.members-value-items.ensures in
    let Q : List pure.Value → Type 0 = λ ws. FoundSoFar f script k body vs c.args.found ws c.loop-value.found in
    subst Q all c.loop-value.invariant

pub inputs_from-returns-in_err-seen : goal.inputs_from-returns-in_err-seen
inputs_from-returns-in_err-seen g t c =
    let script = script_of_parts c.args.walk.now.script.now in
    let types = table_of c.args.walk.now.script.now.types in
    let k = c.args.walk.now.channel.0 in
    let body = process_of c.args.walk.now.body.now in
    let front = c.args.front.now in
    let vs = lent_values front.values.items in
    let bs = bindings_of front.bindings.items in
    let fs = fields_of c.args.fields.now in
    let set = field_values c.args.set.now in
    let sets = sets_of c.args.sets.now in
    let e = expression_of c.args.from.now in
    let Q : Result pure.Value Cause → Type 0 = λ r. Sees {A = g.row.A.Denot} (Err c.in_err-seen.field-0.0) r in
    let none = subst Q (ap (λ ds. value types (put_expression (bindings_of ds) e)) c.deref.ensures.value) c.in_err-seen.ensures in
    let P : Result (Vec (RuleStep g.row.A.Denot) g.row.A.Denot) NoValue → Type 0 = λ r. Finds script k body vs c.args.found (communications types bs (InputFrom c.args.name.0 e ∷ fs) (set ∷ sets)) r in
    let p = err_from_is_err_and c.from_residual.result c.from_residual.ensures.1 in
    subst P (sym (p.1 ∙ ap Err p.2)) (chosen_stuck types bs fs set sets g.row.A.Denot script k body vs c.args.found e c.in_err-seen.field-0.0 none c.args.name.0)

pub inputs_from-returns-in_default : goal.inputs_from-returns-in_default
inputs_from-returns-in_default g t c =
    let script = script_of_parts c.args.walk.now.script.now in
    let types = table_of c.args.walk.now.script.now.types in
    let k = c.args.walk.now.channel.0 in
    let body = process_of c.args.walk.now.body.now in
    let front = c.args.front.now in
    let vs = lent_values front.values.items in
    let bs = bindings_of front.bindings.items in
    let fs = fields_of c.args.fields.now in
    let set = field_values c.args.set.now in
    let sets = sets_of c.args.sets.now in
    let e = expression_of c.args.from.now in
    let n = c.args.name.0 in
    let f = behind_input types bs fs set sets n in
    let v = value_of c.value.result.now in
    let seen : value types (put_expression bs e) ≡ Ok v = ap (λ ds. value types (put_expression (bindings_of ds) e)) (sym c.deref.ensures.value) ∙ c.in_ok-seen.ensures ∙ ap Ok (sym c.value.ensures) in
    let none : members_of v ≡ Err IllKinded = no_members g.row.A g.A.Allocator c.value.result.now c.in_default.not-Set in
    chosen_from_none types bs fs set sets e v seen n none

pub inputs_from-loop-value-init : goal.inputs_from-loop-value-init
inputs_from-loop-value-init g t c =
    let script = script_of_parts c.args.walk.now.script.now in
    let types = table_of c.args.walk.now.script.now.types in
    let k = c.args.walk.now.channel.0 in
    let body = process_of c.args.walk.now.body.now in
    let front = c.args.front.now in
    let vs = lent_values front.values.items in
    let bs = bindings_of front.bindings.items in
    let fs = fields_of c.args.fields.now in
    let set = field_values c.args.set.now in
    let sets = sets_of c.args.sets.now in
    none_so_far (behind_input types bs fs set sets c.args.name.0) script k body vs c.args.found

pub inputs_from-returns-in_err-found : goal.inputs_from-returns-in_err-found
inputs_from-returns-in_err-found g t c =
    let script = script_of_parts c.args.walk.now.script.now in
    let types = table_of c.args.walk.now.script.now.types in
    let k = c.args.walk.now.channel.0 in
    let body = process_of c.args.walk.now.body.now in
    let front = c.args.front.now in
    let vs = lent_values front.values.items in
    let bs = bindings_of front.bindings.items in
    let fs = fields_of c.args.fields.now in
    let set = field_values c.args.set.now in
    let sets = sets_of c.args.sets.now in
    let e = expression_of c.args.from.now in
    let n = c.args.name.0 in
    let f = behind_input types bs fs set sets n in
    let v = value_of c.value.result.now in
    let seen : value types (put_expression bs e) ≡ Ok v = ap (λ ds. value types (put_expression (bindings_of ds) e)) (sym c.deref.ensures.value) ∙ c.in_ok-seen.ensures ∙ ap Ok (sym c.value.ensures) in
    let items = c.members-value-items.result.now in
    let test : pure.Value → Bool = pure.has_value set in
    let whole : communications types bs (InputFrom n e ∷ fs) (set ∷ sets) ≡ each_list f (filter test (values_of items)) =
    chosen_from types bs fs set sets e v seen n (members_listed c.in-Set.chosen) (ap members_of (set_is c.value.result.now c.in-Set.chosen c.in-Set.is)) ∙ ap (λ ws. each_list f (filter test ws)) (sym c.members-value-items.ensures) in
    let i = c.loop-value.value-index in
    let item = c.value-item.result in
    let w = value_of item in
    let mid = c.loop-value.found in
    let why = c.in_err-found.field-0.0 in
    let passes : test w ≡ true = sym c.contains.ensures ∙ c.if-contains.true in
    let F : List pure.Value → Bindings → Type 0 = λ ws ds. Finds script k body ws mid (communications types ds fs sets) (Err why) in
    let found : F (vs ++ w ∷ []) (bind n w bs) =
    subst (F (vs ++ w ∷ [])) c.in_ok-front.ensures.bindings (subst (λ ws. F ws (bindings_of c.in_ok-front.front.bindings.items)) c.in_ok-front.ensures.values c.in_err-found.ensures) in
    let stop = stopped_at f script k body vs c.args.found (filter test (values_of (take i items))) mid c.loop-value.invariant w (filter test (values_of (drop (i + 1) items))) why
    (with_one script k body vs w (communications types (bind n w bs) fs sets) mid (Err why) found) in
    let p = err_from_is_err_and c.from_residual-in_err-found.result c.from_residual-in_err-found.ensures.1 in
    let P : Result (Vec (RuleStep g.row.A.Denot) g.row.A.Denot) NoValue → Type 0 = λ r. Finds script k body vs c.args.found (communications types bs (InputFrom n e ∷ fs) (set ∷ sets)) r in
    let Q : Result (List Communication) Cause → Type 0 = λ r. Finds script k body vs c.args.found r (Err why) in
    subst P (sym (p.1 ∙ ap Err p.2)) (subst Q (ap (each_list f) (sym (chosen_split items i item c.loop-value-test.true c.value-item.is test passes)) ∙ sym whole) stop)

pub inputs_from-loop-value-preserved : goal.inputs_from-loop-value-preserved
inputs_from-loop-value-preserved g t c =
    let script = script_of_parts c.args.walk.now.script.now in
    let types = table_of c.args.walk.now.script.now.types in
    let k = c.args.walk.now.channel.0 in
    let body = process_of c.args.walk.now.body.now in
    let front = c.args.front.now in
    let vs = lent_values front.values.items in
    let bs = bindings_of front.bindings.items in
    let fs = fields_of c.args.fields.now in
    let set = field_values c.args.set.now in
    let sets = sets_of c.args.sets.now in
    let n = c.args.name.0 in
    let f = behind_input types bs fs set sets n in
    let items = c.members-value-items.result.now in
    let test : pure.Value → Bool = pure.has_value set in
    let i = c.loop-value.value-index in
    let item = c.value-item.result in
    let w = value_of item in
    let mid = c.loop-value.found in
    let Q : List pure.Value → Vec (RuleStep g.row.A.Denot) g.row.A.Denot → Type 0 = λ ws after. FoundSoFar f script k body vs c.args.found ws after in
    let xs = filter test (values_of (take i items)) in
    elim c.if-contains.branch [
      | inputs_from-then-contains+in_ok-front+in_ok-found b ↦
          let after = b.in_ok-found.found in
          let passes : test w ≡ true = sym c.contains.ensures ∙ b.if-contains.true in
          let F : List pure.Value → Bindings → Type 0 = λ ws ds. Finds script k body ws mid (communications types ds fs sets) (Ok after) in
          let found : F (vs ++ w ∷ []) (bind n w bs) =
          subst (F (vs ++ w ∷ [])) b.in_ok-front.ensures.bindings (subst (λ ws. F ws (bindings_of b.in_ok-front.front.bindings.items)) b.in_ok-front.ensures.values b.in_ok-found.ensures) in
          let more = one_further f script k body vs c.args.found xs mid c.loop-value.invariant w after (with_one script k body vs w (communications types (bind n w bs) fs sets) mid (Ok after) found) in
          subst (Q (filter test (values_of (take (i + 1) items)))) (sym b.found-is) (subst (λ ws. Q ws after) (sym (chosen_more items i item c.loop-value-test.true c.value-item.is test passes)) more)
      | inputs_from-else-contains b ↦
          let fails : test w ≡ false = sym c.contains.ensures ∙ b.if-contains.false in
          subst (Q (filter test (values_of (take (i + 1) items)))) (sym b.found-is)
          (subst (λ ws. Q ws mid) (sym (chosen_same items i item c.loop-value-test.true c.value-item.is test fails)) c.loop-value.invariant)
    ]

pub inputs_from-returns : goal.inputs_from-returns
inputs_from-returns g t c =
    let script = script_of_parts c.args.walk.now.script.now in
    let types = table_of c.args.walk.now.script.now.types in
    let k = c.args.walk.now.channel.0 in
    let body = process_of c.args.walk.now.body.now in
    let front = c.args.front.now in
    let vs = lent_values front.values.items in
    let bs = bindings_of front.bindings.items in
    let fs = fields_of c.args.fields.now in
    let set = field_values c.args.set.now in
    let sets = sets_of c.args.sets.now in
    let e = expression_of c.args.from.now in
    let n = c.args.name.0 in
    let f = behind_input types bs fs set sets n in
    let v = value_of c.value.result.now in
    let seen : value types (put_expression bs e) ≡ Ok v = ap (λ ds. value types (put_expression (bindings_of ds) e)) (sym c.deref.ensures.value) ∙ c.in_ok-seen.ensures ∙ ap Ok (sym c.value.ensures) in
    let items = c.members-value-items.result.now in
    let test : pure.Value → Bool = pure.has_value set in
    let whole : communications types bs (InputFrom n e ∷ fs) (set ∷ sets) ≡ each_list f (filter test (values_of items)) =
    chosen_from types bs fs set sets e v seen n (members_listed c.in-Set.chosen) (ap members_of (set_is c.value.result.now c.in-Set.chosen c.in-Set.is)) ∙ ap (λ ws. each_list f (filter test ws)) (sym c.members-value-items.ensures) in
    let all = take_all c.loop-value.value-index items (omega arith) in
    let Q : List pure.Value → Type 0 = λ ws. FoundSoFar f script k body vs c.args.found ws c.loop-value.found in
    let found = subst Q (ap (λ ys. filter test (values_of ys)) all) c.loop-value.invariant in
    let P : Result (List Communication) Cause → Type 0 = λ r. Finds script k body vs c.args.found r (Ok c.loop-value.found) in
    subst P (sym whole) found

pub look_for-returns-in-None-None : goal.look_for-returns-in-None-None
look_for-returns-in-None-None g t c =
    let script = script_of_parts c.args.walk.now.script.now in
    let types = table_of c.args.walk.now.script.now.types in
    let k = c.args.walk.now.channel.0 in
    let body = process_of c.args.walk.now.body.now in
    let front = c.args.front.now in
    let vs = lent_values front.values.items in
    let bs = bindings_of front.bindings.items in
    let fields = ap fields_of (nothing_in c.args.fields.now c.in-None-None.ensures.cases) in
    let sets = ap sets_of (nothing_in c.args.sets.now c.in-None-None.ensures'.cases) in
    let P : Result (List Communication) Cause → Type 0 = λ r. Finds script k body vs c.args.found r c.reach.result in
    subst P (sym (ap₂ (communications types bs) fields sets)) c.reach.ensures

pub look_for-returns-in-Given : goal.look_for-returns-in-Given
look_for-returns-in-Given g t c =
    let script = script_of_parts c.args.walk.now.script.now in
    let types = table_of c.args.walk.now.script.now.types in
    let k = c.args.walk.now.channel.0 in
    let body = process_of c.args.walk.now.body.now in
    let front = c.args.front.now in
    let vs = lent_values front.values.items in
    let bs = bindings_of front.bindings.items in
    let fields = ap fields_of c.in-Some-Some.ensures.cases.0 ∙ ap (λ f. field_of f ∷ fields_of c.in-Some-Some.fields.now) c.in-Given.is in
    let sets = ap sets_of c.in-Some-Some.ensures'.cases.0 in
    let P : Result (List Communication) Cause → Type 0 = λ r. Finds script k body vs c.args.found r c.given.result in
    subst P (sym (ap₂ (communications types bs) fields sets)) c.given.ensures

pub look_for-returns-in-Input : goal.look_for-returns-in-Input
look_for-returns-in-Input g t c =
    let script = script_of_parts c.args.walk.now.script.now in
    let types = table_of c.args.walk.now.script.now.types in
    let k = c.args.walk.now.channel.0 in
    let body = process_of c.args.walk.now.body.now in
    let front = c.args.front.now in
    let vs = lent_values front.values.items in
    let bs = bindings_of front.bindings.items in
    let fields = ap fields_of c.in-Some-Some.ensures.cases.0 ∙ ap (λ f. field_of f ∷ fields_of c.in-Some-Some.fields.now) c.in-Input.is in
    let sets = ap sets_of c.in-Some-Some.ensures'.cases.0 in
    let P : Result (List Communication) Cause → Type 0 = λ r. Finds script k body vs c.args.found r c.inputs.result in
    subst P (sym (ap₂ (communications types bs) fields sets)) c.inputs.ensures

pub look_for-returns-in-InputFrom : goal.look_for-returns-in-InputFrom
look_for-returns-in-InputFrom g t c =
    let script = script_of_parts c.args.walk.now.script.now in
    let types = table_of c.args.walk.now.script.now.types in
    let k = c.args.walk.now.channel.0 in
    let body = process_of c.args.walk.now.body.now in
    let front = c.args.front.now in
    let vs = lent_values front.values.items in
    let bs = bindings_of front.bindings.items in
    let fields = ap fields_of c.in-Some-Some.ensures.cases.0 ∙ ap (λ f. field_of f ∷ fields_of c.in-Some-Some.fields.now) c.in-InputFrom.is in
    let sets = ap sets_of c.in-Some-Some.ensures'.cases.0 in
    let P : Result (List Communication) Cause → Type 0 = λ r. Finds script k body vs c.args.found r c.inputs_from.result in
    subst P (sym (ap₂ (communications types bs) fields sets)) c.inputs_from.ensures

pub look_for-returns-in_default : goal.look_for-returns-in_default
look_for-returns-in_default g t c =
    let script = script_of_parts c.args.walk.now.script.now in
    let types = table_of c.args.walk.now.script.now.types in
    let bs = bindings_of c.args.front.now.bindings.items in
    let fs = c.args.fields.now in
    let sets = c.args.sets.now in
    elim c.in_default.branch [
      | look_for-in_default-via-in-None+in_default w ↦
          ended_sets types bs (fields_of fs) (sets_of sets) (ap fields_of (nothing_in fs w.in_default.ensures.cases)) (λ e. omega (arith, e, length-map sets field_values, w.in_default.ensures'.cases.1))
      | look_for-in_default-via-in-Some+in_default w ↦
          ended_fields types bs (fields_of fs) (sets_of sets) (λ e. omega (arith, e, length-map fs field_of, w.in_default.ensures.cases.1)) (ap sets_of (nothing_in sets w.in_default.ensures'.cases))
    ]
