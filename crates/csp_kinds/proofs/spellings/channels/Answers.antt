-- Each name is paired with its field sets, which are there.
use Rattle.std.proofs.Common.{length, ap, ◌∙◌}
use Rattle.std.proofs.lemmas.Iterator.{YieldsList-from_slice, YieldsList-from_zip}
use Rattle.std.proofs.lemmas.Iterator.Adapters.{YieldsList-from_vec}
use Rattle.std.proofs.lemmas.Iterator.Consumers.{YieldsList-end, YieldsList-turn}
use Rattle.csp_kinds.proofs.Pairing.{all_sets, all_spellings, known_here, none_paired, one_more_paired}
use Rattle.csp_kinds.proofs.spellings.channels.Goals as goal

pub loop-name-init : goal.loop-name-init
loop-name-init g c = none_paired c.new-channels.result.items c.new-channels.ensures.items

pub loop-name-preserved : goal.loop-name-preserved
loop-name-preserved g c =
    one_more_paired c.loop-name.yielded c.in-Some.name c.in-Some.fields c.loop-name.channels.items c.push.new.self.items (record { spelling = c.in_ok-spelling.spelling; fields = c.unwrap-fields.result }) c.loop-name.invariant
    c.in_ok-spelling.ensures c.unwrap-fields.ensures c.in_ok-push.ensures.items

pub unwrap-fields-requires : goal.unwrap-fields-requires
unwrap-fields-requires g c =
    let names = c.args.names.now in
    let sets = c.args.field_sets.items in
    let s = c.into_iter-name-iterator.result in
    let e = c.into_iter-name-iterator.ensures.into_iter_gives in
    let second = c.zip-name-items.ensures.second in
    let t = YieldsList-turn (YieldsList-from_zip (YieldsList-from_slice {s = s.a} names (ap (λ z. z.a.rest.now) e ∙ ap (λ i. i.rest.now) c.zip-name-items.ensures.first ∙ c.iter.ensures.rest))
    (YieldsList-from_vec {s = s.b} sets (ap (λ z. z.b.rest.items) e ∙ second.0) (ap (λ z. z.b.rest.len) e ∙ second.1 ∙ c.args.field_sets.ok.0))) c.loop-name.yielded c.loop-name.name-iterator c.loop-name.yielded_by c.next.result c.next.new.self (c.in-Some.name, c.in-Some.fields) c.in-Some.is c.next.ensures.steps in
    known_here names sets (length c.loop-name.yielded) (c.in-Some.name.now, c.in-Some.fields) t.0 t.1 c.requires.as_many c.requires.known

pub returns-clause-spellings : goal.returns-clause-spellings
returns-clause-spellings g c =
    let names = c.args.names.now in
    let sets = c.args.field_sets.items in
    let s = c.into_iter-name-iterator.result in
    let e = c.into_iter-name-iterator.ensures.into_iter_gives in
    let second = c.zip-name-items.ensures.second in
    let t = YieldsList-end (YieldsList-from_zip (YieldsList-from_slice {s = s.a} names (ap (λ z. z.a.rest.now) e ∙ ap (λ i. i.rest.now) c.zip-name-items.ensures.first ∙ c.iter.ensures.rest))
    (YieldsList-from_vec {s = s.b} sets (ap (λ z. z.b.rest.items) e ∙ second.0) (ap (λ z. z.b.rest.len) e ∙ second.1 ∙ c.args.field_sets.ok.0))) c.loop-name.yielded c.loop-name.name-iterator c.loop-name.yielded_by c.next.result c.next.new.self c.in-None.is c.next.ensures.steps in
    all_spellings c.loop-name.yielded names sets c.loop-name.channels.items c.loop-name.invariant t.0 c.requires.as_many

pub returns-clause-sets : goal.returns-clause-sets
returns-clause-sets g c =
    let names = c.args.names.now in
    let sets = c.args.field_sets.items in
    let s = c.into_iter-name-iterator.result in
    let e = c.into_iter-name-iterator.ensures.into_iter_gives in
    let second = c.zip-name-items.ensures.second in
    let t = YieldsList-end (YieldsList-from_zip (YieldsList-from_slice {s = s.a} names (ap (λ z. z.a.rest.now) e ∙ ap (λ i. i.rest.now) c.zip-name-items.ensures.first ∙ c.iter.ensures.rest))
    (YieldsList-from_vec {s = s.b} sets (ap (λ z. z.b.rest.items) e ∙ second.0) (ap (λ z. z.b.rest.len) e ∙ second.1 ∙ c.args.field_sets.ok.0))) c.loop-name.yielded c.loop-name.name-iterator c.loop-name.yielded_by c.next.result c.next.new.self c.in-None.is c.next.ensures.steps in
    all_sets c.loop-name.yielded names sets c.loop-name.channels.items c.loop-name.invariant t.0 c.requires.as_many
