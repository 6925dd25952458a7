use Rattle.std.proofs.Common.{◌≡◌, ℕ, true, false, List, take, is_some, Some, subst, refl, ap, sym, ◌∙◌}
use Rattle.std.specs.BTreeMap.{get_by}
use Rattle.std.specs.Cmp.Lexicographic.{slice_cmp}
use Rattle.std.specs.Ordering.{nat_cmp}
use Rattle.std.specs.Map.{update}
use Rattle.std.specs.Str.{bytes_eq}
use Rattle.std.proofs.lemmas.Map.Text.{btree_map_updates_str}
use Rattle.boogie_types.specs.BrokenNames.{IsSecond}
use Rattle.boogie_types.specs.Ties.Numbers.{named_by, texts, number_of_name}
use Rattle.boogie_types.proofs.NameLaws.{name_repeated, names_differ_more, numbers_more}
use Rattle.boogie_types.proofs.numbered.Numbered.new.Goals as goal

pub returns-then-is_some-clause-fault : goal.returns-then-is_some-clause-fault
returns-then-is_some-clause-fault c =
    let items = c.deref-name-items.result.now in
    let i = c.loop-place.place in
    let x = c.name-item.result in
    let names : List (List ℕ) = texts (named_by (take i items)) in
    let old = c.in_ok-insert.ensures.old ∙ c.loop-place.invariant.numbers c.bytes.result.now in
    let found : is_some (number_of_name names x.now.text) ≡ true =
    sym (ap (λ (q : List ℕ). is_some (number_of_name names q)) c.bytes.ensures) ∙ sym (ap is_some old) ∙ sym c.is_some.ensures ∙ c.if-is_some.true in
    (x.now, subst (λ xs. IsSecond (named_by xs) x.now) c.deref-name-items.ensures.value (name_repeated items i x c.name-item.is c.loop-place-test.true found), refl)

pub loop-place-preserved : goal.loop-place-preserved
loop-place-preserved c =
    let items = c.deref-name-items.result.now in
    let i = c.loop-place.place in
    let x = c.name-item.result in
    let names : List (List ℕ) = texts (named_by (take i items)) in
    let old = c.in_ok-insert.ensures.old ∙ c.loop-place.invariant.numbers c.bytes.result.now in
    let absent : is_some (number_of_name names x.now.text) ≡ false =
    sym (ap (λ (q : List ℕ). is_some (number_of_name names q)) c.bytes.ensures) ∙ sym (ap is_some old) ∙ sym c.is_some.ensures ∙ c.if-is_some.false in
    let u = btree_map_updates_str c.bytes.result.now c.loop-place.places c.insert.new.self _ c.in_ok-insert.ensures.updates in
    let v = subst (λ n. (q : List ℕ) → get_by (λ k. slice_cmp nat_cmp q k.now) c.insert.new.self ≡ update bytes_eq (λ q. get_by (λ k. slice_cmp nat_cmp q k.now) c.loop-place.places) c.bytes.result.now (Some n) q) c.in_ok-number.ensures.value u in
    let w = subst (λ t. (q : List ℕ) → get_by (λ k. slice_cmp nat_cmp q k.now) c.insert.new.self ≡ update bytes_eq (λ q. get_by (λ k. slice_cmp nat_cmp q k.now) c.loop-place.places) t (Some i) q) c.bytes.ensures v in
    record {
      numbers = numbers_more items i x c.name-item.is c.loop-place-test.true (λ q. get_by (λ k. slice_cmp nat_cmp q k.now) c.loop-place.places)
          (λ q. get_by (λ k. slice_cmp nat_cmp q k.now) c.insert.new.self) c.loop-place.invariant.numbers absent w;
      differ = names_differ_more items i x c.name-item.is c.loop-place-test.true c.loop-place.invariant.differ absent;
    }
