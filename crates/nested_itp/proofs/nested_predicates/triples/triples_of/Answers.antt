use Rattle.std.proofs.Common.{◌≡◌, ◌∙◌, ◌<◌, List, [], ◌∷◌, ℕ, suc, true, length, get_or, reverse, refl, sym, ap, subst, arith}
use Rattle.std.specs.List.{AllByRecursion}
use Rattle.nwa_base.specs.declared.letters.Letter.{Letter}
use Rattle.nwa_base.specs.declared.letters.Kind.TheVariants.{Inside}
use Rattle.nwa_base.specs.Words.{are_matched}
use Rattle.triple_rows.specs.declared.triples.Triple.{Triple}
use Rattle.nested_itp.specs.NestedPredicates.Interpolants.{letter_triple}
use Rattle.nested_itp.specs.NestedPredicates.Ties.Saved.{scoped_in, saved_at, FindsCall}
use Rattle.nested_itp.proofs.NestedPredicates.TripleLaws.{no_triples, finds_call, triples_next, triples_done}
use Rattle.nested_itp.proofs.nested_predicates.triples.triples_of.Goals as goal

pub loop-at-init : goal.loop-at-init
loop-at-init c =
    no_triples c.letters-letters.result.now c.args.preds.now c.new-calls.result.items c.in_ok-triples.triples.items
    (subst (λ (w : List Letter). are_matched 0 w ≡ true) (sym c.letters-letters.ensures.value) c.letters-letters.ensures.matched) c.new-calls.ensures.items c.in_ok-triples.ensures.items

pub triple_at-requires-clause-next : goal.triple_at-requires-clause-next
triple_at-requires-clause-next c =
    let n : length c.letters-letters.result.now ≡ length c.args.word.now = ap (λ (w : List Letter). length w) c.letters-letters.ensures.value in
    let l = c.loop-at-test.true in
    let r = c.requires in
    omega (arith, n, l, r)

pub triple_at-requires-clause-calls : goal.triple_at-requires-clause-calls
triple_at-requires-clause-calls c =
    subst (λ (l : List ℕ). AllByRecursion (λ k. k < length c.args.preds.now) l) (sym c.deref.ensures.value) c.loop-at.invariant.within

pub triple_at-requires-clause-finds : goal.triple_at-requires-clause-finds
triple_at-requires-clause-finds c =
    let d : Letter = record { id = 0; kind = Inside; call = 0 } in
    let a : Letter = get_or c.letters-letters.result.now c.loop-at.at d in
    subst (λ (l : List ℕ). FindsCall a.kind (reverse l)) (sym c.deref.ensures.value)
    (finds_call c.letters-letters.result.now c.args.preds.now c.loop-at.at a d c.loop-at.calls.items c.loop-at.triples.items c.loop-at-test.true refl c.loop-at.invariant)

pub loop-at-preserved : goal.loop-at-preserved
loop-at-preserved c =
    let d : Letter = record { id = 0; kind = Inside; call = 0 } in
    let a : Letter = get_or c.letters-letters.result.now c.loop-at.at d in
    let n : length c.args.preds.now ≡ suc (length c.letters-letters.result.now) = c.requires ∙ ap (λ (w : List Letter). suc (length w)) (sym c.letters-letters.ensures.value) in
    let t : Triple = c.in_ok-triple_at.field-0 in
    triples_next c.letters-letters.result.now c.args.preds.now c.loop-at.at a d c.loop-at.calls.items c.step.new.calls.items c.loop-at.triples.items c.push.new.self.items
    c.in_ok-triple_at.field-0 c.loop-at-test.true n refl c.loop-at.invariant
    (subst (λ (l : List ℕ). t ∷ [] ≡ letter_triple a.kind a.id (scoped_in c.args.preds.now c.loop-at.at) (saved_at c.args.preds.now (reverse l)) (scoped_in c.args.preds.now (suc c.loop-at.at)))
    c.deref.ensures.value c.in_ok-triple_at.ensures) c.in_ok-step.ensures c.in_ok-push.ensures.items

pub returns : goal.returns
returns c =
    triples_done c.letters-letters.result.now c.args.word.now c.args.preds.now c.loop-at.at c.loop-at.calls.items c.loop-at.triples.items c.letters-letters.ensures.value c.loop-at-test.false
    c.loop-at.invariant
