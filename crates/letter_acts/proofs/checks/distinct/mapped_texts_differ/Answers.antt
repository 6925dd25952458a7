use Rattle.std.proofs.Common.{◌↔◌, ◌+◌, ◌++◌, ◌∙◌, Bool, IfOk, IsTrue, List, ℕ, drop, ap, sym, subst}
use Rattle.std.proofs.lemmas.List.{drop_all}
use Rattle.letter_acts.specs.Invariant.{AreDistinct}
use Rattle.letter_acts.proofs.LoopLemmas.{drop_at}
use Rattle.letter_acts.proofs.DistinctLemmas.{bytes_of, gathered_more, gathered_all}
use Rattle.letter_acts.proofs.checks.distinct.mapped_texts_differ.Goals as goal

pub loop-text-preserved : goal.loop-text-preserved
loop-text-preserved c =
    let texts = c.args.texts.now in
    let i = c.loop-text.text-index in
    let got = c.loop-text.slices.items in
    gathered_more got c.push.new.self.items c.bytes.result c.text-item.result (drop (i + 1) texts) texts c.in_ok-push.ensures.items c.bytes.ensures
    (ap (λ (ns : List (List ℕ)). bytes_of got ++ ns) (sym (drop_at texts i c.text-item.result c.text-item.result c.text-item.is c.loop-text-test.true)) ∙ c.loop-text.invariant)

pub returns : goal.returns
returns c =
    let texts = c.args.texts.now in
    subst (λ (ns : List (List ℕ)). IfOk c.slices_differ.result (λ (differ : Bool). IsTrue differ ↔ AreDistinct ns))
    (ap bytes_of c.deref.ensures.value
    ∙ gathered_all c.loop-text.slices.items (drop c.loop-text.text-index texts) texts (drop_all c.loop-text.text-index texts c.loop-text-test.false) c.loop-text.invariant)
    c.slices_differ.ensures
