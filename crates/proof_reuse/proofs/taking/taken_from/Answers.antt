use Rattle.std.proofs.Common.{List, ap, sym, subst}
use Rattle.triple_rows.specs.declared.triples.Scoped.{Scoped}
use Rattle.proof_form.specs.Lines as form
use Rattle.proof_reuse.specs.Ties.Numbers.{AreFound, inside_pair, call_pair, back_three}
use Rattle.proof_reuse.proofs.SetLaws.{collected_same}
use Rattle.proof_reuse.proofs.taking.taken_from.Goals as goal

pub returns : goal.returns
returns c =
    let numbers = c.in_ok-preds.field-0.numbers.items in
    let new = c.take_triples.new.earlier in
    record {
      numbers = numbers;
      found = subst (λ (preds : List Scoped). AreFound c.args.icfg.now c.args.old.now.preds preds numbers) (sym (ap (λ v. v.items) c.in-Ok.ensures.preds))
          (subst (λ (lines : List form.Pred). AreFound c.args.icfg.now lines c.in_ok-preds.field-0.preds.items numbers) c.preds.ensures.value c.in_ok-preds.ensures);
      insides = collected_same inside_pair new.insides.keys c.deref.result.now numbers _ c.args.old.now.triples c.deref.ensures.value c.triples.ensures.value c.in-Ok.ensures.insides;
      calls = collected_same call_pair new.calls.keys c.deref.result.now numbers _ c.args.old.now.triples c.deref.ensures.value c.triples.ensures.value c.in-Ok.ensures.calls;
      backs = collected_same back_three new.backs.keys c.deref.result.now numbers _ c.args.old.now.triples c.deref.ensures.value c.triples.ensures.value c.in-Ok.ensures.backs;
    }
