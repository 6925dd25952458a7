use Rattle.std.proofs.Common.{List, sym, ap, subst}
use Rattle.triple_rows.specs.declared.triples.Scoped.{Scoped}
use Rattle.proof_reuse.specs.Ties.Choices.{IsTakenFrom}
use Rattle.proof_reuse.proofs.reusing.settled.Goals as goal

pub returns : goal.returns
returns g c =
    let old = c.in_ok-earlier.earlier in (
      old.insides.keys,
      old.calls.keys,
      old.backs.keys,
      subst (λ (ps : List Scoped). IsTakenFrom c.args.icfg.now c.args.old.now (record { preds = ps; insides = old.insides.keys; calls = old.calls.keys; backs = old.backs.keys }))
          (sym (ap (λ v. v.items) c.replace-preds.ensures.value)) c.in_ok-earlier.ensures,
      c.in_ok-proofs.ensures c.args.old.now c.in_ok-earlier.ensures,
    )
