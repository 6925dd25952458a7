use Rattle.std.proofs.Common.{ap, sym, subst}
use Rattle.letter_acts.specs.Invariant.{alphabet_of}
use Rattle.int_decide.specs.Worth.{IsTreeOf}
use Rattle.triple_rows.specs.Proofs.{PlainProof}
use Rattle.triple_rows.specs.Triples.{IsRefuted}
use Rattle.hoare_check.specs.Decided.{IsProofFor}
use Rattle.hoare_check.proofs.ProvingLaws.{uncut_proves}
use Rattle.hoare_check.proofs.proving.prove_at.Goals as goal

pub new-requires : goal.new-requires
new-requires c =
    let al = alphabet_of c.args.icfg.now in
    let found : IsRefuted al c.args.triple c.in-Some.refutation × IsTreeOf 0 c.in-Some.refutation = rw c.in-Some.is at c.in_ok-refutation.ensures in
    (al, found.0)

pub returns-in-Some : goal.returns-in-Some
returns-in-Some c =
    let al = alphabet_of c.args.icfg.now in
    let found : IsRefuted al c.args.triple c.in-Some.refutation × IsTreeOf 0 c.in-Some.refutation = rw c.in-Some.is at c.in_ok-refutation.ensures in (
      ap (λ (p : PlainProof). p.triple) c.new.ensures,
      subst (IsProofFor al) (sym c.new.ensures) (uncut_proves al c.args.triple c.in-Some.refutation c.requires found.0 found.1),
    )
