use Rattle.std.proofs.Common.{length, ◌≡◌, ℕ, List, Option, Some, subst}
use Rattle.std.specs.Prelude.{slice_get}
use Rattle.proof_form.specs.Lines as form
use Rattle.proof_names.specs.declared.outlines.NamedTriple.{NamedTriple}
use Rattle.proof_names.specs.Items.{first_triple}
use Rattle.proof_names.specs.Outlines.{sketch}
use Rattle.proof_names.proofs.OutlineLaws.{counted}
use Rattle.proof_check.specs.declared.rejects.RejectCause.TheVariants.{BadTriple}
use Rattle.proof_check.specs.Ties.Firsts.{IsFirstOf}
use Rattle.proof_check.specs.Proves.{IsShown}
use Rattle.proof_check.proofs.ListLaws.{member_at}
use Rattle.proof_check.proofs.OutcomeLaws.{none_fails, refused}
use Rattle.proof_check.proofs.ProvedLaws.{triple_names}
use Rattle.proof_check.proofs.checking.check_triples.Goals as goal

pub first_bad_triple-requires : goal.first_bad_triple-requires
first_bad_triple-requires c =
    λ k t e. (triple_names c.args.icfg.now c.args.proof.now (sketch c.args.outline.now) t c.requires
    (member_at c.args.outline.now.triples.items k t (subst (λ (xs : List NamedTriple). slice_get xs k ≡ Some t) c.deref.ensures.value e))).1.agrees

pub returns-in-Some-clause-outcome : goal.returns-in-Some-clause-outcome
returns-in-Some-clause-outcome c =
    refused (λ k t. IsShown c.args.icfg.now t) c.args.outline.now.triples.items (first_triple c.args.proof.now) c.in-Some.k BadTriple
    (Some (length c.preds.result.now)) c.at.result
    (counted form.pred c.preds.result.now c.args.proof.now.preds c.preds.ensures.value) c.at.ensures
    (subst (λ (o : Option ℕ). IsFirstOf (λ k t. IsShown c.args.icfg.now t) c.args.outline.now.triples.items o) c.in-Some.is
    (subst (λ (xs : List NamedTriple). IsFirstOf (λ k t. IsShown c.args.icfg.now t) xs c.in_ok-bad.bad) c.deref.ensures.value c.in_ok-bad.ensures))

pub returns-in-None-clause-outcome : goal.returns-in-None-clause-outcome
returns-in-None-clause-outcome c =
    none_fails (λ k t. IsShown c.args.icfg.now t) c.args.outline.now.triples.items (first_triple c.args.proof.now)
    (subst (λ (o : Option ℕ). IsFirstOf (λ k t. IsShown c.args.icfg.now t) c.args.outline.now.triples.items o) c.in-None.is
    (subst (λ (xs : List NamedTriple). IsFirstOf (λ k t. IsShown c.args.icfg.now t) xs c.in_ok-bad.bad) c.deref.ensures.value c.in_ok-bad.ensures))
