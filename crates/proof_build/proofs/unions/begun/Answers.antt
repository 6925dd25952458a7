use Rattle.std.proofs.Common.{◌≡◌, Result, Ok, IfOk, subst}
use Rattle.proof_build.proofs.UnionLaws.{union_none}
use Rattle.proof_build.proofs.unions.begun.Goals as goal

made_ok : {A E : Type 0} (r : Result A E) (x : A) (P : A → Type 0) → r ≡ Ok x → IfOk r P → P x
made_ok {A} {E} r x P e h = subst (λ (z : Result A E). IfOk z P) e h

pub returns-clause-union : goal.returns-clause-union
returns-clause-union c =
    union_none c.args.preds.now c.in_ok-union.union c.set_final.new.self _ c.set_final.result tt
    (made_ok c.empty.result c.in_ok-union.union _ c.in_ok-union.ensures c.empty.ensures.value) c.in-Ok-added.ensures c.set_final.ensures.ok
