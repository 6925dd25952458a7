use Rattle.std.proofs.Common.{◌≡◌, ◌<◌, length, ap, arith, Some, List, ℕ, sym, ◌∙◌}
use Rattle.std.specs.Prelude.{slice_get, Result, Ok, Err, IfOk}
use Rattle.proof_names.proofs.ProofSpell.NameLaws.{name_exists}
use Rattle.proof_names.proofs.ProofSpell.CorrespondLaws.{got}
use Rattle.proof_names.proofs.proof_spell.predicates.name_of.Goals as goal

copied : {E : Type 0} (r : Result (List ℕ) E) (names : List (List ℕ)) (p : ℕ) (x : List ℕ) → IfOk r (λ n. n ≡ x) → slice_get names p ≡ Some x → IfOk r (λ n. slice_get names p ≡ Some n)
copied (Ok n) names p x e h = h ∙ ap Some (sym e)
copied (Err e) names p x k h = k

pub bounds-names-proc : goal.bounds-names-proc
bounds-names-proc c =
    let l : c.args.proc < length c.args.icfg.now.names = name_exists c.args.icfg.now c.args.proc c.names.ensures.valid c.requires in
    let e : length c.names.result.now ≡ length c.args.icfg.now.names = ap length c.names.ensures.value in
    omega arith

pub returns : goal.returns
returns c =
    let l : c.args.proc < length c.args.icfg.now.names = name_exists c.args.icfg.now c.args.proc c.names.ensures.valid c.requires in
    let e : length c.names.result.now ≡ length c.args.icfg.now.names = ap length c.names.ensures.value in
    let g : slice_get c.names.result.now c.args.proc ≡ Some c.index-names-proc.result =
    got c.names.result.now c.args.proc c.index-names-proc.result c.index-names-proc.result (omega arith) c.index-names-proc.is in
    let h : slice_get c.args.icfg.now.names c.args.proc ≡ Some c.index-names-proc.result = ap (λ (ns : List (List ℕ)). slice_get ns c.args.proc) (sym c.names.ensures.value) ∙ g in
    copied c.copy.result c.args.icfg.now.names c.args.proc c.index-names-proc.result c.copy.ensures h
